use mathlib.Core.Path.{◌≡◌}
use Prim.Native.Nat.{◌+◌, ◌-◌, ◌*◌}
use lib.ListN.{length}
use Rattle.emit.specs.laws.Loops.{LoopLeft}
use Rattle.expr.specs.inner.Parts as part
use Rattle.expr.proofs.+arrayaccess_arraymutexpr_assign_assign_at_binarg_binarg_at_binop_expr_expr_assign_expr_at_fncallexpr_match_table_assign_params_table_items_unop_varassign.Given as goal

abbrev pub decreases-arrayaccess : goal.decreases-arrayaccess
decreases-arrayaccess l = length l.contents.now * 8 + 0

abbrev pub decreases-arraymutexpr : goal.decreases-arraymutexpr
decreases-arraymutexpr l = length l.contents.now * 8 + 0

abbrev pub decreases-assign : goal.decreases-assign
decreases-assign l = length l.contents.now * 8 + 3

abbrev pub decreases-assign_at : goal.decreases-assign_at
decreases-assign_at l = (length l.contents.now - l.p.cont) * 8 + 4

abbrev pub decreases-binarg : goal.decreases-binarg
decreases-binarg l = length l.contents.now * 8 + 2

abbrev pub decreases-binarg_at : goal.decreases-binarg_at
decreases-binarg_at l = (length l.contents.now - l.p.cont) * 8 + 4

abbrev pub decreases-binop : goal.decreases-binop
decreases-binop l = length l.contents.now * 8 + 0

abbrev pub decreases-expr : goal.decreases-expr
decreases-expr l = length l.contents.now * 8 + 1

abbrev pub decreases-expr_assign : goal.decreases-expr_assign
decreases-expr_assign l = length l.contents.now * 8 + 2

abbrev pub decreases-expr_at : goal.decreases-expr_at
decreases-expr_at l = (length l.contents.now - l.p.cont) * 8 + 4

abbrev pub decreases-fncallexpr : goal.decreases-fncallexpr
decreases-fncallexpr l = length l.contents.now * 8 + 0

abbrev pub decreases-match_table_assign : goal.decreases-match_table_assign
decreases-match_table_assign l = length l.contents.now * 8 + 0

abbrev pub decreases-params : goal.decreases-params
decreases-params l = (length l.contents.now - l.p.cont) * 8 + 5

abbrev pub invariant-params-loop : goal.invariant-params-loop
invariant-params-loop l = (length l.out ≡ length l.initial.out) × LoopLeft (part.param_parts l.n) (part.param_parts (l.n - l.counter)) l.contents l.bodies l.keep l.initial.q l.initial.out l.q l.out

abbrev pub decreases-table_items : goal.decreases-table_items
decreases-table_items l = (length l.contents.now - l.p.cont) * 8 + 5

abbrev pub invariant-table_items-loop : goal.invariant-table_items-loop
invariant-table_items-loop l = (length l.out ≡ length l.initial.out) × LoopLeft (part.item_parts l.n l.x) (part.item_parts (l.n - l.counter) l.x) l.contents l.bodies l.keep l.initial.q l.initial.out l.q l.out

abbrev pub decreases-unop : goal.decreases-unop
decreases-unop l = length l.contents.now * 8 + 0

abbrev pub decreases-varassign : goal.decreases-varassign
decreases-varassign l = length l.contents.now * 8 + 0
