use Rattle.std.proofs.Common.{◌≡◌, true, get_or, sym, ◌∙◌, arith, refl}
use Rattle.std.proofs.Math.Nat.{sub-zero}
use Rattle.std.proofs.lemmas.Bool.{not-true, not-false}
use Rattle.ast.specs.inner.Pass.{stands, refuses, leaves}
use Rattle.ast.proofs.Agree.{refused, goes_on, fit_rest}
use Rattle.ast.proofs.Rooms.{first, to_end}
use Rattle.ast.proofs.Steps.{stopped, run_stops, run_goes, run_ends, item_stops, same_key, other_key, items_end, no_node, not_there, unfit_node, table_node, other_node}
use Rattle.ast.proofs.structure.+subtree.Goals as goal

pub run-loop-init : goal.run-loop-init
run-loop-init t c = rw sub-zero (c.requires, refl)

pub run-node-requires : goal.run-node-requires
run-node-requires t c = (omega arith, c.loop.invariant.0)

pub run-returns-in_err-node : goal.run-returns-in_err-node
run-returns-in_err-node t c = run_stops _ _ _ c.loop.counter c.loop.invariant.1 c.loop-test.true c.node.ensures c.in_err-node.was c.from_residual.ensures

pub run-loop-preserved : goal.run-loop-preserved
run-loop-preserved t c = run_goes _ _ _ c.loop.counter c.loop.invariant.1 c.loop-test.true c.node.ensures c.in_ok-node.was

pub run-returns : goal.run-returns
run-returns t c = rw (run_ends _ _ _ c.loop.counter c.loop.invariant.1 c.loop-test.false) (leaves c.loop.invariant.0)

pub items-loop-init : goal.items-loop-init
items-loop-init t c = rw sub-zero (c.requires, refl)

pub items-first_key-k-requires : goal.items-first_key-k-requires
items-first_key-k-requires t c = c.loop.invariant.0

pub items-node-requires : goal.items-node-requires
items-node-requires t c = (omega arith, c.loop.invariant.0)

pub items-returns-in_err-node : goal.items-returns-in_err-node
items-returns-in_err-node t c = item_stops _ _ _ c.loop.counter c.loop.invariant.1 c.loop-test.true c.first_key-k.ensures.1 c.node.ensures c.in_err-node.was c.from_residual.ensures

pub items-returns-then-has_key : goal.items-returns-then-has_key
items-returns-then-has_key t c =
    same_key _ _ _ c.loop.counter c.loop.invariant.1 c.loop-test.true c.first_key-k.ensures.1 c.node.ensures c.in_ok-node.was (sym c.has_key.ensures ∙ c.if-has_key.true)

pub items-loop-preserved : goal.items-loop-preserved
items-loop-preserved t c =
    rw c.with_key-keys.ensures (other_key _ _ _ c.loop.counter c.loop.invariant.1 c.loop-test.true c.first_key-k.ensures.1 c.node.ensures c.in_ok-node.was (sym c.has_key.ensures ∙ c.if-has_key.false))

pub items-returns : goal.items-returns
items-returns t c = rw (items_end _ _ _ c.loop.counter c.loop.invariant.1 c.loop-test.false) (leaves c.loop.invariant.0)

pub kids-returns-in_err-run : goal.kids-returns-in_err-run
kids-returns-in_err-run t c = rw (refused c.run.ensures c.in_err-run.was, c.from_residual.ensures) refuses

pub kids-returns-in_err-run-2 : goal.kids-returns-in_err-run-2
kids-returns-in_err-run-2 t c = rw ((goes_on c.run.ensures c.in_ok-run.was).1, refused c.run-2.ensures c.in_err-run-2.was, c.from_residual-in_err-run-2.ensures) refuses

pub kids-returns-in_err-run-3 : goal.kids-returns-in_err-run-3
kids-returns-in_err-run-3 t c =
    rw ((goes_on c.run.ensures c.in_ok-run.was).1, (goes_on c.run-2.ensures c.in_ok-run-2.was).1, refused c.run-3.ensures c.in_err-run-3.was, c.from_residual-in_err-run-3.ensures) refuses

pub kids-returns : goal.kids-returns
kids-returns t c = rw ((goes_on c.run.ensures c.in_ok-run.was).1, (goes_on c.run-2.ensures c.in_ok-run-2.was).1, (goes_on c.run-3.ensures c.in_ok-run-3.was).1) c.run-4.ensures

pub node-returns-then-depth-eq0 : goal.node-returns-then-depth-eq0
node-returns-then-depth-eq0 t c = let e = c.if-depth-eq0.true in rw e refuses

pub node-returns-in_default : goal.node-returns-in_default
node-returns-in_default t c = let a = c.args in stopped (no_node a.depth a.place a.loops a.inside c.requires c.in_default.len_below) refl

pub node-may_stand-requires : goal.node-may_stand-requires
node-may_stand-requires t c =
    let g = first c.requires.room (omega arith) in omega (arith, g.known, c.wide.ensures.0)

pub node-returns-then-not-may_stand : goal.node-returns-then-not-may_stand
node-returns-then-not-may_stand t c =
    let a = c.args in
    let g = first c.requires.room (omega arith) in
    stopped (not_there a.depth a.place a.loops a.inside c.if-depth-eq0.false g (rw (← c.wide.ensures.0) (sym c.may_stand.ensures ∙ c.if-not-may_stand.true))) refl

pub node-plan_of-plan-requires : goal.node-plan_of-plan-requires
node-plan_of-plan-requires t c =
    let g = first c.requires.room (omega arith) in (g.least, g.known, c.first_byte.ensures.1)

pub node-returns-then-not-plan : goal.node-returns-then-not-plan
node-returns-then-not-plan t c =
    let a = c.args in
    let g = first c.requires.room (omega arith) in
    let there : stands a.place (get_or a.rest.now.entries.now 0 0) ≡ true = rw (← c.wide.ensures.0) (sym c.may_stand.ensures ∙ c.if-not-may_stand.false) in
    let ep = rw (c.wide-count.ensures.0, c.first_byte.ensures.0) at c.plan_of-plan.ensures in
    stopped (unfit_node a.depth a.place a.loops a.inside c.if-depth-eq0.false g there ep (not-true c.plan_of-plan.result.fits c.if-not-plan.true)) refl

pub node-slice_bounds-bodies-count : goal.node-slice_bounds-bodies-count
node-slice_bounds-bodies-count t c =
    let g = first c.requires.room (omega arith) in rw c.size.ensures.0 g.fits

pub node-slice_bounds-bodies-start : goal.node-slice_bounds-bodies-start
node-slice_bounds-bodies-start t c =
    let g = first c.requires.room (omega arith) in rw c.size.ensures.0 g.fits

pub node-items-requires : goal.node-items-requires
node-items-requires t c =
    let fit = c.requires in
    (omega arith, rw (c.size.ensures.0, to_end, to_end) (fit_rest fit (first fit.room (omega arith))))

pub node-returns-then-kind-eq-KIND_TABLE : goal.node-returns-then-kind-eq-KIND_TABLE
node-returns-then-kind-eq-KIND_TABLE t c =
    let a = c.args in
    let g = first c.requires.room (omega arith) in
    let there : stands a.place (get_or a.rest.now.entries.now 0 0) ≡ true = rw (← c.wide.ensures.0) (sym c.may_stand.ensures ∙ c.if-not-may_stand.false) in
    let ep = rw (c.wide-count.ensures.0, c.first_byte.ensures.0) at c.plan_of-plan.ensures in
    let h = simp to_end at c.items.ensures in
    rw (table_node a.depth a.place a.loops a.inside c.if-depth-eq0.false g there ep (not-false c.plan_of-plan.result.fits c.if-not-plan.false) c.if-kind-eq-KIND_TABLE.true c.wide-count.ensures.0, ← c.size.ensures.0) h

pub node-kids-requires : goal.node-kids-requires
node-kids-requires t c =
    let fit = c.requires in
    (omega arith, rw (c.size.ensures.0, to_end, to_end) (fit_rest fit (first fit.room (omega arith))))

pub node-returns : goal.node-returns
node-returns t c =
    let a = c.args in
    let g = first c.requires.room (omega arith) in
    let there : stands a.place (get_or a.rest.now.entries.now 0 0) ≡ true = rw (← c.wide.ensures.0) (sym c.may_stand.ensures ∙ c.if-not-may_stand.false) in
    let ep = rw (c.wide-count.ensures.0, c.first_byte.ensures.0) at c.plan_of-plan.ensures in
    let h = simp to_end at c.kids.ensures in
    rw (other_node a.depth a.place a.loops a.inside c.if-depth-eq0.false g there ep (not-false c.plan_of-plan.result.fits c.if-not-plan.false) c.if-kind-eq-KIND_TABLE.false, ← c.size.ensures.0) h
