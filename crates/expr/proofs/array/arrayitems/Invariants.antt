use mathlib.Core.Path.{◌≡◌}
use mathlib.Core.List.{List}
use Prim.Native.Nat.{◌+◌, ◌*◌, ◌≤◌}
use lib.ListN.{length}
use Rattle.ast.specs.Tree.{Lit}
use Rattle.expr.specs.inner.Arrays.{Lits}
use Rattle.expr.specs.laws.ArrayLaws.{More}
use Rattle.expr.proofs.array.arrayitems.Given as goal

abbrev pub invariant-loop-i : goal.invariant-loop-i
invariant-loop-i l =
    (length l.out ≡ length l.initial.out) × (2 + 2 * l.i ≤ length l.contents) × ((ls : List Lit) → Lits l.n ls l.contents l.bodies → More ls l.n l.contents l.bodies l.keep l.k l.initial.out l.at l.i l.out)
