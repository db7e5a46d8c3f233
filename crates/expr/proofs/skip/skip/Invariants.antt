use Prim.Native.Nat.{◌-◌, ◌≤◌}
use lib.ListN.{length}
use Rattle.ast.specs.Tree.{Expr}
use Rattle.ast.specs.Flat.{flat_expr}
use Rattle.emit.specs.inner.Made.{Spells}
use Rattle.expr.specs.laws.AwaitsLaws.{AwaitsLeft}
use Rattle.expr.proofs.skip.skip.Given as goal

abbrev pub invariant-loop-more : goal.invariant-loop-more
invariant-loop-more l =
    (l.u ≤ length l.entries) × (l.v ≤ length l.bodies) × ((e : Expr) → Spells (flat_expr e) l.entries l.bodies → AwaitsLeft (flat_expr e) l.entries l.bodies l.u l.v l.more)

abbrev pub decreases-loop-more : goal.decreases-loop-more
decreases-loop-more l = length l.entries - l.u
