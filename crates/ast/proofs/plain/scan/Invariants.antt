use mathlib.Core.Path.{◌≡◌}
use mathlib.Core.Bool.{◌&&◌}
use Prim.Native.Nat.{◌*◌, ◌≤◌}
use lib.ListN.{drop}
use Rattle.ast.specs.inner.Under as Rule
use Rattle.ast.proofs.plain.scan.Given as goal

abbrev pub invariant-loop-i : goal.invariant-loop-i
invariant-loop-i l = (l.left ≤ 514 * l.i) × (Rule.scan 0 0 l.entries ≡ (l.ok && Rule.scan l.above l.left (drop (2 * l.i) l.entries)))
