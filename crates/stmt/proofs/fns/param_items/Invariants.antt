use Prim.Native.Nat.{◌+◌, ◌*◌}
use mathlib.Core.Path.{◌≡◌}
use lib.ListN.{length, drop}
use Rattle.lent.specs.Bytes.{splice}
use Rattle.stmt.specs.inner.Parts.{param_items}
use Rattle.stmt.proofs.fns.param_items.Given as goal

abbrev pub invariant-loop-i : goal.invariant-loop-i
invariant-loop-i l = (length l.out ≡ length l.initial.out) × (splice l.out (16384 + 16 * (l.k + l.i)) (param_items (drop l.i l.names)) ≡ splice l.initial.out (16384 + 16 * l.k) (param_items l.names))
