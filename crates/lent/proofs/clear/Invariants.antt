use mathlib.Core.Path.{◌≡◌}
use Prim.Native.Nat.{◌≤◌}
use lib.ListN.{take, replicate}
use Rattle.lent.specs.Bytes.{splice}
use Rattle.lent.proofs.clear.Given as goal

abbrev pub invariant-loop-i : goal.invariant-loop-i
invariant-loop-i l = (l.i ≤ l.n) × (take l.i l.d ≡ replicate l.i 0) × (splice l.d 0 (replicate l.n 0) ≡ splice l.initial.d 0 (replicate l.n 0))
