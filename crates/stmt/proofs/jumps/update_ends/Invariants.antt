use mathlib.Core.Path.{◌≡◌}
use mathlib.Core.List.{List}
use Prim.Native.Nat.{ℕ}
use lib.ListN.{length}
use Rattle.stmt.specs.inner.Parts.{last_waiting, Waits}
use Rattle.stmt.specs.laws.Ends.{EndsLeft}
use Rattle.stmt.proofs.jumps.update_ends.Given as goal

abbrev pub invariant-loop-i : goal.invariant-loop-i
invariant-loop-i l = (length l.out ≡ length l.initial.out) × ((xs : List ℕ) → l.last ≡ last_waiting xs → Waits xs l.initial.out → EndsLeft xs l.lblidx l.initial.out l.i l.out)

abbrev pub decreases-loop-i : goal.decreases-loop-i
decreases-loop-i l = l.i
