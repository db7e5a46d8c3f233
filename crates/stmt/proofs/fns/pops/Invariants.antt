use mathlib.Core.Path.{◌≡◌}
use lib.ListN.{length}
use Rattle.emit.specs.inner.Run.{Ready}
use Rattle.stmt.specs.laws.Fns.{Popped}
use Rattle.stmt.proofs.fns.pops.Given as goal

abbrev pub invariant-loop-i : goal.invariant-loop-i
invariant-loop-i l = (length l.out ≡ length l.initial.out) × Ready l.q l.out × Popped l.keep l.names l.reg l.lbl l.initial.q l.initial.out l.i l.q l.out
