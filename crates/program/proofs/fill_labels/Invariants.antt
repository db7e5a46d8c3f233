use Rattle.std.proofs.Common.{◌≡◌, ◌-◌, length}
use Rattle.program.specs.inner.Marked.{enters, lbl_of}
use Rattle.program.proofs.Marks.{Filling}
use Rattle.program.proofs.fill_labels.Given as goal

abbrev pub invariant-loop-i : goal.invariant-loop-i
invariant-loop-i l = (l.was ≡ lbl_of l.program (l.i - 1)) × Filling (enters l.program) (lbl_of l.program) (length l.initial.t) l.n l.initial.t l.i l.t
