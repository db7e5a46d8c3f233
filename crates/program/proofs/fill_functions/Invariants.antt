use Rattle.program.specs.inner.Marked.{is_fn, name_of}
use Rattle.program.proofs.Marks.{Filling}
use Rattle.program.proofs.fill_functions.Given as goal

abbrev pub invariant-loop-i : goal.invariant-loop-i
invariant-loop-i l = Filling (is_fn l.program) (name_of l.program) 64 l.n l.initial.t l.i l.t
