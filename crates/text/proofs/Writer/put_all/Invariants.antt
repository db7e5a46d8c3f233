use Rattle.std.proofs.Common.{take}
use Rattle.text.specs.inner.Appended.{Appended}
use Rattle.text.proofs.Writer.put_all.Given as goal

abbrev pub invariant-loop-x : goal.invariant-loop-x
invariant-loop-x l = Appended l.initial.self (take l.x-index l.s) l.self
