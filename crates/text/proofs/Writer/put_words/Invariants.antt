use Rattle.std.proofs.Common.{take}
use Rattle.text.specs.Text.{number_fields}
use Rattle.text.specs.inner.Appended.{Appended}
use Rattle.text.proofs.Writer.put_words.Given as goal

abbrev pub invariant-loop-n : goal.invariant-loop-n
invariant-loop-n l = Appended l.initial.self (number_fields (take l.n-index l.numbers)) l.self
