use Rattle.text.specs.Text.{hex}
use Rattle.text.specs.declared.Writer.{Writer}
use Rattle.text.specs.inner.Appended.{Appended}
use Rattle.text.proofs.Writer.put_hex.Given as goal

-- who writes the digits that are left has written all
abbrev pub invariant-loop-k : goal.invariant-loop-k
invariant-loop-k l = (w : Writer) → Appended l.self (hex l.k l.n) w → Appended l.initial.self (hex 16 l.n) w
