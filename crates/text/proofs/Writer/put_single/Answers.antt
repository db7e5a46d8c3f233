use Rattle.text.specs.laws.Writing.{appended_then}
use Rattle.text.proofs.Writer.put_single.Goals as goal

pub returns-in-Num : goal.returns-in-Num
returns-in-Num c = rw c.in-Num.is (appended_then c.put_all.ensures (rw (← c.bits_of.ensures.0) c.put_hex.ensures))

pub returns-in-Str : goal.returns-in-Str
returns-in-Str c = rw c.in-Str.is (appended_then c.put_all-in-Str.ensures c.put_decimal.ensures)
