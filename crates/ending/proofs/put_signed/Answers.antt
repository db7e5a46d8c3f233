use Rattle.std.proofs.Common.{◌-◌, ◌^◌, add-one, le-ltb}
use Rattle.text.specs.laws.Writing.{appended_then}
use Rattle.ending.proofs.put_signed.Goals as goal

pub returns-else-word : goal.returns-else-word
returns-else-word c = rw (le-ltb _ (2 ^ 63) c.if-word.false, ← add-one (2 ^ 64 - 1 - c.args.word)) (appended_then c.put_all.ensures c.put_decimal.ensures)
