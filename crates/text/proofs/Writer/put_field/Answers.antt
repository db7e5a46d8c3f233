use Rattle.text.specs.laws.Writing.{appended_then}
use Rattle.text.proofs.Writer.put_field.Goals as goal

pub returns : goal.returns
returns c = appended_then c.put.ensures c.put_decimal.ensures
