use Rattle.text.specs.laws.Writing.{appended_then}
use Rattle.text.proofs.Writer.put_line.Goals as goal

pub returns : goal.returns
returns c = appended_then c.put_words.ensures c.put_all.ensures
