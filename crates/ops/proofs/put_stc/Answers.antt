use Rattle.text.specs.laws.Joined.{appended_three}
use Rattle.ops.proofs.put_stc.Goals as goal

pub returns : goal.returns
returns c = appended_three c.put_all.ensures c.put_literal.ensures c.put_field.ensures
