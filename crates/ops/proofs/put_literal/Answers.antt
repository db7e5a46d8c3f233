use Rattle.text.specs.laws.Joined.{appended_three}
use Rattle.ops.proofs.put_literal.Goals as goal

pub returns-in-5 : goal.returns-in-5
returns-in-5 c = rw c.in-5.is (appended_three c.put_all.ensures c.put_items.ensures c.put_all-in-5.ensures)
