use Rattle.emit.specs.laws.Items.{push_none}
use Rattle.emit.proofs.push_op.Goals as goal

pub returns : goal.returns
returns c = push_none c.push_items.ensures
