use Rattle.values.specs.laws.SlotTextLaws.{entry_put}
use Rattle.values.proofs.put_entry.Goals as goal

pub returns : goal.returns
returns c =
    entry_put c.args.state.now c.args.from c.args.i c.requires.1 c.put_decimal.ensures c.put_all.ensures c.get_item.ensures c.put_single.ensures
