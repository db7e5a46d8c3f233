use Rattle.sifv.specs.laws.Items.{get_item_law}
use Rattle.sifv.proofs.get_item.Goals as goal

pub returns : goal.returns
returns c =
    get_item_law c.args.s.now c.args.at c.args.i c.requires.1 c.wide-kind.ensures.0 c.get_u64.ensures c.single.ensures
