-- `sifv::store_item` meets its contract.
use mathlib.Core.Path.{refl}
use Rattle.sifv.specs.laws.Formed.{store_item_law}
use Rattle.sifv.proofs.store_item.Goals as goal

pub returns : goal.returns
returns c =
    store_item_law c.args.s.now c.args.at c.args.i c.args.from c.requires.0 c.requires.1 c.requires.2 c.requires.3 c.requires.4 c.requires.5 c.requires.6 c.move_u64.ensures refl refl
