-- `sifv::number_at` meets its contract.
use Rattle.sifv.specs.laws.Formed.{number_at_stored, number_at_law}
use Rattle.sifv.proofs.number_at.Goals as goal

pub from_stored-requires : goal.from_stored-requires
from_stored-requires c =
    number_at_stored c.args.s.now c.args.at c.requires.1 c.requires.2 c.get_u64.ensures

pub returns : goal.returns
returns c =
    number_at_law c.args.s.now c.args.at c.requires.1 c.requires.2 c.get_u64.ensures c.from_stored.ensures
