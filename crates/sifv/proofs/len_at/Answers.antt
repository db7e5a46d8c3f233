-- `sifv::len_at` meets its contract.
use Rattle.sifv.specs.laws.Formed.{len_at_law}
use Rattle.sifv.proofs.len_at.Goals as goal

pub returns : goal.returns
returns c =
    len_at_law c.args.s.now c.args.at c.requires.1 c.wide.ensures.0
