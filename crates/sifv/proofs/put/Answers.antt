-- `sifv::put` meets its contract.
use mathlib.Core.Path.{refl}
use Rattle.sifv.specs.laws.Formed.{put_law}
use Rattle.sifv.proofs.put.Goals as goal

pub returns : goal.returns
returns c =
    put_law c.args.s.now c.args.at c.args.x.kind c.args.x.word c.requires.0 c.requires.1 c.clear.ensures c.put_u64.ensures refl
