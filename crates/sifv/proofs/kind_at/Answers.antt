-- `sifv::kind_at` meets its contract.
use mathlib.Core.Path.{refl}
use Rattle.sifv.specs.laws.Formed.{kind_at_law}
use Rattle.sifv.proofs.kind_at.Goals as goal

pub returns : goal.returns
returns c = kind_at_law c.args.s.now c.args.at c.requires.1 refl
