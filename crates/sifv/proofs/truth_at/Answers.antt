-- `sifv::truth_at` meets its contract.
use mathlib.Core.Path.{refl}
use Rattle.sifv.specs.laws.Formed.{truth_at_law}
use Rattle.sifv.proofs.truth_at.Goals as goal

pub returns : goal.returns
returns c = truth_at_law c.args.s.now c.args.at c.requires.1 c.requires.2 refl
