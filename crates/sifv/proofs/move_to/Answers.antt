-- `sifv::move_to` meets its contract.
use mathlib.Core.Path.{refl}
use Rattle.sifv.specs.laws.Formed.{move_small}
use Rattle.sifv.proofs.move_to.Goals as goal

pub returns : goal.returns
returns c =
    move_small c.args.s.now c.args.from c.args.to c.requires.0 c.requires.1 c.requires.2 c.requires.3 c.requires.4 c.if-s-from-ge5.false c.clear.ensures c.move_u64.ensures refl refl
