use Rattle.std.proofs.Common.{refl}
use Rattle.emit.specs.laws.Leaves.{stored, name_stored}
use Rattle.emit.proofs.put_name.Goals as goal

pub returns : goal.returns
returns c x v w e =
    stored w _ _ c.start.ensures c.push_at.ensures refl (name_stored v c.fields_of.ensures) e
