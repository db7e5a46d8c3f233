use Rattle.std.proofs.Common.{refl}
use Rattle.emit.specs.laws.Leaves.{loaded, name_bytes}
use Rattle.emit.proofs.load_name.Goals as goal

pub returns : goal.returns
returns c x v w e =
    loaded w _ _ c.start.ensures c.load_at.ensures refl (name_bytes v c.fields_of.ensures) e
