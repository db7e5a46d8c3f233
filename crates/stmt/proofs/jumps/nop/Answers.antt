use mathlib.Core.Path.{refl, ap}
use Rattle.opc.specs.Record.{field_bytes}
use Rattle.opc.specs.Op.{Nop}
use Rattle.stmt.specs.laws.Leaves.{emit_one}
use Rattle.stmt.proofs.jumps.nop.Goals as goal

pub returns : goal.returns
returns c =
    emit_one c.args.p.lbl Nop refl (λ j. ap field_bytes c.fields_of-f.ensures) c.push_at.ensures
