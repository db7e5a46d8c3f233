use mathlib.Core.Path.{refl, ap}
use Rattle.opc.specs.Record.{field_bytes}
use Rattle.opc.specs.Op.{Jmpa}
use Rattle.stmt.specs.laws.Leaves.{emit_one, label_next}
use Rattle.stmt.proofs.jumps.jump_end.Goals as goal

pub returns : goal.returns
returns c =
    label_next (emit_one c.args.p.lbl (Jmpa c.args.last) refl (λ j. ap field_bytes c.fields_of-f.ensures) c.push_at-j.ensures) c.newlbl.ensures
