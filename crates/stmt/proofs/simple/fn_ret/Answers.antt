use mathlib.Core.Path.{refl, ap}
use Rattle.opc.specs.Record.{field_bytes}
use Rattle.opc.specs.Op.{FnRet}
use Rattle.stmt.specs.laws.Leaves.{emit_one}
use Rattle.stmt.proofs.simple.fn_ret.Goals as goal

pub returns : goal.returns
returns c =
    emit_one c.args.p.lbl FnRet refl (λ j. ap field_bytes c.fields_of-f.ensures) c.push_at.ensures
