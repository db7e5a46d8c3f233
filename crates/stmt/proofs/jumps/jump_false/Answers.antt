use mathlib.Core.Path.{refl, ap}
use Rattle.opc.specs.Record.{field_bytes}
use Rattle.opc.specs.Op.{Jmpf, JmpCnd}
use Rattle.compiler.specs.Lower.{prev}
use Rattle.stmt.specs.laws.Leaves.{emit_one, label_next}
use Rattle.stmt.proofs.jumps.jump_false.Goals as goal

pub returns : goal.returns
returns c =
    let p = c.args.p in
    let f = rw c.prevreg-reg.ensures at c.fields_of-f.ensures in
    let jump = emit_one p.lbl (JmpCnd Jmpf (prev p.low.reg) 0) refl (λ j. ap field_bytes f) c.push_at-j.ensures in
    label_next jump c.newlbl.ensures
