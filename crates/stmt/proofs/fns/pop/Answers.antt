use mathlib.Core.Path.{refl, ap}
use Rattle.opc.specs.Record.{field_bytes}
use Rattle.opc.specs.Op.{FnStackPop, Str, instr}
use Rattle.emit.specs.laws.Laws.{did_then, kept_did, ready_did, some_place}
use Rattle.stmt.proofs.fns.pop.Goals as goal

pub push_op-requires : goal.push_op-requires
push_op-requires c =
    let a = c.args in
    let w = some_place a.keep a.low.decls in
    let f = ap field_bytes c.fields_of.ensures in
    ready_did c.requires (c.push_op-a.ensures w.0 (instr a.lbl (FnStackPop a.r)) refl f w.1)

pub returns : goal.returns
returns c =
    let a = c.args in
    let f = ap field_bytes c.fields_of.ensures in
    let g = ap field_bytes c.fields_of-2.ensures in
    λ w e.
    let d = c.push_op-a.ensures w (instr a.lbl (FnStackPop a.r)) refl f e in
    did_then d (c.push_op.ensures w (instr a.lbl (Str a.r a.x)) refl g (kept_did w e d))
