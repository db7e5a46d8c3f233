use native.Mathlib.Omega.{arith}
use mathlib.Core.Path.{refl, ap}
use Rattle.opc.specs.Record.{field_bytes}
use Rattle.opc.specs.Op.{FnStackPush}
use Rattle.compiler.specs.Lower.{prev}
use Rattle.expr.specs.inner.Parts.{exprs}
use Rattle.stmt.specs.laws.Leaves.{emit_one, emitted_ready}
use Rattle.stmt.specs.laws.Kinds.{stmt_room, goes_ready}
use Rattle.stmt.specs.laws.Simple.{result_reads, return_front, result_front}
use Rattle.stmt.proofs.simple.ret.Goals as goal

pub bounds-contents-1 : goal.bounds-contents-1
bounds-contents-1 c =
    omega (arith, stmt_room c.args.lbl c.requires.reads)

pub fn_ret-requires : goal.fn_ret-requires
fn_ret-requires c =
    rw c.start-p.ensures c.requires.reads.ready

pub returns-then-contents-eq0 : goal.returns-then-contents-eq0
returns-then-contents-eq0 c =
    return_front c.args.lbl c.start-p.ensures c.requires.contents_value c.if-contents-eq0.true c.fn_ret.ensures

pub expr_at-e-requires : goal.expr_at-e-requires
expr_at-e-requires c =
    result_reads c.args.lbl c.start-p.ensures c.requires.contents_value c.if-contents-eq0.false c.requires.reads

pub push_at-q-requires : goal.push_at-q-requires
push_at-q-requires c =
    goes_ready exprs (result_reads c.args.lbl c.start-p.ensures c.requires.contents_value c.if-contents-eq0.false c.requires.reads) c.expr_at-e.ensures

pub fn_ret-requires-2 : goal.fn_ret-requires-2
fn_ret-requires-2 c =
    let l = c.args.lbl in
    let f = rw c.prevreg-reg.ensures at c.fields_of-f.ensures in
    let reads = result_reads l c.start-p.ensures c.requires.contents_value c.if-contents-eq0.false c.requires.reads in
    emitted_ready
    (emit_one l (FnStackPush (prev c.expr_at-e.result.low.reg)) refl (λ j. ap field_bytes f) c.push_at-q.ensures)
    (goes_ready exprs reads c.expr_at-e.ensures)

pub returns : goal.returns
returns c =
    let f = rw c.prevreg-reg.ensures at c.fields_of-f.ensures in
    result_front c.args.lbl c.start-p.ensures c.requires.contents_value c.if-contents-eq0.false
    c.expr_at-e.ensures f c.push_at-q.ensures c.fn_ret-2.ensures
