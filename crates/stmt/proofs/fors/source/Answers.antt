use native.Mathlib.Omega.{arith}
use Rattle.stmt.specs.laws.Fors.{source_node, source_reads, name_front, call_ready, call_front}
use Rattle.stmt.proofs.fors.source.Goals as goal

pub bounds-contents-0 : goal.bounds-contents-0
bounds-contents-0 c =
    omega (arith, (source_node c.requires.spelt).0)

pub returns-then-contents-eq-KIND_NAME : goal.returns-then-contents-eq-KIND_NAME
returns-then-contents-eq-KIND_NAME c = name_front c.if-contents-eq-KIND_NAME.true c.start.ensures

pub expr-a-requires : goal.expr-a-requires
expr-a-requires c =
    source_reads c.if-contents-eq-KIND_NAME.false c.requires

pub push_at-requires : goal.push_at-requires
push_at-requires c =
    call_ready c.expr-a.ensures (source_reads c.if-contents-eq-KIND_NAME.false c.requires)

pub returns : goal.returns
returns c =
    let f = rw c.prevreg-reg.ensures at c.fields_of-f.ensures in
    call_front c.expr-a.ensures c.if-contents-eq-KIND_NAME.false f c.push_at.ensures
