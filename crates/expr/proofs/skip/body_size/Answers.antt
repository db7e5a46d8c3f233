use borrow.Author.Tests.{eq-eqb, ne_eqb, lt-ltb, le-ltb}
use Rattle.expr.proofs.skip.body_size.Goals as goal

pub returns-then-kind-eq-KIND_NUM : goal.returns-then-kind-eq-KIND_NUM
returns-then-kind-eq-KIND_NUM c = rw (eq-eqb _ 19 c.if-kind-eq-KIND_NUM.true)

pub returns-then-kind-eq-KIND_TABLE : goal.returns-then-kind-eq-KIND_TABLE
returns-then-kind-eq-KIND_TABLE c = rw (ne_eqb _ 19 c.if-kind-eq-KIND_NUM.false, eq-eqb _ 10 c.if-kind-eq-KIND_TABLE.true)

pub returns-then-kind-gt-KIND_NAME : goal.returns-then-kind-gt-KIND_NAME
returns-then-kind-gt-KIND_NAME c = rw (ne_eqb _ 19 c.if-kind-eq-KIND_NUM.false, ne_eqb _ 10 c.if-kind-eq-KIND_TABLE.false, lt-ltb 21 _ c.if-kind-gt-KIND_NAME.true)

pub returns : goal.returns
returns c = rw (ne_eqb _ 19 c.if-kind-eq-KIND_NUM.false, ne_eqb _ 10 c.if-kind-eq-KIND_TABLE.false, le-ltb 21 _ c.if-kind-gt-KIND_NAME.false)
