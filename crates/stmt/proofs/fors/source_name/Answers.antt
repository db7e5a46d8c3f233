use borrow.Author.Tests.{eq-eqb, ne_eqb}
use Rattle.stmt.proofs.fors.source_name.Goals as goal

pub returns-then-kind-eq-KIND_NAME : goal.returns-then-kind-eq-KIND_NAME
returns-then-kind-eq-KIND_NAME c = rw (eq-eqb c.args.kind 21 c.if-kind-eq-KIND_NAME.true)

pub returns-else-kind-eq-KIND_NAME : goal.returns-else-kind-eq-KIND_NAME
returns-else-kind-eq-KIND_NAME c = rw (ne_eqb c.args.kind 21 c.if-kind-eq-KIND_NAME.false)
