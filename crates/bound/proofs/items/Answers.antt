use borrow.Author.Tests.{eq-eqb, ne_eqb}
use Rattle.bound.proofs.items.Goals as goal

pub returns-then-kind-eq12 : goal.returns-then-kind-eq12
returns-then-kind-eq12 c = rw (eq-eqb _ 12 c.if-kind-eq12.true)

pub returns : goal.returns
returns c = rw (ne_eqb _ 12 c.if-kind-eq12.false)
