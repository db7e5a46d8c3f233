use borrow.Author.Tests.{lt-ltb, le-ltb, eq-eqb, ne_eqb}
use Rattle.ast.proofs.plain.under.Goals as goal

pub returns-then-kind-lt19 : goal.returns-then-kind-lt19
returns-then-kind-lt19 c = rw (lt-ltb _ 19 c.if-kind-lt19.true)

pub returns-then-left-eq1 : goal.returns-then-left-eq1
returns-then-left-eq1 c = rw (le-ltb _ 19 c.if-kind-lt19.false, eq-eqb _ 1 c.if-left-eq1.true)

pub returns : goal.returns
returns c = rw (le-ltb _ 19 c.if-kind-lt19.false, ne_eqb _ 1 c.if-left-eq1.false)
