use borrow.Author.Tests.{le-leb, lt-leb, eq-eqb, ne_eqb}
use native.Mathlib.Omega.{arith}
use Rattle.ast.proofs.plain.waits.Goals as goal

pub returns-then-kind-eq14 : goal.returns-then-kind-eq14
returns-then-kind-eq14 c = (rw (eq-eqb _ 14 c.if-kind-eq14.true), omega arith)

pub returns-then-left-le1 : goal.returns-then-left-le1
returns-then-left-le1 c = (rw (ne_eqb _ 14 c.if-kind-eq14.false, le-leb _ 1 c.if-left-le1.true), omega arith)

pub returns : goal.returns
returns c = (rw (ne_eqb _ 14 c.if-kind-eq14.false, lt-leb _ 1 c.if-left-le1.false), omega arith)
