use borrow.Author.Tests.{le-leb, lt-leb, eq-eqb, ne_eqb}
use Rattle.bound.proofs.weight.Goals as goal

pub returns-then-kind-ge19 : goal.returns-then-kind-ge19
returns-then-kind-ge19 c = rw (le-leb 19 _ c.if-kind-ge19.true) c.leaf.ensures

pub returns-then-kind : goal.returns-then-kind
returns-then-kind c = rw (lt-leb 19 _ c.if-kind-ge19.false, c.if-kind.true) c.computed.ensures

pub returns-then-kind-2 : goal.returns-then-kind-2
returns-then-kind-2 c = rw (lt-leb 19 _ c.if-kind-ge19.false, c.if-kind.false, c.if-kind-2.true) c.empty.ensures

pub returns-then-kind-eq3 : goal.returns-then-kind-eq3
returns-then-kind-eq3 c = rw (lt-leb 19 _ c.if-kind-ge19.false, c.if-kind.false, c.if-kind-2.false, eq-eqb _ 3 c.if-kind-eq3.true)

pub returns-then-kind-eq4 : goal.returns-then-kind-eq4
returns-then-kind-eq4 c = rw (lt-leb 19 _ c.if-kind-ge19.false, c.if-kind.false, c.if-kind-2.false, ne_eqb _ 3 c.if-kind-eq3.false, eq-eqb _ 4 c.if-kind-eq4.true)

pub returns-then-kind-eq13 : goal.returns-then-kind-eq13
returns-then-kind-eq13 c = rw (lt-leb 19 _ c.if-kind-ge19.false, c.if-kind.false, c.if-kind-2.false, ne_eqb _ 3 c.if-kind-eq3.false, ne_eqb _ 4 c.if-kind-eq4.false, eq-eqb _ 13 c.if-kind-eq13.true)

pub returns-then-kind-3 : goal.returns-then-kind-3
returns-then-kind-3 c = rw (lt-leb 19 _ c.if-kind-ge19.false, c.if-kind.false, c.if-kind-2.false, ne_eqb _ 3 c.if-kind-eq3.false, ne_eqb _ 4 c.if-kind-eq4.false, ne_eqb _ 13 c.if-kind-eq13.false, c.if-kind-3.true)

pub returns : goal.returns
returns c = rw (lt-leb 19 _ c.if-kind-ge19.false, c.if-kind.false, c.if-kind-2.false, ne_eqb _ 3 c.if-kind-eq3.false, ne_eqb _ 4 c.if-kind-eq4.false, ne_eqb _ 13 c.if-kind-eq13.false, c.if-kind-3.false)
