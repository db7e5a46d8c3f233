use borrow.Author.Tests.{eq-eqb, ne_eqb}
use Rattle.stmt.proofs.jumps.ended.Goals as goal

pub returns-then-rest-eq0 : goal.returns-then-rest-eq0
returns-then-rest-eq0 c = rw (eq-eqb c.args.rest 0 c.if-rest-eq0.true)

pub newlbl-requires : goal.newlbl-requires
newlbl-requires c = rw (ne_eqb c.args.rest 0 c.if-rest-eq0.false) at c.requires

pub returns : goal.returns
returns c = rw (ne_eqb c.args.rest 0 c.if-rest-eq0.false) c.newlbl.ensures
