use borrow.Author.Tests.{eq-eqb, ne_eqb}
use Rattle.stmt.proofs.jumps.next_arm.Goals as goal

pub returns-then-more-eq0 : goal.returns-then-more-eq0
returns-then-more-eq0 c = rw (eq-eqb c.args.more 0 c.if-more-eq0.true)

pub returns : goal.returns
returns c = rw (ne_eqb c.args.more 0 c.if-more-eq0.false) c.pass.ensures
