use Rattle.tables.proofs.enter.Goals as goal

pub returns-then-hit : goal.returns-then-hit
returns-then-hit c = rw c.if-hit.true c.put_u16.ensures
