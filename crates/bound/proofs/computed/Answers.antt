use Rattle.bound.proofs.computed.Goals as goal

pub returns-then-under : goal.returns-then-under
returns-then-under c = rw c.if-under.true

pub returns : goal.returns
returns c = rw c.if-under.false
