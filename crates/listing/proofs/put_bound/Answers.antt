use Rattle.listing.proofs.Bounds.{no_bound, plain_bound}
use Rattle.listing.proofs.put_bound.Goals as goal

pub returns-then-n-eq0 : goal.returns-then-n-eq0
returns-then-n-eq0 c = λ t p e l. no_bound c.args.file.now c.bound-n.ensures e l c.if-n-eq0.true c.put_all.ensures

pub returns-else-n-eq0 : goal.returns-else-n-eq0
returns-else-n-eq0 c = λ t p e l. plain_bound c.args.file.now c.bound-n.ensures e l c.if-n-eq0.false c.put_line.ensures
