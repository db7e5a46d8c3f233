use Rattle.std.proofs.Common.{rules}
use Rattle.bound.proofs.Steps.{all_counted}
use Rattle.bound.proofs.of_entries.Goals as goal

pub returns : goal.returns
returns c = all_counted c.args.entries.now c.longest.ensures.0 (search rules) c.subtree.ensures
