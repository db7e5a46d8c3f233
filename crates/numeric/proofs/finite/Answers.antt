-- `numeric::finite` meets its contract.
use Rattle.std.proofs.Common.{sym}
use Rattle.numeric.specs.laws.PatternLaws.{finite_pattern}
use Rattle.numeric.proofs.finite.Goals as goal

pub returns : goal.returns
returns c = sym (finite_pattern c.args.n)
