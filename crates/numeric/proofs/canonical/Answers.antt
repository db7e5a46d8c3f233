-- `numeric::canonical` meets its contract.
use Rattle.std.proofs.Common.{sym, ap, ◌∙◌}
use Rattle.numeric.specs.laws.PatternLaws.{bits_nan, no_nan_canonical}
use Rattle.numeric.proofs.Nans.{nan_pattern, no_nan_pattern}
use Rattle.numeric.specs.inner.Patterns.{bits_of}
use Rattle.numeric.proofs.canonical.Goals as goal

pub returns-then-p-gt-INFINITY : goal.returns-then-p-gt-INFINITY
returns-then-p-gt-INFINITY c = sym (ap bits_of (nan_pattern c.args.p c.if-p-gt-INFINITY.true) ∙ bits_nan)

pub returns : goal.returns
returns c = sym (no_nan_canonical c.args.p c.ranges.p.fits (no_nan_pattern c.args.p c.if-p-gt-INFINITY.false))
