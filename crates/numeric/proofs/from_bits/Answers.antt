-- `numeric::from_bits` meets its contract.
use Rattle.std.proofs.Common.{sym, ◌∙◌}
use Rattle.numeric.proofs.Nans.{zero_by_zero, nan_pattern, no_nan_pattern}
use Rattle.numeric.proofs.from_bits.Goals as goal

pub returns-then-n-gt-INFINITY : goal.returns-then-n-gt-INFINITY
returns-then-n-gt-INFINITY c = zero_by_zero ∙ sym (nan_pattern c.args.n c.if-n-gt-INFINITY.true)

pub float_from_bits-result : goal.float_from_bits-result
float_from_bits-result c = no_nan_pattern c.args.n c.if-n-gt-INFINITY.false
