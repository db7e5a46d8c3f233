-- `numeric::from_stored` meets its contract.
use Rattle.std.proofs.Common.{sym, ap, ◌∙◌, arith, ne_eqb}
use lib.Ieee.{binary64, of_bits}
use Rattle.numeric.specs.laws.PatternLaws.{stored_no_nan}
use Rattle.numeric.proofs.Nans.{zero_by_zero, nan_pattern}
use Rattle.numeric.proofs.from_stored.Goals as goal

pub returns-then-n-eq9221120237041090560 : goal.returns-then-n-eq9221120237041090560
returns-then-n-eq9221120237041090560 c = zero_by_zero ∙ sym (ap (of_bits binary64) c.if-n-eq9221120237041090560.true ∙ nan_pattern 0x7ff8_0000_0000_0000 (omega arith))

pub float_from_bits-result : goal.float_from_bits-result
float_from_bits-result c = stored_no_nan c.args.n c.requires (ne_eqb c.args.n 0x7ff8_0000_0000_0000 c.if-n-eq9221120237041090560.false)
