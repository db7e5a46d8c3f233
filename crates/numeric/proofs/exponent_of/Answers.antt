-- `numeric::exponent_of` meets its contract.
use Rattle.std.proofs.Common.{sym}
use Rattle.numeric.proofs.Units.{exponent_low, exponent_is}
use Rattle.numeric.proofs.exponent_of.Goals as goal

pub returns-then-p-lt-LEADING : goal.returns-then-p-lt-LEADING
returns-then-p-lt-LEADING c = sym (exponent_low c.args.p c.if-p-lt-LEADING.true)

pub returns : goal.returns
returns c = sym (exponent_is c.args.p)
