-- `numeric::significand_of` meets its contract.
use Rattle.std.proofs.Common.{sym}
use Rattle.numeric.proofs.Units.{significand_low, significand_high}
use Rattle.numeric.proofs.significand_of.Goals as goal

pub returns-then-p-lt-LEADING : goal.returns-then-p-lt-LEADING
returns-then-p-lt-LEADING c = sym (significand_low c.args.p c.if-p-lt-LEADING.true)

pub returns : goal.returns
returns c = sym (significand_high c.args.p c.if-p-lt-LEADING.false)
