-- `execute::incrr` meets its contract.
use mathlib.Core.Path.{refl}
use Rattle.std.specs.Float.Ieee as Ieee
use Rattle.vm.specs.RuntimeErr.{InvalidIncr, InvalidIncrTy}
use Rattle.execute.proofs.incrr.Goals as goal

pub returns : goal.returns
unfolding Ieee.of_int Ieee.of_bits
returns c = c.moved.ensures InvalidIncr InvalidIncrTy refl refl
