-- `execute::decrr` meets its contract.
use mathlib.Core.Path.{refl}
use Rattle.std.specs.Float.Ieee as Ieee
use Rattle.vm.specs.RuntimeErr.{InvalidDecr, InvalidDecrTy}
use Rattle.execute.proofs.decrr.Goals as goal

pub returns : goal.returns
unfolding Ieee.sub Ieee.of_int Ieee.of_bits
returns c = c.moved.ensures InvalidDecr InvalidDecrTy refl refl
