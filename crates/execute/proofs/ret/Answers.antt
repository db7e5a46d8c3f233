-- `execute::ret` meets its contract.
use mathlib.Core.Path.{refl}
use Prim.Native.Nat.{◌-◌}
use native.Mathlib.Omega.{arith}
use Rattle.execute.specs.laws.Stacks.{returned_none, returned_on}
use Rattle.execute.proofs.ret.Goals as goal

pub returns-then-calls-eq0 : goal.returns-then-calls-eq0
returns-then-calls-eq0 c =
    returned_none c.args.state.now c.args.loc c.requires.0 c.if-calls-eq0.true refl refl

pub returns : goal.returns
returns c =
    returned_on c.args.state.now c.args.loc c.requires.0 (c.args.loc.calls - 1) (omega (arith, c.if-calls-eq0.false)) (omega (arith, c.requires.1, c.if-calls-eq0.false)) c.get_u16-t.ensures.0 refl c.put_u16.ensures
