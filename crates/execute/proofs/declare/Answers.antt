-- `execute::declare` meets its contract.
use mathlib.Core.Path.{ap}
use Rattle.execute.specs.laws.Programs.{declared_law}
use Rattle.std.specs.declared.result.Result.TheVariants as got
use Rattle.execute.proofs.declare.Goals as goal

pub returns : goal.returns
returns c =
    declared_law c.args.state.now c.args.loc c.requires.0 c.args.name c.requires.2 (ap got.Ok c.on.ensures) c.put_u16.ensures
