-- `execute::jump` meets its contract.
use mathlib.Core.Path.{refl}
use Rattle.execute.specs.laws.Programs.{jumped_none, jumped_some}
use Rattle.tables.specs.ProgramBytes.{program_in}
use Rattle.execute.proofs.jump.Goals as goal

pub returns-then-t-eq0 : goal.returns-then-t-eq0
returns-then-t-eq0 c =
    jumped_none c.args.program.now (program_in c.args.program.now) c.requires.0 c.args.loc c.args.lblidx c.requires.1 c.get_u16-t.ensures.0 c.if-t-eq0.true refl

pub returns : goal.returns
returns c =
    jumped_some c.args.program.now (program_in c.args.program.now) c.requires.0 c.args.loc c.args.lblidx c.requires.1 c.get_u16-t.ensures.0 c.if-t-eq0.false refl
