-- `execute::call` meets its contract.
use mathlib.Core.Path.{refl}
use Rattle.execute.specs.laws.Stacks.{called_none, called_full, called_on}
use Rattle.execute.proofs.call.Goals as goal

pub returns-then-t-eq0 : goal.returns-then-t-eq0
returns-then-t-eq0 c =
    called_none c.args.state.now c.args.loc c.requires.0 c.args.name c.requires.3 c.get_u16-t.ensures.0 c.if-t-eq0.true refl refl

pub returns-then-calls-ge-CALL_STACK : goal.returns-then-calls-ge-CALL_STACK
returns-then-calls-ge-CALL_STACK c =
    called_full c.args.state.now c.args.loc c.requires.0 c.args.name c.requires.3 c.get_u16-t.ensures.0 c.if-t-eq0.false c.if-calls-ge-CALL_STACK.true refl refl

pub returns : goal.returns
returns c =
    called_on c.args.state.now c.args.loc c.requires.0 c.args.name c.requires.3 c.get_u16-t.ensures.0 c.if-t-eq0.false c.if-calls-ge-CALL_STACK.false refl c.put_u16.ensures
