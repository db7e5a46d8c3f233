-- `execute::push` meets its contract.
use mathlib.Core.Path.{refl}
use native.Mathlib.Omega.{arith}
use Rattle.execute.specs.laws.Acts.{reg_formed}
use Rattle.execute.specs.laws.Stacks.{pushed_none, pushed_full, pushed_on}
use Rattle.execute.proofs.push.Goals as goal

pub kind_at-requires : goal.kind_at-requires
kind_at-requires c =
    reg_formed _ c.requires.0 _ c.requires.4 c.reg-from.ensures

pub returns-then-kind_at-eq0 : goal.returns-then-kind_at-eq0
returns-then-kind_at-eq0 c =
    pushed_none c.args.state.now c.args.loc c.requires.1 c.requires.0 c.args.src c.requires.4 c.reg-from.ensures c.kind_at.ensures c.if-kind_at-eq0.true refl refl

pub returns-then-depth-ge-VALUE_STACK : goal.returns-then-depth-ge-VALUE_STACK
returns-then-depth-ge-VALUE_STACK c =
    pushed_full c.args.state.now c.args.loc c.requires.1 c.requires.0 c.args.src c.requires.4 c.reg-from.ensures c.kind_at.ensures c.if-kind_at-eq0.false c.if-depth-ge-VALUE_STACK.true refl refl

pub move_to-requires : goal.move_to-requires
move_to-requires c =
    let f = reg_formed _ c.requires.0 _ c.requires.4 c.reg-from.ensures in
    (f.0, omega (arith, c.requires.0.room, c.if-depth-ge-VALUE_STACK.false), omega (arith, c.reg-from.ensures), f.1, c.requires.0.stack c.args.loc.depth c.if-depth-ge-VALUE_STACK.false)

pub returns : goal.returns
returns c =
    pushed_on c.args.state.now c.args.loc c.requires.1 c.requires.0 c.args.src c.requires.4 c.reg-from.ensures c.kind_at.ensures c.if-kind_at-eq0.false c.if-depth-ge-VALUE_STACK.false refl c.move_to.ensures
