-- `execute::pop` meets its contract.
use mathlib.Core.Path.{refl, ap}
use Prim.Native.Nat.{◌+◌, ◌*◌, ◌-◌, ◌<◌}
use native.Mathlib.Omega.{arith}
use Rattle.execute.specs.laws.Acts.{reg_formed}
use Rattle.execute.specs.laws.Stacks.{popped_none, popped_some, kept_formed}
use Rattle.std.specs.declared.result.Result.TheVariants as got
use Rattle.execute.proofs.pop.Goals as goal

pub set-requires : goal.set-requires
set-requires c =
    reg_formed _ c.requires.0 _ c.requires.4 c.reg-to.ensures

pub returns-then-depth-eq0 : goal.returns-then-depth-eq0
returns-then-depth-eq0 c =
    popped_none c.args.state.now c.args.loc c.requires.1 c.args.dest c.requires.4 c.if-depth-eq0.true c.reg-to.ensures (ap got.Ok c.on.ensures) c.set.ensures

pub move_to-requires : goal.move_to-requires
move_to-requires c =
    let t = reg_formed _ c.requires.0 _ c.requires.4 c.reg-to.ensures in
    let g : c.args.loc.depth - 1 < 24 = omega (arith, c.requires.2, c.if-depth-eq0.false) in
    (omega (arith, c.requires.0.room, g), t.0, omega (arith, c.reg-to.ensures), c.requires.0.stack (c.args.loc.depth - 1) g, t.1)

pub set-requires-2 : goal.set-requires-2
set-requires-2 c =
    let g : c.args.loc.depth - 1 < 24 = omega (arith, c.requires.2, c.if-depth-eq0.false) in
    kept_formed c.args.state.now c.reg-to.result (40960 + (c.args.loc.depth - 1) * 256) (omega (arith, c.requires.0.room, g)) (omega (arith, c.reg-to.ensures, c.requires.4)) (c.requires.0.stack (c.args.loc.depth - 1) g) c.move_to.ensures

pub returns : goal.returns
returns c =
    popped_some c.args.state.now c.args.loc c.requires.1 c.args.dest (c.args.loc.depth - 1) c.requires.4 (omega (arith, c.if-depth-eq0.false)) (omega (arith, c.requires.2, c.if-depth-eq0.false)) c.reg-to.ensures refl refl c.move_to.ensures c.set-2.ensures
