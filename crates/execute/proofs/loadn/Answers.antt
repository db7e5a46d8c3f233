-- `execute::loadn` meets its contract.
use mathlib.Core.Path.{refl}
use Prim.Native.Nat.{◌+◌, ◌*◌}
use native.Mathlib.Omega.{arith}
use Rattle.execute.specs.laws.Acts.{name_formed, reg_formed, loadn_none, loadn_some}
use Rattle.execute.proofs.loadn.Goals as goal

pub kind_at-requires : goal.kind_at-requires
kind_at-requires c =
    name_formed _ c.requires.0 _ c.requires.2 c.slot.ensures

pub returns-then-kind_at-eq0 : goal.returns-then-kind_at-eq0
returns-then-kind_at-eq0 c =
    loadn_none c.args.state.now c.requires.0 c.args.name (0 + c.args.dest * 256) c.requires.2 c.slot.ensures c.kind_at.ensures c.if-kind_at-eq0.true refl refl

pub move_to-requires : goal.move_to-requires
move_to-requires c =
    let f = name_formed _ c.requires.0 _ c.requires.2 c.slot-2.ensures in
    let t = reg_formed _ c.requires.0 _ c.requires.1 c.reg.ensures in
    (f.0, t.0, omega (arith, c.slot-2.ensures, c.reg.ensures), f.1, t.1)

pub returns : goal.returns
returns c =
    loadn_some c.args.state.now c.requires.0 c.args.name (0 + c.args.dest * 256) c.requires.2 c.slot.ensures c.kind_at.ensures c.if-kind_at-eq0.false c.slot-2.ensures c.reg.ensures refl c.move_to.ensures
