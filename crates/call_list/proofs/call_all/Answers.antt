use Rattle.std.proofs.Common.{◌/◌, length, refl, ◌∙◌}
use Rattle.call_list.proofs.Carrying.{going_start, going_next, going_end}
use Rattle.call_list.proofs.call_all.Goals as goal

pub loop-i-init : goal.loop-i-init
loop-i-init c =
    (refl, going_start c.args.program.now c.args.calls.now c.args.state.now _)

pub loop-i-preserved : goal.loop-i-preserved
loop-i-preserved c =
    let l = c.loop-i in
    (c.call_next-last.auto.state ∙ l.invariant.0, going_next c.args.program.now c.args.calls.now c.args.state.now (length c.args.calls.now / 16) l.i l.state l.last l.invariant.1 c.loop-i-test.true c.call_next-last.ensures)

pub returns : goal.returns
returns c =
    let l = c.loop-i in
    going_end c.args.program.now c.args.calls.now c.args.state.now (length c.args.calls.now / 16) l.i l.state l.last refl l.invariant.1 c.loop-i-test.false
