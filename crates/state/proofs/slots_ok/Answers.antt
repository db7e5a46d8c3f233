use Rattle.state.specs.inner.Fields.{slot_test, slots_ok}
use Rattle.state.specs.laws.Checks.{scan_end}
use Rattle.state.proofs.slots_ok.Goals as goal

pub returns : goal.returns
unfolding slots_ok
returns c = let r = c.args in let l = c.loop-i in scan_end (slot_test r.state.now) 184 l.i l.ok l.invariant l.auto.i-end c.loop-i-test.false
