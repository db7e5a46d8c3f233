use Rattle.state.specs.inner.Fields.{frame_test, frames_ok}
use Rattle.state.specs.laws.Checks.{scan_end}
use Rattle.state.proofs.each_frame_ok.Goals as goal

pub returns : goal.returns
unfolding frames_ok
returns c = let r = c.args in let l = c.loop-i in scan_end (frame_test r.state.now r.calls r.n) 24 l.i l.ok l.invariant l.auto.i-end c.loop-i-test.false
