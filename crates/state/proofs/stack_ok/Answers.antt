use Rattle.state.specs.inner.Fields.{stack_test, stack_ok}
use Rattle.state.specs.laws.Checks.{scan_end}
use Rattle.state.proofs.stack_ok.Goals as goal

pub returns : goal.returns
unfolding stack_ok
returns c = let r = c.args in let l = c.loop-i in scan_end (stack_test r.state.now r.depth) 24 l.i l.ok l.invariant l.auto.i-end c.loop-i-test.false
