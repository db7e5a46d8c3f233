use Rattle.state.specs.inner.Fields.{fn_test, fns_ok}
use Rattle.state.specs.laws.Checks.{scan_end}
use Rattle.state.proofs.each_fn_ok.Goals as goal

pub returns : goal.returns
unfolding fns_ok
returns c = let r = c.args in let l = c.loop-x in scan_end (fn_test r.state.now r.n) 64 l.x l.ok l.invariant l.auto.x-end c.loop-x-test.false
