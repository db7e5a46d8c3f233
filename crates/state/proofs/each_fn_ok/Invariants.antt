-- `state::each_fn_ok` meets its contract.
use Rattle.std.proofs.Common.{◌≡◌}
use Rattle.state.specs.inner.Fields.{fn_test}
use Rattle.lent.specs.Lists.{upto}
use Rattle.state.proofs.each_fn_ok.Given as goal

abbrev pub invariant-loop-x : goal.invariant-loop-x
invariant-loop-x l = l.ok ≡ upto l.x (fn_test l.state l.n)
