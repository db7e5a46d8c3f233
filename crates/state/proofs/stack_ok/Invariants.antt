-- `state::stack_ok` meets its contract.
use Rattle.std.proofs.Common.{◌≡◌}
use Rattle.state.specs.inner.Fields.{stack_test}
use Rattle.lent.specs.Lists.{upto}
use Rattle.state.proofs.stack_ok.Given as goal

abbrev pub invariant-loop-i : goal.invariant-loop-i
invariant-loop-i l = l.ok ≡ upto l.i (stack_test l.state l.depth)
