-- `state::slots_ok` meets its contract.
use Rattle.std.proofs.Common.{◌≡◌}
use Rattle.state.specs.inner.Fields.{slot_test}
use Rattle.lent.specs.Lists.{upto}
use Rattle.state.proofs.slots_ok.Given as goal

abbrev pub invariant-loop-i : goal.invariant-loop-i
invariant-loop-i l = l.ok ≡ upto l.i (slot_test l.state)
