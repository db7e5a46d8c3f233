-- `state::each_frame_ok` meets its contract.
use Rattle.std.proofs.Common.{◌≡◌}
use Rattle.state.specs.inner.Fields.{frame_test}
use Rattle.lent.specs.Lists.{upto}
use Rattle.state.proofs.each_frame_ok.Given as goal

abbrev pub invariant-loop-i : goal.invariant-loop-i
invariant-loop-i l = l.ok ≡ upto l.i (frame_test l.state l.calls l.n)
