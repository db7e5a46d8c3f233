-- `state::mark_of` meets its contract.
use Rattle.state.specs.laws.Marks.{Marking}
use Rattle.state.proofs.mark_of.Given as goal

abbrev pub invariant-loop-x : goal.invariant-loop-x
invariant-loop-x l = Marking l.state l.m l.x
