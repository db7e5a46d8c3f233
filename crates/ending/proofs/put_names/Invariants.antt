use Rattle.stored.specs.StateBytes.{slots_at}
use Rattle.text.specs.inner.Appended.{Appended}
use Rattle.listing_text.specs.Ending.{name_lines}
use Rattle.ending.proofs.put_names.Given as goal

abbrev pub invariant-loop-x : goal.invariant-loop-x
invariant-loop-x l = Appended l.initial.w (name_lines 0 l.x (slots_at l.state 24576 64)) l.w
