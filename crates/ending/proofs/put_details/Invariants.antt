use Rattle.lent.specs.Lists.{tabulate}
use Rattle.text.specs.Text.{number_fields}
use Rattle.text.specs.inner.Appended.{Appended}
use Rattle.ending.specs.laws.EndLaws.{detail_at}
use Rattle.ending.proofs.put_details.Given as goal

abbrev pub invariant-loop-i : goal.invariant-loop-i
invariant-loop-i l = Appended l.initial.w (number_fields (tabulate 0 l.i (detail_at l.report))) l.w
