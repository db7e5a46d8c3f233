use Rattle.lent.specs.Lists.{tabulate}
use Rattle.text.specs.Text.{number_fields}
use Rattle.ops.specs.inner.Told.{param_at}
use Rattle.text.specs.inner.Appended.{Appended}
use Rattle.ops.proofs.put_params.Given as goal

abbrev pub invariant-loop-i : goal.invariant-loop-i
invariant-loop-i l = Appended l.initial.w (number_fields (tabulate l.first l.i (param_at l.program))) l.w
