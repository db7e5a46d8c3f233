use Rattle.std.proofs.Common.{map}
use Rattle.lent.specs.Lists.{tabulate}
use Rattle.text.specs.Text.{ascii, single_text, joined}
use Rattle.ops.specs.inner.Told.{item_told}
use Rattle.text.specs.inner.Appended.{Appended}
use Rattle.ops.proofs.put_items.Given as goal

abbrev pub invariant-loop-i : goal.invariant-loop-i
invariant-loop-i l = Appended l.initial.w (joined (ascii ",") (map single_text (tabulate l.first l.i (item_told l.program)))) l.w
