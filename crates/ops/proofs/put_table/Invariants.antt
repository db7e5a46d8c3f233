use Rattle.lent.specs.Bytes.{concat}
use Rattle.lent.specs.Lists.{tabulate}
use Rattle.ops.specs.inner.Told.{entry_line, table_entry}
use Rattle.text.specs.inner.Appended.{Appended}
use Rattle.ops.proofs.put_table.Given as goal

abbrev pub invariant-loop-i : goal.invariant-loop-i
invariant-loop-i l = Appended l.initial.w (concat (tabulate 0 l.i (λ k. entry_line l.name k (table_entry l.program l.base k)))) l.w
