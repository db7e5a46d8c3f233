use Rattle.std.proofs.Common.{ℕ, List, refl, sym, ap}
use Rattle.lent.specs.Bytes.{concat}
use Rattle.lent.specs.Lists.{tabulate}
use Rattle.text.specs.laws.Writing.{appended_as}
use Rattle.text.specs.laws.Joined.{appended_turn}
use Rattle.ops.specs.inner.Told.{entry_line, table_entry}
use Rattle.ops.proofs.put_table.Goals as goal

pub loop-i-preserved : goal.loop-i-preserved
loop-i-preserved c =
    let t : ℕ → List ℕ = λ i. entry_line c.args.name.now i (table_entry c.args.program.now c.args.base i) in
    appended_turn t (λ (i n : ℕ). concat (tabulate i n t)) (λ i. refl) (λ i n. refl) c.loop-i.i c.loop-i.invariant
    (appended_as (ap (entry_line c.args.name.now c.loop-i.i) (sym c.get_u16-entry.ensures.0)) c.put_entry.ensures)
