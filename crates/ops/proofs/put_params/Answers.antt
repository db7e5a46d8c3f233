use Rattle.std.proofs.Common.{ℕ, ◌++◌, refl}
use Rattle.lent.specs.Lists.{tabulate}
use Rattle.text.specs.Text.{ascii, decimal, number_fields}
use Rattle.text.specs.laws.Joined.{appended_row}
use Rattle.ops.specs.inner.Told.{param_at}
use Rattle.ops.proofs.put_params.Goals as goal

pub loop-i-preserved : goal.loop-i-preserved
loop-i-preserved c =
    let f = param_at c.args.program.now in
    appended_row (λ (k : ℕ). ascii " " ++ decimal (f k)) (λ (i n : ℕ). number_fields (tabulate i n f)) (λ i. refl) (λ i n. refl) c.args.first c.loop-i.i c.loop-i.invariant
    (rw (← c.entry_number.ensures) c.put_field.ensures)
