use Rattle.std.proofs.Common.{◌≡◌, ℕ, ◌++◌, refl, ap, arith}
use Rattle.lent.specs.Lists.{tabulate}
use Rattle.text.specs.Text.{ascii, decimal, number_fields}
use Rattle.text.specs.laws.Writing.{appended_as}
use Rattle.text.specs.laws.Joined.{appended_turn}
use Rattle.ending.specs.laws.EndLaws.{detail_at, details_row}
use Rattle.ending.proofs.put_details.Goals as goal

pub get_u64-requires : goal.get_u64-requires
get_u64-requires c = let h = details_row c.args.report.now c.args.number in omega (arith, h.0)

pub loop-i-preserved : goal.loop-i-preserved
loop-i-preserved c =
    let f = detail_at c.args.report.now in
    appended_turn (λ (i : ℕ). ascii " " ++ decimal (f i)) (λ (i n : ℕ). number_fields (tabulate i n f)) (λ i. refl) (λ i n. refl) c.loop-i.i c.loop-i.invariant
    (rw (← c.get_u64.ensures) c.put_field.ensures)

pub returns : goal.returns
returns c =
    let h = details_row c.args.report.now c.args.number in
    let e : c.loop-i.i ≡ c.detail_count-i-end.result = omega arith in
    appended_as (ap number_fields h.1) (rw (e, c.detail_count-i-end.ensures) at c.loop-i.invariant)
