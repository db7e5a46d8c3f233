-- `numeric::exact` meets its contract.
use Rattle.std.proofs.Common.{◌≡◌, ℕ, ◌^◌, ◌≤◌, Bool, true, false, not, T, sym, ap, ◌∙◌, subst, le→leb}
use mathlib.Core.Option.{some}
use lib.Ieee.{of_bits, neg, in_float}
use Rattle.numeric.specs.inner.OrMax.{or_max}
use Rattle.numeric.proofs.Indexes.{index_equal, index_other, cut_small, lt_more, index_between, index_past, index_before}
use Rattle.numeric.proofs.exact.Goals as goal
use Rattle.numeric.proofs.exact.Goals.{After-truncating_f64_to_u64-whole}

yes : {b : Bool} → b ≡ true → T b
yes e = subst T (sym e) tt

no : {b : Bool} → b ≡ false → T (not b)
no e = subst (λ (b : Bool). T (not b)) (sym e) tt

-- the number without its fraction is at most 2^53
small : (c : After-truncating_f64_to_u64-whole) → c.truncating_f64_to_u64-whole.result ≤ 2 ^ 53
unfolding of_bits
small c = subst (λ (n : ℕ). n ≤ 2 ^ 53) (sym c.truncating_f64_to_u64-whole.ensures) (cut_small c.args.x (yes c.if-x-2.true))

pub truncating_f64_to_u64-whole-requires : goal.truncating_f64_to_u64-whole-requires
unfolding of_bits neg
truncating_f64_to_u64-whole-requires c = record { lower_bound = yes c.if-x.true; upper_bound = lt_more c.args.x (yes c.if-x-2.true) }

pub int_to_float-whole : goal.int_to_float-whole
unfolding in_float
int_to_float-whole c = le→leb c.truncating_f64_to_u64-whole.result (2 ^ 53) (small (goal.at.int_to_float-whole c).After-truncating_f64_to_u64-whole)

pub returns-then-whole-x : goal.returns-then-whole-x
returns-then-whole-x c = sym (ap or_max (index_equal c.args.x c.truncating_f64_to_u64-whole.result (small (goal.at.returns-then-whole-x c).After-truncating_f64_to_u64-whole) c.if-whole-x.true))

pub returns-then-x-2 : goal.returns-then-x-2
returns-then-x-2 c = sym (ap or_max (index_other c.args.x c.truncating_f64_to_u64-whole.result c.truncating_f64_to_u64-whole.ensures (small (goal.at.returns-then-x-2 c).After-truncating_f64_to_u64-whole) c.if-whole-x.false))

pub truncating_f64_to_u64-requires : goal.truncating_f64_to_u64-requires
unfolding of_bits neg
truncating_f64_to_u64-requires c = record { lower_bound = yes c.if-x.true; upper_bound = yes c.if-x-3.true }

pub returns-then-x-3 : goal.returns-then-x-3
unfolding of_bits neg
returns-then-x-3 c =
    let x = c.args.x in
    sym (ap or_max (index_between x (yes c.well_formed.0.1) (no c.if-x-2.false) (yes c.if-x-3.true) ∙ ap some (sym c.truncating_f64_to_u64.ensures)))

pub returns-then-x : goal.returns-then-x
unfolding of_bits
returns-then-x c = sym (ap or_max (index_past c.args.x (no c.if-x-3.false)))

pub returns : goal.returns
unfolding of_bits neg
returns c = sym (ap or_max (index_before c.args.x (no c.if-x.false)))
