-- `numeric::far` meets its contract.
use Rattle.std.proofs.Common.{◌≡◌, ℕ, ◌-◌, ◌*◌, ◌/◌, ◌%◌, ◌^◌, ◌<◌, ◌≤◌, ◌∙◌, mod-lt, arith}
use lib.Count.{count_leading_zeros}
use Rattle.numeric.proofs.Products.{Halved, halved, cut, far_same}
use Rattle.numeric.proofs.far.Goals as goal
use Rattle.numeric.proofs.far.Goals.{Start}

-- what is halved, and how often
abbrev e : Start → ℕ
e c = c.args.s - 8

abbrev k : Start → ℕ
k c = 61 - count_leading_zeros 64 (e c / 7)

found : (c : Start) → Halved (e c) (count_leading_zeros 64 (e c / 7))
found c = halved (e c) (omega (arith, c.requires.3)) (omega arith)

whole : (c : Start) → (e c / 2 ^ k c * 2 ^ k c % 18446744073709551616 ≡ e c / 2 ^ k c * 2 ^ k c) × (e c / 2 ^ k c * 2 ^ k c ≤ e c)
whole c = cut (e c) (k c) (omega arith)

pub overflow_cast-k : goal.overflow_cast-k
overflow_cast-k c = omega (arith, (found (goal.at.overflow_cast-k c).Start).zeros)

pub overflow_sub-k-2 : goal.overflow_sub-k-2
overflow_sub-k-2 c = (found (goal.at.overflow_sub-k-2 c).Start).zeros

pub power-x-requires : goal.power-x-requires
power-x-requires c = ((found (goal.at.power-x-requires c).Start).few, c.reciprocal_of-v.ensures)

pub overflow_sub-s : goal.overflow_sub-s
overflow_sub-s c = let w = whole (goal.at.overflow_sub-s c).Start in omega arith

pub product-requires : goal.product-requires
product-requires c =
    let s = (goal.at.product-requires c).Start in
    let p : 0 < c.args.n = omega (arith, c.requires.1) in
    (c.power-x.ensures.1, omega (arith, c.requires.2, c.reduced-y.ensures, mod-lt (c.args.m * 2 ^ (c.args.s - e s / 2 ^ k s * 2 ^ k s % 18446744073709551616)) p), c.reciprocal_of-v.ensures)

pub returns : goal.returns
returns c =
    let w = whole (goal.at.returns c).Start in
    c.product.ensures.0
    ∙ far_same c.args.m c.args.n c.args.s _ _ c.power-x.result c.reduced-y.result w.0 (omega arith)
    c.power-x.ensures.0 c.reduced-y.ensures
