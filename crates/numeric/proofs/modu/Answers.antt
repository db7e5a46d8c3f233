-- `numeric::modu` meets its contract: each answer is the remainder of the numbers whose patterns the two arguments have.
use Rattle.std.proofs.Common.{◌≡◌, ℕ, sym, subst, arith}
use lib.Ieee.{Float, nan, binary64, div, of_bits}
use Rattle.numeric.proofs.Nans.{zero_by_zero}
use Rattle.numeric.proofs.Values.{both, no_dividend, nan_divisor, zero_divisor, smaller, signed_remainder}
use Rattle.numeric.specs.Remainder.{Remainder, modu}
use Rattle.numeric.proofs.modu.Goals as goal
use Rattle.numeric.proofs.modu.Goals.{After-bits_of-y}

-- where both patterns are known
abbrev x : After-bits_of-y → ℕ
x c = c.bits_of-x.result

abbrev y : After-bits_of-y → ℕ
y c = c.bits_of-y.result

abbrev Answer : After-bits_of-y → Float → Type 0
Answer c r = (r ≡ modu c.args.a c.args.b) × Remainder c.args.a c.args.b r

answer : (c : After-bits_of-y) (r : Float) → Remainder (of_bits binary64 (x c)) (of_bits binary64 (y c)) r → Answer c r
answer c r h = both c.args.a c.args.b r (x c) (y c) c.bits_of-x.ensures.1 c.bits_of-y.ensures.1 h

-- the NaN is written 0 / 0
answer_nan : (c : After-bits_of-y) → Remainder (of_bits binary64 (x c)) (of_bits binary64 (y c)) nan → Answer c (div binary64 (of_bits binary64 0) (of_bits binary64 0))
answer_nan c h = subst (Answer c) (sym zero_by_zero) (answer c nan h)

pub returns-then-p-ge-INFINITY : goal.returns-then-p-ge-INFINITY
returns-then-p-ge-INFINITY c =
    let k = (goal.at.returns-then-p-ge-INFINITY c).After-bits_of-y in
    answer_nan k (no_dividend (x k) (of_bits binary64 (y k)) c.if-p-ge-INFINITY.true)

pub returns-then-q-gt-INFINITY : goal.returns-then-q-gt-INFINITY
returns-then-q-gt-INFINITY c =
    let k = (goal.at.returns-then-q-gt-INFINITY c).After-bits_of-y in
    answer_nan k (nan_divisor (of_bits binary64 (x k)) (y k) c.if-q-gt-INFINITY.true)

pub returns-then-q-eq0 : goal.returns-then-q-eq0
returns-then-q-eq0 c =
    let k = (goal.at.returns-then-q-eq0 c).After-bits_of-y in
    answer_nan k (zero_divisor (of_bits binary64 (x k)) (y k) c.if-q-eq0.true)

pub returns-then-p-q : goal.returns-then-p-q
returns-then-p-q c =
    let k = (goal.at.returns-then-p-q c).After-bits_of-y in
    subst (Answer k) k.bits_of-x.ensures.1 (answer k (of_bits binary64 (x k)) (smaller (x k) (y k) c.if-p-q.true (omega arith)))

pub returns : goal.returns
returns c =
    let k = (goal.at.returns c).After-bits_of-y in
    let r = c.rest_of in
    subst (Answer k) (sym c.from_bits.ensures)
    (answer k (of_bits binary64 _) (signed_remainder (x k) (y k) r.result (omega arith) (omega arith) (omega arith) (omega arith) r.ensures.1 r.ensures.0))
