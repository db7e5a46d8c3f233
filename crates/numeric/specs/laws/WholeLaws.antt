-- Whole numbers as numbers of the engine, which are f64 (document 01, "Running": "numbers as f64"), such as a loop's index ("The walk"): up to 2 ^ 53 the
-- order and the sum are those of the whole numbers.
use Rattle.std.specs.Prelude.{◌≡◌, ℕ, ◌+◌, ◌*◌, ◌^◌, ◌<◌, ◌≤◌, Bool, true, false, T, ltb, ℤ, pos, nat_lt, refl, Float}
use Rattle.std.proofs.Common.{sym, ap, ◌∙◌, true≢false, mul-one, mul_comm, mul_assoc, mul-pos, add-mul, mul-lt-mul_of_pos_right, lt_of_mul-lt-mul_right, zero-lt-suc, lt→ltb, ltb→lt}
use Rattle.std.specs.Float.{fin, binary64}
use Rattle.std.specs.Float.Ieee.{up, down, round, sum, add, lt, fits, of_int}
use Rattle.std.specs.Float.Ieee.Fits.{down_pos, of_int-fits}
use Rattle.std.specs.Float.Ieee.Exact.{HasValue}
use Rattle.std.specs.Float.Ieee.Back.{round_whole}
use Rattle.std.specs.Float.Ieee.Scale.{round_same}
use Rattle.numeric.specs.Whole.{whole}

pub whole_fits : (n : ℕ) → T (fits binary64 (whole n))
whole_fits n = of_int-fits binary64 (pos n)

-- ---- it is the number n
pub whole_value : (n : ℕ) → n ≤ 2 ^ 53 → HasValue (whole n) false n 1
unfolding of_int
whole_value n h = round_whole binary64 false n h

is_of_int : (n : ℕ) → round binary64 false n 1 ≡ whole n
unfolding of_int
is_of_int n = refl

-- ---- over a common denominator
over : (m : ℕ) (e : ℤ) (a k : ℕ) → m * up e * 1 ≡ a * down e → m * up e * k ≡ a * (down e * k)
over m e a k h = ap (λ (z : ℕ). z * k) (sym (mul-one (m * up e)) ∙ h) ∙ mul_assoc a (down e) k

same_test : (a b : Bool) → (T a → T b) → (T b → T a) → a ≡ b
same_test true true p q = refl
same_test true false p q = absurd (p tt)
same_test false true p q = absurd (q tt)
same_test false false p q = refl

ltb_scale : (a b k : ℕ) → 0 < k → nat_lt (a * k) (b * k) ≡ nat_lt a b
ltb_scale a b k K = same_test (nat_lt (a * k) (b * k)) (nat_lt a b) (λ t. lt→ltb a b (lt_of_mul-lt-mul_right k (ltb→lt (a * k) (b * k) t))) (λ t. lt→ltb (a * k) (b * k) (mul-lt-mul_of_pos_right (ltb→lt a b t) K))

lt_val : (x y : Float) (a b : ℕ) → HasValue x false a 1 → HasValue y false b 1 → lt x y ≡ nat_lt a b
unfolding lt
lt_val (fin true m e) y a b v w = absurd (true≢false v.0)
lt_val (fin false m e) (fin true n d) a b v w = absurd (true≢false w.0)
lt_val (fin false m e) (fin false n d) a b v w =
    ap (λ (z : ℕ). ltb z (n * up d * down e)) (over m e a (down d) v.1)
    ∙ ap (λ (z : ℕ). ltb (a * (down e * down d)) z) (over n d b (down e) w.1 ∙ ap (λ (z : ℕ). b * z) (mul_comm (down d) (down e)))
    ∙ ltb_scale a b (down e * down d) (mul-pos (down_pos e) (down_pos d))
lt_val lib.Ieee.nan y a b v w = elim v [ ]
lt_val (lib.Ieee.inf _) y a b v w = elim v [ ]
lt_val (fin false m e) lib.Ieee.nan a b v w = elim w [ ]
lt_val (fin false m e) (lib.Ieee.inf _) a b v w = elim w [ ]

pub whole_lt : (a b : ℕ) → a ≤ 2 ^ 53 → b ≤ 2 ^ 53 → lt (whole a) (whole b) ≡ nat_lt a b
whole_lt a b h g = lt_val (whole a) (whole b) a b (whole_value a h) (whole_value b g)

-- ---- the sum
add_val : (x y : Float) (a b : ℕ) → HasValue x false a 1 → HasValue y false b 1 → add binary64 x y ≡ whole (a + b)
unfolding add sum
add_val (fin true m e) y a b v w = absurd (true≢false v.0)
add_val (fin false m e) (fin true n d) a b v w = absurd (true≢false w.0)
add_val (fin false m e) (fin false n d) a b v w =
    let D = down e * down d in
    round_same binary64 false (m * up e * down d + n * up d * down e) D (a + b) 1 (mul-pos (down_pos e) (down_pos d)) (zero-lt-suc 0)
    (mul-one (m * up e * down d + n * up d * down e)
    ∙ ap (λ (z : ℕ). z + n * up d * down e) (over m e a (down d) v.1)
    ∙ ap (λ (z : ℕ). a * D + z) (over n d b (down e) w.1 ∙ ap (λ (z : ℕ). b * z) (mul_comm (down d) (down e)))
    ∙ sym (add-mul a b D))
    ∙ is_of_int (a + b)
add_val lib.Ieee.nan y a b v w = elim v [ ]
add_val (lib.Ieee.inf _) y a b v w = elim v [ ]
add_val (fin false m e) lib.Ieee.nan a b v w = elim w [ ]
add_val (fin false m e) (lib.Ieee.inf _) a b v w = elim w [ ]

-- (a sum past 2 ^ 53 is the float nearest to it)
pub whole_add : (a b : ℕ) → a ≤ 2 ^ 53 → b ≤ 2 ^ 53 → add binary64 (whole a) (whole b) ≡ whole (a + b)
whole_add a b h g = add_val (whole a) (whole b) a b (whole_value a h) (whole_value b g)
