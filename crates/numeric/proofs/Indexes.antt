-- A number as an index: by its value, by way of another number, below the range, in it and past it.
use Rattle.std.proofs.Common.{◌≡◌, ℕ, suc, ◌+◌, ◌-◌, ◌*◌, ◌/◌, ◌%◌, ◌^◌, ◌<◌, ◌≤◌, min, Bool, true, false, cond, not, ◌&&◌, T, eqb, ltb, ℤ, pos, negsuc, sym, refl, ap, ◌∙◌, subst, ap₂, true≢false, lt_of_lt_of_le, zero-lt-suc, mul-pos, lt_of_not-le, div-add-mod', le-div_iff_mul-le, zero-mul, mul-one, mul_right_comm, div-one, le-add_left, arith, eqb→eq, ltb→lt, lt→ltb, nltb→le, T_not, pow_pos, le-ltb, eq-eqb, ne_eqb}
use native.Mathlib.Nat.{eq_of_mul-eq-mul_right}
use mathlib.Core.Option.{Option, none, some}
use lib.Ieee.{Float, nan, inf, fin, binary64, up, down, lt, eq, round, sum, add, fits, to_unsigned}
use lib.Ieee.Fits.{up_pos, down_pos, and_l, and_r}
use lib.Ieee.Exact.{HasValue}
use Rattle.numeric.specs.Index.{index_of, whole_quotient}
use Rattle.numeric.specs.Whole.{whole}
use Rattle.numeric.specs.inner.OrMax.{or_max}
use Rattle.numeric.proofs.laws.IndexLaws.{quotient_whole, quotient_only, index_largest}
use Rattle.numeric.specs.laws.WholeLaws.{whole_value}
use Rattle.numeric.specs.laws.Exact.{held, round_own}

zero_left : (a d : ℕ) → 0 < d → a * d ≡ 0 → a ≡ 0
zero_left a d D h = eq_of_mul-eq-mul_right d D a 0 (h ∙ sym (zero-mul d))

-- ---- the index is the value's, however the number is written

module _ (p d a c : ℕ) (D : 0 < d) (C : 0 < c) (h : p * c ≡ a * d) where
  quotient_follows : (n : ℕ) → whole_quotient a c ≡ some n → whole_quotient p d ≡ some n
  quotient_follows n e =
      let q = quotient_only a c n e in
      quotient_whole p d n D (eq_of_mul-eq-mul_right c C p (n * d) (h ∙ ap (λ (z : ℕ). z * d) q.0 ∙ mul_right_comm n c d)) q.1

quotient_same : (p d a c : ℕ) → 0 < d → 0 < c → p * c ≡ a * d → whole_quotient p d ≡ whole_quotient a c
quotient_same p d a c D C h = go (whole_quotient p d) (whole_quotient a c) (quotient_follows a c p d C D (sym h)) (quotient_follows p d a c D C h)
  where
    go : (o u : Option ℕ) → ((n : ℕ) → o ≡ some n → u ≡ some n) → ((n : ℕ) → u ≡ some n → o ≡ some n) → o ≡ u
    go none none f g = refl
    go none (some n) f g = g n refl
    go (some n) u f g = sym (f n refl)

index_plus : (r : Float) (a c : ℕ) → 0 < c → HasValue r false a c → index_of r ≡ whole_quotient a c
unfolding index_of
index_plus (fin true m e) a c C v = absurd (true≢false v.0)
index_plus (fin false m e) a c C v = quotient_same (m * up e) (down e) a c (down_pos e) C v.1
index_plus nan a c C v = elim v [ ]
index_plus (inf _) a c C v = elim v [ ]

index_minus : (r : Float) (a c : ℕ) → 0 < a → HasValue r true a c → index_of r ≡ none
unfolding index_of
index_minus (fin false m e) a c A v = absurd (true≢false (sym v.0))
index_minus (fin true m e) a c A v = rw (ne_eqb m 0 (λ z. no (zero_left a (down e) (down_pos e) (sym v.1 ∙ ap (λ (y : ℕ). y * up e * c) z ∙ ap (λ (y : ℕ). y * c) (zero-mul (up e)) ∙ zero-mul c))))
  where
    no : a ≡ 0 → ⊥
    no z = omega (arith, z, A)
index_minus nan a c A v = elim v [ ]
index_minus (inf _) a c A v = elim v [ ]

-- ---- of a number to which 0 was added

minus_some : (m : ℕ) (e : ℤ) (b : Bool) → T (fits binary64 (fin true m e)) → (T b → 0 < m * up e) → (T (not b) → m * up e ≡ 0) → index_of (round binary64 b (m * up e) (down e)) ≡ cond (eqb m 0) (some 0) none
minus_some m e true h y z = index_minus (round binary64 true (m * up e) (down e)) (m * up e) (down e) (y tt) (round_own binary64 true true m e h) ∙ sym (rw (ne_eqb m 0 no))
  where
    no : m ≡ 0 → ⊥
    no q = omega (arith, y tt, ap (λ (x : ℕ). x * up e) q ∙ zero-mul (up e))
minus_some m e false h y z =
    index_plus (round binary64 false (m * up e) (down e)) (m * up e) (down e) (down_pos e) (round_own binary64 true false m e h)
    ∙ quotient_whole (m * up e) (down e) 0 (down_pos e) (z tt ∙ sym (zero-mul (down e))) (omega arith)
    ∙ sym (rw (eq-eqb m 0 (zero_left m (up e) (up_pos e) (z tt))))

sum_minus : (a c : ℕ) → sum binary64 true a false 0 c ≡ round binary64 (ltb 0 a) a c
unfolding sum
sum_minus a c = go (ltb a 0) (ltb→lt a 0) (a - 0) (omega arith)
  where
    go : (t : Bool) → (T t → a < 0) → (z : ℕ) → z ≡ a → cond t (round binary64 false (0 - a) c) (round binary64 (ltb 0 a) z c) ≡ round binary64 (ltb 0 a) a c
    go true g z q = absurd (omega (arith, g tt))
    go false g z q = ap (λ (y : ℕ). round binary64 (ltb 0 a) y c) q

sum_plus : (a b c : ℕ) → sum binary64 false a false b c ≡ round binary64 false (a + b) c
unfolding sum
sum_plus a b c = refl

pub index_zero : (x : Float) → T (fits binary64 x) → index_of (add binary64 x (fin false 0 (pos 0))) ≡ index_of x
unfolding add index_of
index_zero nan h = refl
index_zero (inf true) h = refl
index_zero (inf false) h = refl
index_zero (fin true m e) h =
    ap index_of (ap₂ (λ (a c : ℕ). sum binary64 true a false (0 * 1 * down e) c) (mul-one (m * up e)) (mul-one (down e)) ∙ ap (λ (z : ℕ). sum binary64 true (m * up e) false z (down e)) (zero-mul (down e)) ∙ sum_minus (m * up e) (down e))
    ∙ minus_some m e (ltb 0 (m * up e)) h (ltb→lt 0 (m * up e)) (λ t. omega (arith, nltb→le 0 (m * up e) t))
index_zero (fin false m e) h =
    ap index_of (sum_plus (m * up e * 1) (0 * 1 * down e) (down e * 1) ∙ ap₂ (round binary64 false) (plus (m * up e) (0 * 1 * down e) (zero-mul (down e))) (mul-one (down e)))
    ∙ index_plus (round binary64 false (m * up e) (down e)) (m * up e) (down e) (down_pos e) (round_own binary64 false false m e h)
  where
    plus : (a z : ℕ) → z ≡ 0 → a * 1 + z ≡ a
    plus a z g = omega arith

-- ---- of a number that equals a whole one

equal_value : (r x : Float) (n : ℕ) → n ≤ 2 ^ 53 → HasValue r false n 1 → eq r x ≡ true → index_of x ≡ some n
unfolding eq index_of
equal_value (fin true m e) x n h v q = absurd (true≢false v.0)
equal_value (fin false m e) nan n h v q = absurd (true≢false (sym q))
equal_value (fin false m e) (inf s) n h v q = absurd (true≢false (sym q))
equal_value (fin false m e) (fin true k d) n h v q =
    let t : T (eqb (m * up e * down d) (k * up d * down e) && eqb (m * up e * down d) 0) = subst T (sym q) tt in
    let a : m * up e * down d ≡ k * up d * down e = eqb→eq (m * up e * down d) (k * up d * down e) (and_l (eqb (m * up e * down d) (k * up d * down e)) (eqb (m * up e * down d) 0) t) in
    let z : m * up e * down d ≡ 0 = eqb→eq (m * up e * down d) 0 (and_r (eqb (m * up e * down d) (k * up d * down e)) (eqb (m * up e * down d) 0) t) in
    let k_none : k ≡ 0 = zero_left k (up d) (up_pos d) (zero_left (k * up d) (down e) (down_pos e) (sym a ∙ z)) in
    let m_none : m * up e ≡ 0 = zero_left (m * up e) (down d) (down_pos d) z in
    let n_none : n ≡ 0 = zero_left n (down e) (down_pos e) (sym v.1 ∙ mul-one (m * up e) ∙ m_none) in
    rw (eq-eqb k 0 k_none) (ap some (sym n_none))
equal_value (fin false m e) (fin false k d) n h v q =
    let z = eqb→eq (m * up e * down d) (k * up d * down e) (and_l (eqb (m * up e * down d) (k * up d * down e)) true (subst T (sym q) tt)) in
    quotient_whole (k * up d) (down d) n (down_pos d) (eq_of_mul-eq-mul_right (down e) (down_pos e) (k * up d) (n * down d) (same z)) (omega arith)
  where
    same : m * up e * down d ≡ k * up d * down e → k * up d * down e ≡ n * down d * down e
    same z = sym z ∙ ap (λ (y : ℕ). y * down d) (sym (mul-one (m * up e)) ∙ v.1) ∙ mul_right_comm n (down e) (down d)
equal_value nan x n h v q = elim v [ ]
equal_value (inf _) x n h v q = elim v [ ]

pub index_equal : (x : Float) (n : ℕ) → n ≤ 2 ^ 53 → eq (whole n) x ≡ true → index_of x ≡ some n
index_equal x n h q = equal_value (whole n) x n h (whole_value n h) q

-- ---- of one that does not equal itself without its fraction

other_value : (r x : Float) (n : ℕ) → HasValue r false n 1 → n ≡ to_unsigned 64 x → n ≤ 2 ^ 53 → eq r x ≡ false → index_of x ≡ none
unfolding eq index_of to_unsigned
other_value (fin true m e) x n v t h q = absurd (true≢false v.0)
other_value (fin false m e) nan n v t h q = refl
other_value (fin false m e) (inf s) n v t h q = refl
other_value (fin false m e) (fin true k d) n v t h q = rw (ne_eqb k 0 (λ z. true≢false (sym (yes z) ∙ q)))
  where
    yes : k ≡ 0 → (eqb (m * up e * down d) (k * up d * down e) && eqb (m * up e * down d) 0) ≡ true
    yes z =
        let w : m * up e * down d ≡ 0 = ap (λ (y : ℕ). y * down d) (sym (mul-one (m * up e)) ∙ v.1 ∙ ap (λ (y : ℕ). y * down e) t ∙ zero-mul (down e)) ∙ zero-mul (down d) in
        let u : k * up d * down e ≡ 0 = ap (λ (y : ℕ). y * up d * down e) z ∙ ap (λ (y : ℕ). y * down e) (zero-mul (up d)) ∙ zero-mul (down e) in
        rw (w, u)
other_value (fin false m e) (fin false k d) n v t h q = rw (ne_eqb (k * up d % down d) 0 (λ z. true≢false (sym (yes z) ∙ q)))
  where
    cut_is : n ≡ k * up d / down d
    cut_is = omega (arith, t)

    yes : k * up d % down d ≡ 0 → (eqb (m * up e * down d) (k * up d * down e) && true) ≡ true
    yes z =
        let w : k * up d ≡ n * down d = sym (div-add-mod' (k * up d) (down d)) ∙ ap₂ (λ (a b : ℕ). a * down d + b) (sym cut_is) z ∙ omega arith in
        let u : m * up e * down d ≡ k * up d * down e = ap (λ (y : ℕ). y * down d) (sym (mul-one (m * up e)) ∙ v.1) ∙ mul_right_comm n (down e) (down d) ∙ ap (λ (y : ℕ). y * down e) (sym w) in
        rw (eq-eqb (m * up e * down d) (k * up d * down e) u)
other_value nan x n v t h q = elim v [ ]
other_value (inf _) x n v t h q = elim v [ ]

pub index_other : (x : Float) (n : ℕ) → n ≡ to_unsigned 64 x → n ≤ 2 ^ 53 → eq (whole n) x ≡ false → index_of x ≡ none
index_other x n t h q = other_value (whole n) x n (whole_value n h) t h q

-- ---- ranges

above : (a b k : ℕ) → 0 < b → 0 < k → 0 < a + k * b
above a b k B K = lt_of_lt_of_le (mul-pos K B) (le-add_left (k * b) a)

-- a number below 2^53, cut, is at most 2^53
pub cut_small : (x : Float) → T (lt x (fin false 1 (pos 53))) → to_unsigned 64 x ≤ 2 ^ 53
unfolding lt to_unsigned
cut_small nan k = absurd k
cut_small (inf true) k = omega arith
cut_small (inf false) k = absurd k
cut_small (fin true m e) k = omega arith
cut_small (fin false m e) k = let l = ltb→lt (m * up e * 1) (9007199254740992 * down e) k in omega (arith, below (m * up e) (down e) (down_pos e) (subst (λ (z : ℕ). z < 9007199254740992 * down e) (mul-one (m * up e)) l))
  where
    below : (a c : ℕ) → 0 < c → a < 9007199254740992 * c → a / c < 9007199254740992
    below a c C h = lt_of_not-le (λ (g : 9007199254740992 ≤ a / c). omega (arith, (le-div_iff_mul-le C).0 g, h))

pub lt_more : (x : Float) → T (lt x (fin false 1 (pos 53))) → T (lt x (fin false 1 (pos 64)))
unfolding lt
lt_more nan k = k
lt_more (inf true) k = k
lt_more (inf false) k = k
lt_more (fin true m e) k = lt→ltb 0 (m * up e * 1 + 18446744073709551616 * down e) (above (m * up e * 1) (down e) 18446744073709551616 (down_pos e) (zero-lt-suc 18446744073709551615))
lt_more (fin false m e) k = lt→ltb (m * up e * 1) (18446744073709551616 * down e) (wider (m * up e * 1) (down e) (ltb→lt (m * up e * 1) (9007199254740992 * down e) k))
  where
    wider : (a b : ℕ) → a < 9007199254740992 * b → a < 18446744073709551616 * b
    wider a b h = omega arith

-- from 2^53 on every number is whole
pub index_between : (x : Float) → T (fits binary64 x) → T (not (lt x (fin false 1 (pos 53)))) → T (lt x (fin false 1 (pos 64))) → index_of x ≡ some (to_unsigned 64 x)
unfolding lt to_unsigned index_of
index_between nan f h k = absurd k
index_between (inf true) f h k = absurd h
index_between (inf false) f h k = absurd k
index_between (fin true m e) f h k =
    absurd (T_not (ltb 0 (m * up e * 1 + 9007199254740992 * down e)) h (lt→ltb 0 (m * up e * 1 + 9007199254740992 * down e) (above (m * up e * 1) (down e) 9007199254740992 (down_pos e) (zero-lt-suc 9007199254740991))))
index_between (fin false m (pos i)) f h k =
    let l = ltb→lt (m * 2 ^ i * 1) (18446744073709551616 * 1) k in
    let d = div-one (m * 2 ^ i) in
    quotient_whole (m * 2 ^ i) 1 (min (m * 2 ^ i / 1) (2 ^ 64 - 1)) (zero-lt-suc 0) (omega (arith, d, l)) (omega arith)
index_between (fin false m (negsuc i)) f h k =
    absurd (few m (2 ^ suc i) (held binary64 false m (negsuc i) f).0 (nltb→le (m * 1 * 1) (9007199254740992 * 2 ^ suc i) h) (pow_pos (suc i)))
  where
    few : (m c : ℕ) → m < 9007199254740992 → 9007199254740992 * c ≤ m * 1 * 1 → 0 < c → ⊥
    few m c g h C = omega arith

and_none : (b : Bool) (n : ℕ) → cond (b && false) (some n) none ≡ none
and_none true n = refl
and_none false n = refl

-- 2^64 and above
pub index_past : (x : Float) → T (not (lt x (fin false 1 (pos 64)))) → index_of x ≡ none
unfolding lt index_of
index_past nan k = refl
index_past (inf s) k = refl
index_past (fin true m e) k = absurd (T_not (ltb 0 (m * up e * 1 + 18446744073709551616 * down e)) k (lt→ltb 0 (m * up e * 1 + 18446744073709551616 * down e) (above (m * up e * 1) (down e) 18446744073709551616 (down_pos e) (zero-lt-suc 18446744073709551615))))
index_past (fin false m e) k =
    let h : 2 ^ 64 ≤ m * up e / down e = (le-div_iff_mul-le (down_pos e)).1 (subst (λ (z : ℕ). 2 ^ 64 * down e ≤ z) (mul-one (m * up e)) (nltb→le (m * up e * 1) (18446744073709551616 * down e) k)) in
    rw (le-ltb (m * up e / down e) (2 ^ 64) h) (and_none (eqb (m * up e % down e) 0) (m * up e / down e))

-- a NaN, and -1 and below
pub index_before : (x : Float) → T (not (lt (fin true 1 (pos 0)) x)) → index_of x ≡ none
unfolding lt index_of
index_before nan k = refl
index_before (inf s) k = refl
index_before (fin true m e) k = rw (ne_eqb m 0 (λ z. no z (nltb→le (m * up e * 1) (1 * down e) k)))
  where
    no : m ≡ 0 → 1 * down e ≤ m * up e * 1 → ⊥
    no z h = let q : m * up e ≡ 0 = ap (λ (y : ℕ). y * up e) z ∙ zero-mul (up e) in let p = down_pos e in omega (arith, p, q, h)
index_before (fin false m e) k = absurd (T_not (ltb 0 (1 * down e + m * up e * 1)) k (lt→ltb 0 (1 * down e + m * up e * 1) (over (m * up e * 1) (down e) (down_pos e))))
  where
    over : (a b : ℕ) → 0 < b → 0 < 1 * b + a
    over a b h = omega arith

-- ---- as one number of 64 bits

pub max_none : (x : Float) → T (fits binary64 x) → {n : ℕ} → n ≡ or_max (index_of x) → n ≡ 18446744073709551615 → index_of x ≡ none
max_none x f {n} e h = go (index_of x) refl
  where
    go : (o : Option ℕ) → index_of x ≡ o → index_of x ≡ none
    go none q = q
    go (some k) q = absurd (omega (arith, index_largest x k f q, sym h ∙ e ∙ ap or_max q))

pub max_some : (o : Option ℕ) {n : ℕ} → n ≡ or_max o → (n ≡ 18446744073709551615 → ⊥) → o ≡ some n
max_some none e h = absurd (h e)
max_some (some k) e h = ap some (sym e)
