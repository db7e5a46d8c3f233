-- Laws of the index from a number, document 02, M-103. The numbers with an index are minus zero and the whole numbers from 0 up to below 2^64, and no others
-- (`index_only`, `index_every`); no number of binary64 has an index above 18446744073709549568 (`index_largest`); a whole number up to 2^53 is its own index
-- (`index_whole`).
use Rattle.std.specs.Prelude.{◌≡◌, ℕ, suc, ◌+◌, ◌-◌, ◌*◌, ◌/◌, ◌%◌, ◌^◌, ◌<◌, ◌≤◌, Bool, true, false, cond, not, ◌&&◌, T, ◌⊎◌, pos, negsuc, ◌==◌, nat_lt, refl, Float, Option as Told, Some, None}
use Rattle.std.proofs.Common.{sym, ap, ap₂, ◌∙◌, subst, true≢false, inl, inr, mul-one, zero-mul, mul_assoc, mul-div_cancel, div-add-mod', mul-le-mul_left, arith, eq-eqb, lt-ltb, eqb→eq, ltb→lt, nltb→le, pow-add, pow_pos}
use Rattle.std.proofs.Math.Option.{Option, none, some, none-ne-some, some-injective}
use Rattle.std.proofs.Math.Nat.{mul-mod_left, eq_of_mul-eq-mul_right}
use Rattle.std.proofs.Math.Pow.{pow-lt}
use Rattle.std.specs.Float.{nan, inf, fin, binary64}
use Rattle.std.specs.Float.Ieee.{up, down, fits}
use Rattle.std.specs.Float.Ieee.Fits.{up_pos, down_pos}
use Rattle.std.specs.Float.Ieee.Exact.{HasValue}
use Rattle.numeric.specs.Index.{index_of, index_told, whole_quotient}
use Rattle.numeric.specs.Whole.{whole}
use Rattle.numeric.specs.laws.WholeLaws.{whole_value}
use Rattle.numeric.specs.laws.Exact.{held}

-- ---- a quotient that is whole and below 2^64, and no other

pub quotient_whole : (a c n : ℕ) → 0 < c → a ≡ n * c → n < 2 ^ 64 → whole_quotient a c ≡ some n
quotient_whole a c n C e h =
    let z : a % c ≡ 0 = ap (λ (x : ℕ). x % c) e ∙ mul-mod_left n c in
    let q : a / c ≡ n = ap (λ (x : ℕ). x / c) e ∙ mul-div_cancel n C in
    rw (q, z, lt-ltb n (2 ^ 64) h)

pub quotient_only : (a c n : ℕ) → whole_quotient a c ≡ some n → (a ≡ n * c) × (n < 2 ^ 64)
quotient_only a c n h = go (a % c == 0) (nat_lt (a / c) (2 ^ 64)) (eqb→eq (a % c) 0) (ltb→lt (a / c) (2 ^ 64)) h
  where
    go : (p q : Bool) → (T p → a % c ≡ 0) → (T q → a / c < 2 ^ 64) → cond (p && q) (some (a / c)) none ≡ some n → (a ≡ n * c) × (n < 2 ^ 64)
    go true true z l e =
        let k : a / c ≡ n = some-injective (a / c) n e in
        (sym (div-add-mod' a c) ∙ ap₂ (λ (x y : ℕ). x * c + y) k (z tt) ∙ omega arith, subst (λ (x : ℕ). x < 2 ^ 64) k (l tt))
    go true false z l e = absurd (none-ne-some n e)
    go false q z l e = absurd (none-ne-some n e)

-- ---- the numbers with an index

pub index_value : (x : Float) (n : ℕ) → n < 2 ^ 64 → HasValue x false n 1 → index_of x ≡ some n
unfolding index_of
index_value (fin true m e) n h v = absurd (true≢false v.0)
index_value (fin false m e) n h v = quotient_whole (m * up e) (down e) n (down_pos e) (sym (mul-one (m * up e)) ∙ v.1) h
index_value nan n h v = elim v [ ]
index_value (inf _) n h v = elim v [ ]

minus_zero : (x : Float) → HasValue x true 0 1 → index_of x ≡ some 0
unfolding index_of
minus_zero (fin true m e) v =
    let z : m ≡ 0 = eq_of_mul-eq-mul_right (up e) (up_pos e) m 0 (sym (mul-one (m * up e)) ∙ v.1 ∙ zero-mul (down e) ∙ sym (zero-mul (up e))) in
    rw (eq-eqb m 0 z)
minus_zero (fin false m e) v = absurd (true≢false (sym v.0))
minus_zero nan v = elim v [ ]
minus_zero (inf _) v = elim v [ ]

-- where there is an index n, the number is minus zero and n is 0, or it is exactly the whole number n (0 for plus zero), below 2^64
pub index_only : (x : Float) (n : ℕ) → index_of x ≡ some n → (HasValue x true 0 1 × (n ≡ 0)) ⊎ (HasValue x false n 1 × (n < 2 ^ 64))
unfolding index_of
index_only nan n h = absurd (none-ne-some n h)
index_only (inf s) n h = absurd (none-ne-some n h)
index_only (fin true m e) n h = go (m == 0) (eqb→eq m 0) h
  where
    go : (b : Bool) → (T b → m ≡ 0) → cond b (some 0) none ≡ some n → (HasValue (fin true m e) true 0 1 × (n ≡ 0)) ⊎ (HasValue (fin true m e) false n 1 × (n < 2 ^ 64))
    go true z k = inl ((refl, mul-one (m * up e) ∙ ap (λ (y : ℕ). y * up e) (z tt) ∙ zero-mul (up e) ∙ sym (zero-mul (down e))), sym (some-injective 0 n k))
    go false z k = absurd (none-ne-some n k)
index_only (fin false m e) n h = let q = quotient_only (m * up e) (down e) n h in inr ((refl, mul-one (m * up e) ∙ q.0), q.1)

pub index_below : (x : Float) (n : ℕ) → index_of x ≡ some n → n < 2 ^ 64
index_below x n h = go (index_only x n h)
  where
    go : (HasValue x true 0 1 × (n ≡ 0)) ⊎ (HasValue x false n 1 × (n < 2 ^ 64)) → n < 2 ^ 64
    go (inl z) = omega (arith, z.1)
    go (inr v) = v.1

-- and every such number has it
pub index_every : (x : Float) (n : ℕ) → (HasValue x true 0 1 × (n ≡ 0)) ⊎ (HasValue x false n 1 × (n < 2 ^ 64)) → index_of x ≡ some n
index_every x n (inl h) = minus_zero x h.0 ∙ ap some (sym h.1)
index_every x n (inr h) = index_value x n h.1 h.0

-- a whole number up to 2^53, as a loop counts
pub index_whole : (n : ℕ) → n ≤ 2 ^ 53 → index_of (whole n) ≡ some n
index_whole n h = index_value (whole n) n (omega arith) (whole_value n h)

-- ---- the largest: a number of 53 digits from 2^53 on is even, from 2^63 on a multiple of 2,048

few_digits : (m i n : ℕ) → m < 2 ^ 53 → i < 11 → n ≡ m * 2 ^ i → n ≤ 18446744073709549568
few_digits m i n h l e = let p : 2 ^ i < 2048 = pow-lt l in let q : m * 2 ^ i ≤ m * 2047 = mul-le-mul_left m (omega (arith, p)) in omega (arith, q, e, h)

many_digits : (m i n : ℕ) → 11 ≤ i → n ≡ m * 2 ^ i → n < 2 ^ 64 → n ≤ 18446744073709549568
many_digits m i n l e h =
    let p : m * 2 ^ i ≡ m * 2 ^ (i - 11) * 2048 = ap (λ (k : ℕ). m * 2 ^ k) (omega (arith, l)) ∙ ap (λ (z : ℕ). m * z) (pow-add 2 (i - 11) 11) ∙ sym (mul_assoc m (2 ^ (i - 11)) 2048) in
    omega (arith, p, e, h)

largest : (x : Float) (n : ℕ) → T (fits binary64 x) → HasValue x false n 1 → n < 2 ^ 64 → n ≤ 18446744073709549568
largest (fin s m (pos i)) n f v h = go (nat_lt i 11) (ltb→lt i 11) (nltb→le i 11)
  where
    is : n ≡ m * 2 ^ i
    is = sym (mul-one n) ∙ sym v.1 ∙ mul-one (m * 2 ^ i)

    go : (b : Bool) → (T b → i < 11) → (T (not b) → 11 ≤ i) → n ≤ 18446744073709549568
    go true l g = few_digits m i n (held binary64 s m (pos i) f).0 (l tt) is
    go false l g = many_digits m i n (g tt) is h
largest (fin s m (negsuc i)) n f v h =
    let q : n * 1 ≤ n * 2 ^ suc i = mul-le-mul_left n (pow_pos (suc i)) in
    omega (arith, q, v.1, (held binary64 s m (negsuc i) f).0)
largest nan n f v h = elim v [ ]
largest (inf _) n f v h = elim v [ ]

pub index_largest : (x : Float) (n : ℕ) → T (fits binary64 x) → index_of x ≡ some n → n ≤ 18446744073709549568
index_largest x n f h = go (index_only x n h)
  where
    go : (HasValue x true 0 1 × (n ≡ 0)) ⊎ (HasValue x false n 1 × (n < 2 ^ 64)) → n ≤ 18446744073709549568
    go (inl z) = omega (arith, z.1)
    go (inr v) = largest x n f v.0 v.1

-- ---- as the program holds it

abbrev index_from : Told ℕ → Option ℕ
index_from (Some k) = some k
index_from None = none

index_back : (o : Option ℕ) → index_from (index_told o) ≡ o
index_back none = refl
index_back (some k) = refl

pub told_at : (o : Option ℕ) {i : Told ℕ} {k : ℕ} → i ≡ index_told o → i ≡ Some k → o ≡ some k
told_at o e g = sym (index_back o) ∙ ap index_from (sym e ∙ g)

pub told_none : (o : Option ℕ) {i : Told ℕ} → i ≡ index_told o → i ≡ None → o ≡ none
told_none o e g = sym (index_back o) ∙ ap index_from (sym e ∙ g)
