-- The bit pattern of a number, with one for the NaN. Document 01, "Running": "All NaNs count as one value", "and the listing prints each as
-- 7ff8000000000000". Laws: a number that lies in memory as its pattern is read back, each number has one pattern, and one comparison tells a finite number's
-- (document 02, M-104).
use Rattle.std.specs.Prelude.{◌≡◌, ℕ, zero, suc, ◌+◌, ◌*◌, ◌/◌, ◌%◌, ◌^◌, ◌<◌, Bool, true, false, cond, not, ◌||◌, T, ◌==◌, nat_le, nat_lt, refl, Float}
use Rattle.std.proofs.Common.{sym, ap, ◌∙◌, subst, lt_irrefl, le_antisymm, le_of_suc-le-suc, mod-lt, div-lt_iff_lt-mul, le-div_iff_mul-le, eqb→eq, pow_pos, ltb-true, ltb-false, eq-eqb, ne_eqb}
use Rattle.std.specs.Float.{nan, inf, fin, binary64}
use Rattle.std.specs.Float.Ieee.{prec, low, hid, ones, top, odd, fits, is_nan, nan_bits, of_fields, to_bits, of_bits}
use Rattle.std.specs.Float.Ieee.Bits.{of_bits-to_bits, to_bits-of_bits, of_bits-fits, nan_bits_is}
use Rattle.std.specs.Float.Ieee.Scale.{finite}
use Rattle.numeric.specs.inner.Patterns.{bits_of}

pub bits_nan : bits_of nan ≡ 0x7ff8_0000_0000_0000
unfolding to_bits
bits_nan = refl

pub pattern_back : (x : Float) → T (fits binary64 x) → of_bits binary64 (bits_of x) ≡ x
pattern_back x h = of_bits-to_bits binary64 x h

pub pattern_fits : (n : ℕ) → T (fits binary64 (of_bits binary64 n))
pattern_fits n = of_bits-fits binary64 n

-- two numbers with one pattern are one number
pub pattern_one : (x y : Float) → T (fits binary64 x) → T (fits binary64 y) → bits_of x ≡ bits_of y → x ≡ y
pattern_one x y h g e = sym (pattern_back x h) ∙ ap (of_bits binary64) e ∙ pattern_back y g

-- the patterns that are written: no NaN's, or the one of the NaN
abbrev pub canonical : ℕ → Bool
canonical n = not (nan_bits binary64 n) || n == 0x7ff8_0000_0000_0000

the_nan : bits_of (of_bits binary64 0x7ff8_0000_0000_0000) ≡ 0x7ff8_0000_0000_0000
unfolding to_bits of_bits
the_nan = refl

either : (a b : Bool) (P : Type 0) → (T a → P) → (T b → P) → T (a || b) → P
either true b P f g t = f tt
either false b P f g t = g t

pub canonical_back : (n : ℕ) → n < 2 ^ 64 → T (canonical n) → bits_of (of_bits binary64 n) ≡ n
canonical_back n h =
    either (not (nan_bits binary64 n)) (n == 0x7ff8_0000_0000_0000) (bits_of (of_bits binary64 n) ≡ n)
    (λ t. to_bits-of_bits binary64 n h (subst (λ (b : Bool). T (not b)) (nan_bits_is binary64 n) t))
    (λ t. subst (λ (k : ℕ). bits_of (of_bits binary64 k) ≡ k) (sym (eqb→eq n 0x7ff8_0000_0000_0000 t)) the_nan)

no_nan_pattern : (x : Float) → T (fits binary64 x) → is_nan x ≡ false → T (canonical (bits_of x))
no_nan_pattern x h k = subst (λ (b : Bool). T (not b || bits_of x == 0x7ff8_0000_0000_0000)) (sym (nan_bits_is binary64 (bits_of x) ∙ ap is_nan (pattern_back x h) ∙ k)) tt

pub pattern_canonical : (x : Float) → T (fits binary64 x) → T (canonical (bits_of x))
unfolding to_bits nan_bits is_nan
pattern_canonical nan h = tt
pattern_canonical (inf s) h = no_nan_pattern (inf s) h refl
pattern_canonical (fin s m e) h = no_nan_pattern (fin s m e) h refl

-- a pattern that is stored and not the NaN's is no NaN's
pub stored_no_nan : (n : ℕ) → bits_of (of_bits binary64 n) ≡ n → (n == 0x7ff8_0000_0000_0000) ≡ false → T (not (nan_bits binary64 n))
stored_no_nan n e q =
    let t : T (canonical n) = subst (λ (k : ℕ). T (canonical k)) e (pattern_canonical (of_bits binary64 n) (pattern_fits n)) in
    either (not (nan_bits binary64 n)) (n == 0x7ff8_0000_0000_0000) (T (not (nan_bits binary64 n))) (λ x. x) (λ x. absurd (subst T q x)) t

pub no_nan_canonical : (n : ℕ) → n < 2 ^ 64 → T (not (nan_bits binary64 n)) → bits_of (of_bits binary64 n) ≡ n
no_nan_canonical n h t = canonical_back n h (left (not (nan_bits binary64 n)) (n == 0x7ff8_0000_0000_0000) t)
  where
    left : (a b : Bool) → T a → T (a || b)
    left true b x = tt
    left false b x = absurd x

-- ---- a finite number's pattern

finite_odd : (d : ℕ) (s : Bool) (q k l : ℕ) → finite (odd d s q k l) ≡ true
unfolding odd
finite_odd d s zero k l = refl
finite_odd d s (suc q) k l = refl

-- by the two tests that `of_fields` makes
finite_cases : (a b s : Bool) (v : Float) → finite v ≡ true → finite (cond a (cond b (inf s) nan) v) ≡ not a
finite_cases true true s v h = refl
finite_cases true false s v h = refl
finite_cases false b s v h = h

-- the exponent's field x is not all ones
finite_fields : (s : Bool) (x t : ℕ) → finite (of_fields binary64 s x t) ≡ not (x == ones binary64)
unfolding of_fields
finite_fields s zero t = finite_odd (prec binary64) s t 0 (low binary64)
finite_fields s (suc x) t =
    finite_cases (suc x == ones binary64) (t == 0) s (odd (prec binary64) s (hid binary64 + t) x (low binary64))
    (finite_odd (prec binary64) s (hid binary64 + t) x (low binary64))

-- a number below (o + 1) * h has o as its leading digit exactly where it is not below o * h
leading_digit : (p h o : ℕ) → 0 < h → p < suc o * h → not (p / h == o) ≡ nat_lt p (o * h)
leading_digit p h o H l = by_test (nat_lt p (o * h)) refl
  where
    by_test : (b : Bool) → nat_lt p (o * h) ≡ b → not (p / h == o) ≡ b
    by_test true e =
        let k : p / h < o = (div-lt_iff_lt-mul H).1 (ltb-true p (o * h) e) in
        ap not (ne_eqb (p / h) o (λ q. lt_irrefl o (subst (λ (x : ℕ). x < o) q k)))
    by_test false e =
        ap not (eq-eqb (p / h) o (le_antisymm (le_of_suc-le-suc ((div-lt_iff_lt-mul H).1 l)) ((le-div_iff_mul-le H).1 (ltb-false p (o * h) e))))

-- the pattern of a number, without its sign, is below an infinity's exactly where IEEE 754 has a finite number of it
pub finite_pattern : (n : ℕ) → finite (of_bits binary64 n) ≡ nat_lt (n % 2 ^ 63) 0x7ff0_0000_0000_0000
unfolding of_bits
finite_pattern n =
    finite_fields (nat_le (top binary64) n) (n % top binary64 / hid binary64) (n % hid binary64)
    ∙ leading_digit (n % top binary64) (hid binary64) (ones binary64) (pow_pos 52) (mod-lt n (pow_pos 63))
