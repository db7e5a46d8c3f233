-- Laws of the remainder (document 01, "Running", on `%`): the relation fixes its answer (`remainder_one`), the computed remainder meets it (`modu_exact`), and so does a number whose
-- value is the remainder of two whole numbers that are the dividend and the divisor in one unit (`remainder_of_values`).
use Rattle.std.specs.Prelude.{◌≡◌, ℕ, zero, suc, ◌+◌, ◌-◌, ◌*◌, ◌/◌, ◌%◌, ◌^◌, ◌<◌, ◌≤◌, Bool, true, false, cond, not, ◌&&◌, T, leb, ℤ, pos, negsuc, ◌≢◌, nat_eq, nat_le, nat_lt, refl, Float}
use Rattle.std.proofs.Common.{sym, ap, ◌∙◌, subst, le_of_suc-le-suc, lt_of_not-le, lt_irrefl, lt_of_lt_of_le, lt_of_le_of_lt, le_of_lt, mul-one, one-mul, zero-mul, mul_comm, mul_assoc, mul_right_comm, add-mul, mul-pos, mul-lt-mul_of_pos_right, lt_of_mul-lt-mul_right, mod-lt, div-add-mod', zero-lt-suc, arith, leb→le, ltb→lt, eqb→eq, pow-add, pow_pos}
use Rattle.std.proofs.Math.Nat.{eq_of_mul-eq-mul_right, mod-le, mod-eq-sub-div-mul, pow-succ'}
use Rattle.std.proofs.Math.Dec.{nleb→lt, eqb-suc-zero}
use Rattle.std.proofs.Math.Arith.{digits_mod}
use Rattle.std.proofs.Math.Pow.{pow-lt}
use Rattle.std.specs.Float.{nan, inf, fin, Format, binary64}
use Rattle.std.specs.Float.Ieee.{prec, emax, low, up, down, size, hid, top, round, rem, fits, to_bits}
use Rattle.std.specs.Float.Ieee.Digits.{back}
use Rattle.std.specs.Float.Ieee.Fits.{and_l, and_r, up_pos, down_pos, round-fits}
use Rattle.std.specs.Float.Ieee.Exact.{HasValue, round_exact}
use Rattle.std.specs.Float.Ieee.Nearest.{div_same}
use Rattle.numeric.specs.laws.PatternLaws.{pattern_one}
use Rattle.numeric.specs.Remainder.{Remainder, modu}

-- ---- a number is written in one way

-- the pattern is made of the sign and the size alone
pattern_same : (s : Bool) (m n : ℕ) (e d : ℤ) → m * up e * down d ≡ n * up d * down e → to_bits binary64 (fin s m e) ≡ to_bits binary64 (fin s n d)
unfolding to_bits
pattern_same s m n e d h =
    ap (λ (z : ℕ). cond s (top binary64) 0 + (size z - prec binary64) * hid binary64 + z / 2 ^ (size z - prec binary64))
    (div_same (m * up e * 2 ^ low binary64) (down e) (n * up d * 2 ^ low binary64) (down d) (down_pos e) (down_pos d)
    (mul_right_comm (m * up e) (2 ^ low binary64) (down d) ∙ ap (λ (z : ℕ). z * 2 ^ low binary64) h ∙ mul_right_comm (n * up d) (down e) (2 ^ low binary64)))

cross : (x y p q a c : ℕ) → 0 < c → x * c ≡ a * p → y * c ≡ a * q → x * q ≡ y * p
cross x y p q a c C h g =
    eq_of_mul-eq-mul_right c C (x * q) (y * p)
    (mul_right_comm x q c ∙ ap (λ (z : ℕ). z * q) h ∙ mul_right_comm a p q ∙ ap (λ (z : ℕ). z * p) (sym g) ∙ mul_right_comm y c p)

pub value_one : (x y : Float) (s : Bool) (a c : ℕ) → 0 < c → T (fits binary64 x) → T (fits binary64 y) → HasValue x s a c → HasValue y s a c → x ≡ y
value_one (fin t m e) (fin u n d) s a c C h g v w =
    pattern_one (fin t m e) (fin u n d) h g
    (ap (λ (b : Bool). to_bits binary64 (fin b m e)) (v.0 ∙ sym w.0) ∙ pattern_same u m n e d (cross (m * up e) (n * up d) (down e) (down d) a c C v.1 w.1))
value_one nan y s a c C h g v w = elim v [ ]
value_one (inf _) y s a c C h g v w = elim v [ ]
value_one (fin t m e) nan s a c C h g v w = elim w [ ]
value_one (fin t m e) (inf _) s a c C h g v w = elim w [ ]

pub remainder_one : (a b r q : Float) → Remainder a b r → Remainder a b q → r ≡ q
remainder_one nan b r q h g = h ∙ sym g
remainder_one (inf s) b r q h g = h ∙ sym g
remainder_one (fin s m e) nan r q h g = h ∙ sym g
remainder_one (fin s m e) (inf t) r q h g = h ∙ sym g
remainder_one (fin s m e) (fin t zero d) r q h g = h ∙ sym g
remainder_one (fin s m e) (fin t (suc n) d) r q h g =
    let x = m * up e * down d in
    let y = suc n * up d * down e in
    value_one r q s (x - x / y * y) (down e * down d) (mul-pos (down_pos e) (down_pos d)) h.0 g.0 h.1 g.1

-- ---- the remainder in another unit

pub mod_scale : (x y c : ℕ) → 0 < y → 0 < c → x * c % (y * c) ≡ x % y * c
mod_scale x y c Y C =
    ap (λ (z : ℕ). z % (y * c)) (ap (λ (z : ℕ). z * c) (sym (div-add-mod' x y)) ∙ add-mul (x / y * y) (x % y) c ∙ ap (λ (z : ℕ). z + x % y * c) (mul_assoc (x / y) y c))
    ∙ digits_mod (x / y) (mul-lt-mul_of_pos_right (mod-lt x Y) C)

-- the numbers m * 2 ^ e and n * 2 ^ d are A / L and B / L
module _ (m n : ℕ) (e d : ℤ) (A B L : ℕ) (P : 0 < n) (Q : 0 < B) (Lp : 0 < L) (a : m * up e * L ≡ A * down e) (b : n * up d * L ≡ B * down d) where
  other_unit : m * up e * down d % (n * up d * down e) * L ≡ A % B * (down e * down d)
  other_unit =
      let D = down e * down d in
      let X = m * up e * down d in
      let Y = n * up d * down e in
      let x_is : X * L ≡ A * D = mul_right_comm (m * up e) (down d) L ∙ ap (λ (z : ℕ). z * down d) a ∙ mul_assoc A (down e) (down d) in
      let y_is : Y * L ≡ B * D = mul_right_comm (n * up d) (down e) L ∙ ap (λ (z : ℕ). z * down e) b ∙ mul_assoc B (down d) (down e) ∙ ap (λ (z : ℕ). B * z) (mul_comm (down d) (down e)) in
      sym (mod_scale X Y L (mul-pos (mul-pos P (up_pos d)) (down_pos e)) Lp)
      ∙ ap (λ (z : ℕ). z % (Y * L)) x_is
      ∙ ap (λ (z : ℕ). A * D % z) y_is
      ∙ mod_scale A B D Q (mul-pos (down_pos e) (down_pos d))

-- from one fraction to another of the same size
rescale : (x : Float) (s : Bool) (w l num den : ℕ) → 0 < l → num * l ≡ w * den → HasValue x s w l → HasValue x s num den
rescale (fin t m e) s w l num den p h v = (v.0, cross (m * up e) num (down e) den w l p v.1 h)
rescale nan s w l num den p h v = elim v [ ]
rescale (inf _) s w l num den p h v = elim v [ ]

no_product : (x y : ℕ) → x ≡ 0 → x ≡ y → 0 < y → ⊥
no_product x y e h p = omega arith

pub remainder_of_values : (a b r : Float) (s t : Bool) (A B L : ℕ) → 0 < L → 0 < B → HasValue a s A L → HasValue b t B L → T (fits binary64 r) → HasValue r s (A % B) L → Remainder a b r
remainder_of_values (fin s' m e) (fin t' zero d) r s t A B L Lp Bp v w h u =
    absurd (no_product (0 * up d * L) (B * down d) (ap (λ (z : ℕ). z * L) (zero-mul (up d)) ∙ zero-mul L) w.1 (mul-pos Bp (down_pos d)))
remainder_of_values (fin s' m e) (fin t' (suc n) d) r s t A B L Lp Bp v w h u =
    let x = m * up e * down d in
    let y = suc n * up d * down e in
    let D = down e * down d in (
      h,
      subst (λ (z : ℕ). HasValue r s' z D) (mod-eq-sub-div-mul x y)
          (subst (λ (q : Bool). HasValue r q (x % y) D) (sym v.0)
          (rescale r s (A % B) L (x % y) D Lp (other_unit m (suc n) e d A B L (zero-lt-suc n) Bp Lp v.1 w.1) u)),
    )
remainder_of_values nan b r s t A B L Lp Bp v w h u = elim v [ ]
remainder_of_values (inf _) b r s t A B L Lp Bp v w h u = elim v [ ]
remainder_of_values (fin s' m e) nan r s t A B L Lp Bp v w h u = elim w [ ]
remainder_of_values (fin s' m e) (inf _) r s t A B L Lp Bp v w h u = elim w [ ]

-- ---- the computed remainder rounds nothing

-- what `fits` says of a finite value
no_power : (x y : ℕ) → x ≡ 2 * y → 0 < y → x ≢ 1
no_power x y e p h = omega arith

flat : (e : ℤ) → up e * down e ≡ 1 → e ≡ pos 0
flat (pos zero) h = refl
flat (pos (suc a)) h = absurd (no_power (2 ^ suc a) (2 ^ a) (pow-succ' 2 a) (pow_pos a) (sym (mul-one (2 ^ suc a)) ∙ h))
flat (negsuc a) h = absurd (no_power (2 ^ suc a) (2 ^ a) (pow-succ' 2 a) (pow_pos a) (sym (one-mul (2 ^ suc a)) ∙ h))

abbrev pub Held : Format → ℕ → ℤ → Type 0
Held f m e = (m < 2 ^ prec f) × (down e ≤ 2 ^ low f) × (m * up e < 2 ^ suc (emax f) * down e)

pub held : (f : Format) (s : Bool) (m : ℕ) (e : ℤ) → T (fits f (fin s m e)) → Held f m e
unfolding fits
held f s zero e h = subst (λ (x : ℤ). Held f 0 x) (sym (flat e (eqb→eq (up e * down e) 1 h))) (pow_pos (prec f), pow_pos (low f), mul-pos (pow_pos (suc (emax f))) (zero-lt-suc 0))
held f s (suc m) e h =
    let A = nat_eq (suc m % 2) 1 in
    let B = nat_lt (suc m) (2 ^ prec f) in
    let C = leb (down e) (2 ^ low f) in
    let D = nat_lt (suc m * up e) (2 ^ suc (emax f) * down e) in (
      ltb→lt (suc m) (2 ^ prec f) (and_r A B (and_l (A && B) C (and_l (A && B && C) D h))),
      leb→le (down e) (2 ^ low f) (and_r (A && B) C (and_l (A && B && C) D h)),
      ltb→lt (suc m * up e) (2 ^ suc (emax f) * down e) (and_r (A && B && C) D h),
    )

-- m * 2 ^ e is m * 2 ^ j of the format's smallest values
pow_le_back : (a l : ℕ) → 2 ^ a ≤ 2 ^ l → a ≤ l
pow_le_back a l h = le_of_suc-le-suc (lt_of_not-le (λ (g : suc l ≤ a). lt_irrefl (2 ^ l) (lt_of_lt_of_le (pow-lt g) h)))

pub shift : (n i k : ℕ) → i ≤ k → n * 2 ^ k ≡ n * 2 ^ (k - i) * 2 ^ i
shift n i k h = ap (λ (x : ℕ). n * x) (ap (λ (x : ℕ). 2 ^ x) (sym (back k i h)) ∙ pow-add 2 (k - i) i) ∙ sym (mul_assoc n (2 ^ (k - i)) (2 ^ i))

place : (l : ℕ) (e : ℤ) → down e ≤ 2 ^ l → (j : ℕ) × ((m : ℕ) → m * up e * 2 ^ l ≡ m * 2 ^ j * down e)
place l (pos a) h = (a + l, λ m. mul_assoc m (2 ^ a) (2 ^ l) ∙ ap (λ (x : ℕ). m * x) (sym (pow-add 2 a l)) ∙ sym (mul-one (m * 2 ^ (a + l))))
place l (negsuc a) h = (l - suc a, λ m. ap (λ (x : ℕ). x * 2 ^ l) (mul-one m) ∙ shift m (suc a) l (pow_le_back (suc a) l h))

-- where the dividend's exponent is the larger, its significand is moved up, and the divisor's unit stays
pub mod_above : (m n i k : ℕ) → k ≤ i → 0 < n → m * 2 ^ i % (n * 2 ^ k) ≡ m * 2 ^ (i - k) % n * 2 ^ k
mod_above m n i k l P = ap (λ (z : ℕ). z % (n * 2 ^ k)) (shift m k i l) ∙ mod_scale (m * 2 ^ (i - k)) n (2 ^ k) P (pow_pos k)

-- the remainder has no more digits than one of the two
few : (p m n i k : ℕ) → m < 2 ^ p → n < 2 ^ p → 0 < n → (q : ℕ) × (j : ℕ) × (q < 2 ^ p) × (m * 2 ^ i % (n * 2 ^ k) ≡ q * 2 ^ j)
few p m n i k M N P = go (nat_le i k) (leb→le i k) (nleb→lt i k)
  where
    go : (b : Bool) → (T b → i ≤ k) → (T (not b) → k < i) → (q : ℕ) × (j : ℕ) × (q < 2 ^ p) × (m * 2 ^ i % (n * 2 ^ k) ≡ q * 2 ^ j)
    go true h g =
        let y = n * 2 ^ (k - i) in
        (m % y, i, lt_of_le_of_lt (mod-le m y) M, ap (λ (x : ℕ). m * 2 ^ i % x) (shift n i k (h tt)) ∙ mod_scale m y (2 ^ i) (mul-pos P (pow_pos (k - i))) (pow_pos i))
    go false h g = (m * 2 ^ (i - k) % n, k, lt_of_lt_of_le (mod-lt (m * 2 ^ (i - k)) P) (le_of_lt N), mod_above m n i k (le_of_lt (g tt)) P)

-- a value is below the format's end, also counted in its smallest values
in_units : (f : Format) (m : ℕ) (e : ℤ) (h : Held f m e) → m * 2 ^ (place (low f) e h.1).0 < 2 ^ (low f + suc (emax f))
in_units f m e h =
    let l = low f in
    lt_of_mul-lt-mul_right (down e)
    (subst (λ (z : ℕ). z < 2 ^ (l + suc (emax f)) * down e) ((place l e h.1).1 m)
    (subst (λ (z : ℕ). m * up e * 2 ^ l < z)
    (mul_right_comm (2 ^ suc (emax f)) (down e) (2 ^ l) ∙ ap (λ (z : ℕ). z * down e) (mul_comm (2 ^ suc (emax f)) (2 ^ l) ∙ sym (pow-add 2 l (suc (emax f)))))
    (mul-lt-mul_of_pos_right h.2 (pow_pos l))))

-- a number's own fraction is not changed by rounding
pub round_own : (f : Format) (s u : Bool) (m : ℕ) (e : ℤ) → T (fits f (fin s m e)) → HasValue (round f u (m * up e) (down e)) u (m * up e) (down e)
round_own f s u m e h =
    let H = held f s m e h in
    let i = place (low f) e H.1 in
    round_exact f u (m * up e) (down e) m i.0 (down_pos e) H.0 (in_units f m e H) (i.1 m)

exact : (f : Format) (s t u : Bool) (m n : ℕ) (e d : ℤ) → T (fits f (fin s m e)) → T (fits f (fin t n d)) → 0 < n
    → HasValue (round f u (m * up e * down d % (n * up d * down e)) (down e * down d)) u (m * up e * down d % (n * up d * down e)) (down e * down d)
exact f s t u m n e d h g P =
    let l = low f in
    let H = held f s m e h in
    let G = held f t n d g in
    let i = place l e H.1 in
    let k = place l d G.1 in
    let A = m * 2 ^ i.0 in
    let B = n * 2 ^ k.0 in
    let D = down e * down d in
    let Bp : 0 < B = mul-pos P (pow_pos k.0) in
    let w = few (prec f) m n i.0 k.0 H.0 G.0 P in
    round_exact f u (m * up e * down d % (n * up d * down e)) D w.0 w.1 (mul-pos (down_pos e) (down_pos d)) w.2
    (subst (λ (z : ℕ). z < 2 ^ (l + suc (emax f))) w.3 (lt_of_le_of_lt (mod-le A B) (in_units f m e H)))
    (other_unit m n e d A B (2 ^ l) P Bp (pow_pos l) (i.1 m) (k.1 n) ∙ ap (λ (z : ℕ). z * D) w.3)

rem_finite : (s t : Bool) (m n : ℕ) (e d : ℤ) → modu (fin s m e) (fin t (suc n) d) ≡ round binary64 s (m * up e * down d % (suc n * up d * down e)) (down e * down d)
unfolding rem
rem_finite s t m n e d = ap (λ (b : Bool). cond b nan (round binary64 s (m * up e * down d % (suc n * up d * down e)) (down e * down d))) (eqb-suc-zero n)

rem_nan : (y : Float) → modu nan y ≡ nan
unfolding rem
rem_nan y = refl

rem_inf : (s : Bool) (y : Float) → modu (inf s) y ≡ nan
unfolding rem
rem_inf s y = refl

rem_by_nan : (s : Bool) (m : ℕ) (e : ℤ) → modu (fin s m e) nan ≡ nan
unfolding rem
rem_by_nan s m e = refl

rem_by_inf : (s t : Bool) (m : ℕ) (e : ℤ) → modu (fin s m e) (inf t) ≡ fin s m e
unfolding rem
rem_by_inf s t m e = refl

rem_by_zero : (s t : Bool) (m : ℕ) (e d : ℤ) → modu (fin s m e) (fin t zero d) ≡ nan
unfolding rem
rem_by_zero s t m e d = refl

pub modu_exact : (a b : Float) → T (fits binary64 a) → T (fits binary64 b) → Remainder a b (modu a b)
modu_exact nan b h g = rem_nan b
modu_exact (inf s) b h g = rem_inf s b
modu_exact (fin s m e) nan h g = rem_by_nan s m e
modu_exact (fin s m e) (inf t) h g = rem_by_inf s t m e
modu_exact (fin s m e) (fin t zero d) h g = rem_by_zero s t m e d
modu_exact (fin s m e) (fin t (suc n) d) h g =
    let x = m * up e * down d in
    let y = suc n * up d * down e in
    subst (λ (r : Float). T (fits binary64 r) × HasValue r s (x - x / y * y) (down e * down d)) (sym (rem_finite s t m n e d)) (
      round-fits binary64 s (x % y) (down e * down d),
      subst (λ (z : ℕ). HasValue (round binary64 s (x % y) (down e * down d)) s z (down e * down d)) (mod-eq-sub-div-mul x y) (exact binary64 s t s m (suc n) e d h g (zero-lt-suc n)),
    )
