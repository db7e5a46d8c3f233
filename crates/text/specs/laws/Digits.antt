-- Laws of digits, and of a writer that writes them.
use Rattle.std.specs.Prelude.{◌≡◌, refl, Bool, true, false, List, [], ◌∷◌, ◌++◌, ℕ, zero, suc, ◌+◌, ◌-◌, ◌*◌, ◌/◌, ◌%◌, ◌^◌, ◌≤◌, ◌<◌, ltb}
use Rattle.std.proofs.Common.{ap, arith, zero-lt-suc, lt-ltb, le-ltb}
use Rattle.std.proofs.Math.Nat.{pow-le-pow_right, pow-succ'}
use Rattle.std.proofs.lemmas.Nat.{pow-add}
use Rattle.text.specs.Text.{digits, decimal, hex_digit, hex}
use Rattle.text.specs.declared.Writer.{Writer}
use Rattle.text.specs.inner.Appended.{Appended}
use Rattle.text.specs.laws.Writing.{appended_none, appended_then}
use Rattle.text.specs.laws.PutDigits.{hex_more}

-- ---- decimal

-- a number below a power of 10 has no more digits than the power's exponent
digits_enough : (k n : ℕ) → n < 10 ^ suc k → digits (suc (suc k)) n ≡ digits (suc k) n
digits_enough zero n h = let z : n < 10 = omega (arith, pow-succ' 10 0) in rw (lt-ltb n 10 z)
digits_enough (suc k) n h = by (ltb n 10) refl (digits_enough k (n / 10) (omega (arith, pow-succ' 10 (suc k))))
  where
    by : (t : Bool) → ltb n 10 ≡ t → digits (suc (suc k)) (n / 10) ≡ digits (suc k) (n / 10) → digits (suc (suc (suc k))) n ≡ digits (suc (suc k)) n
    by true e f = rw e
    by false e f = rw e (ap (λ (l : List ℕ). l ++ ((48 + n % 10) ∷ [])) f)

pub decimal_small : (n : ℕ) → n < 10 → (48 + n % 10) ∷ [] ≡ decimal n
decimal_small n l = let e : n % 10 ≡ n = omega arith in rw (lt-ltb n 10 l, e)

pub decimal_more : (n : ℕ) → n < 2 ^ 64 → 10 ≤ n → decimal (n / 10) ++ ((48 + n % 10) ∷ []) ≡ decimal n
decimal_more n h l = rw (le-ltb n 10 l) (ap (λ (d : List ℕ). d ++ ((48 + n % 10) ∷ [])) (digits_enough 18 (n / 10) (omega arith)))

-- ---- hex

pub hex_none : (w : Writer) (k n : ℕ) → k ≤ 0 → Appended w (hex k n) w
hex_none w k n h = let e : k ≡ 0 = omega arith in rw e (appended_none w)

pub hex_then : (k n p : ℕ) {b : ℕ} {v w x : Writer} → 0 < k → p ≡ 16 ^ (k - 1) → b ≡ hex_digit (n / p % 16) → Appended v (b ∷ []) w → Appended w (hex (k - 1) n) x → Appended v (hex k n) x
hex_then k n p z e d p₁ p₂ = rw (hex_more k n p z e, ← d) (appended_then p₁ p₂)

-- a power of 16 within 64 bits
pub power_fits : (k : ℕ) → k ≤ 15 → 16 ^ k < 2 ^ 64
power_fits k h = omega (arith, pow-le-pow_right (zero-lt-suc 15) h)

-- four bits are a digit
pub four_bits : (k : ℕ) → 2 ^ (4 * k) ≡ 16 ^ k
four_bits zero = refl
four_bits (suc k) =
    let e : 4 * suc k ≡ 4 * k + 4 = omega arith in
    let p : 2 ^ (4 * k + 4) ≡ 2 ^ (4 * k) * 16 = pow-add 2 (4 * k) 4 in
    let q : 2 ^ (4 * k) ≡ 16 ^ k = four_bits k in
    rw e (omega (arith, p, q, pow-succ' 16 k))
