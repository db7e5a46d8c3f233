-- Laws of digits, and of writing them at a place of a buffer.
use Rattle.std.specs.Prelude.{◌≡◌, List, [], ◌∷◌, ◌++◌, ℕ, zero, suc, ◌+◌, ◌-◌, ◌*◌, ◌/◌, ◌%◌, ◌^◌, ◌≤◌, ◌<◌, length}
use Rattle.std.proofs.Common.{ap, ◌∙◌, arith, zero-lt-suc, lt-ltb, le-ltb}
use Rattle.std.proofs.Math.Nat.{one-le-pow, pow-succ'}
use Rattle.text.specs.Text.{digits, hex_digit, hex}
use Rattle.text.specs.Put.{Put}
use Rattle.text.specs.laws.PutLaws.{put_none, put_then}

digits_small : (k n : ℕ) → 0 < k → n < 10 → digits k n ≡ (48 + n) ∷ []
digits_small zero n h l = absurd (omega arith)
digits_small (suc k) n h l = rw (lt-ltb n 10 l)

digits_more : (k n : ℕ) → 0 < k → 10 ≤ n → digits k n ≡ digits (k - 1) (n / 10) ++ ((48 + n % 10) ∷ [])
digits_more zero n h l = absurd (omega arith)
digits_more (suc k) n h l =
    let z : suc k - 1 ≡ k = omega arith in
    rw (le-ltb n 10 l, z)

pub hex_more : (k n p : ℕ) → 0 < k → p ≡ 16 ^ (k - 1) → hex k n ≡ hex_digit (n / p % 16) ∷ hex (k - 1) n
hex_more zero n p h e = absurd (omega arith)
hex_more (suc k) n p h e =
    let z : suc k - 1 ≡ k = omega arith in
    rw (e, z)

module _ {out : List ℕ} {at : ℕ} (h : at ≤ length out) where
  pub digits_none : (k n : ℕ) → k ≡ 0 → Put out at (digits k n) out at
  digits_none k n e = rw e (put_none out at h)

  pub digits_one : (k n : ℕ) {b : ℕ} {out' : List ℕ} {r : ℕ} → (k ≡ 0 → ⊥) → n < 10 → b ≡ (48 + n) % 256 → Put out at (b ∷ []) out' r → Put out at (digits k n) out' r
  digits_one k n {b} z l e p =
      let y : b ≡ 48 + n = omega arith in
      rw (digits_small k n (omega arith) l, ← y) p

  pub digits_then : (k n : ℕ) {b : ℕ} {out₁ : List ℕ} {r₁ : ℕ} {out' : List ℕ} {r : ℕ} → (k ≡ 0 → ⊥) → 10 ≤ n → b ≡ (48 + n % 10) % 256 → Put out at (digits (k - 1) (n / 10)) out₁ r₁ → Put out₁ r₁ (b ∷ []) out' r
      → Put out at (digits k n) out' r
  digits_then k n {b} z l e p q =
      let y : b ≡ 48 + n % 10 = omega arith in
      rw (digits_more k n (omega arith) l, ← y) (put_then h p q)

  pub hex_none : (k n : ℕ) → k ≡ 0 → Put out at (hex k n) out at
  hex_none k n e = rw e (put_none out at h)

  pub hex_then : (k n p : ℕ) {b : ℕ} {out₁ : List ℕ} {r₁ : ℕ} {out' : List ℕ} {r : ℕ} → (k ≡ 0 → ⊥) → p ≡ 16 ^ (k - 1) → b ≡ hex_digit (n / p % 16) → Put out at (b ∷ []) out₁ r₁ → Put out₁ r₁ (hex (k - 1) n) out' r
      → Put out at (hex k n) out' r
  hex_then k n p z e d u v = rw (hex_more k n p (omega arith) e, ← d) (put_then h u v)

-- the next power of 16
pub power_less : (k p : ℕ) → 1 < k → p ≡ 16 ^ (k - 1) → p / 16 ≡ 16 ^ (k - 1 - 1)
power_less zero p h e = absurd (omega arith)
power_less (suc zero) p h e = absurd (omega arith)
power_less (suc (suc k)) p h e =
    let x : suc (suc k) - 1 ≡ suc k = omega arith in
    let y : k ≡ suc (suc k) - 1 - 1 = omega arith in
    let w : p ≡ 16 * 16 ^ k = e ∙ ap (λ (j : ℕ). 16 ^ j) x ∙ pow-succ' 16 k in
    let v : p / 16 ≡ 16 ^ k = omega arith in
    v ∙ ap (λ (j : ℕ). 16 ^ j) y

pub power_some : (k p : ℕ) → p ≡ 16 ^ k → 0 < p
power_some k p e = omega (arith, one-le-pow k 16 (zero-lt-suc 15))
