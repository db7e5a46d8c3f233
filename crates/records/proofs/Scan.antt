-- Loops that look at every index: the answer of the whole is the answer so far, and that of what is left.
use Rattle.std.proofs.Common.{◌≡◌, ℕ, zero, suc, ◌+◌, ◌-◌, ◌<◌, ◌≤◌, Bool, true, false, ◌&&◌, eqb, sym, refl, ap, ◌∙◌, subst, ap₂, add-one, arith, eqb-true}
use borrow.Author.Tests.{eqb-false}
use Rattle.sifv.specs.laws.Layout.{and_left, and_right}
use Rattle.records.specs.inner.Fits.{all_from}

-- one more index
pub scan_turn : (t : ℕ → Bool) (n i : ℕ) {w : Bool} (ok x : Bool) → i < n → w ≡ (ok && all_from (n - i) i t) → x ≡ t i → w ≡ ((ok && x) && all_from (n - (i + 1)) (i + 1) t)
scan_turn t n i false x h e f = e
scan_turn t n i true x h e f =
    let k : n - i ≡ suc (n - (i + 1)) = omega arith in
    e
    ∙ ap (λ (m : ℕ). all_from m i t) k
    ∙ ap₂ (λ (y : Bool) (j : ℕ). y && all_from (n - (i + 1)) j t) (sym f) (sym (add-one i))

-- nothing is left
pub scan_end : (t : ℕ → Bool) (n i : ℕ) {w : Bool} (ok : Bool) → n ≤ i → w ≡ (ok && all_from (n - i) i t) → ok ≡ w
scan_end t n i false h e = sym e
scan_end t n i true h e = let k : n - i ≡ 0 = omega arith in sym (e ∙ ap (λ (m : ℕ). all_from m i t) k)

-- what was looked at
pub scan_at : (t : ℕ → Bool) (n i : ℕ) → all_from n i t ≡ true → (j : ℕ) → i ≤ j → j < i + n → t j ≡ true
scan_at t zero i e j h l = absurd (omega arith)
scan_at t (suc n) i e j h l = by_test (eqb i j) refl (λ k. scan_at t n (suc i) (and_right (t i) (all_from n (suc i) t) e) j k (omega arith))
  where
    by_test : (b : Bool) → eqb i j ≡ b → (suc i ≤ j → t j ≡ true) → t j ≡ true
    by_test true q f = subst (λ (k : ℕ). t k ≡ true) (eqb-true i j q) (and_left (t i) (all_from n (suc i) t) e)
    by_test false q f = f (omega (arith, eqb-false i j q))

pub scan_same : (t u : ℕ → Bool) (n i : ℕ) → ((j : ℕ) → i ≤ j → j < i + n → t j ≡ u j) → all_from n i t ≡ all_from n i u
scan_same t u zero i h = refl
scan_same t u (suc n) i h = ap₂ (λ (x y : Bool). x && y) (h i (omega arith) (omega arith)) (scan_same t u n (suc i) (λ j p q. h j (omega arith) (omega arith)))
