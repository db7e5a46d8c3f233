-- Comparing texts.
use mathlib.Core.Path.{◌≡◌, refl, sym, ap, ◌∙◌}
use mathlib.Core.Bool.{Bool, true, false, ◌&&◌, ◌||◌}
use mathlib.Core.List.{List, [], ◌∷◌}
use Prim.Native.Nat.{ℕ, zero, suc, ◌+◌, ◌≤◌, ◌<◌}
use native.Mathlib.Numerals.{add-one}
use native.Mathlib.Omega.{arith}
use lib.Dec.{ltb, eqb, leb-suc-suc}
use lib.ListN.{length, get_or, drop}
use lib.Seq.{drop-cons, drop-nil}
use borrow.Author.Tests.{lt-ltb, le-ltb, eq-eqb, ne_eqb}
use Rattle.lent.specs.Bytes.{same_bytes}
use Rattle.lent.specs.laws.Same.{ne_same}
use Rattle.ast.specs.File.{precedes, fortmp}
use Rattle.ast.proofs.Scan.{drop_all}

module _ (a b : List ℕ) (i : ℕ) where
  -- b ends first, or both end
  pub before_short : i < length a → length b ≤ i → precedes (drop i a) (drop i b) ≡ false
  before_short h k = rw (drop-cons a i 0 h, drop_all i b k)

  pub before_ends : length a ≤ i → precedes (drop i a) (drop i b) ≡ ltb i (length b)
  before_ends h = rw (drop_all i a h) (left b i)
    where
      left : (l : List ℕ) (j : ℕ) → precedes [] (drop j l) ≡ ltb j (length l)
      left [] j = rw (drop-nil j) (sym (le-ltb j 0 (omega arith)))
      left (x ∷ l) zero = sym (lt-ltb 0 (suc (length l)) (omega arith))
      left (x ∷ l) (suc j) = left l j ∙ sym (leb-suc-suc (suc j) (length l))

  module _ (ha : i < length a) (hb : i < length b) where
    before_cut : precedes (drop i a) (drop i b) ≡ (ltb (get_or a i 0) (get_or b i 0) || (eqb (get_or a i 0) (get_or b i 0) && precedes (drop (i + 1) a) (drop (i + 1) b)))
    before_cut = rw (drop-cons a i 0 ha, drop-cons b i 0 hb, add-one i)

    pub before_less : get_or a i 0 < get_or b i 0 → precedes (drop i a) (drop i b) ≡ true
    before_less h = before_cut ∙ rw (lt-ltb (get_or a i 0) (get_or b i 0) h)

    pub before_more : get_or b i 0 < get_or a i 0 → precedes (drop i a) (drop i b) ≡ false
    before_more h = before_cut ∙ rw (le-ltb (get_or a i 0) (get_or b i 0) (omega arith), ne_eqb (get_or a i 0) (get_or b i 0) (λ e. omega arith))

    pub before_same : get_or a i 0 ≤ get_or b i 0 → get_or b i 0 ≤ get_or a i 0 → precedes (drop i a) (drop i b) ≡ precedes (drop (i + 1) a) (drop (i + 1) b)
    before_same h k = before_cut ∙ rw (le-ltb (get_or a i 0) (get_or b i 0) k, eq-eqb (get_or a i 0) (get_or b i 0) (omega arith))

-- `fortmp`
pub not_six : (s : List ℕ) → (length s ≡ 6 → ⊥) → same_bytes s fortmp ≡ false
not_six s h = ne_same s fortmp (λ e. h (ap length e))

pub spelled : (s : List ℕ) → length s ≡ 6 → get_or s 0 0 ≡ 102 → get_or s 1 0 ≡ 111 → get_or s 2 0 ≡ 114 → get_or s 3 0 ≡ 116 → get_or s 4 0 ≡ 109 → get_or s 5 0 ≡ 112 → true ≡ same_bytes s fortmp
spelled [] h p q r s t u = absurd (omega arith)
spelled (a ∷ []) h p q r s t u = absurd (omega arith)
spelled (a ∷ b ∷ []) h p q r s t u = absurd (omega arith)
spelled (a ∷ b ∷ c ∷ []) h p q r s t u = absurd (omega arith)
spelled (a ∷ b ∷ c ∷ d ∷ []) h p q r s t u = absurd (omega arith)
spelled (a ∷ b ∷ c ∷ d ∷ e ∷ []) h p q r s t u = absurd (omega arith)
spelled (a ∷ b ∷ c ∷ d ∷ e ∷ f ∷ []) h p q r s t u = rw (p, q, r, s, t, u)
spelled (a ∷ b ∷ c ∷ d ∷ e ∷ f ∷ (g ∷ l)) h p q r s t u = absurd (omega arith)

pub six : (s : List ℕ) → length s ≡ 6
    → (((((eqb (get_or s 0 0) 102 && eqb (get_or s 1 0) 111) && eqb (get_or s 2 0) 114) && eqb (get_or s 3 0) 116) && eqb (get_or s 4 0) 109) && eqb (get_or s 5 0) 112) ≡ same_bytes s fortmp
six [] h = absurd (omega arith)
six (a ∷ []) h = absurd (omega arith)
six (a ∷ b ∷ []) h = absurd (omega arith)
six (a ∷ b ∷ c ∷ []) h = absurd (omega arith)
six (a ∷ b ∷ c ∷ d ∷ []) h = absurd (omega arith)
six (a ∷ b ∷ c ∷ d ∷ e ∷ []) h = absurd (omega arith)
six (a ∷ b ∷ c ∷ d ∷ e ∷ f ∷ (g ∷ s)) h = absurd (omega arith)
six (a ∷ b ∷ c ∷ d ∷ e ∷ f ∷ []) h = nest (eqb a 102) (eqb b 111) (eqb c 114) (eqb d 116) (eqb e 109) (eqb f 112)
  where
    nest : (p q r s t u : Bool) → (((((p && q) && r) && s) && t) && u) ≡ (p && (q && (r && (s && (t && (u && true))))))
    nest false q r s t u = refl
    nest true false r s t u = refl
    nest true true false s t u = refl
    nest true true true false t u = refl
    nest true true true true false u = refl
    nest true true true true true false = refl
    nest true true true true true true = refl
