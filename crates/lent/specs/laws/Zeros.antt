-- Tests for 0: of a number for its bytes, of bits for the numbers that have them, of a run of bytes for its pieces.
use Rattle.std.specs.Prelude.{◌≡◌, refl, Bool, ◌&&◌, List, [], ◌∷◌, ℕ, zero, suc, ◌+◌, ◌*◌, ◌≤◌, eqb, length, get_or}
use Rattle.std.proofs.Common.{sym, ap, ap₂, ◌∙◌, add-zero, arith, eqb-true, eq-eqb}
use Rattle.std.specs.Int.Bits.{bit_or, or_add_and}
use Rattle.std.proofs.lemmas.Nat.{and_le_l, and_le_r}
use Rattle.std.proofs.lemmas.List.{length-replicate, replicate-append-replicate}
use Rattle.lent.specs.Bytes.{part, same_bytes}
use Rattle.lent.specs.Lists.{zeros, tabulate}
use Rattle.lent.specs.inner.Words.{le_value, eight}
use Rattle.lent.specs.laws.Parts.{length_part, part_cons, part_add}
use Rattle.lent.specs.laws.Same.{same_append}
use Rattle.lent.specs.laws.Truths.{and_left, and_right, and_both, test_iff}

-- a sum, or bits, of two numbers
module _ (p q r : ℕ) (f : r ≡ 0 → (p ≡ 0) × (q ≡ 0)) (g : p ≡ 0 → q ≡ 0 → r ≡ 0) where
  pub zero_of : eqb r 0 ≡ (eqb p 0 && eqb q 0)
  zero_of =
      test_iff _ _ (λ e. let z = f (eqb-true r 0 e) in and_both (eq-eqb p 0 z.0) (eq-eqb q 0 z.1))
      (λ e. eq-eqb r 0 (g (eqb-true p 0 (and_left (eqb p 0) (eqb q 0) e)) (eqb-true q 0 (and_right (eqb p 0) (eqb q 0) e))))

pub zero_both : (p q : ℕ) → eqb (p * 256 + q) 0 ≡ (eqb q 0 && eqb p 0)
zero_both p q = zero_of q p (p * 256 + q) (λ e. (omega arith, omega arith)) (λ e f. omega arith)

pub zero_or : (p q : ℕ) → eqb (bit_or p q) 0 ≡ (eqb p 0 && eqb q 0)
zero_or p q =
    let s = or_add_and p q in
    let a = and_le_l p q in
    let b = and_le_r p q in
    zero_of p q (bit_or p q) (λ e. (omega (arith, s, a, b), omega (arith, s, a, b))) (λ e f. omega (arith, s, a, b))

-- a number for its bytes
zero_value : (l : List ℕ) → eqb (le_value l) 0 ≡ same_bytes l (zeros (length l))
zero_value [] = refl
zero_value (x ∷ l) = zero_both (le_value l) x ∙ ap (λ (t : Bool). eqb x 0 && t) (zero_value l)

part_tabulate : (s : List ℕ) (at k n : ℕ) → at + k + n ≤ length s → part s (at + k) n ≡ tabulate k n (λ (j : ℕ). get_or s (at + j) 0)
part_tabulate s at k zero h = refl
part_tabulate s at k (suc n) h =
    let e : at + k + 1 ≡ at + suc k = omega arith in
    part_cons s (at + k) n 0 (omega arith) ∙ ap (λ (l : List ℕ). get_or s (at + k) 0 ∷ l) (ap (λ (i : ℕ). part s i n) e ∙ part_tabulate s at (suc k) n (omega arith))

part_eight : (s : List ℕ) (at : ℕ) → at + 8 ≤ length s → part s at 8 ≡ eight s at
part_eight s at h =
    ap (λ (i : ℕ). part s i 8) (sym (add-zero at))
    ∙ part_tabulate s at 0 8 (omega arith)
    ∙ ap (λ (i : ℕ). get_or s i 0 ∷ tabulate 1 7 (λ (j : ℕ). get_or s (at + j) 0)) (add-zero at)

pub zero_eight : (s : List ℕ) (at : ℕ) → at + 8 ≤ length s → eqb (le_value (eight s at)) 0 ≡ same_bytes (part s at 8) (zeros 8)
zero_eight s at h = zero_value (eight s at) ∙ ap (λ (l : List ℕ). same_bytes l (zeros 8)) (sym (part_eight s at h))

-- a run of bytes for its pieces
pub zero_run : (s : List ℕ) (at n m : ℕ) → at + (n + m) ≤ length s → same_bytes (part s at (n + m)) (zeros (n + m)) ≡ (same_bytes (part s at n) (zeros n) && same_bytes (part s (at + n) m) (zeros m))
zero_run s at n m h =
    ap₂ (λ (a b : List ℕ). same_bytes a b) (part_add s at n m) (sym (replicate-append-replicate n m 0))
    ∙ same_append (part s at n) (part s (at + n) m) (zeros n) (zeros m) (length_part s at n (omega arith) ∙ sym (length-replicate {A = ℕ} n 0))
