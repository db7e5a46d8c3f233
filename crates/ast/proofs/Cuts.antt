-- Texts cut from bytes, one after the other.
use mathlib.Core.Path.{◌≡◌, refl, sym, ap, ◌∙◌}
use mathlib.Core.Bool.{Bool, true, not, ◌&&◌, and_assoc}
use mathlib.Core.List.{List, [], ◌∷◌, ◌++◌}
use Prim.Native.Nat.{ℕ, ◌+◌, ◌≤◌, ◌<◌, ◌-◌}
use native.Mathlib.Nat.{not-suc-le-zero}
use native.Mathlib.Numerals.{add-one}
use native.Mathlib.Omega.{arith}
use lib.ListN.{length, get_or, take, drop}
use lib.Seq.{drop-drop, drop-cons, take-add}
use Rattle.lent.specs.Bytes.{same_bytes}
use Rattle.ast.specs.File.{between, cut, fortmp, precedes, ascending, ordered}
use Rattle.ast.proofs.Scan.{drop_all}
use Rattle.lent.specs.Lists.{sum, all}

-- the next text, and the texts after it
pub cut_next : (ns bs : List ℕ) (i at : ℕ) → i < length ns → cut (drop i ns) (drop at bs) ≡ take (get_or ns i 0) (drop at bs) ∷ cut (drop (i + 1) ns) (drop (at + get_or ns i 0) bs)
cut_next ns bs i at h = rw (add-one i, drop-cons ns i 0 h, drop-drop (get_or ns i 0) at bs)

pub cut_end : (ns bs : List ℕ) (i at : ℕ) → length ns ≤ i → cut (drop i ns) (drop at bs) ≡ []
cut_end ns bs i at h = rw (drop_all i ns h)

pub part_end : (at n : ℕ) → (at + n) - at ≡ n
part_end at n = omega arith

-- every byte of every text
all_append : (p : ℕ → Bool) (a b : List ℕ) → all p (a ++ b) ≡ (all p a && all p b)
all_append p [] b = refl
all_append p (x ∷ a) b = ap (λ (t : Bool). p x && t) (all_append p a b) ∙ sym (and_assoc (p x) (all p a) (all p b))

pub all_cut : (p : ℕ → Bool) (ns bs : List ℕ) → all p (take (sum ns) bs) ≡ all (all p) (cut ns bs)
all_cut p [] bs = refl
all_cut p (n ∷ ns) bs = ap (all p) (take-add n (sum ns) bs) ∙ all_append p (take n bs) (take (sum ns) (drop n bs)) ∙ ap (λ (t : Bool). all p (take n bs) && t) (all_cut p ns (drop n bs))

-- one pair is in order
pub ascending_next : (a : List ℕ) (ns bs : List ℕ) (i at : ℕ) → i < length ns
    → ascending (a ∷ cut (drop i ns) (drop at bs)) ≡ (precedes a (take (get_or ns i 0) (drop at bs)) && ascending (take (get_or ns i 0) (drop at bs) ∷ cut (drop (i + 1) ns) (drop (at + get_or ns i 0) bs)))
ascending_next a ns bs i at h = rw (cut_next ns bs i at h)

pub ascending_end : (a : List ℕ) (ns bs : List ℕ) (i at : ℕ) → length ns ≤ i → ascending (a ∷ cut (drop i ns) (drop at bs)) ≡ true
ascending_end a ns bs i at h = rw (cut_end ns bs i at h)

-- the first text
pub cut_first : (ns bs : List ℕ) → 1 ≤ length ns → cut ns bs ≡ take (get_or ns 0 0) bs ∷ cut (drop 1 ns) (drop (get_or ns 0 0) bs)
cut_first [] bs h = absurd (not-suc-le-zero h)
cut_first (n ∷ ns) bs h = refl

pub sum_first : (ns : List ℕ) → 1 ≤ length ns → sum ns ≡ get_or ns 0 0 + sum (drop 1 ns)
sum_first [] h = absurd (not-suc-le-zero h)
sum_first (n ∷ ns) h = refl

pub cut_none : (ns bs : List ℕ) → length ns ≡ 0 → cut ns bs ≡ []
cut_none [] bs h = refl
cut_none (n ∷ ns) bs h = absurd (omega arith)

-- all of the texts' check: the first text, the later ones, all bytes
pub texts_all : (ns bs : List ℕ) (total : ℕ) → 1 ≤ length ns → total ≡ sum ns
    → (all (between 32 126) (take total bs)
    && (same_bytes (take (get_or ns 0 0) bs) fortmp
    && (all (λ (s : List ℕ). not (same_bytes s fortmp)) (cut (drop 1 ns) (drop (get_or ns 0 0) bs)) && ascending (cut (drop 1 ns) (drop (get_or ns 0 0) bs)))))
    ≡ (all (all (between 32 126)) (cut ns bs) && ordered (cut ns bs))
texts_all ns bs total h e = rw (e, all_cut (between 32 126) ns bs) (ap (λ (t : Bool). all (all (between 32 126)) (cut ns bs) && t) (sym (ap ordered (cut_first ns bs h))))
