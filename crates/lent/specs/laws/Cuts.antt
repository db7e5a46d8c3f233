-- Lists cut from bytes by their lengths, and joined again.
use Rattle.std.specs.Prelude.{◌≡◌, refl, List, [], ◌∷◌, ◌++◌, map, ℕ, ◌+◌, ◌≤◌, ◌<◌, length, get_or, take, drop}
use Rattle.std.proofs.Common.{sym, ap, ap₂, ◌∙◌, append_assoc, not-suc-le-zero, add-one, arith, length-append, length-drop, drop_of_length-le, take_at, drop_at, take-add, drop-drop, drop-cons, length-take-le}
use Rattle.lent.specs.Bytes.{cut, concat, Each, none, more, AreBytes}
use Rattle.lent.specs.Lists.{sum}
use Rattle.lent.specs.laws.Each.{each_take, each_drop}

pub cut_concat : (l : List (List ℕ)) (rest : List ℕ) → cut (map length l) (concat l ++ rest) ≡ l
cut_concat [] rest = refl
cut_concat (s ∷ l) rest =
    rw (append_assoc s (concat l) rest, take_at s (concat l ++ rest) (length s) refl, drop_at s (concat l ++ rest) (length s) refl, cut_concat l rest)

pub concat_cut : (ns bs : List ℕ) → concat (cut ns bs) ≡ take (sum ns) bs
concat_cut [] bs = refl
concat_cut (n ∷ ns) bs = ap (λ (l : List ℕ). take n bs ++ l) (concat_cut ns (drop n bs)) ∙ sym (take-add n (sum ns) bs)

pub lengths_cut : (ns bs : List ℕ) → sum ns ≤ length bs → map length (cut ns bs) ≡ ns
lengths_cut [] bs h = refl
lengths_cut (n ∷ ns) bs h = ap₂ (λ (x : ℕ) (l : List ℕ). x ∷ l) (length-take-le n bs (omega arith)) (lengths_cut ns (drop n bs) (simp length-drop (omega arith)))

pub concat_length : (l : List (List ℕ)) → length (concat l) ≡ sum (map length l)
concat_length [] = refl
concat_length (s ∷ l) = length-append s (concat l) ∙ ap (λ (n : ℕ). length s + n) (concat_length l)

-- what is cut from bytes is bytes
pub cut_bytes : (ns : List ℕ) {bs : List ℕ} → AreBytes bs → Each AreBytes (cut ns bs)
cut_bytes [] h = none
cut_bytes (n ∷ ns) h = more (each_take n h) (cut_bytes ns (each_drop n h))

-- ---- one after the other

-- the next list, and those after it
pub cut_next : (ns bs : List ℕ) (i at : ℕ) → i < length ns → cut (drop i ns) (drop at bs) ≡ take (get_or ns i 0) (drop at bs) ∷ cut (drop (i + 1) ns) (drop (at + get_or ns i 0) bs)
cut_next ns bs i at h = rw (add-one i, drop-cons ns i 0 h, drop-drop (get_or ns i 0) at bs)

pub cut_end : (ns bs : List ℕ) (i at : ℕ) → length ns ≤ i → cut (drop i ns) (drop at bs) ≡ []
cut_end ns bs i at h = rw (drop_of_length-le ns h)

-- the first list
pub cut_first : (ns bs : List ℕ) → 1 ≤ length ns → cut ns bs ≡ take (get_or ns 0 0) bs ∷ cut (drop 1 ns) (drop (get_or ns 0 0) bs)
cut_first [] bs h = absurd (not-suc-le-zero h)
cut_first (n ∷ ns) bs h = refl

pub cut_none : (ns bs : List ℕ) → length ns ≡ 0 → cut ns bs ≡ []
cut_none [] bs h = refl
cut_none (n ∷ ns) bs h = absurd (omega arith)
