-- Loops over bytes: the answer of the whole is the answer so far, and that of what is left.
use mathlib.Core.Path.{◌≡◌, refl, sym, ◌∙◌}
use mathlib.Core.Bool.{Bool, true, false, ◌&&◌}
use mathlib.Core.List.{List, [], ◌∷◌, map}
use Prim.Native.Nat.{ℕ, zero, suc, ◌+◌, ◌≤◌, ◌<◌}
use native.Mathlib.Nat.{not-suc-le-zero, le_of_suc-le-suc}
use native.Mathlib.Numerals.{add-one}
use native.Mathlib.Omega.{arith}
use lib.ListN.{length, get_or, drop, drop_of_length-le}
use lib.Seq.{drop-cons}
use Rattle.ast.specs.Node.{kind_of, body, body_size}
use Rattle.ast.specs.File.{firsts, nodes_from}
use Rattle.lent.specs.Lists.{all, sum}

-- one more test is passed
pub turn : {w rest : Bool} (ok t rest' : Bool) → w ≡ (ok && rest) → rest ≡ (t && rest') → w ≡ ((ok && t) && rest')
turn true t rest' e f = e ∙ f
turn false t rest' e f = e

-- nothing is left
pub done : {w rest : Bool} (ok : Bool) → w ≡ (ok && rest) → rest ≡ true → ok ≡ w
done true e f = sym (e ∙ f)
done false e f = sym e

pub drop_all : {A : Type 0} (i : ℕ) (l : List A) → length l ≤ i → drop i l ≡ []
drop_all i l h = drop_of_length-le l h

-- every byte
pub all_next : (p : ℕ → Bool) (l : List ℕ) (i : ℕ) → i < length l → all p (drop i l) ≡ (p (get_or l i 0) && all p (drop (i + 1) l))
all_next p l i h = rw (add-one i, drop-cons l i 0 h)

pub all_end : (p : ℕ → Bool) (l : List ℕ) (i : ℕ) → length l ≤ i → all p (drop i l) ≡ true
all_end p l i h = rw (drop_all i l h)

-- every other byte
pub firsts_next : (l : List ℕ) (i : ℕ) → i < length l → firsts (drop i l) ≡ get_or l i 0 ∷ firsts (drop (i + 2) l)
firsts_next [] i h = absurd (not-suc-le-zero h)
firsts_next (x ∷ []) zero h = refl
firsts_next (x ∷ (y ∷ l)) zero h = refl
firsts_next (x ∷ l) (suc i) h = firsts_next l i (le_of_suc-le-suc h) ∙ rw (suc_two i)
  where
    suc_two : (j : ℕ) → suc j + 2 ≡ suc (j + 2)
    suc_two j = omega arith

pub firsts_end : (l : List ℕ) (i : ℕ) → length l ≤ i → firsts (drop i l) ≡ []
firsts_end l i h = rw (drop_all i l h)

-- sums
pub sum_next : (l : List ℕ) (i : ℕ) → i < length l → sum (drop i l) ≡ get_or l i 0 + sum (drop (i + 1) l)
sum_next l i h = rw (add-one i, drop-cons l i 0 h)

pub sum_end : (l : List ℕ) (i : ℕ) → length l ≤ i → sum (drop i l) ≡ 0
sum_end l i h = rw (drop_all i l h)

abbrev pub body_bytes : List ℕ → ℕ
body_bytes l = sum (map (λ (k : ℕ). body_size (body (kind_of k))) (firsts l))

pub sizes_next : (l : List ℕ) (i : ℕ) → i < length l → body_bytes (drop i l) ≡ body_size (body (kind_of (get_or l i 0))) + body_bytes (drop (i + 2) l)
sizes_next l i h = rw (firsts_next l i h)

pub sizes_end : (l : List ℕ) (i : ℕ) → length l ≤ i → body_bytes (drop i l) ≡ 0
sizes_end l i h = rw (firsts_end l i h)

pub nodes_end : (l b : List ℕ) (i : ℕ) → length l ≤ i → nodes_from (drop i l) b ≡ []
nodes_end l b i h = rw (drop_all i l h)
