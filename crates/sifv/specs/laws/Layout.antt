-- Fields one after the other: each is found again at its place, whatever lies behind. Bytes filled up with zeros.
use Rattle.std.specs.Prelude.{◌≡◌, refl, List, [], ◌∷◌, ◌++◌, ℕ, zero, suc, ◌+◌, ◌-◌, ◌≤◌, ◌<◌, length, take, get_or, set, drop}
use Rattle.std.proofs.Common.{sym, ap, ◌∙◌, append_assoc, zero-add, not-suc-le-zero, le_of_suc-le-suc, arith, length-append, take_at}
use Rattle.std.proofs.lemmas.List.{length-replicate}
use Rattle.lent.specs.Bytes.{part, splice}
pub use Rattle.lent.specs.laws.Truths.{and_left, and_right, and_both}
use Rattle.lent.specs.laws.Parts.{part_append_left, part_append_right, splice_append_left, splice_append_right}
use Rattle.lent.specs.Lists.{pad, zeros}
use Rattle.sifv.specs.inner.Forms.{joined_parts}

-- ---- fields, and what lies behind them

abbrev pub total : List ℕ → ℕ
total [] = 0
total (w ∷ ws) = w + total ws

-- the fields' sizes
pub data Sized : List (List ℕ) → List ℕ → Type 0 where
  end : Sized [] []
  field : {a : List ℕ} {w : ℕ} {l : List (List ℕ)} {ws : List ℕ} → length a ≡ w → Sized l ws → Sized (a ∷ l) (w ∷ ws)

-- field i is the part that begins where the fields before it end
pub field_at : {l : List (List ℕ)} {ws : List ℕ} → Sized l ws → (i : ℕ) (z : List ℕ) → i < length l → part (joined_parts l z) (total (take i ws)) (get_or ws i 0) ≡ get_or l i []
field_at end i z h = absurd (not-suc-le-zero h)
field_at (field {a = a} {w = w} {l = l} e s) zero z h = take_at a (joined_parts l z) w e
field_at (field {a = a} {w = w} {l = l} {ws = ws} e s) (suc i) z h =
    ap (λ (x : ℕ). part (a ++ joined_parts l z) (x + total (take i ws)) (get_or ws i 0)) (sym e)
    ∙ part_append_right a (joined_parts l z) (total (take i ws)) (get_or ws i 0)
    ∙ field_at s i z (le_of_suc-le-suc h)

joined_append : (l : List (List ℕ)) (z rest : List ℕ) → joined_parts l z ++ rest ≡ joined_parts l (z ++ rest)
joined_append [] z rest = refl
joined_append (a ∷ l) z rest = append_assoc a (joined_parts l z) rest ∙ ap (λ (r : List ℕ). a ++ r) (joined_append l z rest)

pub field_behind : {l : List (List ℕ)} {ws : List ℕ} → Sized l ws → (i : ℕ) (z rest : List ℕ) → i < length l
    → part (joined_parts l z ++ rest) (total (take i ws)) (get_or ws i 0) ≡ get_or l i []
field_behind {l} {ws} s i z rest h = ap (λ (b : List ℕ). part b (total (take i ws)) (get_or ws i 0)) (joined_append l z rest) ∙ field_at s i (z ++ rest) h

-- a part of a field
pub field_part : {l : List (List ℕ)} {ws : List ℕ} → Sized l ws → (i j n : ℕ) (z : List ℕ) → i < length l → j + n ≤ get_or ws i 0
    → part (joined_parts l z) (total (take i ws) + j) n ≡ part (get_or l i []) j n
field_part end i j n z h g = absurd (not-suc-le-zero h)
field_part (field {a = a} {l = l} e q) zero j n z h g =
    ap (λ (x : ℕ). part (a ++ joined_parts l z) x n) (zero-add j) ∙ part_append_left a (joined_parts l z) j n (omega arith)
field_part (field {a = a} {w = w} {l = l} {ws = ws} e q) (suc i) j n z h g =
    let f : w + total (take i ws) + j ≡ length a + (total (take i ws) + j) = omega arith in
    ap (λ (x : ℕ). part (a ++ joined_parts l z) x n) f
    ∙ part_append_right a (joined_parts l z) (total (take i ws) + j) n
    ∙ field_part q i j n z (le_of_suc-le-suc h) g

-- a field that is written
pub field_splice : {l : List (List ℕ)} {ws : List ℕ} → Sized l ws → (i j : ℕ) (s z : List ℕ) → i < length l → j + length s ≤ get_or ws i 0
    → splice (joined_parts l z) (total (take i ws) + j) s ≡ joined_parts (set l i (splice (get_or l i []) j s)) z
field_splice end i j s z h g = absurd (not-suc-le-zero h)
field_splice (field {a = a} {l = l} e q) zero j s z h g =
    ap (λ (x : ℕ). splice (a ++ joined_parts l z) x s) (zero-add j) ∙ splice_append_left a (joined_parts l z) j s (omega arith)
field_splice (field {a = a} {w = w} {l = l} {ws = ws} e q) (suc i) j s z h g =
    let f : w + total (take i ws) + j ≡ length a + (total (take i ws) + j) = omega arith in
    ap (λ (x : ℕ). splice (a ++ joined_parts l z) x s) f
    ∙ splice_append_right a (joined_parts l z) (total (take i ws) + j) s
    ∙ ap (λ (r : List ℕ). a ++ r) (field_splice q i j s z (le_of_suc-le-suc h) g)

-- the sizes add up
pub length_joined : {l : List (List ℕ)} {ws : List ℕ} → Sized l ws → (z : List ℕ) → length (joined_parts l z) ≡ total ws + length z
length_joined end z = sym (zero-add (length z))
length_joined (field {a = a} {l = l} e s) z = rw (length-append a (joined_parts l z), e, length_joined s z) (omega arith)

-- ---- filled up with zeros

pub drop_zeros : (k n : ℕ) → drop k (zeros n) ≡ zeros (n - k)
drop_zeros zero n = let e : n - 0 ≡ n = omega arith in rw e
drop_zeros (suc k) zero = let e : 0 - suc k ≡ 0 = omega arith in rw e
drop_zeros (suc k) (suc n) = let e : suc n - suc k ≡ n - k = omega arith in rw e (drop_zeros k n)

pub length_pad : (n : ℕ) (l : List ℕ) → length l ≤ n → length (pad n l) ≡ n
length_pad n l h = rw (length-append l (zeros (n - length l)), length-replicate {A = ℕ} (n - length l) 0) (omega arith)
