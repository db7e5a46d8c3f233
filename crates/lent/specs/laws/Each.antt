-- What holds of each element: of appended lists, of parts, after a store, at an index.
use Rattle.std.specs.Prelude.{List, [], ◌∷◌, ◌++◌, ℕ, zero, suc, ◌<◌, ◌≤◌, length, take, drop, get_or, set, replicate}
use Rattle.std.proofs.Common.{zero-le, suc-le-suc, not-suc-le-zero, le_of_suc-le-suc, arith}
use Rattle.lent.specs.Bytes.{Each, none, more, AreBytes, part}

module _ {A : Type 0} {P : A → Type 0} where
  pub each_append : {a b : List A} → Each P a → Each P b → Each P (a ++ b)
  each_append none k = k
  each_append (more p h) k = more p (each_append h k)

  pub each_take : (n : ℕ) {l : List A} → Each P l → Each P (take n l)
  each_take zero h = none
  each_take (suc n) none = none
  each_take (suc n) (more p h) = more p (each_take n h)

  pub each_drop : (n : ℕ) {l : List A} → Each P l → Each P (drop n l)
  each_drop zero h = h
  each_drop (suc n) none = none
  each_drop (suc n) (more p h) = each_drop n h

  pub each_set : (i : ℕ) {l : List A} {a : A} → Each P l → P a → Each P (set l i a)
  each_set i none p = none
  each_set zero (more q h) p = more p h
  each_set (suc i) (more q h) p = more q (each_set i h p)

  pub each_replicate : (n : ℕ) (a : A) → P a → Each P (replicate n a)
  each_replicate zero a p = none
  each_replicate (suc n) a p = more p (each_replicate n a p)

  -- at an index, and from all indices
  pub each_at : {l : List A} (i : ℕ) (d : A) → Each P l → i < length l → P (get_or l i d)
  each_at i d none h = absurd (not-suc-le-zero h)
  each_at zero d (more p k) h = p
  each_at (suc i) d (more p k) h = each_at i d k (le_of_suc-le-suc h)

  pub each_of : (l : List A) (d : A) → ((i : ℕ) → i < length l → P (get_or l i d)) → Each P l
  each_of [] d f = none
  each_of (x ∷ l) d f = more (f 0 (suc-le-suc zero-le)) (each_of l d (λ i h. f (suc i) (suc-le-suc h)))

module _ {P : ℕ → Type 0} where
  pub each_part : {s : List ℕ} (at n : ℕ) → Each P s → Each P (part s at n)
  each_part at n h = each_take n (each_drop at h)

-- every index of a lent slice holds a byte
pub bytes_of : (s : List ℕ) → ((i : ℕ) → get_or s i 0 < 256) → AreBytes s
bytes_of s f = each_of s 0 (λ i h. f i)

pub byte_at : {l : List ℕ} → AreBytes l → (i : ℕ) → get_or l i 0 ≤ 255
byte_at none i = omega arith
byte_at (more p h) zero = omega arith
byte_at (more p h) (suc i) = byte_at h i
