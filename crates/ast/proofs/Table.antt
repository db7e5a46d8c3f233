-- Rules of the kinds 0 to 23, each by one computed test.
use mathlib.Core.Path.{◌≡◌, refl}
use mathlib.Core.Bool.{Bool, true, false, ◌&&◌, ◌||◌}
use mathlib.Core.List.{List, [], ◌∷◌}
use Prim.Native.Nat.{ℕ, ◌≤◌, ◌<◌, ◌-◌}
use native.Mathlib.Omega.{arith}
use lib.Dec.{T, ltb, eqb, ltb→lt, eqb→eq}
use lib.ListN.{get_or, get_or-eq_default}
use borrow.Author.Tests.{ne_eqb}
use Rattle.ast.specs.Node.{k_program, kinds, kind_of, Body, nothing, elifs, texts, operator, number64, body, body_size}
use Rattle.ast.specs.File.{body_finite}
use Rattle.ast.specs.laws.Tests.{T-left, T-right, entry}

-- the table of body sizes
abbrev sizes : List ℕ
sizes = 0 ∷ 0 ∷ 0 ∷ 1 ∷ 0 ∷ 2 ∷ 0 ∷ 0 ∷ 1 ∷ 1 ∷ 0 ∷ 1 ∷ 1 ∷ 1 ∷ 1 ∷ 1 ∷ 1 ∷ 1 ∷ 1 ∷ 8 ∷ 1 ∷ 1 ∷ 0 ∷ 0 ∷ []

abbrev size_ok : ℕ → Bool
size_ok k = eqb (get_or sizes k 0) (body_size (body (kind_of k))) && ltb (get_or sizes k 0) 9

pub sized : (k : ℕ) → k < 24 → (get_or sizes k 0 ≡ body_size (body (kind_of k))) × (get_or sizes k 0 < 9)
sized k h =
    let n = get_or sizes k 0 in
    let m = body_size (body (kind_of k)) in
    let t = entry size_ok 24 tt k h in
    (eqb→eq n m (T-left (eqb n m) (ltb n 9) t), ltb→lt n 9 (T-right (eqb n m) (ltb n 9) t))

pub unknown_size : (k : ℕ) → 24 ≤ k → body_size (body (kind_of k)) ≡ 0
unknown_size k h =
    let e : kind_of k ≡ k_program = get_or-eq_default kinds k_program {n = k - 1} (omega arith) in
    rw e

-- a body with one text number, or with nothing to test
abbrev pub simple : Body → Bool
simple nothing = true
simple elifs = false
simple (texts n) = eqb n 1
simple (operator n) = false
simple number64 = true

abbrev simple_ok : ℕ → Bool
simple_ok k = eqb k 17 || (eqb k 18 || (eqb k 5 || (eqb k 3 || simple (body (kind_of k)))))

pub simple_body : (k : ℕ) → k < 24 → (k ≡ 17 → ⊥) → (k ≡ 18 → ⊥) → (k ≡ 5 → ⊥) → (k ≡ 3 → ⊥) → T (simple (body (kind_of k)))
simple_body k h a b c d = rw (ne_eqb k 17 a, ne_eqb k 18 b, ne_eqb k 5 c, ne_eqb k 3 d) at (entry simple_ok 24 tt k h)

-- bodies that are no number, by kind
abbrev no_number : Body → Bool
no_number nothing = true
no_number elifs = true
no_number (texts n) = true
no_number (operator n) = true
no_number number64 = false

abbrev no_number_ok : ℕ → Bool
no_number_ok k = eqb k 19 || no_number (body (kind_of k))

finite_body : (B : Body) (b : List ℕ) → T (no_number B) → true ≡ body_finite B b
finite_body nothing b h = refl
finite_body elifs b h = refl
finite_body (texts n) b h = refl
finite_body (operator n) b h = refl
finite_body number64 b h = absurd h

pub no_number_lem : (k : ℕ) (b : List ℕ) → k < 24 → (k ≡ 19 → ⊥) → true ≡ body_finite (body (kind_of k)) b
no_number_lem k b h a = finite_body (body (kind_of k)) b (rw (ne_eqb k 19 a) at (entry no_number_ok 24 tt k h))
