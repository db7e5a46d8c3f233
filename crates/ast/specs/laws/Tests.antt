-- Tests: what a conjunction, a range, and a test of each number or of each element say.
use Rattle.std.specs.Prelude.{◌≡◌, refl, Bool, true, false, ◌&&◌, List, [], ◌∷◌, map, ℕ, zero, suc, ◌-◌, ◌≤◌, ◌<◌, T, leb, eqb}
use Rattle.std.proofs.Common.{ap, arith, leb→le, le→leb, eqb→eq, eqb-true}
use Rattle.std.proofs.lemmas.Bool.{eqb-false}
use Rattle.lent.specs.Bytes.{Each, none, more}
use Rattle.ast.specs.File.{between}
use Rattle.lent.specs.Lists.{all}

pub T-left : (a b : Bool) → T (a && b) → T a
T-left true b h = tt
T-left false b h = h

pub T-right : (a b : Bool) → T (a && b) → T b
T-right true b h = h
T-right false b h = absurd h

pub T-both : (a b : Bool) → T a → T b → T (a && b)
T-both true b h k = k
T-both false b h k = h

pub between_le : (a b n : ℕ) → T (between a b n) → (a ≤ n) × (n ≤ b)
between_le a b n h = (leb→le a n (T-left (leb a n) (leb n b) h), leb→le n b (T-right (leb a n) (leb n b) h))

pub le_between : (a b n : ℕ) → a ≤ n → n ≤ b → T (between a b n)
le_between a b n l u = T-both (leb a n) (leb n b) (le→leb a n l) (le→leb n b u)

-- ---- a table's rule is one computed test: p of every number below n

abbrev pub below : (ℕ → Bool) → ℕ → Bool
below p zero = true
below p (suc n) = p n && below p n

pub entry : (p : ℕ → Bool) (n : ℕ) → T (below p n) → (i : ℕ) → i < n → T (p i)
entry p zero t i h = absurd (omega arith)
entry p (suc n) t i h = pick (eqb i n) refl (entry p n (T-right (p n) (below p n) t) i)
  where
    pick : (w : Bool) → eqb i n ≡ w → (i < n → T (p i)) → T (p i)
    pick true e k = rw (eqb-true i n e) (T-left (p n) (below p n) t)
    pick false e k =
        let ne : i ≡ n → ⊥ = eqb-false i n e in
        k (omega arith)

-- f is the identity from 1 to n
abbrev pub fixes : (ℕ → ℕ) → ℕ → Bool
fixes f n = below (λ i. eqb (f (suc i)) (suc i)) n

pub fixed : (f : ℕ → ℕ) (n : ℕ) → T (fixes f n) → (i : ℕ) → 1 ≤ i → i ≤ n → f i ≡ i
fixed f n t i l u =
    let e : suc (i - 1) ≡ i = omega arith in
    rw e at (eqb→eq (f (suc (i - 1))) (suc (i - 1)) (entry (λ k. eqb (f (suc k)) (suc k)) n t (i - 1) (omega arith)))

-- ---- a test of each element

module _ {A : Type 0} (p : A → Bool) where
  pub all_each : {P : A → Type 0} → ((x : A) → T (p x) → P x) → (l : List A) → T (all p l) → Each P l
  all_each k [] h = none
  all_each k (x ∷ l) h = more (k x (T-left (p x) (all p l) h)) (all_each k l (T-right (p x) (all p l) h))

  pub all_map : {B : Type 0} (g : B → A) (l : List B) → all p (map g l) ≡ all (λ x. p (g x)) l
  all_map g [] = refl
  all_map g (x ∷ l) = ap (λ (t : Bool). p (g x) && t) (all_map g l)
