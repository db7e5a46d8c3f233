-- Parsers with a test on their trees: what is left of a sequence of them, and of many.
use mathlib.Core.Path.{◌≡◌, refl, ap, ◌∙◌}
use mathlib.Core.Bool.{Bool, true, false, ◌&&◌}
use mathlib.Core.List.{List}
use Prim.Native.Nat.{ℕ, zero, suc}
use native.Mathlib.Omega.{arith}
use Rattle.ast.specs.Node.{Node}
use Rattle.ast.specs.Structure.{Parsed, Fails, Takes, ◌>>=◌, guard, many}
use Rattle.ast.specs.inner.Pass.{Remaining, wrong, left, kept_if, then, times, keeping}

pub only_and : (a b : Bool) (x : Remaining) → kept_if (a && b) x ≡ kept_if a (kept_if b x)
only_and true b x = refl
only_and false b x = refl

pub then_left : (x : Remaining) → then x (λ ns. left ns) ≡ x
then_left wrong = refl
then_left (left ns) = refl

pub then_ext : (x : Remaining) (f g : List Node → Remaining) → ((ns : List Node) → f ns ≡ g ns) → then x f ≡ then x g
then_ext wrong f g h = refl
then_ext (left ns) f g h = h ns

pub then_then : (x : Remaining) (f g : List Node → Remaining) → then (then x f) g ≡ then x (λ ns. then (f ns) g)
then_then wrong f g = refl
then_then (left ns) f g = refl

only_wrong : (u : Bool) → wrong ≡ kept_if u wrong
only_wrong true = refl
only_wrong false = refl

pub keeping_guard : {A : Type 0} (ok : A → Bool) (t : Bool) (p : Parsed A) → keeping ok (guard t p) ≡ kept_if t (keeping ok p)
keeping_guard ok true p = refl
keeping_guard ok false p = refl

pub keeping_ext : {A : Type 0} (ok ok' : A → Bool) (p : Parsed A) → ((a : A) → ok a ≡ ok' a) → keeping ok p ≡ keeping ok' p
keeping_ext ok ok' Fails h = refl
keeping_ext ok ok' (Takes a ns) h = ap (λ (t : Bool). kept_if t (left ns)) (h a)

-- one parser, then the others; u is what was tested before
pub bind : {A B : Type 0} (ok : B → Bool) (okA : A → Bool) (u : Bool) (p : Parsed A) (f : A → List Node → Parsed B) (x : Remaining) (g : List Node → Remaining)
    → keeping okA p ≡ x → ((a : A) (ms : List Node) → p ≡ Takes a ms → keeping ok (f a ms) ≡ kept_if (u && okA a) (g ms)) → keeping ok (p >>= f) ≡ kept_if u (then x g)
bind ok okA u Fails f x g e h = only_wrong u ∙ ap (λ (z : Remaining). kept_if u (then z g)) e
bind ok okA u (Takes a ms) f x g e h = h a ms refl ∙ step u (okA a) ∙ ap (λ (z : Remaining). kept_if u (then z g)) e
  where
    step : (v t : Bool) → kept_if (v && t) (g ms) ≡ kept_if v (then (kept_if t (left ms)) g)
    step true true = refl
    step true false = refl
    step false t = refl

-- the last parser
pub last : {A B : Type 0} (ok : B → Bool) (okA : A → Bool) (u : Bool) (p : Parsed A) (C : A → B) (x : Remaining)
    → keeping okA p ≡ x → ((a : A) (ms : List Node) → p ≡ Takes a ms → ok (C a) ≡ (u && okA a)) → keeping ok (p >>= λ a ms. Takes (C a) ms) ≡ kept_if u x
last ok okA u Fails C x e h = only_wrong u ∙ ap (kept_if u) e
last ok okA u (Takes a ms) C x e h = ap (λ (t : Bool). kept_if t (left ms)) (h a ms refl) ∙ only_and u (okA a) (left ms) ∙ ap (kept_if u) e

-- many of one kind
module _ {A B : Type 0} (cons : A → B → B) (nil : B) (okA : A → Bool) (oks : B → Bool) (none : oks nil ≡ true) (more : (a : A) (b : B) → oks (cons a b) ≡ (okA a && oks b)) where
  pub keeping_many : (p : List Node → Parsed A) (q : List Node → Remaining) → ((ns : List Node) → keeping okA (p ns) ≡ q ns) → (n : ℕ) (ns : List Node) → keeping oks (many cons nil p n ns) ≡ times q n ns
  keeping_many p q h zero ns = ap (λ (t : Bool). kept_if t (left ns)) none
  keeping_many p q h (suc n) ns =
      bind oks okA true (p ns) (λ a ms. many cons nil p n ms >>= λ b ks. Takes (cons a b) ks) (q ns) (λ ms. times q n ms) (h ns)
      (λ a ms w. last oks oks (okA a) (many cons nil p n ms) (cons a) (times q n ms) (keeping_many p q h n ms) (λ b ks v. more a b))

-- as many as were asked for
module _ {A B : Type 0} (cons : A → B → B) (nil : B) (size : B → ℕ) (none : size nil ≡ 0) (more : (a : A) (b : B) → size (cons a b) ≡ suc (size b)) where
  pub count_many : (p : List Node → Parsed A) (n : ℕ) (ns : List Node) (b : B) (ks : List Node) → many cons nil p n ns ≡ Takes b ks → size b ≡ n
  count_many p zero ns b ks e = let z : b ≡ nil = cc in ap size z ∙ none
  count_many p (suc n) ns b ks e = outer (λ ms b' ks' v. count_many p n ms b' ks' v) (p ns) e
    where
      inner : (a : A) (y : Parsed B) → ((b' : B) (ks' : List Node) → y ≡ Takes b' ks' → size b' ≡ n) → (y >>= λ b' ks'. Takes (cons a b') ks') ≡ Takes b ks → size b ≡ suc n
      inner a Fails f w = let z : ◌≡◌ {A = ℕ} 0 1 = cc in absurd (omega arith)
      inner a (Takes b' ks') f w = let z : b ≡ cons a b' = cc in ap size z ∙ more a b' ∙ ap suc (f b' ks' refl)

      outer : ((ms : List Node) (b' : B) (ks' : List Node) → many cons nil p n ms ≡ Takes b' ks' → size b' ≡ n) → (x : Parsed A) → (x >>= λ a ms. many cons nil p n ms >>= λ b' ks'. Takes (cons a b') ks') ≡ Takes b ks → size b ≡ suc n
      outer f Fails w = let z : ◌≡◌ {A = ℕ} 0 1 = cc in absurd (omega arith)
      outer f (Takes a ms) w = inner a (many cons nil p n ms) (f ms) w
