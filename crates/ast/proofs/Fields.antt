-- One node's field, at the front of the bodies.
use mathlib.Core.Path.{◌≡◌, refl, sym, ap}
use mathlib.Core.Bool.{Bool, true, ◌&&◌, and-true}
use mathlib.Core.List.{List, [], ◌∷◌}
use Prim.Native.Nat.{ℕ, ◌≤◌, ◌<◌}
use native.Mathlib.Nat.{not-suc-le-zero}
use native.Mathlib.Omega.{arith}
use lib.Dec.{T, ltb, eqb→eq}
use lib.ListN.{length, get_or, take}
use Rattle.ast.specs.Node.{kind_of, Body, nothing, elifs, texts, operator, number64, body, body_size}
use Rattle.ast.specs.File.{between, field_ok}
use Rattle.ast.proofs.Table.{simple, simple_body}
use Rattle.lent.specs.Lists.{all}

one : (p : ℕ → Bool) (b : List ℕ) → 1 ≤ length b → p (get_or b 0 0) ≡ all p (take 1 b)
one p [] h = absurd (not-suc-le-zero h)
one p (x ∷ b) h = sym (and-true (p x))

two : (p : ℕ → Bool) (b : List ℕ) → 2 ≤ length b → (p (get_or b 0 0) && p (get_or b 1 0)) ≡ all p (take 2 b)
two p [] h = absurd (not-suc-le-zero h)
two p (x ∷ []) h = absurd (omega arith)
two p (x ∷ (y ∷ b)) h = ap (λ (t : Bool). p x && t) (sym (and-true (p y)))

-- bodies but 17, 18, 5 and 3
module _ (t : ℕ) (b : List ℕ) where
  one_text : (B : Body) → T (simple B) → body_size B ≡ 1 → 1 ≤ length b → ltb (get_or b 0 0) t ≡ field_ok t B (take (body_size B) b)
  one_text nothing s e h = absurd (omega arith)
  one_text elifs s e h = absurd s
  one_text (texts n) s e h = rw e (one (λ (x : ℕ). ltb x t) b h)
  one_text (operator n) s e h = absurd s
  one_text number64 s e h = absurd (omega arith)

  no_text : (B : Body) → T (simple B) → (body_size B ≡ 1 → ⊥) → true ≡ field_ok t B (take (body_size B) b)
  no_text nothing s e = refl
  no_text elifs s e = refl
  no_text (texts n) s e = absurd (e (eqb→eq n 1 s))
  no_text (operator n) s e = absurd s
  no_text number64 s e = refl

module _ (t k : ℕ) (b : List ℕ) (fits : body_size (body (kind_of k)) ≤ length b) where
  abbrev pub Field : Bool
  Field = field_ok t (body (kind_of k)) (take (body_size (body (kind_of k))) b)

  pub room : (n : ℕ) → body_size (body (kind_of k)) ≡ n → n ≤ length b
  room n e = omega (arith, e)

  pub binary_field : k ≡ 17 → between 1 13 (get_or b 0 0) ≡ Field
  binary_field e = rw e (one (between 1 13) b (room 1 (rw e)))

  pub unary_field : k ≡ 18 → between 1 2 (get_or b 0 0) ≡ Field
  unary_field e = rw e (one (between 1 2) b (room 1 (rw e)))

  pub for_field : k ≡ 5 → (ltb (get_or b 0 0) t && ltb (get_or b 1 0) t) ≡ Field
  for_field e = rw e (two (λ (x : ℕ). ltb x t) b (room 2 (rw e)))

  pub if_field : k ≡ 3 → true ≡ Field
  if_field e = rw e

  module _ (known : k < 24) (n17 : k ≡ 17 → ⊥) (n18 : k ≡ 18 → ⊥) (n5 : k ≡ 5 → ⊥) (n3 : k ≡ 3 → ⊥) where
    pub text_field : body_size (body (kind_of k)) ≡ 1 → ltb (get_or b 0 0) t ≡ Field
    text_field e = one_text t b (body (kind_of k)) (simple_body k known n17 n18 n5 n3) e (room 1 e)

    pub other_field : (body_size (body (kind_of k)) ≡ 1 → ⊥) → true ≡ Field
    other_field e = no_text t b (body (kind_of k)) (simple_body k known n17 n18 n5 n3) e
