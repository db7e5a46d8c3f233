-- Answers of the pass over bytes agree with what is left of the nodes.
use mathlib.Core.Path.{◌≡◌, refl, sym, ap, ◌∙◌}
use mathlib.Core.Bool.{true}
use mathlib.Core.List.{List, [], ◌∷◌}
use Prim.Native.Nat.{ℕ, ◌+◌, ◌≤◌, ◌<◌}
use native.Mathlib.Nat.{not-suc-le-zero}
use native.Mathlib.Numerals.{add-one}
use native.Mathlib.Omega.{arith}
use lib.Arith.{lt_of_le-ne}
use lib.Dec.{ltb}
use lib.ListN.{length, get_or, take, drop}
use borrow.Author.Tests.{ltb-true}
use Rattle.ast.specs.Node.{Kind, k_program, k_elif, k_item, k_stmt, k_right, k_expr, Node, node, number_of, kind_of, body}
use Rattle.ast.specs.Structure.{field}
use Rattle.ast.specs.File.{nodes_from, node_ok, field_ok}
use Rattle.ast.specs.inner.Pass.{Remaining, wrong, left, key_of, Fit, Fits, nodes_of, Agrees, refuses, leaves}
use Rattle.ast.specs.declared.structure.Rest.{Rest}
use Rattle.std.specs.Prelude.{Option, Some, None}
use Rattle.ast.specs.laws.Kinds.{number_kind}
use Rattle.ast.proofs.Rooms.{First, first, size_at}
use Rattle.lent.specs.laws.Truths.{and_left, and_right}
use Rattle.lent.specs.Lists.{all}

-- equal rests have equal nodes
left_eq : {ns ms : List Node} → left ns ≡ left ms → ns ≡ ms
left_eq e = cc

pub no_first : (b : List ℕ) → length b ≡ 0 → 0 ≡ get_or b 0 0
no_first [] h = refl
no_first (x ∷ b) h = absurd (omega arith)

-- ---- an answer

pub refused : {x : Remaining} {p : Rest} {r : Option (Unit {0})} → Agrees x p r → r ≡ None → x ≡ wrong
refused refuses e = refl
refused (leaves f) e = let z : ◌≡◌ {A = ℕ} 0 1 = cc in absurd (omega arith)

pub goes_on : {x : Remaining} {p : Rest} {r : Option (Unit {0})} {u : Unit {0}} → Agrees x p r → r ≡ Some u → Fits p × (x ≡ left (nodes_of p))
goes_on refuses e = let z : ◌≡◌ {A = ℕ} 0 1 = cc in absurd (omega arith)
goes_on (leaves f) e = (f, refl)

-- ---- the first node where the bytes fit

pub fit_rest : {c b : List ℕ} → Fit c b → First c b → Fit (drop 2 c) (drop (size_at c) b)
fit_rest {c} {b} f g =
    record {
      texts = f.texts;
      few = f.few;
      room = g.rest;
      fields = and_right (field_ok f.texts (body (kind_of (get_or c 0 0))) (take (size_at c) b)) _ (sym (ap (all (node_ok f.texts)) g.nodes) ∙ f.fields);
    }

fit_field : {c b : List ℕ} (f : Fit c b) → First c b → field_ok f.texts (body (kind_of (get_or c 0 0))) (take (size_at c) b) ≡ true
fit_field {c} {b} f g = and_left _ (all (node_ok f.texts) (nodes_from (drop 2 c) (drop (size_at c) b))) (sym (ap (all (node_ok f.texts)) g.nodes) ∙ f.fields)

-- ---- keys

not_item : (k : Kind) (c : ℕ) (b : List ℕ) (ns : List Node) → (number_of k ≡ 11 → ⊥) → 0 ≡ key_of (node k c b ∷ ns)
not_item k_program c b ns h = refl
not_item k_elif c b ns h = refl
not_item k_item c b ns h = absurd (h refl)
not_item (k_stmt k) c b ns h = refl
not_item (k_right k) c b ns h = refl
not_item (k_expr k) c b ns h = refl

from_field : (b : List ℕ) → get_or b 0 0 ≡ field (take 1 b) 0
from_field [] = refl
from_field (x ∷ b) = refl

pub key_none : (c b : List ℕ) → length c ≡ 0 → 0 ≡ key_of (nodes_from c b)
key_none [] b h = refl
key_none (x ∷ c) b h = absurd (omega arith)

module _ {c b : List ℕ} (f : Fit c b) (l : 1 ≤ length c) where
  abbrev front : First c b
  front = first f.room l

  module _ (e : get_or c 0 0 ≡ 11) where
    pub key_in : 1 ≤ length b
    key_in = rw e at front.fits

    pub key_small : get_or b 0 0 < 64
    key_small =
        let g : field_ok f.texts (body (kind_of 11)) (take 1 b) ≡ true = rw e at (fit_field f front) in
        let m = small f.texts b key_in g in
        omega (arith, f.few)
      where
        small : (t : ℕ) (l : List ℕ) → 1 ≤ length l → all (λ (y : ℕ). ltb y t) (take 1 l) ≡ true → get_or l 0 0 < t
        small t [] k e = absurd (not-suc-le-zero k)
        small t (y ∷ l) k e = ltb-true y t (and_left _ _ e)

    pub key_item : get_or b 0 0 ≡ key_of (nodes_from c b)
    key_item = rw (front.nodes, e) (from_field b)

  pub key_other : (get_or c 0 0 ≡ 11 → ⊥) → 0 ≡ key_of (nodes_from c b)
  key_other n =
      rw front.nodes
      (not_item (kind_of (get_or c 0 0)) (get_or c 1 0) (take (size_at c) b) (nodes_from (drop 2 c) (drop (size_at c) b)) (λ e. n (sym (number_kind (get_or c 0 0) front.least front.known) ∙ e)))

-- ---- the last of the kinds
pub past : (n : ℕ) {k : ℕ} → n ≤ k → (k ≡ n → ⊥) → n + 1 ≤ k
past n {k} h e = rw add-one (lt_of_le-ne h (λ q. e (sym q)))

pub only_23 : {k : ℕ} → 23 ≤ k → k < 24 → k ≡ 23
only_23 h l = omega arith
