-- The first fault of the nodes' bodies, 5 or 39, in node order.
use mathlib.Core.Path.{◌≡◌, refl}
use mathlib.Core.Bool.{Bool, true, false, ◌&&◌}
use mathlib.Core.List.{List, [], ◌∷◌}
use Prim.Native.Nat.{ℕ}
use native.Mathlib.Omega.{arith}
use Rattle.ast.specs.Node.{Kind, body, Node, node}
use Rattle.ast.specs.File.{field_ok, body_finite, node_ok, node_finite}
use Rattle.ast.specs.inner.Answer.{or_else, fault_or}
use Rattle.lent.specs.Lists.{all}

-- ---- at one node

module _ (t r : ℕ) {k : Kind} {c : ℕ} {b : List ℕ} {ms ns : List Node} (e : ns ≡ node k c b ∷ ms) where
  pub fault_field : field_ok t (body k) b ≡ false → fault_or t ns r ≡ 5
  fault_field h = rw (e, h)

  pub fault_number : field_ok t (body k) b ≡ true → body_finite (body k) b ≡ false → fault_or t ns r ≡ 39
  fault_number h g = rw (e, h, g)

  pub fault_later : field_ok t (body k) b ≡ true → body_finite (body k) b ≡ true → fault_or t ns r ≡ fault_or t ms r
  fault_later h g = rw (e, h, g)

-- ---- of all nodes

-- a fault is told, whatever follows
pub fault_told : (t : ℕ) (ns : List Node) (r : ℕ) → (fault_or t ns 0 ≡ 0 → ⊥) → fault_or t ns 0 ≡ fault_or t ns r
fault_told t [] r h = absurd (h refl)
fault_told t (n ∷ ns) r h = by_tests (node_ok t n) (node_finite n) (fault_told t ns r) h
  where
    by_tests : (a b : Bool) {x y : ℕ} → ((x ≡ 0 → ⊥) → x ≡ y) → (or_else a 5 (or_else b 39 x) ≡ 0 → ⊥) → or_else a 5 (or_else b 39 x) ≡ or_else a 5 (or_else b 39 y)
    by_tests true true k h = k h
    by_tests true false k h = refl
    by_tests false b k h = refl

-- where there is none, the later checks decide
pub no_fault : (t : ℕ) (ns : List Node) (r : ℕ) → fault_or t ns 0 ≡ 0 → (all (node_ok t) ns ≡ true) × (r ≡ fault_or t ns r)
no_fault t [] r e = (refl, refl)
no_fault t (n ∷ ns) r e = by_tests (node_ok t n) (node_finite n) (no_fault t ns r) e
  where
    by_tests : (a b : Bool) {x y : ℕ} {c : Bool} → (x ≡ 0 → (c ≡ true) × (r ≡ y)) → or_else a 5 (or_else b 39 x) ≡ 0 → ((a && c) ≡ true) × (r ≡ or_else a 5 (or_else b 39 y))
    by_tests true true k e = k e
    by_tests true false k e = absurd (omega arith)
    by_tests false b k e = absurd (omega arith)
