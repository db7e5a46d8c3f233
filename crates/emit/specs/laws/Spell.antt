-- Parts of the contents and the bodies that spell nodes.
use Rattle.std.specs.Prelude.{ℕ, ◌+◌, ◌-◌, ◌≤◌, ◌≡◌, refl, true, false, List, [], ◌∷◌, ◌++◌, length, take, drop, get_or}
use Rattle.std.proofs.Common.{ap, sym, ◌∙◌, append_assoc, arith, length-append, length-drop, drop_at, drop-drop, take_all}
use Rattle.ast.specs.Node.{Kind, number_of, Node, node}
use Rattle.ast.specs.Tree.{Val, Text, Truth, Expr, Literal, Name, BinaryExpr, UnaryExpr, VarAssign, ArrayMut, FnCall}
use Rattle.ast.specs.Flat.{flat_expr, entry_bytes, body_bytes}
use Rattle.emit.specs.inner.Made.{Spells}

pub entry_append : (ns ms : List Node) → entry_bytes (ns ++ ms) ≡ entry_bytes ns ++ entry_bytes ms
entry_append [] ms = refl
entry_append (node k c b ∷ ns) ms = ap (λ (l : List ℕ). number_of k ∷ (c ∷ l)) (entry_append ns ms)

pub body_append : (ns ms : List Node) → body_bytes (ns ++ ms) ≡ body_bytes ns ++ body_bytes ms
body_append [] ms = refl
body_append (node k c b ∷ ns) ms = ap (λ (l : List ℕ). b ++ l) (body_append ns ms) ∙ sym (append_assoc b (body_bytes ns) (body_bytes ms))

pub entries_both : (ns ms : List Node) → length (entry_bytes (ns ++ ms)) ≡ length (entry_bytes ns) + length (entry_bytes ms)
entries_both ns ms = ap length (entry_append ns ms) ∙ length-append (entry_bytes ns) (entry_bytes ms)

pub bodies_both : (ns ms : List Node) → length (body_bytes (ns ++ ms)) ≡ length (body_bytes ns) + length (body_bytes ms)
bodies_both ns ms = ap length (body_append ns ms) ∙ length-append (body_bytes ns) (body_bytes ms)

-- an expression has at least one node
pub expr_size : (e : Expr) → 2 ≤ length (entry_bytes (flat_expr e))
expr_size (Literal (Val b)) = omega arith
expr_size (Literal (Text t)) = omega arith
expr_size (Literal (Truth true)) = omega arith
expr_size (Literal (Truth false)) = omega arith
expr_size (Name x) = omega arith
expr_size (BinaryExpr t a b) = omega arith
expr_size (UnaryExpr t a) = omega arith
expr_size (VarAssign x r) = omega arith
expr_size (ArrayMut x i v) = omega arith
expr_size (FnCall f ps) = omega arith

-- a part of a slice from k on
abbrev pub from : ℕ → List ℕ → List ℕ
from k l = take (length l - k) (drop k l)

pub from_drop : (k : ℕ) (l : List ℕ) → from k l ≡ drop k l
from_drop k l = take_all (length l - k) (drop k l) (omega (arith, length-drop k l))

pub length_from : (k : ℕ) (l : List ℕ) → length (from k l) ≡ length l - k
length_from k l = ap length (from_drop k l) ∙ length-drop k l

pub in_node : {k : Kind} {n : ℕ} {d : List ℕ} {ns : List Node} {c b : List ℕ} → Spells (node k n d ∷ ns) c b → Spells ns (drop 2 c) (drop (length d) b)
in_node {d = d} {ns = ns} h = record {
  rest = h.rest;
  restb = h.restb;
  nodes = ap (drop 2) h.nodes;
  bodies = ap (drop (length d)) (h.bodies ∙ append_assoc d (body_bytes ns) h.restb) ∙ drop_at d (body_bytes ns ++ h.restb) (length d) refl;
}

pub fits_nodes : {ns : List Node} {c b : List ℕ} → Spells ns c b → length (entry_bytes ns) ≤ length c
fits_nodes {ns = ns} h = omega (arith, ap length h.nodes, length-append (entry_bytes ns) h.rest)

pub fits_bodies : {ns : List Node} {c b : List ℕ} → Spells ns c b → length (body_bytes ns) ≤ length b
fits_bodies {ns = ns} h = omega (arith, ap length h.bodies, length-append (body_bytes ns) h.restb)

module _ (ns ms : List Node) {c b : List ℕ} (h : Spells (ns ++ ms) c b) where
  both_nodes : c ≡ entry_bytes ns ++ (entry_bytes ms ++ h.rest)
  both_nodes = h.nodes ∙ ap (λ (l : List ℕ). l ++ h.rest) (entry_append ns ms) ∙ append_assoc (entry_bytes ns) (entry_bytes ms) h.rest

  both_bodies : b ≡ body_bytes ns ++ (body_bytes ms ++ h.restb)
  both_bodies = h.bodies ∙ ap (λ (l : List ℕ). l ++ h.restb) (body_append ns ms) ∙ append_assoc (body_bytes ns) (body_bytes ms) h.restb

  pub first : Spells ns c b
  first = record { rest = entry_bytes ms ++ h.rest; restb = body_bytes ms ++ h.restb; nodes = both_nodes; bodies = both_bodies }

  pub second : Spells ms (drop (length (entry_bytes ns)) c) (drop (length (body_bytes ns)) b)
  second = record {
    rest = h.rest;
    restb = h.restb;
    nodes = ap (drop (length (entry_bytes ns))) both_nodes ∙ drop_at (entry_bytes ns) (entry_bytes ms ++ h.rest) (length (entry_bytes ns)) refl;
    bodies = ap (drop (length (body_bytes ns))) both_bodies ∙ drop_at (body_bytes ns) (body_bytes ms ++ h.restb) (length (body_bytes ns)) refl;
  }

pub second_from : (ns ms : List Node) (i j : ℕ) (c b : List ℕ) → Spells (ns ++ ms) (drop i c) (drop j b) → Spells ms (drop (i + length (entry_bytes ns)) c) (drop (j + length (body_bytes ns)) b)
second_from ns ms i j c b h = rw (← drop-drop (length (entry_bytes ns)) i c, ← drop-drop (length (body_bytes ns)) j b) (second ns ms h)

pub first_kind : {k : Kind} {n : ℕ} {d : List ℕ} {ns : List Node} {c b : List ℕ} → Spells (node k n d ∷ ns) c b → get_or c 0 0 ≡ number_of k
first_kind h = ap (λ (l : List ℕ). get_or l 0 0) h.nodes

pub first_body : {k : Kind} {n x : ℕ} {d : List ℕ} {ns : List Node} {c b : List ℕ} → Spells (node k n (x ∷ d) ∷ ns) c b → get_or b 0 0 ≡ x
first_body h = ap (λ (l : List ℕ). get_or l 0 0) h.bodies
