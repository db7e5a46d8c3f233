-- The nodes of an expression are those of one tree.
use Rattle.std.specs.Prelude.{ℕ, zero, suc, ◌+◌, ◌*◌, ◌≤◌, ◌<◌, ◌≡◌, refl, true, false, List, [], ◌∷◌, ◌++◌, length, drop, get_or}
use Rattle.std.proofs.Common.{ap, sym, ◌∙◌, append_assoc, append-nil, arith, length-append, length-drop, drop-drop, get_or-drop}
use Rattle.ast.specs.Node.{number_of, Node, node}
use Rattle.ast.specs.Tree.{Lit, Val, Text, Truth, Expr, Literal, Name, BinaryExpr, UnaryExpr, VarAssign, ArrayMut, FnCall, Rhs, Expression, Table, Array, ArrayAccess}
use Rattle.ast.specs.Tree.{Exprs, no_exprs, more_exprs, Items, no_items, more_items}
use Rattle.ast.specs.Structure.{item_count}
use Rattle.ast.specs.Flat.{flat_lits, flat_expr, flat_rhs, flat_exprs, flat_items, expr_count, entry_bytes, body_bytes}
use Rattle.emit.specs.inner.Made.{Spells}
use Rattle.emit.specs.laws.Spell.{in_node, fits_nodes, fits_bodies, first_kind}
use Rattle.expr.specs.inner.Awaits.{body_length, Awaits, done, next}

-- two lists before the rest
two : (m : ℕ) (a b ns : List Node) → Awaits m (a ++ (b ++ ns)) → Awaits m ((a ++ b) ++ ns)
two m a b ns h = rw (append_assoc a b ns) h

-- another number that is the same
same_as : {m q : ℕ} {ns : List Node} → q ≡ m → Awaits m ns → Awaits q ns
same_as e h = rw e h

lit_awaits : (l : Lit) (m : ℕ) (ns : List Node) → Awaits m ns → Awaits (suc m) (flat_expr (Literal l) ++ ns)
lit_awaits (Val b) m ns h = next {n = 0} {m = m} refl h (omega arith)
lit_awaits (Text t) m ns h = next {n = 0} {m = m} refl h (omega arith)
lit_awaits (Truth true) m ns h = next {n = 0} {m = m} refl h (omega arith)
lit_awaits (Truth false) m ns h = next {n = 0} {m = m} refl h (omega arith)

lits_awaits : (ls : List Lit) (m : ℕ) (ns : List Node) → Awaits m ns → Awaits (length ls + m) (flat_lits ls ++ ns)
lits_awaits [] m ns h = same_as (omega arith) h
lits_awaits (l ∷ ls) m ns h = same_as (omega arith) (lit_awaits l (length ls + m) (flat_lits ls ++ ns) (lits_awaits ls m ns h))

mutual
  pub expr_awaits : (e : Expr) (m : ℕ) (ns : List Node) → Awaits m ns → Awaits (suc m) (flat_expr e ++ ns)
  expr_awaits (Literal l) m ns h = lit_awaits l m ns h
  expr_awaits (Name x) m ns h = next {n = 0} {m = m} refl h (omega arith)
  expr_awaits (BinaryExpr t a b) m ns h =
      next {n = 2} {m = m} refl (two (suc (suc m)) (flat_expr a) (flat_expr b) ns (expr_awaits a (suc m) (flat_expr b ++ ns) (expr_awaits b m ns h))) (omega arith)
  expr_awaits (UnaryExpr t a) m ns h = next {n = 1} {m = m} refl (expr_awaits a m ns h) (omega arith)
  expr_awaits (VarAssign x r) m ns h = next {n = 1} {m = m} refl (rhs_awaits r m ns h) (omega arith)
  expr_awaits (ArrayMut x a b) m ns h =
      next {n = 2} {m = m} refl (two (suc (suc m)) (flat_expr a) (flat_expr b) ns (expr_awaits a (suc m) (flat_expr b ++ ns) (expr_awaits b m ns h))) (omega arith)
  expr_awaits (FnCall f ps) m ns h = next refl (exprs_awaits ps m ns h) refl

  rhs_awaits : (r : Rhs) (m : ℕ) (ns : List Node) → Awaits m ns → Awaits (suc m) (flat_rhs r ++ ns)
  rhs_awaits (Expression e) m ns h = expr_awaits e m ns h
  rhs_awaits (Table is) m ns h = next refl (items_awaits is m ns h) refl
  rhs_awaits (Array a ls) m ns h = next refl (lits_awaits ls m ns h) refl
  rhs_awaits (ArrayAccess a i) m ns h = next {n = 1} {m = m} refl (expr_awaits i m ns h) (omega arith)

  exprs_awaits : (ps : Exprs) (m : ℕ) (ns : List Node) → Awaits m ns → Awaits (expr_count ps + m) (flat_exprs ps ++ ns)
  exprs_awaits no_exprs m ns h = same_as (omega arith) h
  exprs_awaits (more_exprs e ps) m ns h =
      same_as (omega arith) (two (suc (expr_count ps + m)) (flat_expr e) (flat_exprs ps) ns (expr_awaits e (expr_count ps + m) (flat_exprs ps ++ ns) (exprs_awaits ps m ns h)))

  items_awaits : (is : Items) (m : ℕ) (ns : List Node) → Awaits m ns → Awaits (item_count is + m) (flat_items is ++ ns)
  items_awaits no_items m ns h = same_as (omega arith) h
  items_awaits (more_items k e is) m ns h =
      same_as (omega arith) (next {n = 1} {m = item_count is + m} refl
      (two (suc (item_count is + m)) (flat_expr e) (flat_items is) ns (expr_awaits e (item_count is + m) (flat_items is ++ ns) (items_awaits is m ns h))) (omega arith))

pub one_awaits : (e : Expr) → Awaits 1 (flat_expr e)
one_awaits e = rw append-nil at (expr_awaits e 0 [] done)

-- ---- a turn of the loop: u bytes of the entries and v of the bodies are passed, m trees are awaited

-- what is left of the nodes ms
pub record AwaitsLeft (ms : List Node) (c b : List ℕ) (u v m : ℕ) : Type 0 where
  pub nodes : List Node
  pub awaits : Awaits m nodes
  pub spells : Spells nodes (drop u c) (drop v b)
  pub cont : u + length (entry_bytes nodes) ≡ length (entry_bytes ms)
  pub body : v + length (body_bytes nodes) ≡ length (body_bytes ms)

pub left_start : (e : Expr) (c b : List ℕ) → Spells (flat_expr e) c b → AwaitsLeft (flat_expr e) c b 0 0 1
left_start e c b h = record { nodes = flat_expr e; awaits = one_awaits e; spells = h; cont = omega arith; body = omega arith }

-- no tree is awaited: no node is left
pub left_end : {ms : List Node} {c b : List ℕ} {u v m : ℕ} → m ≡ 0 → AwaitsLeft ms c b u v m → (u ≡ length (entry_bytes ms)) × (v ≡ length (body_bytes ms))
left_end z h = by h.nodes (rw z at h.awaits) h.cont h.body
  where
    by : {u v x y : ℕ} (ns : List Node) → Awaits 0 ns → u + length (entry_bytes ns) ≡ x → v + length (body_bytes ns) ≡ y → (u ≡ x) × (v ≡ y)
    by [] done p q = (omega (arith, p), omega (arith, q))
    by {y = y} (_ ∷ _) x6 p q = elim x6 [ ]

-- every tree has a node
few : {m : ℕ} {ns : List Node} → Awaits m ns → m * 2 ≤ length (entry_bytes ns)
few done = omega arith
few (next e h q) = omega (arith, few h)

pub record Turn (ms : List Node) (c b : List ℕ) (u v m : ℕ) : Type 0 where
  pub within : u + 2 ≤ length c
  pub bodies : v + body_length (get_or c u 0) ≤ length b
  pub small : m + get_or c (u + 1) 0 ≤ length c
  pub left : (q : ℕ) → q + 1 ≡ m + get_or c (u + 1) 0 → AwaitsLeft ms c b (u + 2) (v + body_length (get_or c u 0)) q

module _ (ms : List Node) (c b : List ℕ) (u v : ℕ) where
  by_node : (m : ℕ) (ns : List Node) → 0 < m → Awaits m ns → Spells ns (drop u c) (drop v b) → u + length (entry_bytes ns) ≡ length (entry_bytes ms) → v + length (body_bytes ns) ≡ length (body_bytes ms)
      → u ≤ length c → v ≤ length b → Turn ms c b u v m
  by_node zero [] p done s f g i j = absurd (omega (arith, p))
  by_node (suc m) (node k n d ∷ ns) p (next {q = q} e h z) s f g i j =
      let kd : get_or c u 0 ≡ number_of k = ap (λ (t : ℕ). get_or c t 0) (omega arith) ∙ sym (get_or-drop u c 0 0) ∙ first_kind s in
      let ch : get_or c (u + 1) 0 ≡ n = sym (get_or-drop u c 1 0) ∙ ap (λ (l : List ℕ). get_or l 1 0) s.nodes in
      let bl : body_length (get_or c u 0) ≡ length d = ap body_length kd ∙ sym e in
      record {
        within = omega (arith, fits_nodes s, length-drop u c, i);
        bodies = omega (arith, fits_bodies s, length-drop v b, j, bl, length-append d (body_bytes ns));
        small = omega (arith, few h, z, ch, fits_nodes s, length-drop u c);
        left = λ q' r. record {
          nodes = ns;
          awaits = same_as (omega (arith, r, z, ch)) h;
          spells = rw (← drop-drop 2 u c, bl, ← drop-drop (length d) v b) (in_node s);
          cont = omega (arith, f);
          body = omega (arith, g, bl, length-append d (body_bytes ns));
        };
      }
  by_node zero (_ ∷ ns) p _ s f g i j = elim p [ ]
  by_node (suc m) [] p x9 s f g i j = elim x9 [ ]

  pub turn : (m : ℕ) → 0 < m → u ≤ length c → v ≤ length b → AwaitsLeft ms c b u v m → Turn ms c b u v m
  turn m p i j h = by_node m h.nodes p h.awaits h.spells h.cont h.body i j
