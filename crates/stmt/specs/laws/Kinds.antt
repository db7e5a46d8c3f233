-- Which statement stands at the front, by its kind; and where its parts stand.
use Rattle.std.specs.Prelude.{ℕ, ◌+◌, ◌≤◌, ◌≡◌, refl, Bool, List, ◌∷◌, length, drop, get_or}
use Rattle.std.proofs.Common.{sym, ap, ◌∙◌, arith, length-drop, drop-drop}
use Rattle.ast.specs.Node.{Kind, Node, node}
use Rattle.ast.specs.Tree.{Expr, Rhs, Source}
use Rattle.ast.specs.Tree.{Stmt, Block, IfStmt, ForStmt, Return, ReturnExpr, ExprStmt, VarDecl, VarInit, FnDecl, Stmts, Rest}
use Rattle.ast.specs.Flat.{flat_stmt, entry_bytes, body_bytes}
use Rattle.compiler.specs.Lower.{Place, stmt_labels, lower_stmt}
use Rattle.emit.specs.declared.Low.{Low}
use Rattle.emit.specs.declared.Done.{Done}
use Rattle.emit.specs.inner.Run.{kept, Ready}
use Rattle.emit.specs.inner.Made.{Spells, Made, Part, At, Reads, Front, ReadsAt, Goes}
use Rattle.emit.specs.laws.Laws.{some_place}
use Rattle.emit.specs.laws.Spell.{from, from_drop, in_node, first_kind, fits_nodes, fits_bodies}
use Rattle.emit.specs.laws.Places.{made_ready}
pub use Rattle.emit.specs.laws.Spell.{entries_both, bodies_both, expr_size}
use Rattle.stmt.specs.inner.Parts.{statements}
use Rattle.lent.specs.laws.Parts.{byte_here}

pub data Is : ℕ → Stmt → Type 0 where
  is_block : {b : Stmts} → Is 2 (Block b)
  is_if : {c : Expr} {b : Stmts} {k : Rest} → Is 3 (IfStmt c b k)
  is_for : {i v : ℕ} {s : Source} {b : Stmts} → Is 5 (ForStmt i v s b)
  is_return : Is 6 Return
  is_result : {e : Expr} → Is 6 (ReturnExpr e)
  is_expr : {e : Expr} → Is 7 (ExprStmt e)
  is_var : {x : ℕ} → Is 8 (VarDecl x)
  is_init : {x : ℕ} {r : Rhs} → Is 8 (VarInit x r)
  is_fn_lem : {f : ℕ} {ps : List ℕ} {b : Stmts} → Is 9 (FnDecl f ps b)

kind_of_lem : (s : Stmt) {c b : List ℕ} → Spells (flat_stmt s) c b → Is (get_or c 0 0) s
kind_of_lem (Block k) h = rw (first_kind h) is_block
kind_of_lem (IfStmt t k r) h = rw (first_kind h) is_if
kind_of_lem (ForStmt i v s k) h = rw (first_kind h) is_for
kind_of_lem Return h = rw (first_kind h) is_return
kind_of_lem (ReturnExpr e) h = rw (first_kind h) is_result
kind_of_lem (ExprStmt e) h = rw (first_kind h) is_expr
kind_of_lem (VarDecl x) h = rw (first_kind h) is_var
kind_of_lem (VarInit x r) h = rw (first_kind h) is_init
kind_of_lem (FnDecl f ps k) h = rw (first_kind h) is_fn_lem

pub kind_here : (s : Stmt) {c b : List ℕ} {m : ℕ} → Spells (flat_stmt s) c b → get_or c 0 0 ≡ m → Is m s
kind_here s h e = rw e at (kind_of_lem s h)

pub block_kind : (k : Stmts) (c b : List ℕ) (u v : ℕ) → Spells (flat_stmt (Block k)) (drop u c) (drop v b) → get_or c u 0 ≡ 2
block_kind k c b u v h = sym (byte_here c u) ∙ first_kind h

-- the kind of a part's first node
pub from_kind : (u : ℕ) (c : List ℕ) {m : ℕ} → get_or c u 0 ≡ m → get_or (from u c) 0 0 ≡ m
from_kind u c e = ap (λ (l : List ℕ). get_or l 0 0) (from_drop u c) ∙ byte_here c u ∙ e

-- every kind but these is 9
pub others : {m : ℕ} {s : Stmt} → Is m s → (m ≡ 2 → ⊥) → (m ≡ 3 → ⊥) → (m ≡ 5 → ⊥) → (m ≡ 6 → ⊥) → (m ≡ 7 → ⊥) → (m ≡ 8 → ⊥) → m ≡ 9
others is_block p q r s t u = absurd (p refl)
others is_if p q r s t u = absurd (q refl)
others is_for p q r s t u = absurd (r refl)
others is_return p q r s t u = absurd (s refl)
others is_result p q r s t u = absurd (s refl)
others is_expr p q r s t u = absurd (t refl)
others is_var p q r s t u = absurd (u refl)
others is_init p q r s t u = absurd (u refl)
others is_fn_lem p q r s t u = refl

-- ---- a node has two bytes of entries

pub stmt_size : (s : Stmt) → 2 ≤ length (entry_bytes (flat_stmt s))
stmt_size (Block k) = omega arith
stmt_size (IfStmt t k r) = omega arith
stmt_size (ForStmt i v s k) = omega arith
stmt_size Return = omega arith
stmt_size (ReturnExpr e) = omega arith
stmt_size (ExprStmt e) = omega arith
stmt_size (VarDecl x) = omega arith
stmt_size (VarInit x r) = omega arith
stmt_size (FnDecl f ps k) = omega arith

-- ---- where a node's parts stand

pub in_at : {k : Kind} {n : ℕ} {d : List ℕ} {ns : List Node} (u v : ℕ) (c b : List ℕ) → Spells (node k n d ∷ ns) (drop u c) (drop v b) → Spells ns (drop (u + 2) c) (drop (v + length d) b)
in_at {d = d} u v c b h = rw (← drop-drop 2 u c, ← drop-drop (length d) v b) (in_node h)

-- the child count
pub count_here : {k : Kind} {n : ℕ} {d : List ℕ} {ns : List Node} {c b : List ℕ} → Spells (node k n d ∷ ns) c b → get_or c 1 0 ≡ n
count_here h = ap (λ (l : List ℕ). get_or l 1 0) h.nodes

-- the second byte of the body
pub body_next : {k : Kind} {n x y : ℕ} {d : List ℕ} {ns : List Node} {c b : List ℕ} → Spells (node k n (x ∷ (y ∷ d)) ∷ ns) c b → get_or b 1 0 ≡ y
body_next h = ap (λ (l : List ℕ). get_or l 1 0) h.bodies

-- ---- a statement by its kind

-- what is made of it
abbrev pub Whole : Bool → ℕ → Low → List ℕ → Done → List ℕ → Stmt → Type 0
Whole k n s buf d buf' t =
    (w : Place) → k ≡ kept s.decls w.section
    → Made (lower_stmt t w n s.reg) (length (entry_bytes (flat_stmt t))) (length (body_bytes (flat_stmt t))) (n + stmt_labels t) s buf d buf'

module _ (n : ℕ) {c b : List ℕ} {m : ℕ} (z : get_or c 0 0 ≡ m) where
  pub read_as : {s : Low} {buf : List ℕ} {R : Type 0} → ((t : Stmt) → Is m t → At (statements n) t c b → R) → Reads (statements n) c b s buf → R
  read_as f h = f h.tree (kind_here h.tree h.spelt.spells z) h.spelt

  pub made_as_kind : {k : Bool} {s : Low} {buf : List ℕ} {d : Done} {buf' : List ℕ} → ((t : Stmt) → Is m t → At (statements n) t c b → Whole k n s buf d buf' t) → Front (statements n) c b k n s buf d buf'
  made_as_kind f = record { front = λ t h. f t (kind_here t h.spells z) h }

-- it has a node
pub stmt_room : (n : ℕ) {c b : List ℕ} {s : Low} {buf : List ℕ} → Reads (statements n) c b s buf → 2 ≤ length c
stmt_room n h = omega (arith, fits_nodes h.spelt.spells, stmt_size h.tree)

-- ---- a part that is read, and what is known behind it

module _ {X : Type 0} (P : Part X) {c b : List ℕ} {p : Done} {buf : List ℕ} (h : ReadsAt P c b p buf) where
  pub reads_nodes : p.cont + length (entry_bytes (P.nodes h.tree)) ≤ length c
  reads_nodes = omega (arith, fits_nodes h.spelt.spells, length-drop p.cont c, h.cont)

  pub reads_bodies : p.body + length (body_bytes (P.nodes h.tree)) ≤ length b
  reads_bodies = omega (arith, fits_bodies h.spelt.spells, length-drop p.body b, h.body)

  module _ {k : Bool} {a : Done} {buf₁ : List ℕ} (g : Goes P c b k p buf a buf₁) where
    pub goes_some : (w : Place) × Made (P.emits h.tree w p.lbl p.low.reg) (p.cont + length (entry_bytes (P.nodes h.tree))) (p.body + length (body_bytes (P.nodes h.tree))) (P.next h.tree p.lbl) p.low buf a buf₁
    goes_some = let w = some_place k p.low.decls in (w.0, g.goes h.tree h.spelt w.0 w.1)

    pub goes_ready : Ready a.low buf₁
    goes_ready = made_ready goes_some.1 h.ready

    pub goes_cont : a.cont ≡ p.cont + length (entry_bytes (P.nodes h.tree))
    goes_cont = goes_some.1.cont

    pub goes_body : a.body ≡ p.body + length (body_bytes (P.nodes h.tree))
    goes_body = goes_some.1.body

    pub goes_lbl : a.lbl ≡ P.next h.tree p.lbl
    goes_lbl = goes_some.1.lbl
