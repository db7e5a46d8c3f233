-- The longest array literal of a tree by its entries: by induction over the tree.
use Rattle.std.specs.Prelude.{◌≡◌, refl, true, false, List, [], ◌∷◌, ◌++◌, ℕ, max}
use Rattle.std.proofs.Common.{arith}
use Rattle.ast.specs.Node.{Node, node}
use Rattle.ast.specs.Tree.{Lit, Val, Text, Truth, Expr, Literal, Name, BinaryExpr, UnaryExpr, VarAssign, ArrayMut, FnCall, Rhs, Expression, Table, Array, ArrayAccess}
use Rattle.ast.specs.Tree.{Exprs, no_exprs, more_exprs, Items, no_items, more_items, Source, OverName, OverCall}
use Rattle.ast.specs.Tree.{Stmt, Block, IfStmt, ForStmt, Return, ReturnExpr, ExprStmt, VarDecl, VarInit, FnDecl, Stmts, no_stmts, more_stmts, Rest, Else, Elif}
use Rattle.ast.specs.Flat.{flat_lits, flat_names, flat_expr, flat_rhs, flat_exprs, flat_items, flat_source, block_node, flat_stmt, flat_stmts, flat_rest, flat, entry_bytes}
use Rattle.walk.specs.Bound as Bound
use Rattle.walk.specs.Bound.{longest_expr, longest_rhs, longest_params, longest_items, longest_source, longest_stmt, longest_rest}
use Rattle.bound.specs.inner.Weights.{longest_entry}

abbrev most : List Node → ℕ
most ns = longest_entry (entry_bytes ns)

-- the longer of two parts
both : (ns ms : List Node) {a b : ℕ} → most ns ≡ a → most ms ≡ b → most (ns ++ ms) ≡ max a b
both [] ms e f = omega arith
both (node k c b ∷ ns) ms e f = omega (arith, both ns ms refl f)

-- behind a node that is no 12
behind : {n a : ℕ} → n ≡ a → max 0 n ≡ a
behind e = omega arith

lits : (ls : List Lit) → most (flat_lits ls) ≡ 0
lits [] = refl
lits (Val b ∷ ls) = behind (lits ls)
lits (Text t ∷ ls) = behind (lits ls)
lits (Truth true ∷ ls) = behind (lits ls)
lits (Truth false ∷ ls) = behind (lits ls)

names : (xs : List ℕ) → most (flat_names xs) ≡ 0
names [] = refl
names (x ∷ xs) = behind (names xs)

mutual
  m_expr : (e : Expr) → most (flat_expr e) ≡ longest_expr e
  m_expr (Literal (Val b)) = refl
  m_expr (Literal (Text t)) = refl
  m_expr (Literal (Truth true)) = refl
  m_expr (Literal (Truth false)) = refl
  m_expr (Name x) = refl
  m_expr (BinaryExpr t a b) = behind (both (flat_expr a) (flat_expr b) (m_expr a) (m_expr b))
  m_expr (UnaryExpr t a) = behind (m_expr a)
  m_expr (VarAssign x r) = behind (m_rhs r)
  m_expr (ArrayMut x i v) = behind (both (flat_expr i) (flat_expr v) (m_expr i) (m_expr v))
  m_expr (FnCall f ps) = behind (m_params ps)

  m_rhs : (r : Rhs) → most (flat_rhs r) ≡ longest_rhs r
  m_rhs (Expression e) = m_expr e
  m_rhs (Table is) = behind (m_items is)
  m_rhs (Array a ls) = omega (arith, lits ls)
  m_rhs (ArrayAccess a i) = behind (m_expr i)

  m_params : (ps : Exprs) → most (flat_exprs ps) ≡ longest_params ps
  m_params no_exprs = refl
  m_params (more_exprs e ps) = both (flat_expr e) (flat_exprs ps) (m_expr e) (m_params ps)

  m_items : (is : Items) → most (flat_items is) ≡ longest_items is
  m_items no_items = refl
  m_items (more_items k e is) = behind (both (flat_expr e) (flat_items is) (m_expr e) (m_items is))

m_source : (s : Source) → most (flat_source s) ≡ longest_source s
m_source (OverName a) = refl
m_source (OverCall f ps) = behind (m_params ps)

-- a condition, its Block, the rest
arm : (c : Expr) (b : Stmts) (k : Rest) {x y z : ℕ} → most (flat_expr c) ≡ x → most (flat_stmts b) ≡ y → most (flat_rest k) ≡ z
    → most (flat_expr c ++ (block_node b ∷ (flat_stmts b ++ flat_rest k))) ≡ max x (max y z)
arm c b k e f g = both (flat_expr c) (block_node b ∷ (flat_stmts b ++ flat_rest k)) e (behind (both (flat_stmts b) (flat_rest k) f g))

mutual
  m_stmt : (s : Stmt) → most (flat_stmt s) ≡ longest_stmt s
  m_stmt (Block b) = behind (m_stmts b)
  m_stmt (IfStmt c b k) = behind (arm c b k (m_expr c) (m_stmts b) (m_rest k))
  m_stmt (ForStmt i v s b) = behind (both (flat_source s) (block_node b ∷ flat_stmts b) (m_source s) (behind (m_stmts b)))
  m_stmt Return = refl
  m_stmt (ReturnExpr e) = behind (m_expr e)
  m_stmt (ExprStmt e) = behind (m_expr e)
  m_stmt (VarDecl x) = refl
  m_stmt (VarInit x r) = behind (m_rhs r)
  m_stmt (FnDecl f ps b) = behind (omega (arith, both (flat_names ps) (block_node b ∷ flat_stmts b) (names ps) (behind (m_stmts b))))

  m_stmts : (k : Stmts) → most (flat_stmts k) ≡ Bound.longest k
  m_stmts no_stmts = refl
  m_stmts (more_stmts s k) = both (flat_stmt s) (flat_stmts k) (m_stmt s) (m_stmts k)

  m_rest : (k : Rest) → most (flat_rest k) ≡ longest_rest k
  m_rest (Else k) = m_stmts k
  m_rest (Elif c b k) = behind (arm c b k (m_expr c) (m_stmts b) (m_rest k))

pub entries_longest : (t : Stmts) → longest_entry (entry_bytes (flat t)) ≡ Bound.longest t
entries_longest t = behind (m_stmts t)
