-- Measures of a tree that the file's limits speak of: document 01, "Numbers given for the input" (depth 32), and the table of "The tree file", column "Body"
-- (text numbers, 8 bytes); document 02, M-104 (finite numbers). Definitions only.
use Rattle.std.specs.Prelude.{ℕ, suc, max, ◌^◌, Bool, true, ◌&&◌, List, [], ◌∷◌, ltb}
use Rattle.ast.specs.Node.{finite_number}
use Rattle.ast.specs.Tree.{Lit, Val, Text, Truth, Expr, Literal, Name, BinaryExpr, UnaryExpr, VarAssign, ArrayMut, FnCall, Rhs, Expression, Table, Array, ArrayAccess}
use Rattle.ast.specs.Tree.{Exprs, no_exprs, more_exprs, Items, no_items, more_items, Source, OverName, OverCall}
use Rattle.ast.specs.Tree.{Stmt, Block, IfStmt, ForStmt, Return, ReturnExpr, ExprStmt, VarDecl, VarInit, FnDecl, Stmts, no_stmts, more_stmts, Rest, Else, Elif}

-- ---- depth: a node's is one more than the greatest of its children's

abbrev pub depth_leaves : {A : Type 0} → List A → ℕ
depth_leaves [] = 0
depth_leaves (x ∷ l) = 1

abbrev mutual
  pub depth_expr : Expr → ℕ
  depth_expr (Literal l) = 1
  depth_expr (Name x) = 1
  depth_expr (BinaryExpr t a b) = suc (max (depth_expr a) (depth_expr b))
  depth_expr (UnaryExpr t a) = suc (depth_expr a)
  depth_expr (VarAssign x r) = suc (depth_rhs r)
  depth_expr (ArrayMut x i v) = suc (max (depth_expr i) (depth_expr v))
  depth_expr (FnCall f ps) = suc (depth_exprs ps)

  pub depth_rhs : Rhs → ℕ
  depth_rhs (Expression e) = depth_expr e
  depth_rhs (Table is) = suc (depth_items is)
  depth_rhs (Array a ls) = suc (depth_leaves ls)
  depth_rhs (ArrayAccess a i) = suc (depth_expr i)

  pub depth_exprs : Exprs → ℕ
  depth_exprs no_exprs = 0
  depth_exprs (more_exprs e ps) = max (depth_expr e) (depth_exprs ps)

  pub depth_items : Items → ℕ
  depth_items no_items = 0
  depth_items (more_items k e is) = max (suc (depth_expr e)) (depth_items is)

abbrev pub depth_source : Source → ℕ
depth_source (OverName a) = 1
depth_source (OverCall f ps) = suc (depth_exprs ps)

abbrev mutual
  pub depth_stmt : Stmt → ℕ
  depth_stmt (Block b) = suc (depth_stmts b)
  depth_stmt (IfStmt c b k) = suc (max (depth_expr c) (max (suc (depth_stmts b)) (depth_rest k)))
  depth_stmt (ForStmt i v s b) = suc (max (depth_source s) (suc (depth_stmts b)))
  depth_stmt Return = 1
  depth_stmt (ReturnExpr e) = suc (depth_expr e)
  depth_stmt (ExprStmt e) = suc (depth_expr e)
  depth_stmt (VarDecl x) = 1
  depth_stmt (VarInit x r) = suc (depth_rhs r)
  depth_stmt (FnDecl f ps b) = suc (max (depth_leaves ps) (suc (depth_stmts b)))

  pub depth_stmts : Stmts → ℕ
  depth_stmts no_stmts = 0
  depth_stmts (more_stmts s k) = max (depth_stmt s) (depth_stmts k)

  pub depth_rest : Rest → ℕ
  depth_rest (Else k) = depth_stmts k
  depth_rest (Elif c b k) = max (suc (max (depth_expr c) (suc (depth_stmts b)))) (depth_rest k)

-- the whole tree: Program's depth is 1
abbrev pub depth : Stmts → ℕ
depth t = suc (depth_stmts t)

-- ---- a test p of every text number and q of every number

module _ (p q : ℕ → Bool) where
  abbrev pub every_lit : Lit → Bool
  every_lit (Val b) = q b
  every_lit (Text t) = p t
  every_lit (Truth b) = true

  abbrev pub every_lits : List Lit → Bool
  every_lits [] = true
  every_lits (l ∷ ls) = every_lit l && every_lits ls

  abbrev pub every_name : List ℕ → Bool
  every_name [] = true
  every_name (x ∷ xs) = p x && every_name xs

  abbrev mutual
    pub every_expr : Expr → Bool
    every_expr (Literal l) = every_lit l
    every_expr (Name x) = p x
    every_expr (BinaryExpr t a b) = every_expr a && every_expr b
    every_expr (UnaryExpr t a) = every_expr a
    every_expr (VarAssign x r) = p x && every_rhs r
    every_expr (ArrayMut x i v) = p x && (every_expr i && every_expr v)
    every_expr (FnCall f ps) = p f && every_exprs ps

    pub every_rhs : Rhs → Bool
    every_rhs (Expression e) = every_expr e
    every_rhs (Table is) = every_items is
    every_rhs (Array a ls) = p a && every_lits ls
    every_rhs (ArrayAccess a i) = p a && every_expr i

    pub every_exprs : Exprs → Bool
    every_exprs no_exprs = true
    every_exprs (more_exprs e ps) = every_expr e && every_exprs ps

    pub every_items : Items → Bool
    every_items no_items = true
    every_items (more_items k e is) = p k && every_expr e && every_items is

  abbrev pub every_source : Source → Bool
  every_source (OverName a) = p a
  every_source (OverCall f ps) = p f && every_exprs ps

  abbrev mutual
    pub every_stmt : Stmt → Bool
    every_stmt (Block b) = every b
    every_stmt (IfStmt c b k) = every_expr c && (every b && every_rest k)
    every_stmt (ForStmt i v s b) = p i && p v && (every_source s && every b)
    every_stmt Return = true
    every_stmt (ReturnExpr e) = every_expr e
    every_stmt (ExprStmt e) = every_expr e
    every_stmt (VarDecl x) = p x
    every_stmt (VarInit x r) = p x && every_rhs r
    every_stmt (FnDecl f ps b) = p f && (every_name ps && every b)

    pub every : Stmts → Bool
    every no_stmts = true
    every (more_stmts s k) = every_stmt s && every k

    pub every_rest : Rest → Bool
    every_rest (Else k) = every k
    every_rest (Elif c b k) = every_expr c && every b && every_rest k

-- every name, key and text is a text number below n
abbrev pub texts_below : ℕ → Stmts → Bool
texts_below n t = every (λ x. ltb x n) (λ v. true) t

-- every number has 8 bytes
abbrev pub numbers_fit : Stmts → Bool
numbers_fit t = every (λ x. true) (λ v. ltb v (2 ^ 64)) t

-- document 02, M-104: every number is finite
abbrev pub numbers_finite : Stmts → Bool
numbers_finite t = every (λ x. true) finite_number t
