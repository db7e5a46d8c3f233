-- The steps of a tree whose For nodes each take l passes and whose Ifs go through all their parts: what the walk takes at most, and what the bound
-- adds up to. A tree that is not plain counts as the walk counts it. Definitions only.
use Rattle.std.specs.Prelude.{ℕ, ◌+◌, ◌*◌}
use Rattle.ast.specs.Tree.{Expr, Literal, Name, BinaryExpr, UnaryExpr, VarAssign, ArrayMut, FnCall, Rhs, Expression, Table, Array, ArrayAccess}
use Rattle.ast.specs.Tree.{Items, no_items, more_items, Source, OverName, OverCall}
use Rattle.ast.specs.Tree.{Stmt, Block, IfStmt, ForStmt, Return, ReturnExpr, ExprStmt, VarDecl, VarInit, FnDecl, Stmts, no_stmts, more_stmts, Rest, Else, Elif}

abbrev pub cost_expr : Expr → ℕ
cost_expr (Literal l) = 1
cost_expr (Name x) = 1
cost_expr (BinaryExpr t a b) = cost_expr a + (cost_expr b + 1)
cost_expr (UnaryExpr t a) = cost_expr a + 1
cost_expr (VarAssign x r) = 0
cost_expr (ArrayMut x i v) = 0
cost_expr (FnCall f ps) = 0

abbrev pub cost_assign : Expr → ℕ
cost_assign (Literal l) = 1
cost_assign (Name x) = 1
cost_assign (BinaryExpr t a b) = cost_expr (BinaryExpr t a b) + 1
cost_assign (UnaryExpr t a) = cost_expr (UnaryExpr t a) + 1
cost_assign (VarAssign x r) = 0
cost_assign (ArrayMut x i v) = 0
cost_assign (FnCall f ps) = 0

abbrev pub cost_items : Items → ℕ
cost_items no_items = 0
cost_items (more_items k e is) = cost_expr e + (1 + cost_items is)

-- an ArrayAccess: the load and the store, document 02, M-100: "one instruction to the bound"
abbrev pub cost_rhs : Rhs → ℕ
cost_rhs (Expression e) = cost_assign e
cost_rhs (Table is) = 1 + cost_items is
cost_rhs (Array a ls) = 1
cost_rhs (ArrayAccess a i) = cost_expr i + 2

-- an expression as a statement
abbrev pub cost_own : Expr → ℕ
cost_own (Literal l) = cost_expr (Literal l)
cost_own (Name x) = cost_expr (Name x)
cost_own (BinaryExpr t a b) = cost_expr (BinaryExpr t a b)
cost_own (UnaryExpr t a) = cost_expr (UnaryExpr t a)
cost_own (VarAssign x r) = cost_rhs r
cost_own (ArrayMut x i v) = cost_expr v + (cost_expr i + 1)
cost_own (FnCall f ps) = 0

-- an empty block or script has one step
abbrev pub or_one_cost : Stmts → ℕ → ℕ
or_one_cost no_stmts c = 1
or_one_cost (more_stmts s k) c = c

abbrev pub cost_for : ℕ → Source → ℕ → ℕ
cost_for l (OverName a) c = 2 + l * (7 + c)
cost_for l (OverCall f ps) c = 0

abbrev mutual
  pub cost_stmt : ℕ → Stmt → ℕ
  cost_stmt l (Block b) = or_one_cost b (cost_stmts l b)
  cost_stmt l (IfStmt c b k) = cost_expr c + (1 + (or_one_cost b (cost_stmts l b) + (1 + cost_rest l k)))
  cost_stmt l (ForStmt i v s b) = cost_for l s (or_one_cost b (cost_stmts l b))
  cost_stmt l Return = 0
  cost_stmt l (ReturnExpr e) = 0
  cost_stmt l (ExprStmt e) = cost_own e
  cost_stmt l (VarDecl x) = 1
  cost_stmt l (VarInit x r) = cost_rhs r
  cost_stmt l (FnDecl f ps b) = 0

  pub cost_stmts : ℕ → Stmts → ℕ
  cost_stmts l no_stmts = 0
  cost_stmts l (more_stmts s k) = cost_stmt l s + cost_stmts l k

  pub cost_rest : ℕ → Rest → ℕ
  cost_rest l (Else k) = cost_stmts l k + 1
  cost_rest l (Elif c b k) = cost_expr c + (1 + (or_one_cost b (cost_stmts l b) + (1 + cost_rest l k)))
