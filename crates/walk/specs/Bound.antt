-- Demand 3's bound: "the sum, over the script's instructions, of L to the power of the loops around each, L being its longest array literal, at least 1".
-- Document 01, "The walk": "a loop's first Stc and its Ldas stand outside that loop, its Ldn to its JmpCnd inside". Definitions only.
use Rattle.std.specs.Prelude.{ℕ, ◌+◌, ◌^◌, max, List, [], ◌∷◌, length}
use Rattle.ast.specs.Tree.{Expr, Literal, Name, BinaryExpr, UnaryExpr, VarAssign, ArrayMut, FnCall, Rhs, Expression, Table, Array, ArrayAccess, Exprs, no_exprs, more_exprs}
use Rattle.ast.specs.Tree.{Items, no_items, more_items, Source, OverName, OverCall}
use Rattle.ast.specs.Tree.{Stmt, Block, IfStmt, ForStmt, Return, ReturnExpr, ExprStmt, VarDecl, VarInit, FnDecl, Stmts, no_stmts, more_stmts, Rest, Else, Elif}
use Rattle.compiler.specs.Lower.{Event, Reg, Push, Below, lower_tree}

-- the longest array literal of a tree
abbrev mutual
  pub longest_expr : Expr → ℕ
  longest_expr (Literal l) = 0
  longest_expr (Name x) = 0
  longest_expr (BinaryExpr t a b) = max (longest_expr a) (longest_expr b)
  longest_expr (UnaryExpr t a) = longest_expr a
  longest_expr (VarAssign x r) = longest_rhs r
  longest_expr (ArrayMut x i v) = max (longest_expr i) (longest_expr v)
  longest_expr (FnCall f ps) = longest_params ps

  pub longest_rhs : Rhs → ℕ
  longest_rhs (Expression e) = longest_expr e
  longest_rhs (Table is) = longest_items is
  longest_rhs (Array a ls) = length ls
  longest_rhs (ArrayAccess a i) = longest_expr i

  pub longest_params : Exprs → ℕ
  longest_params no_exprs = 0
  longest_params (more_exprs e ps) = max (longest_expr e) (longest_params ps)

  pub longest_items : Items → ℕ
  longest_items no_items = 0
  longest_items (more_items k e is) = max (longest_expr e) (longest_items is)

abbrev pub longest_source : Source → ℕ
longest_source (OverName a) = 0
longest_source (OverCall f ps) = longest_params ps

abbrev mutual
  pub longest_stmt : Stmt → ℕ
  longest_stmt (Block b) = longest b
  longest_stmt (IfStmt c b k) = max (longest_expr c) (max (longest b) (longest_rest k))
  longest_stmt (ForStmt i v s b) = max (longest_source s) (longest b)
  longest_stmt Return = 0
  longest_stmt (ReturnExpr e) = longest_expr e
  longest_stmt (ExprStmt e) = longest_expr e
  longest_stmt (VarDecl x) = 0
  longest_stmt (VarInit x r) = longest_rhs r
  longest_stmt (FnDecl f ps b) = longest b

  pub longest : Stmts → ℕ
  longest no_stmts = 0
  longest (more_stmts s k) = max (longest_stmt s) (longest k)

  pub longest_rest : Rest → ℕ
  longest_rest (Else k) = longest k
  longest_rest (Elif c b k) = max (longest_expr c) (max (longest b) (longest_rest k))

-- the sum over the instructions pushed: each knows how many For nodes stand around it
abbrev pub total : ℕ → List Event → ℕ
total l [] = 0
total l (Reg ∷ es) = total l es
total l (Push w i ∷ es) = l ^ w.loops + total l es
total l (Below ∷ es) = total l es

abbrev pub bound : Stmts → ℕ
bound t = total (max 1 (longest t)) (lower_tree t)
