-- Plain scripts: document 01, "The tree file": "A plain script has no 6, 9 or 15; 14 and 16 stand only under 7; 22 and 23 only under 8, 12, 16, 17, 18."
-- "Under" is the direct parent. Definitions only.
use Rattle.std.specs.Prelude.{Bool, true, false, ◌&&◌}
use Rattle.ast.specs.Tree.{Lit, Val, Text, Truth, Expr, Literal, Name, BinaryExpr, UnaryExpr, VarAssign, ArrayMut, FnCall, Rhs, Expression, Table, Array, ArrayAccess}
use Rattle.ast.specs.Tree.{Items, no_items, more_items, Source, OverName, OverCall}
use Rattle.ast.specs.Tree.{Stmt, Block, IfStmt, ForStmt, Return, ReturnExpr, ExprStmt, VarDecl, VarInit, FnDecl, Stmts, no_stmts, more_stmts, Rest, Else, Elif}

abbrev pub plain_lit : Lit → Bool
plain_lit (Val b) = true
plain_lit (Text t) = true
plain_lit (Truth b) = false

-- where True and False may stand too: under 8, 16, 17, 18; p says whether the expression is plain elsewhere
abbrev pub or_truth : Expr → Bool → Bool
or_truth (Literal l) p = true
or_truth (Name x) p = p
or_truth (BinaryExpr t a b) p = p
or_truth (UnaryExpr t a) p = p
or_truth (VarAssign x r) p = p
or_truth (ArrayMut x i v) p = p
or_truth (FnCall f ps) p = p

abbrev pub plain_expr : Expr → Bool
plain_expr (Literal l) = plain_lit l
plain_expr (Name x) = true
plain_expr (BinaryExpr t a b) = or_truth a (plain_expr a) && or_truth b (plain_expr b)
plain_expr (UnaryExpr t a) = or_truth a (plain_expr a)
plain_expr (VarAssign x r) = false
plain_expr (ArrayMut x i v) = false
plain_expr (FnCall f ps) = false

abbrev pub plain_items : Items → Bool
plain_items no_items = true
plain_items (more_items k e is) = plain_expr e && plain_items is

abbrev pub plain_rhs : Rhs → Bool
plain_rhs (Expression e) = or_truth e (plain_expr e)
plain_rhs (Table is) = plain_items is
plain_rhs (Array a ls) = true
plain_rhs (ArrayAccess a i) = plain_expr i

-- the child of 7
abbrev pub plain_own : Expr → Bool
plain_own (Literal l) = plain_lit l
plain_own (Name x) = true
plain_own (BinaryExpr t a b) = plain_expr (BinaryExpr t a b)
plain_own (UnaryExpr t a) = plain_expr (UnaryExpr t a)
plain_own (VarAssign x r) = plain_rhs r
plain_own (ArrayMut x i v) = plain_expr i && plain_expr v
plain_own (FnCall f ps) = false

abbrev pub plain_source : Source → Bool
plain_source (OverName a) = true
plain_source (OverCall f ps) = false

abbrev mutual
  pub plain_stmt : Stmt → Bool
  plain_stmt (Block b) = plain b
  plain_stmt (IfStmt c b k) = plain_expr c && (plain b && plain_rest k)
  plain_stmt (ForStmt i v s b) = plain_source s && plain b
  plain_stmt Return = false
  plain_stmt (ReturnExpr e) = false
  plain_stmt (ExprStmt e) = plain_own e
  plain_stmt (VarDecl x) = true
  plain_stmt (VarInit x r) = plain_rhs r
  plain_stmt (FnDecl f ps b) = false

  pub plain : Stmts → Bool
  plain no_stmts = true
  plain (more_stmts s k) = plain_stmt s && plain k

  pub plain_rest : Rest → Bool
  plain_rest (Else k) = plain k
  plain_rest (Elif c b k) = plain_expr c && (plain b && plain_rest k)
