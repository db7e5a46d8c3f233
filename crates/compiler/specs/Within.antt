-- Trees within the limits of document 01, "The tree file": text numbers below 64, at most 24 items in an array, at most 255 parameters and arguments.
-- Every tree that is read is one of them (ReadWithin). Definitions only.
use Rattle.std.specs.Prelude.{ℕ, ◌≤◌, ◌<◌, T, true, length}
use Rattle.lent.specs.Bytes.{Each}
use Rattle.ast.specs.Tree.{Lit, Val, Text, Truth, Expr, Literal, Name, BinaryExpr, UnaryExpr, VarAssign, ArrayMut, FnCall, Rhs, Expression, Table, Array, ArrayAccess}
use Rattle.ast.specs.Tree.{Exprs, no_exprs, more_exprs, Items, no_items, more_items, Source, OverName, OverCall}
use Rattle.ast.specs.Tree.{Stmt, Block, IfStmt, ForStmt, Return, ReturnExpr, ExprStmt, VarDecl, VarInit, FnDecl, Stmts, no_stmts, more_stmts, Rest, Else, Elif}
use Rattle.ast.specs.Flat.{expr_count}

abbrev pub LitIn : Lit → Type 0
LitIn (Val b) = T true
LitIn (Text t) = t < 64
LitIn (Truth b) = T true

abbrev mutual
  pub ExprIn : Expr → Type 0
  ExprIn (Literal l) = LitIn l
  ExprIn (Name x) = x < 64
  ExprIn (BinaryExpr t a b) = ExprIn a × ExprIn b
  ExprIn (UnaryExpr t a) = ExprIn a
  ExprIn (VarAssign x r) = (x < 64) × RhsIn r
  ExprIn (ArrayMut x i v) = (x < 64) × ExprIn i × ExprIn v
  ExprIn (FnCall f ps) = (f < 64) × (expr_count ps ≤ 255) × ExprsIn ps

  pub RhsIn : Rhs → Type 0
  RhsIn (Expression e) = ExprIn e
  RhsIn (Table is) = ItemsIn is
  RhsIn (Array a ls) = (a < 64) × (length ls ≤ 24) × Each LitIn ls
  RhsIn (ArrayAccess a i) = (a < 64) × ExprIn i

  pub ExprsIn : Exprs → Type 0
  ExprsIn no_exprs = T true
  ExprsIn (more_exprs e ps) = ExprIn e × ExprsIn ps

  pub ItemsIn : Items → Type 0
  ItemsIn no_items = T true
  ItemsIn (more_items k e is) = (k < 64) × ExprIn e × ItemsIn is

abbrev pub SourceIn : Source → Type 0
SourceIn (OverName a) = a < 64
SourceIn (OverCall f ps) = (f < 64) × (expr_count ps ≤ 255) × ExprsIn ps

abbrev mutual
  pub StmtIn : Stmt → Type 0
  StmtIn (Block b) = StmtsIn b
  StmtIn (IfStmt c b k) = ExprIn c × StmtsIn b × RestIn k
  StmtIn (ForStmt i v s b) = (i < 64) × (v < 64) × SourceIn s × StmtsIn b
  StmtIn Return = T true
  StmtIn (ReturnExpr e) = ExprIn e
  StmtIn (ExprStmt e) = ExprIn e
  StmtIn (VarDecl x) = x < 64
  StmtIn (VarInit x r) = (x < 64) × RhsIn r
  StmtIn (FnDecl f ps b) = (f < 64) × (length ps ≤ 255) × Each (λ (x : ℕ). x < 64) ps × StmtsIn b

  pub StmtsIn : Stmts → Type 0
  StmtsIn no_stmts = T true
  StmtsIn (more_stmts s k) = StmtIn s × StmtsIn k

  pub RestIn : Rest → Type 0
  RestIn (Else k) = StmtsIn k
  RestIn (Elif c b k) = ExprIn c × StmtsIn b × RestIn k
