-- A tree that the structure check accepts has array literals of at most 24 items.
use Rattle.std.specs.Prelude.{ℕ, ◌-◌, max, ◌≤◌, Bool, true, not, ◌&&◌, T, leb, length}
use Rattle.std.proofs.Common.{zero-le, leb→le}
use Rattle.std.proofs.Math.Nat.{max-le}
use Rattle.std.proofs.Math.Facts.{and_yes}
use Rattle.ast.specs.Tree.{Expr, Literal, Name, BinaryExpr, UnaryExpr, VarAssign, ArrayMut, FnCall, Rhs, Expression, Table, Array, ArrayAccess, Exprs, no_exprs, more_exprs}
use Rattle.ast.specs.Tree.{Items, no_items, more_items, Source, OverName, OverCall}
use Rattle.ast.specs.Tree.{Stmt, Block, IfStmt, ForStmt, Return, ReturnExpr, ExprStmt, VarDecl, VarInit, FnDecl, Stmts, no_stmts, more_stmts, Rest, Else, Elif}
use Rattle.ast.specs.Structure.{distinct, item_count, expr_ok, rhs_ok, exprs_ok, items_ok, source_ok, stmt_ok, stmts_ok, rest_ok}
use Rattle.walk.specs.Bound.{longest_expr, longest_rhs, longest_params, longest_items, longest_source, longest_stmt, longest, longest_rest}

-- the longer of two parts, each of which has its test
both : {m n : ℕ} (a b : Bool) → T (a && b) → (T a → m ≤ 24) → (T b → n ≤ 24) → max m n ≤ 24
both a b h f g = let z = and_yes a b h in max-le (f z.0) (g z.1)

mutual
  ok_expr : (e : Expr) → T (expr_ok e) → longest_expr e ≤ 24
  ok_expr (Literal c) h = zero-le
  ok_expr (Name x) h = zero-le
  ok_expr (BinaryExpr t a b) h = both (expr_ok a) (expr_ok b) h (λ g. ok_expr a g) (λ g. ok_expr b g)
  ok_expr (UnaryExpr t a) h = ok_expr a h
  ok_expr (VarAssign x r) h = ok_rhs r h
  ok_expr (ArrayMut x i v) h = both (expr_ok i) (expr_ok v) h (λ g. ok_expr i g) (λ g. ok_expr v g)
  ok_expr (FnCall f ps) h = ok_params ps h

  ok_rhs : (r : Rhs) → T (rhs_ok r) → longest_rhs r ≤ 24
  ok_rhs (Expression e) h = ok_expr e h
  ok_rhs (Table is) h = ok_items is (and_yes (distinct is) (items_ok is) (and_yes (leb (item_count is) 16) (distinct is && items_ok is) h).1).1
  ok_rhs (Array a ls) h = leb→le (length ls) 24 h
  ok_rhs (ArrayAccess a i) h = ok_expr i h

  ok_params : (ps : Exprs) → T (exprs_ok ps) → longest_params ps ≤ 24
  ok_params no_exprs h = zero-le
  ok_params (more_exprs e ps) h = both (expr_ok e) (exprs_ok ps) h (λ g. ok_expr e g) (λ g. ok_params ps g)

  ok_items : (is : Items) → T (items_ok is) → longest_items is ≤ 24
  ok_items no_items h = zero-le
  ok_items (more_items k e is) h = both (expr_ok e) (items_ok is) h (λ g. ok_expr e g) (λ g. ok_items is g)

ok_source : (s : Source) → T (source_ok s) → longest_source s ≤ 24
ok_source (OverName a) h = zero-le
ok_source (OverCall f ps) h = ok_params ps h

mutual
  ok_stmt : (s : Stmt) (l : ℕ) (f : Bool) → T (stmt_ok s l f) → longest_stmt s ≤ 24
  ok_stmt (Block b) l f h = ok_longest b l f h
  ok_stmt (IfStmt c b k) l f h = both (expr_ok c) (stmts_ok b l f && rest_ok k l f) h (λ g. ok_expr c g) λ j. both (stmts_ok b l f) (rest_ok k l f) j (λ g. ok_longest b l f g) (λ g. ok_rest k l f g)
  ok_stmt (ForStmt i v s b) l f h = both (source_ok s) (stmts_ok b (l - 1) f) (and_yes (leb 1 l) (source_ok s && stmts_ok b (l - 1) f) h).1 (λ g. ok_source s g) (λ g. ok_longest b (l - 1) f g)
  ok_stmt Return l f h = zero-le
  ok_stmt (ReturnExpr e) l f h = ok_expr e h
  ok_stmt (ExprStmt e) l f h = ok_expr e h
  ok_stmt (VarDecl x) l f h = zero-le
  ok_stmt (VarInit x r) l f h = ok_rhs r h
  ok_stmt (FnDecl x ps b) l f h = ok_longest b l true (and_yes (not f) (stmts_ok b l true) h).1

  pub ok_longest : (t : Stmts) (l : ℕ) (f : Bool) → T (stmts_ok t l f) → longest t ≤ 24
  ok_longest no_stmts l f h = zero-le
  ok_longest (more_stmts s k) l f h = both (stmt_ok s l f) (stmts_ok k l f) h (λ g. ok_stmt s l f g) (λ g. ok_longest k l f g)

  ok_rest : (k : Rest) (l : ℕ) (f : Bool) → T (rest_ok k l f) → longest_rest k ≤ 24
  ok_rest (Else k) l f h = ok_longest k l f h
  ok_rest (Elif c b k) l f h = both (expr_ok c) (stmts_ok b l f && rest_ok k l f) h (λ g. ok_expr c g) λ j. both (stmts_ok b l f) (rest_ok k l f) j (λ g. ok_longest b l f g) (λ g. ok_rest k l f g)
