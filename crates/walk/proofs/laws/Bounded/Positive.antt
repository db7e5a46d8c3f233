-- Every statement of a plain script costs at least one step, and so does the script.
use Rattle.std.specs.Prelude.{ℕ, ◌≤◌, T}
use Rattle.std.proofs.Common.{le_refl, arith}
use Rattle.std.proofs.Math.Facts.{and_yes}
use Rattle.ast.specs.Tree.{Expr, Literal, Name, BinaryExpr, UnaryExpr, VarAssign, ArrayMut, FnCall, Rhs, Expression, Table, Array, ArrayAccess}
use Rattle.ast.specs.Tree.{OverName, OverCall}
use Rattle.ast.specs.Tree.{Stmt, Block, IfStmt, ForStmt, Return, ReturnExpr, ExprStmt, VarDecl, VarInit, FnDecl, Stmts, no_stmts, more_stmts, Rest, Else, Elif}
use Rattle.ast.specs.Plain.{or_truth, plain_expr, plain_rhs, plain_own, plain_stmt, plain}
use Rattle.walk.specs.Cost.{cost_assign, cost_rhs, cost_own, or_one_cost, cost_stmt, cost_stmts, cost_rest}

p_assign : (e : Expr) → T (or_truth e (plain_expr e)) → 1 ≤ cost_assign e
p_assign (Literal c) h = le_refl 1
p_assign (Name x) h = le_refl 1
p_assign (BinaryExpr t a b) h = omega arith
p_assign (UnaryExpr t a) h = omega arith
p_assign (VarAssign x r) h = absurd h
p_assign (ArrayMut x i v) h = absurd h
p_assign (FnCall f ps) h = absurd h

p_rhs : (r : Rhs) → T (plain_rhs r) → 1 ≤ cost_rhs r
p_rhs (Expression e) h = p_assign e h
p_rhs (Table is) h = omega arith
p_rhs (Array a ls) h = le_refl 1
p_rhs (ArrayAccess a i) h = omega arith

p_own : (e : Expr) → T (plain_own e) → 1 ≤ cost_own e
p_own (Literal c) h = le_refl 1
p_own (Name x) h = le_refl 1
p_own (BinaryExpr t a b) h = omega arith
p_own (UnaryExpr t a) h = omega arith
p_own (VarAssign x r) h = p_rhs r h
p_own (ArrayMut x i v) h = omega arith
p_own (FnCall f ps) h = absurd h

module _ (l : ℕ) where
  mutual
    p_stmt : (s : Stmt) → T (plain_stmt s) → 1 ≤ cost_stmt l s
    p_stmt (Block b) h = p_script b h
    p_stmt (IfStmt c b k) h = omega arith
    p_stmt (ForStmt i v (OverName a) b) h = omega arith
    p_stmt (ForStmt i v (OverCall f ps) b) h = absurd h
    p_stmt Return h = absurd h
    p_stmt (ReturnExpr e) h = absurd h
    p_stmt (ExprStmt e) h = p_own e h
    p_stmt (VarDecl x) h = le_refl 1
    p_stmt (VarInit x r) h = p_rhs r h
    p_stmt (FnDecl f ps b) h = absurd h

    pub p_script : (t : Stmts) → T (plain t) → 1 ≤ or_one_cost t (cost_stmts l t)
    p_script no_stmts h = le_refl 1
    p_script (more_stmts s k) h = omega (arith, p_stmt s (and_yes (plain_stmt s) (plain k) h).0)

  -- the end's step
  pub rest_positive : (k : Rest) → 1 ≤ cost_rest l k
  rest_positive (Else k) = omega arith
  rest_positive (Elif c b k) = omega arith
