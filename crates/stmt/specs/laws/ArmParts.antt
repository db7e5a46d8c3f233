-- The parts of an If that only laws cite: an arm with all that stands behind it, and what stands behind an arm. Definitions only.
use Rattle.std.specs.Prelude.{ℕ, ◌+◌, ◌<◌, ◌^◌, ◌≡◌, ◌++◌, T}
use Rattle.ast.specs.Tree.{Expr, Stmt, Block, IfStmt, Stmts, Rest}
use Rattle.ast.specs.Flat.{flat_expr, flat_stmt, flat_rest, elif_count, else_count}
use Rattle.ast.specs.Limits.{every_stmt, every_rest}
use Rattle.compiler.specs.Lower.{stmt_labels, rest_labels, lower_stmt, lower_rest}
use Rattle.emit.specs.inner.Made.{Part}
use Rattle.stmt.specs.inner.Parts.{any_text, fits}

-- a condition and its Block, with e Elifs and m else statements behind
pub record ArmPart : Type 0 where
  pub test : Expr
  pub body : Stmts
  pub rest : Rest

abbrev pub whole_if : ArmPart → Stmt
whole_if a = IfStmt a.test a.body a.rest

abbrev pub arms : ℕ → ℕ → ℕ → Part ArmPart
arms l e m = record {
  nodes = λ a. flat_expr a.test ++ (flat_stmt (Block a.body) ++ flat_rest a.rest);
  ok = λ a. (e ≡ elif_count a.rest) × (m ≡ else_count a.rest) × T (every_stmt any_text fits (whole_if a)) × (l + stmt_labels (whole_if a) < 2 ^ 64);
  emits = λ a. lower_stmt (whole_if a);
  next = λ a n. n + stmt_labels (whole_if a);
}

-- e Elifs and m else statements
abbrev pub rests : ℕ → ℕ → ℕ → Part Rest
rests l e m = record {
  nodes = flat_rest;
  ok = λ k. (e ≡ elif_count k) × (m ≡ else_count k) × T (every_rest any_text fits k) × (l + rest_labels k < 2 ^ 64);
  emits = λ k w n r. lower_rest k w n r (n + rest_labels k);
  next = λ k n. n + rest_labels k;
}
