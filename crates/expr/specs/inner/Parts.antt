-- The parts of a tree that are lowered here: expressions, right sides, parameters, items. Definitions only.
use Rattle.std.specs.Prelude.{ℕ, ◌+◌, ◌^◌, ◌≡◌, true, [], ◌∷◌, ◌++◌, T, ltb}
use Rattle.opc.specs.Op.{Str}
use Rattle.ast.specs.Tree.{Expr, Rhs, Exprs, Items}
use Rattle.ast.specs.Structure.{item_count}
use Rattle.ast.specs.Flat.{flat_expr, flat_rhs, flat_exprs, flat_items, expr_count}
use Rattle.ast.specs.Limits.{every_expr, every_rhs, every_exprs, every_items}
use Rattle.compiler.specs.Lower.{ask_below, prev, push, arg_regs, expr_regs, lower_arg, lower_expr, lower_rhs, lower_params, lower_items}
use Rattle.emit.specs.inner.Made.{Part}

-- every number has 8 bytes, as `numbers_fit` says of the whole tree; `expr`
abbrev pub exprs : Part Expr
exprs = record { nodes = flat_expr; ok = λ e. T (every_expr (λ x. true) (λ v. ltb v (2 ^ 64)) e); emits = lower_expr; next = λ e n. n }

-- `binarg`; and with its test of the register before
abbrev pub args : Part Expr
args = record { nodes = flat_expr; ok = exprs.ok; emits = λ e w n r. lower_arg w n e r (lower_expr e w n r); next = λ e n. n }

abbrev pub operands : Part Expr
operands = record {
  nodes = flat_expr;
  ok = exprs.ok;
  emits = λ e w n r. lower_arg w n e r (lower_expr e w n r) ++ ask_below (r + arg_regs e (expr_regs e));
  next = λ e n. n;
}

-- an expression, whose register is stored to x
abbrev pub stored_parts : ℕ → Part Expr
stored_parts x = record { nodes = flat_expr; ok = exprs.ok; emits = λ e w n r. lower_expr e w n r ++ (push w n (Str (prev (r + expr_regs e)) x) ∷ []); next = λ e n. n }

-- `assign`: a right side, assigned to x
abbrev pub rights : ℕ → Part Rhs
rights x = record { nodes = flat_rhs; ok = λ k. T (every_rhs (λ z. true) (λ v. ltb v (2 ^ 64)) k); emits = λ k w n r. lower_rhs k x w n r; next = λ k n. n }

-- m parameters
abbrev pub param_parts : ℕ → Part Exprs
param_parts m = record { nodes = flat_exprs; ok = λ ps. (m ≡ expr_count ps) × T (every_exprs (λ x. true) (λ v. ltb v (2 ^ 64)) ps); emits = lower_params; next = λ ps n. n }

-- m items of the table x
abbrev pub item_parts : ℕ → ℕ → Part Items
item_parts m x = record {
  nodes = flat_items;
  ok = λ is. (m ≡ item_count is) × T (every_items (λ z. true) (λ v. ltb v (2 ^ 64)) is);
  emits = λ is w n r. lower_items is x w n r;
  next = λ is n. n;
}
