-- The registers that the events of an expression and of parameters take.
use Rattle.std.specs.Prelude.{ℕ, ◌≡◌}
use Rattle.opc.specs.laws.RecordRange.{Any}
use Rattle.ast.specs.Tree.{Expr, Exprs}
use Rattle.compiler.specs.Lower.{Place, ask_below, arg_regs, expr_regs, param_regs, lower_arg, lower_expr, lower_params}
pub use Rattle.compiler.proofs.laws.Events.{regs_append}
use Rattle.compiler.proofs.laws.Events.{regs_in, a_below, arg_emits, expr_emits, params_emits}

pub before_regs : (q : ℕ) → regs_in (ask_below q) ≡ 0
before_regs q = (a_below {Q = Any} {Z = ⊥} 0 0 q).regs

pub expr_regs_lem : (e : Expr) (w : Place) (n r : ℕ) → regs_in (lower_expr e w n r) ≡ expr_regs e
expr_regs_lem e w n r = (expr_emits {Q = Any} {Z = ⊥} w tt n absurd e absurd r).regs

pub arg_regs_lem : (e : Expr) (w : Place) (n r : ℕ) → regs_in (lower_expr e w n r) ≡ expr_regs e → regs_in (lower_arg w n e r (lower_expr e w n r)) ≡ arg_regs e (expr_regs e)
arg_regs_lem e w n r h = (arg_emits {Q = Any} {Z = ⊥} w tt n absurd e (expr_emits w tt n absurd e absurd r)).regs

pub param_regs_lem : (ps : Exprs) (w : Place) (n r : ℕ) → regs_in (lower_params ps w n r) ≡ param_regs ps
param_regs_lem ps w n r = (params_emits {Q = Any} {Z = ⊥} w tt n absurd ps absurd r).regs
