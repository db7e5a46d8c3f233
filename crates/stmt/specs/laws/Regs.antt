-- The registers that the events of statements take.
use Rattle.std.specs.Prelude.{ℕ, zero, suc, ◌≡◌, refl, List, [], ◌∷◌, replicate}
use Rattle.std.proofs.Common.{ap}
use Rattle.opc.specs.laws.RecordRange.{Any}
use Rattle.ast.specs.Tree.{Source, Stmt, Stmts}
use Rattle.compiler.specs.Lower.{Place, Reg, source_regs, stmt_regs, stmts_regs, or_nop, lower_source, lower_pops, lower_stmt, lower_stmts}
use Rattle.compiler.proofs.laws.Events.{regs_in, source_emits, block_emits, anywhere, stmt_emits, stmts_emits}

pub source_regs_lem : (s : Source) (w : Place) (n r : ℕ) → regs_in (lower_source s w n r) ≡ source_regs s
source_regs_lem s w n r = (source_emits {Q = Any} {Z = ⊥} w tt n absurd s absurd r).regs

pub pops_regs : (ps : List ℕ) (w : Place) (n r : ℕ) → regs_in (lower_pops ps w n r) ≡ 0
pops_regs [] w n r = refl
pops_regs (x ∷ ps) w n r = pops_regs ps w n (suc r)

pub replicate_regs : (k : ℕ) → regs_in (replicate k Reg) ≡ k
replicate_regs zero = refl
replicate_regs (suc k) = ap suc (replicate_regs k)

pub stmt_regs_lem : (s : Stmt) (w : Place) (n r : ℕ) → regs_in (lower_stmt s w n r) ≡ stmt_regs s
stmt_regs_lem s w n r = (stmt_emits {Z = ⊥} anywhere s absurd w tt tt n r absurd).regs

pub block_regs : (k : Stmts) (w : Place) (n r : ℕ) → regs_in (or_nop k w n (lower_stmts k w n r)) ≡ stmts_regs k
block_regs k w n r = (block_emits {Z = ⊥} w tt n absurd k (stmts_emits anywhere k absurd w tt tt n r absurd)).regs
