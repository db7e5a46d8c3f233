-- Demand 3's bound holds: a plain script's walk takes at most the bound's count of steps, and fewer where it stops. A walk from names whose arrays have
-- at most L items takes at most the tree's cost (Steps), and the cost is the sum over the lowered instructions (Sum).
pub mod Steps
pub mod Sum
pub mod Positive
use Rattle.std.specs.Prelude.{ℕ, ◌≤◌, ◌<◌, ◌≡◌, [], ◌++◌, T, length}
use Rattle.std.proofs.Math.Nat.{pow-zero}
use Rattle.std.proofs.Common.{mul-one, arith, ap, ◌∙◌}
use Rattle.ast.specs.Tree.{Stmts}
use Rattle.ast.specs.Plain.{plain}
use Rattle.compiler.specs.Lower.{Decl, Main, lower_tree, code_of, program_of}
use Rattle.vm.specs.RuntimeErr.{RuntimeErr}
use Rattle.vm.specs.Machine.{Stopped}
use Rattle.walk.specs.Walk.{Walked, walk, walk_count, walk_end}
use Rattle.walk.specs.Bound.{longest, total, bound}
use Rattle.walk.proofs.laws.Simulation.Labels.{main, no_declarations, lays_mono, lays_block}
use Rattle.walk.specs.Cost.{or_one_cost, cost_stmts}
use Rattle.walk.proofs.laws.Bounded.Steps.{Within, ends, stops, Any, script_takes}
use Rattle.walk.proofs.laws.Bounded.Sum.{a_tree}
use Rattle.walk.proofs.laws.Bounded.Positive.{p_script}

count_le : {l b : ℕ} {o : Walked (Unit {0})} → Within l Any b o → walk_count o ≤ b
count_le (ends h s p) = h
count_le (stops h) = omega arith

count_lt : {l b : ℕ} {o : Walked (Unit {0})} {r : RuntimeErr} → Within l Any b o → walk_end o ≡ Stopped r → walk_count o < b
count_lt (ends h s p) e = let z : ◌≡◌ {A = ℕ} 0 1 = cc e in omega arith
count_lt (stops h) e = h

-- for any l that is at least 1 and the longest array literal
module _ (l : ℕ) (t : Stmts) (p : T (plain t)) where
  pub total_is_cost : total l (lower_tree t) ≡ or_one_cost t (cost_stmts l t)
  total_is_cost = (a_tree t p).sum ∙ rw pow-zero (mul-one _)

  within_total : 1 ≤ l → longest t ≤ l → Within l Any (total l (lower_tree t)) (walk t)
  within_total z h = rw total_is_cost (script_takes l z t h)

  total_positive : 1 ≤ total l (lower_tree t)
  total_positive = rw total_is_cost (p_script l t p)

pub walk_within : (t : Stmts) → T (plain t) → walk_count (walk t) ≤ bound t
walk_within t p = count_le (within_total _ t p (omega arith) (omega arith))

pub walk_stops_within : (t : Stmts) (r : RuntimeErr) → T (plain t) → walk_end (walk t) ≡ Stopped r → walk_count (walk t) < bound t
walk_stops_within t r p e = count_lt (within_total _ t p (omega arith) (omega arith)) e

pub bound_positive : (t : Stmts) → T (plain t) → 1 ≤ bound t
bound_positive t p = total_positive _ t p

-- a plain script declares nothing: its program is its code, from index 0 on
pub plain_declares : (t : Stmts) → T (plain t) → code_of Decl (lower_tree t) ≡ []
plain_declares t p = no_declarations (lays_mono (lays_block t main 0 0 p))

pub plain_starts : (t : Stmts) → T (plain t) → (program_of (lower_tree t)).code_start ≡ 0
plain_starts t p = ap length (plain_declares t p)

pub plain_code : (t : Stmts) → T (plain t) → (program_of (lower_tree t)).code ≡ code_of Main (lower_tree t)
plain_code t p = ap (λ c. c ++ code_of Main (lower_tree t)) (plain_declares t p)
