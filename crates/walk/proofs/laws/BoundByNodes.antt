-- Demand 3's bound by the tree's nodes: of a plain script it is the tree's cost (Cost.antt), which is counted without lowering.
use Rattle.std.specs.Prelude.{max, ◌≡◌, T}
use Rattle.ast.specs.Tree.{Stmts}
use Rattle.ast.specs.Plain.{plain}
use Rattle.walk.specs.Bound.{longest, bound}
use Rattle.walk.proofs.laws.Bounded.{total_is_cost}
use Rattle.walk.specs.Cost.{or_one_cost, cost_stmts}

pub bound_by_nodes : (t : Stmts) → T (plain t) → bound t ≡ or_one_cost t (cost_stmts (max 1 (longest t)) t)
bound_by_nodes t p = total_is_cost (max 1 (longest t)) t p
