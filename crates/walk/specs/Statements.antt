-- What is claimed of plain scripts that lower, in one run or in any list of runs. The theorems: laws/Theorems. Definitions only.
use Rattle.std.specs.Prelude.{◌^◌, ◌≤◌, max, ◌<◌, ℕ, ◌≡◌, T}
use Rattle.tables.specs.Tables.{Program}
use Rattle.ast.specs.Tree.{Stmts}
use Rattle.ast.specs.Plain.{plain}
use Rattle.compiler.specs.Lower.{lowered, lower, Main, lower_tree, code_of}
use Rattle.walk.specs.Bound.{longest, total, bound}
use Rattle.vm.specs.Machine.{step, started, run, Stopped}
use Rattle.walk.specs.Walk.{Walked, walk_count, walk_names, walk_end, walk}
use Rattle.walk.specs.Runs.{next_step, Runs}
use Rattle.vm.specs.RuntimeErr.{RuntimeErr}
use Rattle.std.proofs.Math.Option.{some}

-- A plain script whose array literals have at most 2 ^ 53 items (a tree file's have at most 24), and the program that it lowers to.
pub record Lowers (t : Stmts) (p : Program) : Type 0 where
  pub is_plain : T (plain t)
  pub short : longest t ≤ 2 ^ 53
  pub lowers : lower t ≡ lowered p

-- Given a walk's steps, the started program p takes them all and has then the walk's names; its next step is the end of the program, or the walk's stop.
pub record Simulates (p : Program) (o : Walked (Unit {0})) : Type 0 where
  pub count : (run p (walk_count o) (started p)).state.count ≡ walk_count o
  pub names : (run p (walk_count o) (started p)).state.machine.names ≡ walk_names o
  pub next : step p (run p (walk_count o) (started p)).state.machine ≡ next_step o

-- The walk's count is at most the bound, and less where the walk stops. The bound is a sum over what the lowering pushed, and that is the program.
pub record Bounds (t : Stmts) (p : Program) : Type 0 where
  pub most : walk_count (walk t) ≤ bound t
  pub fewer : (r : RuntimeErr) → walk_end (walk t) ≡ Stopped r → walk_count (walk t) < bound t
  pub sum_over : bound t ≡ total (max 1 (longest t)) (lower_tree t)
  pub program : code_of Main (lower_tree t) ≡ p.code

-- What a list of runs, given some steps in all, leaves: never more steps than the walk's; and where they were given at least b steps, the walk's count, names
-- with their values, and end.
pub record Served (o : Walked (Unit {0})) (b given : ℕ) (r : Runs) : Type 0 where
  pub always : r.state.count ≤ walk_count o
  pub within : r.state.count ≤ b
  pub count : b ≤ given → r.state.count ≡ walk_count o
  pub names : b ≤ given → r.state.machine.names ≡ walk_names o
  pub answer : b ≤ given → r.last ≡ some (walk_end o)
