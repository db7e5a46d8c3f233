-- The theorems at a script that stops: b = a, where a is unset, then a For over b. Runs of 1 and 2 steps among runs of none take its 2 steps and meet its stop.
use Prim.Native.Nat.{ℕ, ◌^◌, ◌≤◌}
use native.Mathlib.Omega.{arith}
use mathlib.Core.Path.{◌≡◌, refl, ap}
use mathlib.Core.List.{List, [], ◌∷◌}
use mathlib.Core.Option.{some}
use Rattle.sifv.specs.Value.{One, Null}
use Rattle.tables.specs.Tables.{Program}
use Rattle.ast.specs.Tree.{Name, Expression, VarInit, ForStmt, OverName, Stmts, no_stmts, more_stmts}
use Rattle.compiler.specs.Lower.{lower_tree, program_of}
use Rattle.vm.specs.RuntimeErr.{NotAnArray}
use Rattle.vm.specs.Operation.{Names}
use Rattle.vm.specs.Machine.{Stopped}
use Rattle.walk.specs.Walk.{walk}
use Rattle.walk.specs.Runs.{runs}
use Rattle.walk.proofs.laws.Theorems.{any_runs}
use Rattle.walk.specs.Statements.{Served}

abbrev script : Stmts
script = more_stmts (VarInit 2 (Expression (Name 1))) (more_stmts (ForStmt 3 4 (OverName 2) no_stmts) no_stmts)

abbrev program : Program
program = program_of (lower_tree script)

abbrev portions : List ℕ
portions = 0 ∷ (1 ∷ (0 ∷ (2 ∷ (0 ∷ []))))

three : 3 ≤ 3
three = omega arith

served : Served (walk script) 3 3 (runs program portions)
served = let z : 0 ≤ 2 ^ 53 = omega arith in any_runs {t = script} {p = program} (record { is_plain = tt; short = z; lowers = refl }) 3 three portions

counts : (runs program portions).state.count ≡ 2
counts = served.count three

holds_nothing : (runs program portions).state.machine.names 2 ≡ some (One Null)
holds_nothing = ap (λ (e : Names). e 2) (served.names three)

stops : (runs program portions).last ≡ some (Stopped (NotAnArray 2))
stops = served.answer three
