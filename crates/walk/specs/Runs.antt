-- A list of runs of a started program, one after the other, and how much of them a walk asks for: document 01, "Running" and "The walk". Definitions only.
use Rattle.std.specs.Prelude.{ℕ, zero, suc, List, [], ◌∷◌}
use Rattle.std.proofs.Math.Option.{Option, none, some}
use Rattle.tables.specs.Tables.{Program}
use Rattle.vm.specs.Machine.{Step, Stops, Ends, State, started, Answer, run}
use Rattle.walk.specs.Walk.{Walked, Fine, Halt}

-- the machine's next step where a walk has ended
abbrev pub next_step : Walked (Unit {0}) → Step
next_step (Fine n e u) = Ends
next_step (Halt n e r) = Stops r

-- the steps that a run must be given to answer as a walk ended: a stop asks for one more, which is not counted
abbrev pub needed : Walked (Unit {0}) → ℕ
needed (Fine n e u) = n
needed (Halt n e r) = suc n

-- what runs leave: the state, and the answer of the last run that was given at least one step
pub record Runs : Type 0 where
  pub state : State
  pub last : Option Answer

abbrev pub newer : ℕ → Answer → Option Answer → Option Answer
newer zero b a = a
newer (suc n) b a = some b

abbrev pub runs_from : Program → List ℕ → Runs → Runs
runs_from p [] r = r
runs_from p (n ∷ ns) r = let g = run p n r.state in runs_from p ns (record { state = g.state; last = newer n g.answer r.last })

abbrev pub runs : Program → List ℕ → Runs
runs p ns = runs_from p ns (record { state = started p; last = none })
