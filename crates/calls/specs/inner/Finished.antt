-- What a run leaves in the used bytes of a state, and what it answers; the call run behind its first four checks. Definitions only.
use Rattle.std.specs.Prelude.{ℕ, ◌≤◌, ◌≡◌, List, [], ◌∷◌}
use Rattle.lent.specs.Answered.{RunAnswered, guarded}
use Rattle.tables.specs.ProgramBytes.{program_in}
use Rattle.vm.specs.Machine.{Ran}
use Rattle.stored.specs.StateBytes.{encode_state}
use Rattle.boundary.specs.Checks.{state_check, count_check}
use Rattle.boundary.specs.RunCall.{run_refused, run_deed}
use Rattle.execute.specs.declared.Progress.{Progress}
use Rattle.run.specs.declared.Ran.{Ran as GivenRan}
use Rattle.execute.specs.inner.Progress.{Answers}

-- the run x of the model, from a progress on: b' is its state, r its answer
pub record Finished (x : Ran) (first : Progress) (b' : List ℕ) (r : GivenRan) : Type 0 where
  pub answers : Answers x.answer r.answer
  pub bytes : b' ≡ encode_state x.state
  pub position : x.state.machine.pos ≡ r.progress.loc.pos
  pub counted : x.state.count ≡ r.progress.count
  pub begun : first.count ≤ r.progress.count
  pub inside : r.progress.loc.pos ≤ 1024

-- 10, and the deed
abbrev pub run_on : List ℕ → List ℕ → ℕ → List ℕ → RunAnswered
run_on program state steps out =
    guarded (state_check program state ∷ (count_check state steps ∷ [])) (λ n. run_refused n state out) (run_deed (program_in program) state steps out)
