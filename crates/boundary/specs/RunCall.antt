-- The call run(program, state, steps, report) on bytes: what it answers and what state and report hold afterwards, a refused call too. Document 01, "Running
-- checks 9, 8, 10" and "Running"; layouts: docs/FORMATS.md. The right side of the public contract. Definitions only.
use Rattle.std.specs.Prelude.{ℕ, ◌-◌, List, [], ◌∷◌}
use Rattle.lent.specs.Answered.{over, RunAnswered, size_check, guarded}
use Rattle.tables.specs.Tables.{Program}
use Rattle.tables.specs.ProgramBytes.{program_size, program_in}
use Rattle.vm.specs.Machine.{Ran, run}
use Rattle.vm.specs.Report.{report_size, report}
use Rattle.stored.specs.StateBytes.{state_size, encode_state, decode_state}
use Rattle.boundary.specs.Checks.{program_check, state_check, count_check}

abbrev pub run_checks : List ℕ → List ℕ → ℕ → List ℕ → List ℕ
run_checks program state steps out =
    size_check program_size program ∷ (size_check state_size state ∷ (size_check report_size out ∷ (program_check program ∷ (state_check program state ∷ (count_check state steps ∷ [])))))

abbrev pub run_refused : ℕ → List ℕ → List ℕ → RunAnswered
run_refused n state out = record { result = n; state = state; report = out }

-- what a run came to, in the state and in the report
abbrev pub ran_out : Program → Ran → ℕ → List ℕ → List ℕ → RunAnswered
ran_out p r before state out =
    record { result = 0; state = over (encode_state r.state) state; report = over (report p r.answer r.state (r.state.count - before)) out }

-- "A run gets a number of steps."
abbrev pub run_deed : Program → List ℕ → ℕ → List ℕ → RunAnswered
run_deed p state steps out = ran_out p (run p steps (decode_state state)) (decode_state state).count state out

unfoldable pub run_call : List ℕ → List ℕ → ℕ → List ℕ → RunAnswered
run_call program state steps out = guarded (run_checks program state steps out) (λ n. run_refused n state out) (run_deed (program_in program) state steps out)
