-- The call start(program, state) on bytes: what it answers and what the state holds afterwards, a refused call too. Document 01, "Starting checks 9, 8",
-- "Running" and "The walk"; layouts: docs/FORMATS.md. The right side of the public contract. Definitions only.
use Rattle.std.specs.Prelude.{ℕ, List, [], ◌∷◌}
use Rattle.lent.specs.Answered.{over, Answered, answered, size_check, guarded}
use Rattle.tables.specs.Tables.{Program}
use Rattle.tables.specs.ProgramBytes.{program_size, program_in}
use Rattle.vm.specs.Machine.{started}
use Rattle.stored.specs.StateBytes.{state_size, encode_state}
use Rattle.boundary.specs.Checks.{program_check}

abbrev pub start_checks : List ℕ → List ℕ → List ℕ
start_checks program state = size_check program_size program ∷ (size_check state_size state ∷ (program_check program ∷ []))

-- "start, which makes the state fresh"
abbrev pub start_deed : Program → List ℕ → Answered
start_deed p state = answered 0 (over (encode_state (started p)) state)

unfoldable pub start_call : List ℕ → List ℕ → Answered
start_call program state = guarded (start_checks program state) (λ n. answered n state) (start_deed (program_in program) state)
