-- The call write_file(program, file) on bytes: what it answers and what `file` holds afterwards, a refused call too. Document 02, M-101: "The writer checks 9,
-- against the longest file there can be (in docs/FORMATS.md), then 8; bytes past the file are untouched." The right side of the public contract. Definitions
-- only.
use Rattle.std.specs.Prelude.{ℕ, List, [], ◌∷◌}
use Rattle.lent.specs.Answered.{over, Answered, answered, size_check, guarded}
use Rattle.tables.specs.Tables.{Program}
use Rattle.tables.specs.ProgramBytes.{program_size, program_in}
use Rattle.boundary.specs.Checks.{program_check}
use Rattle.program_file.specs.ProgramFile.{program_file, longest_file}

abbrev pub write_file_checks : List ℕ → List ℕ → List ℕ
write_file_checks program out = size_check program_size program ∷ (size_check longest_file out ∷ (program_check program ∷ []))

abbrev pub write_file_deed : Program → List ℕ → Answered
write_file_deed p out = answered 0 (over (program_file p) out)

unfoldable pub write_file_call : List ℕ → List ℕ → Answered
write_file_call program out = guarded (write_file_checks program out) (λ n. answered n out) (write_file_deed (program_in program) out)
