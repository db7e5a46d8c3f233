-- The call read_file(file, program) on bytes: what it answers and what the program buffer holds afterwards, a refused call too. Document 02, M-101: "Errors: 37
-- for any file that the writer writes for no accepted program, also where a record in it would be 8; it comes after 9, and the program buffer is left
-- untouched." The right side of the public contract. Definitions only.
use Rattle.std.specs.Prelude.{ℕ, List, [], ◌∷◌, take}
use Rattle.lent.specs.Answered.{over, Answered, answered, check, size_check, guarded}
use Rattle.lent.specs.Lists.{is_some}
use Rattle.lent.specs.Refusals.{program_file_refused}
use Rattle.tables.specs.Tables.{Program}
use Rattle.tables.specs.ProgramBytes.{program_size, encode_program, or_empty}
use Rattle.program_file.specs.ProgramFile.{file_length, read_program}

-- 37
abbrev pub program_file_check : List ℕ → ℕ
program_file_check file = check (is_some (read_program file)) program_file_refused

abbrev pub read_file_checks : List ℕ → List ℕ → List ℕ
read_file_checks file program = size_check program_size program ∷ (program_file_check file ∷ [])

-- "The reader gives back the same instructions, items and code start that were written"
abbrev pub read_file_deed : Program → List ℕ → Answered
read_file_deed p program = answered 0 (over (encode_program p) program)

unfoldable pub read_file_call : List ℕ → List ℕ → Answered
read_file_call file program = guarded (read_file_checks file program) (λ n. answered n program) (read_file_deed (or_empty (read_program file)) program)

-- the file that a buffer begins with, by the length that its contents tell: what a caller stores of what the writer left
abbrev pub file_in : List ℕ → List ℕ
file_in out = take (file_length out) out
