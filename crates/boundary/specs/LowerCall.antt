-- The call lower(file, program) on bytes: what it answers and what the program buffer holds afterwards, a refused call too. Document 01, "Numbers given
-- for the input"; layout: docs/FORMATS.md. The right side of the public contract. Definitions only.
use Rattle.std.specs.Prelude.{ℕ, List, [], ◌∷◌}
use Rattle.ast.specs.File.{read_tree, Read, Refused, Tree}
use Rattle.tables.specs.ProgramBytes.{program_size, encode_program}
use Rattle.compiler.specs.Lower.{lower, Lowered, refused, lowered}
use Rattle.lent.specs.Lists.{zeros}
use Rattle.lent.specs.Answered.{over, Answered, answered, size_check, guarded}

-- ---- lower(file, program): 9; 1 to 5 and 39; 6 or 7. "After 1 to 7 the first 40,960 bytes of the program buffer are zero"; after 39 it "is left as after 5"
-- (document 02, M-104)

abbrev pub lower_made : Lowered → List ℕ → Answered
lower_made (refused n) b = answered n (over (zeros program_size) b)
lower_made (lowered p) b = answered 0 (over (encode_program p) b)

abbrev pub lower_read : Read → List ℕ → Answered
lower_read (Refused n) b = answered n (over (zeros program_size) b)
lower_read (Tree t) b = lower_made (lower t) b

unfoldable pub lower_call : List ℕ → List ℕ → Answered
lower_call file program = guarded (size_check program_size program ∷ []) (λ n. answered n program) (lower_read (read_tree file) program)
