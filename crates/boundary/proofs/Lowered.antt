-- The call lower on bytes, computed: 9 with one byte short; after 1 to 7 and 39 the program's 40,960 bytes are zero and no more; a program where there was
-- something else. The numbers are document 01's ("Numbers given for the input") and document 02's (M-104), the bytes docs/FORMATS.md's; oracle/ answers every
-- row by the original. A row has the file as one number, its size before it, the program buffer as runs of bytes, the number, and the buffer afterwards.
use Prim.Native.Nat.{ℕ}
use mathlib.Core.Path.{◌≡◌, refl}
use mathlib.Core.Bool.{Bool, true, ◌&&◌}
use mathlib.Core.List.{List, [], ◌∷◌}
use lib.Dec.{eqb}
use lib.ListN.{replicate}
use lib.Ieee.{of_bits, to_bits}
use Rattle.lent.specs.Bytes.{be_bytes, same_bytes, concat}
use Rattle.ast.specs.File.{read_tree}
use Rattle.tables.specs.ProgramBytes.{encode_program}
use Rattle.lent.specs.Answered.{Answered}
use Rattle.boundary.specs.LowerCall.{lower_call}
use Rattle.lent.specs.Lists.{zeros}

abbrev answers : Answered → ℕ → List ℕ → Bool
answers a n b = eqb a.result n && same_bytes a.buffer b

data Row : Type 0 where
  lower : (size file : ℕ) (program : List ℕ) (n : ℕ) (after : List ℕ) → answers (lower_call (be_bytes size file) program) n after ≡ true → Row

rows : List Row
unfolding lower_call read_tree encode_program of_bits to_bits
rows =
    -- 9: one byte short, before 1 and before 39; nothing is written
    lower 2 0x0000 (replicate 40959 7) 9 (replicate 40959 7) refl ∷
    lower 27 0x0003020601010108011300666f72746d7078014000000000000000 (replicate 40959 7) 9 (replicate 40959 7) refl ∷
    lower 27 0x0003020601010108011300666f72746d7061017ff0000000000000 (replicate 40959 7) 9 (replicate 40959 7) refl ∷
    -- 1 to 7 and 39: exactly so many bytes are zero, and those behind untouched
    lower 2 0x0000 (replicate 40960 7) 1 (zeros 40960) refl ∷
    lower 2 0x0000 (replicate 40963 7) 1 (concat (zeros 40960 ∷ replicate 3 7 ∷ [])) refl ∷
    lower 3 0x000001 (replicate 40963 7) 2 (concat (zeros 40960 ∷ replicate 3 7 ∷ [])) refl ∷
    lower 12 0x000101060100666f72746d71 (replicate 40963 7) 3 (concat (zeros 40960 ∷ replicate 3 7 ∷ [])) refl ∷
    lower 14 0x0002010601011600666f72746d70 (replicate 40963 7) 4 (concat (zeros 40960 ∷ replicate 3 7 ∷ [])) refl ∷
    lower 17 0x00030106010112011600666f72746d7003 (replicate 40963 7) 5 (concat (zeros 40960 ∷ replicate 3 7 ∷ [])) refl ∷
    lower 27 0x0003020601010108011300666f72746d7061017ff0000000000000 (replicate 40963 7) 39 (concat (zeros 40960 ∷ replicate 3 7 ∷ [])) refl ∷
    lower 31 0x0005020601010107010e0213001600666f72746d7061013ff0000000000000 (replicate 40963 7) 6 (concat (zeros 40960 ∷ replicate 3 7 ∷ [])) refl ∷
    lower 235 0x004b020601011905021500020005021500020005021500020005021500020005021500020005021500020005021500020005021500020005021500020005021500020005021500020005021500020005021500020005021500020005021500020005021500020005021500020005021500020005021500020005021500020005021500020005021500020005021500020005021500020007011500666f72746d706101010101010101010101010101010101010101010101010101010101010101010101010101010101010101010101010101010101010101010101010101010101010101010101010101 (replicate 40963 7) 7 (concat (zeros 40960 ∷ replicate 3 7 ∷ [])) refl ∷
    -- document 01's first example: Stc of the number 2 to name 1; label 0 at 0; one instruction, the code starts at 0
    lower 27 0x0003020601010108011300666f72746d7078014000000000000000 (replicate 40960 7) 0 (concat (be_bytes 16 0x09010000010000004000000000000000 ∷ zeros 32752 ∷ be_bytes 2 1 ∷ zeros 2174 ∷ be_bytes 2 1 ∷ zeros 6014 ∷ [])) refl ∷
    lower 27 0x0003020601010108011300666f72746d7078014000000000000000 (replicate 40963 7) 0 (concat (be_bytes 16 0x09010000010000004000000000000000 ∷ zeros 32752 ∷ be_bytes 2 1 ∷ zeros 2174 ∷ be_bytes 2 1 ∷ zeros 6014 ∷ replicate 3 7 ∷ [])) refl ∷
    -- case 8: declarations before the code, which starts at 3; labels 0 and 1, function 6
    lower 41 0x0008070601010101010101020901020207011500060007010f00666f72746d70616263646566060106 (zeros 40960) 0 (concat (be_bytes 16 0x10000000060000000000000000000000 ∷ be_bytes 16 0x04000000000100000000000000000000 ∷ be_bytes 16 0x12000000000000000000000000000000 ∷ be_bytes 16 0x11000001060000000000000000000000 ∷ be_bytes 16 0x14000001010000000000000000000000 ∷ zeros 32688 ∷ be_bytes 2 1 ∷ be_bytes 2 4 ∷ zeros 2056 ∷ be_bytes 2 1 ∷ zeros 114 ∷ be_bytes 2 5 ∷ be_bytes 2 3 ∷ zeros 6012 ∷ [])) refl ∷
    []
