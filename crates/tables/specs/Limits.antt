-- Programs within the limits: document 01, "Numbers given for the input", 8. Definitions only.
use Rattle.std.specs.Prelude.{[], ◌∷◌, ℕ, ◌+◌, length, Bool, true, ◌&&◌, leb}
use Rattle.opc.specs.Op.{op, Code}
use Rattle.opc.specs.Record.{items_of}
use Rattle.opc.specs.Limits.{instr_ok}
use Rattle.tables.specs.Tables.{Program}

-- the items of all instructions
abbrev pub item_total : Code → ℕ
item_total [] = 0
item_total (i ∷ c) = length (items_of (op i)) + item_total c

abbrev pub code_ok : Code → Bool
code_ok [] = true
code_ok (i ∷ c) = instr_ok i && code_ok c

-- within the limits: "the count over 1,024", "the code start over the count", operands in range, and items that fit the pool
abbrev pub program_ok : Program → Bool
program_ok p = leb (length p.code) 1024 && (leb p.code_start (length p.code) && (leb (item_total p.code) 1024 && code_ok p.code))
