-- A stored table while it is made from the records of a program. Definitions only.
use Rattle.std.specs.Prelude.{ℕ, suc, ◌*◌, ◌≡◌, true, List, [], ◌∷◌, T, length}
use Rattle.std.proofs.Math.Option.{Option}
use Rattle.lent.specs.Bytes.{be_bytes, part}
use Rattle.opc.specs.Op.{Instr, Code}
use Rattle.opc.specs.Record.{encode_instr}
use Rattle.tables.specs.ProgramBytes.{index_word, record_bytes}
use Rattle.lent.specs.Lists.{each}
use Rattle.opc.specs.Limits.{instr_ok}
use Rattle.tables.specs.Limits.{code_ok}

-- a table of m entries: for each nothing, or an index
abbrev pub table_bytes : ℕ → (ℕ → Option ℕ) → List ℕ
table_bytes m f = each m (λ l. be_bytes 2 (index_word (f l)))

-- the record at index i is that of the instruction c, wherever its items begin
pub record SpellsInstr (c : Instr) (i : ℕ) (b : List ℕ) : Type 0 where
  pub items : ℕ
  pub bytes : part b (16 * i) 16 ≡ encode_instr c items
  pub ranged : instr_ok c ≡ true

-- the records from index i on are those of the instructions
abbrev pub SpeltAt : Code → ℕ → List ℕ → Type 0
SpeltAt [] i b = T true
SpeltAt (c ∷ cs) i b = SpellsInstr c i b × SpeltAt cs (suc i) b

-- n records, of instructions in range, and at `base` a table of m entries
pub record Begun (base m : ℕ) (cs : Code) (f : ℕ → Option ℕ) (n : ℕ) (b : List ℕ) : Type 0 where
  pub count : n ≡ length cs
  pub spelt : SpeltAt cs 0 b
  pub table : part b base (2 * m) ≡ table_bytes m f

-- n records, of instructions in range
pub record Records (cs : Code) (n : ℕ) (b : List ℕ) : Type 0 where
  pub count : n ≡ length cs
  pub ranged : code_ok cs ≡ true
  pub spelt : part b 0 (16 * n) ≡ record_bytes cs 0
