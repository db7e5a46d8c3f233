-- How the rows of the tables are checked: files in hex, and what a run leaves as lines of text.
use Prim.Native.Nat.{ℕ, zero, suc, ◌+◌, ◌-◌, ◌*◌, ◌/◌}
use Prim.Native.String.{String, len, char_at}
use Prim.Native.Char.{code}
use mathlib.Core.Bool.{Bool, true, cond, ◌&&◌}
use mathlib.Core.List.{List, [], ◌∷◌, ◌++◌, map, reverse}
use mathlib.Core.Option.{Option, none, some}
use lib.Dec.{ltb}
use Rattle.lent.specs.Bytes.{same_bytes}
use Rattle.sifv.specs.Value.{Value}
use Rattle.opc.specs.Op.{Code}
use Rattle.ast.specs.File.{read_tree, Read, Refused, Tree}
use Rattle.tables.specs.Tables.{Program}
use Rattle.compiler.specs.Lower.{lower, Lowered, refused, lowered}
use Rattle.vm.specs.Machine.{State, started, Ran, run}
use Rattle.text.specs.Text.{ascii, decimal, value_text, line_of}
use Rattle.text.specs.Text.{words}
use Rattle.listing_text.specs.ProgramText.{index_lines}
use Rattle.listing_text.specs.Ending.{ran_text}
use Rattle.listing_text.specs.Listing.{listing}

-- ---- files in hex

abbrev pub digit : ℕ → ℕ
digit c = cond (ltb c 97) (c - 48) (c - 87)

abbrev pub bytes_from : String → ℕ → ℕ → List ℕ
bytes_from s i zero = []
bytes_from s i (suc n) = (digit (code (char_at s i)) * 16 + digit (code (char_at s (suc i)))) ∷ bytes_from s (suc (suc i)) n

abbrev pub unhex : String → List ℕ
unhex s = bytes_from s 0 (len s / 2)

-- ---- a machine as lines: registers that hold something, stacks from the bottom, functions, position, count

abbrev pub reg_line : ℕ → Option Value → List ℕ
reg_line r none = []
reg_line r (some v) = line_of (ascii "reg" ∷ (decimal r ∷ (value_text v ∷ [])))

abbrev pub reg_lines : ℕ → ℕ → (ℕ → Option Value) → List ℕ
reg_lines r zero f = []
reg_lines r (suc n) f = reg_line r (f r) ++ reg_lines (suc r) n f

abbrev pub state_text : State → List ℕ
state_text s =
    reg_lines 0 96 s.machine.regs ++ (line_of (ascii "stack" ∷ map value_text (reverse s.machine.stack)) ++
    (line_of (words "calls" (reverse s.machine.calls)) ++ (index_lines "fn" 0 64 s.machine.fns ++
    (line_of (words "position" (s.machine.pos ∷ [])) ++ line_of (words "count" (s.count ∷ []))))))

-- ---- rows

-- a file, its listing, and the state that its run leaves
pub data Row : Type 0 where
  row : String → String → String → Row

abbrev pub lowered_state : Lowered → List ℕ
lowered_state (refused n) = []
lowered_state (lowered p) = state_text (run p 100000 (started p)).state

abbrev pub read_state : Read → List ℕ
read_state (Refused n) = []
read_state (Tree t) = lowered_state (lower t)

abbrev pub holds : Row → Bool
holds (row f l s) = same_bytes (listing (unhex f)) (ascii l) && same_bytes (read_state (read_tree (unhex f))) (ascii s)

abbrev pub hold_all : List Row → Bool
hold_all [] = true
hold_all (r ∷ rs) = holds r && hold_all rs

-- code start, steps, code, and what is left
pub data ProgramRow : Type 0 where
  program_row : ℕ → ℕ → Code → String → ProgramRow

abbrev pub ran_lines : Program → Ran → List ℕ
ran_lines p r = ran_text p r ++ state_text r.state

abbrev pub leaves : ProgramRow → Bool
leaves (program_row k n c t) =
    let p : Program = record { code = c; code_start = k } in
    same_bytes (ran_lines p (run p n (started p))) (ascii t)

abbrev pub leave_all : List ProgramRow → Bool
leave_all [] = true
leave_all (r ∷ rs) = leaves r && leave_all rs
