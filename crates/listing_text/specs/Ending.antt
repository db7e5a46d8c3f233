-- The end of a run and the names that it left, as text: document 01, "The listing program". Definitions only.
use Rattle.std.specs.Prelude.{ℕ, zero, suc, List, [], ◌∷◌, ◌++◌, map, ℤ, pos, negsuc}
use Rattle.std.proofs.Math.Option.{Option, none, some}
use Rattle.std.specs.Int.Count.{ones_in}
use Rattle.sifv.specs.Value.{Value}
use Rattle.tables.specs.Tables.{Program}
use Rattle.vm.specs.RuntimeErr.{stop_number, details}
use Rattle.vm.specs.Machine.{State, Answer, Done, Stopped, Spent, Ran, line}
use Rattle.stored.specs.StateBytes.{mark}
use Rattle.text.specs.Text.{ascii, decimal, value_text, words, line_of}

abbrev pub signed : ℤ → List ℕ
signed (pos n) = decimal n
signed (negsuc n) = ascii "-" ++ decimal (suc n)

-- "answer and steps"; "a stop prints number, line, details after the steps"
abbrev pub end_line : Program → Answer → State → List ℕ
end_line p Done s = line_of (ascii "end" ∷ words "done" (s.count ∷ []))
end_line p (Stopped e) s = line_of (ascii "end" ∷ (ascii "stopped" ∷ (decimal s.count ∷ (decimal (stop_number e) ∷ (signed (line p s.machine) ∷ map decimal (details e))))))
end_line p Spent s = line_of (ascii "end" ∷ words "spent" (s.count ∷ []))

-- "text number and value, names ascending"
abbrev pub name_line : ℕ → Option Value → List ℕ
name_line x none = []
name_line x (some v) = line_of (ascii "name" ∷ (decimal x ∷ (value_text v ∷ [])))

abbrev pub name_lines : ℕ → ℕ → (ℕ → Option Value) → List ℕ
name_lines x zero f = []
name_lines x (suc n) f = name_line x (f x) ++ name_lines (suc x) n f

-- what a run left: the end, "count of names", the names
abbrev pub ran_text : Program → Ran → List ℕ
ran_text p r =
    end_line p r.answer r.state ++ (line_of (words "held" (ones_in 64 (mark 0 64 r.state.machine.names) ∷ [])) ++ name_lines 0 64 r.state.machine.names)
