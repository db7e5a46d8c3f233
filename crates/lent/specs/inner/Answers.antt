-- What a call answers, as the code holds it: nothing is refused, or which refusal it is; and its number, 0 for none (document 01, "Numbers given for the
-- input"). Definitions only.
use Rattle.std.specs.Prelude.{ℕ, Result, Ok, Err}
use Rattle.lent.specs.Refusals.{file_cut, file_counts, file_texts, file_structure, file_numbers, no_register, script_too_large, program_refused, buffer_too_short, state_refused, program_file_refused, number_not_finite}
use Rattle.lent.specs.declared.refusal.Refusal.{Refusal}
use Rattle.lent.specs.declared.refusal.Refusal.TheVariants.{FileCut, FileCounts, FileTexts, FileStructure, FileNumbers, NoRegister, ScriptTooLarge, ProgramRefused, BufferTooShort, StateRefused, ProgramFileRefused, NumberNotFinite}

abbrev pub refusal_number : Refusal → ℕ
refusal_number FileCut = file_cut
refusal_number FileCounts = file_counts
refusal_number FileTexts = file_texts
refusal_number FileStructure = file_structure
refusal_number FileNumbers = file_numbers
refusal_number NoRegister = no_register
refusal_number ScriptTooLarge = script_too_large
refusal_number ProgramRefused = program_refused
refusal_number BufferTooShort = buffer_too_short
refusal_number StateRefused = state_refused
refusal_number ProgramFileRefused = program_file_refused
refusal_number NumberNotFinite = number_not_finite

abbrev pub answer_number : Result (Unit {0}) Refusal → ℕ
answer_number (Ok u) = 0
answer_number (Err r) = refusal_number r
