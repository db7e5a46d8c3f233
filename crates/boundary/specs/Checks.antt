-- The checks of the calls, beside 9: document 01, "Numbers given for the input", "Numbers given for the state". Each is 0 where it passes, else its refusal.
-- Definitions only.
use Rattle.std.specs.Prelude.{ℕ, ◌+◌, ◌^◌, List, ltb, leb, length}
use Rattle.lent.specs.Answered.{check}
use Rattle.lent.specs.Lists.{is_some}
use Rattle.lent.specs.Refusals.{program_refused, state_refused}
use Rattle.tables.specs.ProgramBytes.{decode_program, program_in}
use Rattle.stored.specs.StateBytes.{decode_state, state_ok}

-- 8
abbrev pub program_check : List ℕ → ℕ
program_check program = check (is_some (decode_program program)) program_refused

-- 10: "state bytes with a field outside its range (the position is at most the instruction count, return positions and function indexes are below it; …"
abbrev pub state_check : List ℕ → List ℕ → ℕ
state_check program state = check (state_ok (length (program_in program).code) state) state_refused

-- "… where no program is lent, 1,024 stands for that count)"
abbrev pub alone_check : List ℕ → ℕ
alone_check state = check (state_ok 1024 state) state_refused

-- "or a count that with the given steps would pass 2^64 − 1"
abbrev pub count_check : List ℕ → ℕ → ℕ
count_check state steps = check (ltb ((decode_state state).count + steps) (2 ^ 64)) state_refused

-- "8 (text over 63)"
abbrev pub text_check : ℕ → ℕ
text_check text = check (leb text 63) program_refused
