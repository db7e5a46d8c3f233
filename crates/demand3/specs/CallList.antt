-- A list of calls on a started state, "each lent what the one before left" (document 00, "Demand 3"): what demand 3 speaks of. Document 01, "The walk", last
-- paragraph, and "Running". A call that is added later is a constructor of `Call`, with a clause of `outcome` and one of `effect`; one that does what no call
-- does today, also a constructor of `Effect`, with a clause of `with_effect`. Definitions only.
use Rattle.std.specs.Prelude.{ℕ, zero, suc, ◌+◌, cond, List, [], ◌∷◌, eqb, get_or}
use Rattle.std.proofs.Math.Option.{Option, none, some}
use Rattle.lent.specs.Answered.{RunAnswered}
use Rattle.lent.specs.Bytes.{be_value, part}
use Rattle.vm.specs.RuntimeErr.{stop_number, details}
use Rattle.vm.specs.Machine.{Answer, Done, Stopped, Spent}
use Rattle.boundary.specs.RunCall.{run_call}
use Rattle.boundary.specs.ReadCall.{read_call}

-- A call with its number and the buffer lent for the answer, whatever they are, so that refused calls are among them.
pub data Call : Type 0 where
  -- steps, report buffer
  Run : ℕ → List ℕ → Call
  -- text number, out buffer
  ReadName : ℕ → List ℕ → Call

-- what a call answers, with the state and the buffer afterwards: reading a name does not write the state
abbrev pub outcome : List ℕ → List ℕ → Call → RunAnswered
outcome program state (Run n out) = run_call program state n out
outcome program state (ReadName x out) = let a = read_call state x out in record { result = a.result; state = state; report = a.buffer }

-- ---- what is told in a run's report

-- the steps taken
abbrev pub steps_told : List ℕ → ℕ
steps_told r = be_value (part r 40 8)

-- How a run ended: answer, number and three details, zero where a stop has fewer. Neither the line nor the steps taken.
pub record Ending : Type 0 where
  pub answer : ℕ
  pub number : ℕ
  pub details : List ℕ

abbrev pub ending_in : List ℕ → Ending
ending_in r = record { answer = get_or r 0 0; number = get_or r 1 0; details = be_value (part r 16 8) ∷ (be_value (part r 24 8) ∷ (be_value (part r 32 8) ∷ [])) }

abbrev pub ending_with : ℕ → ℕ → List ℕ → Ending
ending_with a n d = record { answer = a; number = n; details = get_or d 0 0 ∷ (get_or d 1 0 ∷ (get_or d 2 0 ∷ [])) }

-- done 0, "stopped at an error" 1, spent 2
abbrev pub ending_of : Answer → Ending
ending_of Done = ending_with 0 0 []
ending_of (Stopped e) = ending_with 1 (stop_number e) (details e)
ending_of Spent = ending_with 2 0 []

-- ---- what an accepted call did

pub data Effect : Type 0 where
  -- gave steps: how many, how many of them were told as taken, and how they ended
  Gave : ℕ → ℕ → Ending → Effect
  -- gave none
  NoEffect : Effect

abbrev pub effect : Call → List ℕ → Effect
effect (Run n out) r = Gave n (steps_told r) (ending_in r)
effect (ReadName x out) r = NoEffect

-- "a refused call gave no steps"
abbrev pub effect_of : Call → RunAnswered → Effect
effect_of c a = cond (eqb a.result 0) (effect c a.report) NoEffect

-- ---- what calls leave

-- The state's bytes; over the accepted calls the steps given and those told as taken; and "how the last steps given, if any, ended".
pub record AfterCalls : Type 0 where
  pub state : List ℕ
  pub given : ℕ
  pub taken : ℕ
  pub last : Option Ending

-- a call that gave no steps ended none
abbrev pub latest : ℕ → Ending → Option Ending → Option Ending
latest zero e o = o
latest (suc n) e o = some e

-- a call that left the state b
abbrev pub with_effect : Effect → List ℕ → AfterCalls → AfterCalls
with_effect (Gave n k e) b l = record { state = b; given = l.given + n; taken = l.taken + k; last = latest n e l.last }
with_effect NoEffect b l = record { state = b; given = l.given; taken = l.taken; last = l.last }

abbrev pub with_call : Call → RunAnswered → AfterCalls → AfterCalls
with_call c a l = with_effect (effect_of c a) a.state l

abbrev pub after_call : List ℕ → Call → AfterCalls → AfterCalls
after_call program c l = with_call c (outcome program l.state c) l

abbrev pub call_all : List ℕ → List Call → AfterCalls → AfterCalls
call_all program [] l = l
call_all program (c ∷ cs) l = call_all program cs (after_call program c l)

-- a state as start left it
abbrev pub fresh : List ℕ → AfterCalls
fresh state = record { state = state; given = 0; taken = 0; last = none }
