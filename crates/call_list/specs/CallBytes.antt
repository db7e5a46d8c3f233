-- A list of calls in bytes, so that code can carry it out: docs/FORMATS.md, "List of calls". Definitions only.
use Rattle.std.specs.Prelude.{ℕ, zero, suc, ◌/◌, min, cond, List, [], ◌∷◌, eqb, length, get_or, take, drop, Option as Held, Some, None}
use Rattle.std.proofs.Math.Option.{Option, none, some}
use Rattle.lent.specs.Bytes.{be_value, part}
use Rattle.demand3.specs.CallList.{Call, Run, ReadName, Ending}
use Rattle.call_list.specs.declared.Ending.{Ending as Told}
use Rattle.lent.specs.Lists.{zeros}

-- 16 bytes: kind, 5 bytes that are not looked at, length of the buffer lent for the answer, number
abbrev pub call_kind : List ℕ → ℕ
call_kind e = get_or e 0 0

abbrev pub call_number : List ℕ → ℕ
call_number e = be_value (part e 8 8)

-- the buffer: zeros, at most 256 of them
abbrev pub lent_out : List ℕ → List ℕ
lent_out e = zeros (min (be_value (part e 6 2)) 256)

-- by its kind: 0 is a run with its number as steps, 1 reads the name of that number; any other is no call
abbrev pub call_by : ℕ → ℕ → List ℕ → Option Call
call_by kind n out = cond (eqb kind 0) (some (Run n out)) (cond (eqb kind 1) (some (ReadName n out)) none)

abbrev pub call_of : List ℕ → Option Call
call_of e = call_by (call_kind e) (call_number e) (lent_out e)

abbrev pub and_calls : Option Call → List Call → List Call
and_calls none cs = cs
and_calls (some c) cs = c ∷ cs

abbrev pub calls_from : ℕ → List ℕ → List Call
calls_from zero b = []
calls_from (suc n) b = and_calls (call_of (take 16 b)) (calls_from n (drop 16 b))

-- as many as the bytes hold whole
abbrev pub calls_in : List ℕ → List Call
calls_in b = calls_from (length b / 16) b

-- how the last steps given ended, as the code answers it, where any were
abbrev pub Last : Type 0
Last = Held Told

abbrev pub last_of : Last → Option Ending
last_of None = none
last_of (Some e) = some (record { answer = e.answer; number = e.number; details = e.details })
