-- What a Stop and a stopped step do (document 01, "Running", "Numbers given for the state" and "Wrong turns"), computed on small programs.
use mathlib.Core.Path.{◌≡◌, refl}
use mathlib.Core.Bool.{true}
use mathlib.Core.List.{[], ◌∷◌}
use mathlib.Core.Option.{some}
use lib.IntN.{pos, negsuc}
use Rattle.sifv.specs.Value.{Null, Bl, One}
use Rattle.opc.specs.Op.{Stc, Stop, Nop, Decrr, instr}
use Rattle.tables.specs.Tables.{Program}
use Rattle.vm.specs.RuntimeErr.{InvalidDecr}
use Rattle.vm.specs.Machine.{Done, Stopped, Spent, started, run, line}

-- "Stop carries on, as `run` does."
abbrev halting : Program
halting = record { code = instr 0 (Stc (One Null) 1) ∷ instr 0 Stop ∷ instr 0 (Stc (One (Bl true)) 2) ∷ []; code_start = 0 }

stop_carries_on : (run halting 9 (started halting)).answer ≡ Done
stop_carries_on = refl

stop_is_a_step : (run halting 9 (started halting)).state.count ≡ 3
stop_is_a_step = refl

stop_then_stores : (run halting 9 (started halting)).state.machine.names 2 ≡ some (One (Bl true))
stop_then_stores = refl

-- "A stopped step changes nothing, is not counted, and comes again if run again."
abbrev stopping : Program
stopping = record { code = instr 0 Nop ∷ instr 0 (Decrr 3) ∷ []; code_start = 1 }

stops_at_once : (run stopping 9 (started stopping)).answer ≡ Stopped InvalidDecr
stops_at_once = refl

not_counted : (run stopping 9 (started stopping)).state.count ≡ 0
not_counted = refl

comes_again : (run stopping 9 (run stopping 9 (started stopping)).state).answer ≡ Stopped InvalidDecr
comes_again = refl

-- 0 steps: spent inside the program, done at its end
nothing_given : (run stopping 0 (started stopping)).answer ≡ Spent
nothing_given = refl

at_the_end : (run halting 0 (run halting 3 (started halting)).state).answer ≡ Done
at_the_end = refl

-- the line counts from the code's start, and goes below zero in the declarations
first_line : line stopping (started stopping).machine ≡ pos 1
first_line = refl

below_zero : line (record { code = []; code_start = 3 }) (started (record { code = []; code_start = 1 })).machine ≡ negsuc 0
below_zero = refl
