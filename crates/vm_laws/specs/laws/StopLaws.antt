-- The details of a stop are 64-bit numbers, so that a report holds them whole. Document 01, "Numbers given for the state": "each with its details (text or
-- register number; index and length)".
use Rattle.std.specs.Prelude.{◌≡◌, ℕ, ◌+◌, ◌^◌, ◌<◌, true, length}
use Rattle.std.proofs.Common.{subst, arith}
use Rattle.lent.specs.Bytes.{Each}
use Rattle.opc.specs.Op.{Instr, op}
use Rattle.tables.specs.Tables.{Program}
use Rattle.tables.specs.laws.ProgramLaws.{limits}
use Rattle.vm.specs.RuntimeErr.{RuntimeErr}
use Rattle.vm.specs.Machine.{Stops, step, State, Stopped, Ran, run}
use Rattle.vm_laws.specs.laws.RunLaws.{run_all}
use Rattle.vm_laws.specs.laws.Kept.{Keeps, step_keeps, storable_sound, run_storable}
use Rattle.opc.specs.Limits.{OpFits}
use Rattle.tables.specs.Limits.{program_ok}
use Rattle.stored.specs.Storable.{Storable, WholeDetails}

stopped_there : (p : Program) (n : ℕ) (s : State) (e : RuntimeErr) → (run p n s).answer ≡ Stopped e → step p (run p n s).state.machine ≡ Stops e
stopped_there p n s e = run_all p (λ (n : ℕ) (u : State) (r : Ran). r.answer ≡ Stopped e → step p r.state.machine ≡ Stops e)
    (λ u o f. let z : ◌≡◌ {A = ℕ} 0 1 = cc in absurd (omega arith))
    (λ n u h f. let z : ◌≡◌ {A = ℕ} 0 1 = cc in absurd (omega arith))
    (λ n u x h f. cc)
    (λ n u m r h k f. k f)
    n s

-- a run that stops tells 64-bit numbers
pub stop_whole : (p : Program) (k : ℕ) (s : State) (e : RuntimeErr) → program_ok p ≡ true → Each (λ (i : Instr). OpFits (op i)) p.code
    → Storable (length p.code) s → s.count + k < 2 ^ 64 → (run p k s).answer ≡ Stopped e → WholeDetails e
stop_whole p k s e o f g l a =
    let n = length p.code in
    let u = (run p k s).state in
    subst (Keeps n) (stopped_there p k s e a) (step_keeps p (limits p o).ranged f u.machine (storable_sound n u (run_storable p k s o f g l)))
