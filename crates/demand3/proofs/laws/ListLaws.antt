-- A list of calls on the bytes of a started state does what its accepted calls do on the state itself: one invariant, and one case split over the calls.
-- Document 01, "The walk": "a state so lent is 10 there only for the count, and a refused call gave no steps".
use Rattle.std.specs.Prelude.{◌≡◌, Bool, true, false, cond, List, [], ◌∷◌, ◌++◌, ℕ, zero, suc, ◌+◌, ◌-◌, ◌^◌, ◌≤◌, ◌<◌, ℤ, pos, negsuc, ltb, eqb, length, get_or, drop}
use Rattle.std.proofs.Math.Path.{refl, ap}
use Rattle.std.proofs.Common.{sym, ap₂, ◌∙◌, subst, le_refl, arith}
use Rattle.std.proofs.Math.Option.{Option, none, some}
use borrow.Author.Tests.{ltb-true, lt-ltb, le-leb, eqb-true, eqb-false}
use Rattle.lent.specs.Bytes.{be_value, be_bytes, part, Each, none, more}
use Rattle.lent.specs.laws.Numbers.{be_value_be_bytes}
use Rattle.sifv.specs.Slot.{encode_slot}
use Rattle.opc.specs.Op.{Instr, op}
use Rattle.tables.specs.Tables.{Program}
use Rattle.tables.specs.ProgramBytes.{program_size, decode_program, program_in}
use Rattle.vm.specs.RuntimeErr.{RuntimeErr, stop_number, details}
use Rattle.vm.specs.Machine.{State, Answer, Done, Stopped, Spent, Ran, run, line}
use Rattle.stored.specs.StateBytes.{state_size, encode_state, decode_state, state_ok}
use Rattle.vm_laws.specs.laws.StateLaws.{state_length, state_behind, state_accepted}
use Rattle.vm_laws.specs.laws.RunLaws.{run_all}
use Rattle.vm_laws.specs.laws.Kept.{run_storable, storable_more}
use Rattle.vm_laws.specs.laws.StopLaws.{stop_whole}
use Rattle.walk.specs.Runs.{Runs, newer}
use Rattle.walk.proofs.laws.Standing.{Standing, stands_given}
use Rattle.vm.specs.Report.{report_size, report_bytes, report}
use Rattle.lent.specs.Answered.{over, answered}
use Rattle.lent.specs.Answered.{RunAnswered}
use Rattle.boundary.specs.RunCall.{run_checks, run_refused, ran_out, run_deed, run_call}
use Rattle.boundary.specs.ReadCall.{read_call}
use Rattle.demand3.specs.laws.CallLaws.{length_over}
use Rattle.demand3.specs.CallList.{Call, Run, ReadName, outcome, steps_told, Ending, ending_in, ending_with, ending_of, Gave, NoEffect, effect, AfterCalls, latest, with_effect, after_call, call_all}
use Rattle.lent.specs.laws.Guarded.{check_passed, Passed, deed_done, all_passed, refused_same}
use Rattle.opc.specs.Limits.{OpFits}
use Rattle.tables.specs.Limits.{program_ok}
use Rattle.stored.specs.Storable.{Storable, WholeDetails}

-- ---- a state buffer that holds the state s of a program with n instructions

pub record Holds (n : ℕ) (b : List ℕ) (s : State) : Type 0 where
  pub behind : List ℕ
  pub is : b ≡ encode_state s ++ behind
  pub long : state_size ≤ length b
  pub fits : Storable n s

pub decodes : {n : ℕ} {b : List ℕ} {s : State} → Holds n b s → decode_state b ≡ s
decodes {n} {b} {s} h = ap decode_state h.is ∙ state_behind n s h.fits h.behind

accepted : {n : ℕ} {b : List ℕ} {s : State} → Holds n b s → state_ok n b ≡ true
accepted {n} {b} {s} h = ap (state_ok n) h.is ∙ state_accepted n s h.fits h.behind

-- written at the buffer's start
pub holds_over : {n : ℕ} (b : List ℕ) (s : State) → state_size ≤ length b → Storable n s → Holds n (over (encode_state s) b) s
holds_over {n} b s h f =
    let e = state_length n s f in
    record { behind = drop (length (encode_state s)) b; is = refl; long = rw (length_over (encode_state s) b (omega arith)) h; fits = f }

-- "Reading a name": every text below 64 is read, into every buffer of a slot's size
pub reads : {n : ℕ} {b : List ℕ} {s : State} → Holds n b s → (x : ℕ) (out : List ℕ) → x < 64 → 256 ≤ length out
    → read_call b x out ≡ answered 0 (over (encode_slot (s.machine.names x)) out)
unfolding read_call
reads {n} {b} {s} h x out hx ho =
    let k : Holds 1024 b s = record { behind = h.behind; is = h.is; long = h.long; fits = storable_more n 1024 s h.fits.small (le_refl 1024) h.fits } in
    rw (le-leb state_size (length b) h.long, le-leb 256 (length out) ho, le-leb x 63 (omega arith), accepted k, decodes h)

-- ---- the report's fields

abbrev Fits : ℕ → Type 0
Fits d = d < 2 ^ 64

get_d_fits : {d : List ℕ} → Each Fits d → (i : ℕ) → Fits (get_or d i 0)
get_d_fits none i = omega arith
get_d_fits (more p h) zero = p
get_d_fits (more p h) (suc i) = get_d_fits h i

-- 8 bytes spell a number that fits
spelt : {d : List ℕ} → Each Fits d → (i : ℕ) → be_value (be_bytes 8 (get_or d i 0)) ≡ get_or d i 0
spelt {d} h i = be_value_be_bytes 8 (get_or d i 0) (get_d_fits h i)

ending_report : (a n : ℕ) (l : ℤ) (d : List ℕ) (k : ℕ) (rest : List ℕ) → Each Fits d → ending_in (report_bytes a n l d k ++ rest) ≡ ending_with a n d
ending_report a n (pos x) d k rest h = λ i. record { answer = a; number = n; details = spelt h 0 i ∷ (spelt h 1 i ∷ (spelt h 2 i ∷ [])) }
ending_report a n (negsuc x) d k rest h = λ i. record { answer = a; number = n; details = spelt h 0 i ∷ (spelt h 1 i ∷ (spelt h 2 i ∷ [])) }

told_report : (a n : ℕ) (l : ℤ) (d : List ℕ) (k : ℕ) (rest : List ℕ) → k < 2 ^ 64 → be_value (part (report_bytes a n l d k ++ rest) 40 8) ≡ k
told_report a n (pos x) d k rest h = be_value_be_bytes 8 k h
told_report a n (negsuc x) d k rest h = be_value_be_bytes 8 k h

report_ends : (p : Program) (a : Answer) (s : State) (k : ℕ) (rest : List ℕ) → ((e : RuntimeErr) → a ≡ Stopped e → WholeDetails e) → ending_in (report p a s k ++ rest) ≡ ending_of a
report_ends p Done s k rest h = ending_report 0 0 (pos 0) [] k rest none
report_ends p (Stopped e) s k rest h = ending_report 1 (stop_number e) (line p s.machine) (details e) k rest (h e refl)
report_ends p Spent s k rest h = ending_report 2 0 (pos 0) [] k rest none

report_tells : (p : Program) (a : Answer) (s : State) (k : ℕ) (rest : List ℕ) → k < 2 ^ 64 → be_value (part (report p a s k ++ rest) 40 8) ≡ k
report_tells p Done s k rest h = told_report 0 0 (pos 0) [] k rest h
report_tells p (Stopped e) s k rest h = told_report 1 (stop_number e) (line p s.machine) (details e) k rest h
report_tells p Spent s k rest h = told_report 2 0 (pos 0) [] k rest h

-- ---- what calls leave

counts_up : (p : Program) (n : ℕ) (s : State) → s.count ≤ (run p n s).state.count
counts_up p = run_all p (λ (n : ℕ) (u : State) (r : Ran). u.count ≤ r.state.count)
    (λ u o. omega arith) (λ n u h. omega arith) (λ n u x h. omega arith) (λ n u m r h k. omega arith)

abbrev pub ended : Option Answer → Option Ending
ended none = none
ended (some a) = some (ending_of a)

latest_ended : (n : ℕ) (a : Answer) (o : Option Answer) → latest n (ending_of a) (ended o) ≡ ended (newer n a o)
latest_ended zero a o = refl
latest_ended (suc n) a o = refl

-- a program buffer that holds p
module _ (program : List ℕ) (p : Program) (size : program_size ≤ length program) (back : decode_program program ≡ some p) (ok : program_ok p ≡ true)
    (numbers : Each (λ (i : Instr). OpFits (op i)) p.code) where
  -- The invariant: the state's bytes hold what the steps given lead to, and what was told is so.
  pub record Stands (l : AfterCalls) : Type 0 where
    pub left : Runs
    pub holds : Holds (length p.code) l.state left.state
    pub taken : l.taken ≡ left.state.count
    pub last : l.last ≡ ended left.last
    pub stands : Standing p l.given left

  -- ---- run on such a state

  run_on_lem : {b : List ℕ} {s : State} → Holds (length p.code) b s → (n : ℕ) (out : List ℕ) → run_deed (program_in program) b n out ≡ ran_out p (run p n s) s.count b out
  run_on_lem h n out = rw (back, decodes h)

  -- 9 only for the report buffer, 10 only for the count
  pub run_answers : {b : List ℕ} {s : State} → Holds (length p.code) b s → (n : ℕ) (out : List ℕ) → report_size ≤ length out → s.count + n < 2 ^ 64
      → run_call program b n out ≡ ran_out p (run p n s) s.count b out
  unfolding run_call
  run_answers {b} {s} h n out k m =
      rw (le-leb program_size (length program) size, le-leb state_size (length b) h.long, le-leb report_size (length out) k, back, accepted h, decodes h, lt-ltb (s.count + n) (2 ^ 64) m)

  pub run_accepted : {b : List ℕ} {s : State} → Holds (length p.code) b s → (n : ℕ) (out : List ℕ) → report_size ≤ length out → s.count + n < 2 ^ 64 → (run_call program b n out).result ≡ 0
  run_accepted h n out k m = ap (λ (a : RunAnswered). a.result) (run_answers h n out k m)

  -- an accepted run: the count had room, and the deed was done
  record RanOn (b : List ℕ) (s : State) (n : ℕ) (out : List ℕ) : Type 0 where
    room : s.count + n < 2 ^ 64
    is : run_call program b n out ≡ ran_out p (run p n s) s.count b out

  ran_on : {b : List ℕ} {s : State} → Holds (length p.code) b s → (n : ℕ) (out : List ℕ) → (run_call program b n out).result ≡ 0 → RanOn b s n out
  unfolding run_call
  ran_on {b} {s} h n out e = by_checks (all_passed (λ k. run_refused k b out) (run_deed (program_in program) b n out) (λ a. a.result) (λ k. refl) (run_checks program b n out) e)
    where
      by_checks : Passed (run_checks program b n out) → RanOn b s n out
      by_checks c = record { room = room c; is = deed_done (λ k. run_refused k b out) (run_deed (program_in program) b n out) c ∙ run_on_lem h n out }
        where
          room : Passed (run_checks program b n out) → s.count + n < 2 ^ 64
          room (more a (more b₁ (more c₁ (more d (more f (more g none)))))) =
              rw (decodes h) at (ltb-true ((decode_state b).count + n) (2 ^ 64) (check_passed (ltb ((decode_state b).count + n) (2 ^ 64)) 9 g))

  -- ---- calls, by what they did

  -- n steps were given, k were told as taken, e as their ending; b is the state afterwards
  gave : {l : AfterCalls} (s : Stands l) (n k : ℕ) (e : Ending) (b : List ℕ) → let g = run p n s.left.state in
      Holds (length p.code) b g.state → s.left.state.count + k ≡ g.state.count → e ≡ ending_of g.answer → Stands (with_effect (Gave n k e) b l)
  gave {l} s n k e b h c w =
      let g = run p n s.left.state in
      record {
        left = record { state = g.state; last = newer n g.answer s.left.last };
        holds = h;
        taken = omega (arith, s.taken, c);
        last = ap₂ (λ (x : Ending) (o : Option Ending). latest n x o) w s.last ∙ latest_ended n g.answer s.left.last;
        stands = stands_given s.stands n;
      }

  nothing : {l : AfterCalls} (s : Stands l) (b : List ℕ) → b ≡ l.state → Stands (with_effect NoEffect b l)
  nothing s b e = rw e (record { left = s.left; holds = s.holds; taken = s.taken; last = s.last; stands = s.stands })

  accepted_call : {l : AfterCalls} (s : Stands l) (c : Call) → let a = outcome program l.state c in a.result ≡ 0 → Stands (with_effect (effect c a.report) a.state l)
  accepted_call {l} s (Run n out) e =
      let u = s.left.state in
      let g = run p n u in
      let r = ran_on s.holds n out e in
      let fits = run_storable p n u ok numbers s.holds.fits r.room in
      let k = g.state.count - u.count in
      let behind = drop (length (report p g.answer g.state k)) out in
      let t : steps_told (over (report p g.answer g.state k) out) ≡ k = report_tells p g.answer g.state k behind (omega (arith, fits.counted)) in
      subst (λ (a : RunAnswered). Stands (with_effect (effect (Run n out) a.report) a.state l)) (sym r.is)
      (gave s n (steps_told (over (report p g.answer g.state k) out)) (ending_in (over (report p g.answer g.state k) out)) (over (encode_state g.state) l.state)
      (holds_over l.state g.state s.holds.long fits) (omega (arith, t, counts_up p n u))
      (report_ends p g.answer g.state k behind (λ x. stop_whole p n u x ok numbers s.holds.fits r.room)))
  accepted_call {l} s (ReadName x out) e = nothing s l.state refl

  refused_call : (b : List ℕ) (c : Call) → let a = outcome program b c in (a.result ≡ 0 → ⊥) → a.state ≡ b
  unfolding run_call
  refused_call b (Run n out) h =
      ap (λ (a : RunAnswered). a.state) (refused_same (λ k. run_refused k b out) (run_deed (program_in program) b n out) (λ a. a.result) (λ k. refl) refl (run_checks program b n out) h)
  refused_call b (ReadName x out) h = refl

  call_stands : {l : AfterCalls} → Stands l → (c : Call) → Stands (after_call program c l)
  call_stands {l} s c = by_result (eqb (outcome program l.state c).result 0) refl
    where
      by_result : (t : Bool) → eqb (outcome program l.state c).result 0 ≡ t
          → let a = outcome program l.state c in Stands (with_effect (cond t (effect c a.report) NoEffect) a.state l)
      by_result true e = accepted_call s c (eqb-true (outcome program l.state c).result 0 e)
      by_result false e = nothing s (outcome program l.state c).state (refused_call l.state c (eqb-false (outcome program l.state c).result 0 e))

  -- all calls of a list
  pub list_stands : (cs : List Call) {l : AfterCalls} → Stands l → Stands (call_all program cs l)
  list_stands [] s = s
  list_stands (c ∷ cs) s = list_stands cs (call_stands s c)
