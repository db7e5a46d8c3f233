-- What the calls answer, test by test.
use mathlib.Core.Path.{◌≡◌, refl, sym, ap, ap₂, ◌∙◌, subst}
use mathlib.Core.Bool.{Bool, true, false}
use mathlib.Core.List.{List, [], ◌++◌, append-nil}
use mathlib.Core.Option.{Option, none, some}
use Prim.Native.Nat.{ℕ, ◌+◌, ◌*◌, ◌-◌, ◌^◌, ◌≤◌, ◌<◌}
use native.Mathlib.Omega.{arith}
use lib.ListN.{length, drop, length-append, length-drop}
use lib.Seq.{drop-length}
use borrow.Author.Tests.{lt-ltb, le-ltb, le-leb, lt-leb}
use Rattle.lent.specs.Bytes.{be_value, part, splice, AreBytes}
use Rattle.lent.specs.laws.Parts.{part_part, length_part}
use Rattle.lent.specs.laws.Slots.{slot_end}
use Rattle.sifv.specs.Slot.{encode_slot}
use Rattle.tables.specs.Tables.{Program}
use Rattle.tables.specs.ProgramBytes.{decode_program}
use Rattle.vm.specs.Machine.{Machine, State, started, run}
use Rattle.vm_laws.specs.laws.Kept.{accepted_storable, storable_sound}
use Rattle.stored.specs.StateBytes.{encode_state, decode_state, state_ok}
use Rattle.execute.specs.inner.View.{view, loc_of, Cells, Holds, Canon}
use Rattle.execute.specs.laws.Laying.{laid_view, laid_canon, length_stack, length_frames}
use Rattle.execute.specs.laws.Programs.{ready}
use Rattle.tables.specs.laws.ProgramLaws.{limits}
use Rattle.tables.specs.laws.ProgramRange.{program_within}
use Rattle.state.specs.laws.Whole.{accepted_holds, accepted_loc}
use Rattle.state.specs.inner.Fields.{loc_at, progress_at}
use Rattle.execute.specs.inner.Progress.{state_of}
use Rattle.run.specs.inner.Runs.{RunEnded}
use Rattle.execute.specs.declared.Progress.{Progress}
use Rattle.run.specs.declared.Ran.{Ran as GivenRan}
use Rattle.lent.specs.Answered.{over, answered}
use Rattle.vm.specs.Report.{report}
use Rattle.report.specs.inner.Fields.{report_of}
use Rattle.report.specs.laws.Told.{told_report}
use Rattle.boundary.specs.StartCall.{start_call}
use Rattle.boundary.specs.RunCall.{ran_out, run_refused, run_call}
use Rattle.boundary.specs.ReadCall.{read_call}
use Rattle.calls.specs.inner.Finished.{Finished, run_on}
use Rattle.tables.specs.ProgramBytes.{program_in}
use Rattle.execute.specs.inner.ProgramView.{ProgramReady}
use Rattle.lent.specs.Lists.{is_some}

-- ---- buffers and programs

-- what follows n bytes, written anew
over_is : (new b b' : List ℕ) (n : ℕ) → b' ≡ new ++ drop n b → n ≤ length b → length b' ≡ length b → b' ≡ over new b
over_is new b b' n e h l =
    let k : length new + (length b - n) ≡ length b = sym (ap length e ∙ length-append new (drop n b) ∙ ap (λ (x : ℕ). length new + x) (length-drop n b)) ∙ l in
    let z : n ≡ length new = omega arith in
    e ∙ ap (λ (x : ℕ). new ++ drop x b) z

pub programmed : (q : List ℕ) → is_some (decode_program q) ≡ true → decode_program q ≡ some (program_in q)
programmed q h = by (decode_program q) refl h
  where
    by : (o : Option Program) → decode_program q ≡ o → is_some o ≡ true → o ≡ some (program_in q)
    by none e k = let z : ◌≡◌ {A = ℕ} 0 1 = cc in absurd (omega arith)
    by (some p) e k = rw e

pub program_ready : (q : List ℕ) → AreBytes q → 40960 ≤ length q → is_some (decode_program q) ≡ true → ProgramReady q (program_in q)
program_ready q a l h = ready q (program_in q) a l (programmed q h)

pub start_small : (q : List ℕ) → AreBytes q → is_some (decode_program q) ≡ true → (program_in q).code_start ≤ 1024
start_small q a h = let k = limits (program_in q) (program_within q (program_in q) a (programmed q h)).0 in omega (arith, k.start, k.count)

-- ---- start

module _ (q b : List ℕ) where
  pub start_short_program : length q < 40960 → start_call q b ≡ answered 9 b
  unfolding start_call
  start_short_program h = rw (lt-leb 40960 (length q) h)

  module _ (hq : 40960 ≤ length q) where
    pub start_short_state : length b < 65536 → start_call q b ≡ answered 9 b
    unfolding start_call
    start_short_state h = rw (le-leb 40960 (length q) hq, lt-leb 65536 (length b) h)

    module _ (hb : 65536 ≤ length b) where
      pub start_refused : is_some (decode_program q) ≡ false → start_call q b ≡ answered 8 b
      unfolding start_call
      start_refused h = rw (le-leb 40960 (length q) hq, le-leb 65536 (length b) hb, h)

      pub start_written : {b' : List ℕ} → is_some (decode_program q) ≡ true → b' ≡ encode_state (started (program_in q)) ++ drop 47360 b → length b' ≡ length b → start_call q b ≡ answered 0 b'
      unfolding start_call
      start_written {b'} h e l =
          rw (le-leb 40960 (length q) hq, le-leb 65536 (length b) hb, h)
          (ap (λ (x : List ℕ). answered 0 x) (sym (over_is (encode_state (started (program_in q))) b b' 47360 e (omega arith) l)))

-- ---- read_name

module _ (b : List ℕ) (x : ℕ) (out : List ℕ) where
  pub read_short_state : length b < 65536 → read_call b x out ≡ answered 9 out
  unfolding read_call
  read_short_state h = rw (lt-leb 65536 (length b) h)

  module _ (hb : 65536 ≤ length b) where
    pub read_short_out : length out < 256 → read_call b x out ≡ answered 9 out
    unfolding read_call
    read_short_out h = rw (le-leb 65536 (length b) hb, lt-leb 256 (length out) h)

    module _ (ho : 256 ≤ length out) where
      pub read_no_text : 63 < x → read_call b x out ≡ answered 8 out
      unfolding read_call
      read_no_text h = rw (le-leb 65536 (length b) hb, le-leb 256 (length out) ho, lt-leb x 63 h)

      module _ (hx : x ≤ 63) where
        pub read_refused : {t : Bool} → t ≡ state_ok 1024 b → t ≡ false → read_call b x out ≡ answered 10 out
        unfolding read_call
        read_refused e f = rw (le-leb 65536 (length b) hb, le-leb 256 (length out) ho, le-leb x 63 hx, sym e ∙ f)

        pub read_written : {t : Bool} {out' : List ℕ} → AreBytes b → t ≡ state_ok 1024 b → t ≡ true → out' ≡ splice out 0 (part b (24576 + x * 256) 256) → length out' ≡ length out → read_call b x out ≡ answered 0 out'
        unfolding read_call
        read_written {t} {out'} a e f w l =
            let ok : state_ok 1024 b ≡ true = sym e ∙ f in
            let s : part b (24576 + x * 256) 256 ≡ encode_slot ((decode_state b).machine.names x) = (accepted_holds 1024 b (omega arith) a (omega arith) ok).in_names x (omega arith) in
            let n : length (part b (24576 + x * 256) 256) ≡ 256 = length_part b (24576 + x * 256) 256 (omega arith) in
            rw (le-leb 65536 (length b) hb, le-leb 256 (length out) ho, le-leb x 63 hx, ok)
            (ap (λ (y : List ℕ). answered 0 y) (sym (w ∙ ap (λ (y : List ℕ). over y out) s)))

-- ---- run

module _ (q b : List ℕ) (steps : ℕ) (out : List ℕ) where
  pub run_short_program : length q < 40960 → run_call q b steps out ≡ run_refused 9 b out
  unfolding run_call
  run_short_program h = rw (lt-leb 40960 (length q) h)

  module _ (hq : 40960 ≤ length q) where
    pub run_short_state : length b < 65536 → run_call q b steps out ≡ run_refused 9 b out
    unfolding run_call
    run_short_state h = rw (le-leb 40960 (length q) hq, lt-leb 65536 (length b) h)

    module _ (hb : 65536 ≤ length b) where
      pub run_short_report : length out < 48 → run_call q b steps out ≡ run_refused 9 b out
      unfolding run_call
      run_short_report h = rw (le-leb 40960 (length q) hq, le-leb 65536 (length b) hb, lt-leb 48 (length out) h)

      module _ (ho : 48 ≤ length out) where
        pub run_unprogrammed : is_some (decode_program q) ≡ false → run_call q b steps out ≡ run_refused 8 b out
        unfolding run_call
        run_unprogrammed h = rw (le-leb 40960 (length q) hq, le-leb 65536 (length b) hb, le-leb 48 (length out) ho, h)

        pub run_passed : is_some (decode_program q) ≡ true → run_call q b steps out ≡ run_on q b steps out
        unfolding run_call
        run_passed h = rw (le-leb 40960 (length q) hq, le-leb 65536 (length b) hb, le-leb 48 (length out) ho, h)

-- the state check and the count
module _ (q b : List ℕ) (steps : ℕ) (out : List ℕ) {n : ℕ} (en : n ≡ length (program_in q).code) where
  stated : {t : Bool} → t ≡ state_ok n b → state_ok (length (program_in q).code) b ≡ t
  stated e = ap (λ (k : ℕ). state_ok k b) (sym en) ∙ sym e

  pub run_refused_lem : {t : Bool} → t ≡ state_ok n b → t ≡ false → run_on q b steps out ≡ run_refused 10 b out
  run_refused_lem e f = rw (stated e ∙ f)

  pub run_overflows : {t : Bool} → t ≡ state_ok n b → t ≡ true → 2 ^ 64 ≤ (decode_state b).count + steps → run_on q b steps out ≡ run_refused 10 b out
  run_overflows e f k = rw (stated e ∙ f, le-ltb ((decode_state b).count + steps) (2 ^ 64) k)

  pub run_accepted : {t : Bool} → t ≡ state_ok n b → t ≡ true → (decode_state b).count + steps < 2 ^ 64
      → run_on q b steps out ≡ ran_out (program_in q) (run (program_in q) steps (decode_state b)) (decode_state b).count b out
  run_accepted e f k = rw (stated e ∙ f, lt-ltb ((decode_state b).count + steps) (2 ^ 64) k)

-- the used bytes of an accepted state hold its machine
module _ (n : ℕ) (b : List ℕ) (o : n ≤ 1024) (a : AreBytes b) (l : 47360 ≤ length b) (e : state_ok n b ≡ true) where
  cells_used : (at w k : ℕ) (f : ℕ → List ℕ) → at + k * w ≤ 47360 → Cells b at w k f → Cells (part b 0 47360) at w k f
  cells_used at w k f h c i j = let z = slot_end w k i j in let y : 0 + (at + i * w) ≡ at + i * w = omega arith in part_part b 0 47360 (at + i * w) w (omega arith) ∙ ap (λ (x : ℕ). part b x w) y ∙ c i j

  used_holds : Holds (part b 0 47360) (decode_state b).machine
  used_holds =
      let h = accepted_holds n b o a l e in
      let m = (decode_state b).machine in
      record {
        room = let z = length_part b 0 47360 l in omega arith;
        in_regs = cells_used 0 256 96 _ (omega arith) h.in_regs;
        in_names = cells_used 24576 256 64 _ (omega arith) h.in_names;
        in_stack = cells_used 40960 256 24 _ (omega arith) h.in_stack;
        in_calls = cells_used 47104 4 24 _ (omega arith) h.in_calls;
        in_fns = cells_used 47200 2 64 _ (omega arith) h.in_fns;
        in_rest = part_part b 0 47360 47348 12 (omega arith) ∙ h.in_rest;
      }

  used_loc : loc_of (decode_state b).machine ≡ loc_at b
  used_loc = sym (accepted_loc n b o a l e)

  pub used_canon : {first : Progress} → first ≡ progress_at b → Canon n (part b 0 47360) first.loc
  used_canon {first} ef =
      subst (Canon n (part b 0 47360)) (used_loc ∙ ap (λ (x : Progress). x.loc) (sym ef))
      (laid_canon n (decode_state b).machine (part b 0 47360) (storable_sound n (decode_state b) (accepted_storable n b o a l e)) o used_holds)

  pub used_state : {first : Progress} → first ≡ progress_at b → state_of (part b 0 47360) first ≡ decode_state b
  unfolding decode_state
  used_state {first} ef =
      ap (state_of (part b 0 47360)) ef
      ∙ ap (λ (m : Machine). record { machine = m; count = be_value (part b 47336 8) })
      (ap (view (part b 0 47360)) (sym used_loc) ∙ laid_view n (decode_state b).machine (part b 0 47360) (storable_sound n (decode_state b) (accepted_storable n b o a l e)) o used_holds)

-- the count that the progress has
pub counted_so : (b : List ℕ) {first : Progress} → first ≡ progress_at b → (decode_state b).count ≡ first.count
unfolding decode_state
counted_so b ef = ap (λ (x : Progress). x.count) (sym ef)

-- ---- what a run leaves

-- it can be written back
pub to_write : {n : ℕ} {p : Program} {steps : ℕ} {b b' : List ℕ} {first : Progress} {r : GivenRan} → RunEnded n p steps b first b' r
    → Holds b' (view b' r.progress.loc) × (r.progress.loc.depth ≤ 24) × (r.progress.loc.calls ≤ 24)
to_write {b' = b'} {r = r} e =
    let k = e.canon in
    (k.holds, omega (arith, k.sound.stack_max, length_stack b' r.progress.loc.depth), omega (arith, k.sound.calls_max, length_frames b' r.progress.loc.calls))

pub finished : {n : ℕ} (p : Program) (steps : ℕ) (b : List ℕ) (first : Progress) {b₁ b' : List ℕ} {r : GivenRan} → RunEnded n p steps b first b₁ r → length b₁ ≡ 47360
    → b' ≡ encode_state (state_of b₁ r.progress) ++ drop 47360 b₁ → Finished (run p steps (state_of b first)) first b' r
finished p steps b first {b₁} {b'} {r} e l w =
    let s = e.came.state in
    let d : drop 47360 b₁ ≡ [] = ap (λ (j : ℕ). drop j b₁) (sym l) ∙ drop-length b₁ in
    record {
      answers = e.came.answers;
      bytes = w ∙ ap₂ (λ (u v : List ℕ). u ++ v) (ap encode_state (sym s)) d ∙ append-nil (encode_state (run p steps (state_of b first)).state);
      position = ap (λ (x : State). x.machine.pos) s;
      counted = ap (λ (x : State). x.count) s;
      begun = e.begun;
      inside = omega (arith, e.canon.sound.pos_max, e.canon.small);
    }

-- the state and the report behind an accepted run
pub run_written : (q b : List ℕ) (steps : ℕ) (out : List ℕ) {n : ℕ} → n ≡ length (program_in q).code → n ≤ 1024 → AreBytes b → 65536 ≤ length b → {t : Bool} → t ≡ state_ok n b → t ≡ true
    → {first : Progress} → first ≡ progress_at b → steps ≤ 18446744073709551615 - first.count
    → {b₁ b' out' : List ℕ} {r : GivenRan} → Finished (run (program_in q) steps (state_of (part b 0 47360) first)) first b₁ r → length b₁ ≡ 47360 → b' ≡ splice b 0 b₁
    → {start : ℕ} → (program_in q).code_start ≡ start
    → out' ≡ report_of start r.answer r.progress.loc.pos (r.progress.count - first.count) ++ drop 48 out → length out' ≡ length out → 48 ≤ length out
    → run_on q b steps out ≡ record { result = 0; state = b'; report = out' }
run_written q b steps out {n} en o a lb {t} et ft {first} ef hc {b₁} {b'} {out'} {r} f l₁ eb {start} es rep lo ho =
    let ok : state_ok n b ≡ true = sym et ∙ ft in
    let fits = (accepted_storable n b o a (omega arith) ok).counted in
    let p = program_in q in
    let x = run p steps (decode_state b) in
    let g : Finished x first b₁ r = subst (λ (s : State). Finished (run p steps s) first b₁ r) (used_state n b o a (omega arith) ok ef) f in
    let s' : b' ≡ over (encode_state x.state) b = eb ∙ ap (λ (y : List ℕ). over y b) g.bytes in
    let k = r.progress.count - first.count in
    let took : x.state.count - (decode_state b).count ≡ k = ap₂ (λ (u v : ℕ). u - v) g.counted (counted_so b ef) in
    let w = over_is (report p x.answer x.state k) out out' 48 (rep ∙ ap (λ (y : List ℕ). y ++ drop 48 out) (told_report p x.state k g.answers es g.position)) ho lo in
    run_accepted q b steps out en et ft (omega (arith, counted_so b ef))
    ∙ ap₂ (λ (u v : List ℕ). record { result = 0; state = u; report = v }) (sym s')
    (ap (λ (j : ℕ). over (report p x.answer x.state j) out) took ∙ sym w)
