-- What a run leaves in the buffers tells its text.
use Rattle.std.specs.Prelude.{◌≡◌, refl, Bool, true, false, cond, leb, ℤ, pos, negsuc, length, get_or, take}
use Rattle.std.proofs.Math.Path.{ap, ap₂}
use Rattle.std.proofs.Common.{◌∙◌, arith, lt-ltb, le-ltb}
use mathlib.Core.List.{List, [], ◌∷◌, ◌++◌, map}
use Rattle.std.proofs.Math.Option.{Option}
use Prim.Native.Nat.{ℕ, zero, suc, ◌+◌, ◌-◌, ◌/◌, ◌%◌, ◌^◌, ◌≤◌, ◌<◌}
use Rattle.std.proofs.Math.Nat.{pow-succ'}
use Rattle.std.specs.Int.Count.{ones_in, ones, ones_step}
use Rattle.lent.specs.Bytes.{be_value, be_bytes, part, Each, none, more}
use Rattle.lent.specs.laws.Numbers.{be_value_be_bytes}
use Rattle.sifv.specs.Value.{Value}
use Rattle.sifv.specs.laws.Layout.{field_behind}
use Rattle.opc.specs.Op.{Instr, op}
use Rattle.tables.specs.Tables.{Program}
use Rattle.tables.specs.laws.ProgramLaws.{limits}
use Rattle.vm.specs.RuntimeErr.{RuntimeErr, stop_number, details, InvalidName, InvalidIncr, InvalidIncrTy, InvalidDecr, InvalidDecrTy, InvalidJump, RegNoContents, TyMismatch, NotAnArray, InvalidFnSym, EmptyCallStack, IndexOutOfBounds, EmptyRegister, KeyAbsent, Nested, StackFull, TableFull, NoIndex}
use Rattle.vm.specs.Machine.{Machine, State, started, Answer, Done, Stopped, Spent, Ran, run, line}
use Rattle.stored.specs.StateBytes.{mark, slots_at, encode_state, decode_state}
use Rattle.vm_laws.specs.laws.StateLaws.{parts, state_fields, state_behind}
use Rattle.vm_laws.specs.laws.StopLaws.{stop_whole}
use Rattle.vm_laws.specs.laws.Kept.{started_storable, run_storable}
use Rattle.vm_laws.specs.laws.StateLaws.{mark_fits}
use Rattle.vm.specs.Report.{signed_bytes, report_bytes, report}
use Rattle.text.specs.Text.{ascii, decimal, words, line_of}
use Rattle.listing_text.specs.Ending.{signed, end_line, name_lines, ran_text}
use Rattle.ending.specs.inner.EndBytes.{signed_of, detail_count, details_in, stop_in, end_in, ran_in}
use Rattle.ending.specs.laws.Left.{RunLeft}
use Rattle.opc.specs.Limits.{OpFits}
use Rattle.tables.specs.Limits.{program_ok}
use Rattle.stored.specs.Storable.{WholeDetails}

-- ---- the line

abbrev Small : ℤ → Type 0
Small (pos n) = n < 2 ^ 63
Small (negsuc n) = n < 2 ^ 63

signed_back : (l : ℤ) → Small l → signed_of (be_value (signed_bytes l)) ≡ l
signed_back (pos n) h = rw (be_value_be_bytes 8 n (omega arith), lt-ltb n (2 ^ 63) h)
signed_back (negsuc n) h =
    let w = 2 ^ 64 - suc n in
    let e : 2 ^ 64 - 1 - w ≡ n = omega arith in
    rw (be_value_be_bytes 8 w (omega arith), le-ltb w (2 ^ 63) (omega arith), e)

line_small : (p : Program) (m : Machine) → p.code_start ≤ 1024 → m.pos ≤ 1024 → Small (line p m)
line_small p m h g = by (leb p.code_start (suc m.pos))
  where
    by : (t : Bool) → Small (cond t (pos (suc m.pos - p.code_start)) (negsuc (p.code_start - (m.pos + 2))))
    by true = omega arith
    by false = omega arith

-- ---- the details

-- detail i, or 0
abbrev detail : RuntimeErr → ℕ → ℕ
detail e i = get_or (details e) i 0

detail_fits : {l : List ℕ} → Each (λ (d : ℕ). d < 2 ^ 64) l → (i : ℕ) → get_or l i 0 < 2 ^ 64
detail_fits none i = omega arith
detail_fits (more h k) zero = h
detail_fits (more h k) (suc i) = detail_fits k i

details_counted : (e : RuntimeErr) → take (detail_count (stop_number e)) (detail e 0 ∷ (detail e 1 ∷ (detail e 2 ∷ []))) ≡ details e
details_counted (InvalidName x) = refl
details_counted InvalidIncr = refl
details_counted InvalidIncrTy = refl
details_counted InvalidDecr = refl
details_counted InvalidDecrTy = refl
details_counted InvalidJump = refl
details_counted (RegNoContents x) = refl
details_counted TyMismatch = refl
details_counted (NotAnArray x) = refl
details_counted (InvalidFnSym x) = refl
details_counted EmptyCallStack = refl
details_counted (IndexOutOfBounds x i n) = refl
details_counted EmptyRegister = refl
details_counted KeyAbsent = refl
details_counted Nested = refl
details_counted StackFull = refl
details_counted TableFull = refl
details_counted NoIndex = refl

-- ---- the end line

module _ (n : ℕ) (d : List ℕ) (k : ℕ) (rest : List ℕ) where
  -- the fields of a report, where the line's bytes are known to be eight
  abbrev told : ℤ → List ℕ
  told l = report_bytes 1 n l d k ++ rest

  told_line : (l : ℤ) → part (told l) 8 8 ≡ signed_bytes l
  told_line (pos m) = refl
  told_line (negsuc m) = refl

  told_number : (l : ℤ) → get_or (told l) 1 0 ≡ n
  told_number (pos m) = refl
  told_number (negsuc m) = refl

  told_detail : (l : ℤ) → (part (told l) 16 8 ≡ be_bytes 8 (get_or d 0 0)) × (part (told l) 24 8 ≡ be_bytes 8 (get_or d 1 0)) × (part (told l) 32 8 ≡ be_bytes 8 (get_or d 2 0))
  told_detail (pos m) = (refl, refl, refl)
  told_detail (negsuc m) = (refl, refl, refl)

stop_told : (e : RuntimeErr) (l : ℤ) (k : ℕ) (rest : List ℕ) (c : ℕ) → WholeDetails e → Small l
    → stop_in (report_bytes 1 (stop_number e) l (details e) k ++ rest) c
    ≡ line_of (ascii "end" ∷ (ascii "stopped" ∷ (decimal c ∷ (decimal (stop_number e) ∷ (signed l ∷ map decimal (details e))))))
stop_told e l k rest c w h =
    let b = report_bytes 1 (stop_number e) l (details e) k ++ rest in
    let t = told_detail (stop_number e) (details e) k rest l in
    let f : (i : ℕ) (x : List ℕ) → x ≡ be_bytes 8 (detail e i) → be_value x ≡ detail e i = λ i x q. ap be_value q ∙ be_value_be_bytes 8 (detail e i) (detail_fits w i) in
    let m : get_or b 1 0 ≡ stop_number e = told_number (stop_number e) (details e) k rest l in
    let g : details_in b ≡ details e =
    ap₂ (λ (j : ℕ) (ds : List ℕ). take (detail_count j) ds) m
    (ap₂ (λ (x : ℕ) (ds : List ℕ). x ∷ ds) (f 0 (part b 16 8) t.0) (ap₂ (λ (x y : ℕ). x ∷ (y ∷ [])) (f 1 (part b 24 8) t.1) (f 2 (part b 32 8) t.2)))
    ∙ details_counted e in
    let a : signed_of (be_value (part b 8 8)) ≡ l = ap (λ (x : List ℕ). signed_of (be_value x)) (told_line (stop_number e) (details e) k rest l) ∙ signed_back l h in
    ap (λ (j : ℕ). line_of (ascii "end" ∷ (ascii "stopped" ∷ (decimal c ∷ (decimal j ∷ (signed (signed_of (be_value (part b 8 8))) ∷ map decimal (details_in b))))))) m
    ∙ ap₂ (λ (x : ℤ) (ds : List ℕ). line_of (ascii "end" ∷ (ascii "stopped" ∷ (decimal c ∷ (decimal (stop_number e) ∷ (signed x ∷ map decimal ds)))))) a g

end_told : (p : Program) (a : Answer) (s : State) (k : ℕ) (rest : List ℕ) → ((e : RuntimeErr) → a ≡ Stopped e → WholeDetails e) → Small (line p s.machine)
    → end_in (report p a s k ++ rest) s.count ≡ end_line p a s
end_told p Done s k rest w h = refl
end_told p (Stopped e) s k rest w h = stop_told e (line p s.machine) k rest s.count (w e refl) h
end_told p Spent s k rest w h = refl

-- ---- the mark

no_ones : ones 0 ≡ 0
unfolding ones ones_in
no_ones = refl

-- the ones of a 64-bit number
pub ones_in_lem : (k n : ℕ) → n < 2 ^ k → ones n ≡ ones_in k n
unfolding ones_in
ones_in_lem zero n h = let z : n ≡ 0 = omega arith in ap ones z ∙ no_ones
ones_in_lem (suc k) n h = ones_step n ∙ ap (λ (x : ℕ). n % 2 + x) (ones_in_lem k (n / 2) (omega (arith, pow-succ' 2 k)))

-- ---- the whole

module _ {p : Program} {r : Ran} {state out : List ℕ} (h : RunLeft p r state out) where
  decoded : decode_state state ≡ r.state
  decoded = ap decode_state h.state_is ∙ state_behind (length p.code) r.state h.storable h.behind_state

  count_left : be_value (part state 47336 8) ≡ r.state.count
  unfolding decode_state
  count_left = ap (λ (s : State). s.count) decoded

  names_left : slots_at state 24576 64 ≡ r.state.machine.names
  unfolding decode_state
  names_left = ap (λ (s : State). s.machine.names) decoded

  mark_left : be_value (part state 47328 8) ≡ mark 0 64 r.state.machine.names
  unfolding encode_state
  mark_left =
      ap (λ (b : List ℕ). be_value (part b 47328 8)) h.state_is
      ∙ ap be_value (field_behind (state_fields (length p.code) r.state h.storable) 5 [] h.behind_state (omega arith))
      ∙ be_value_be_bytes 8 (mark 0 64 r.state.machine.names) (mark_fits r.state.machine.names)

  end_left : end_in out (be_value (part state 47336 8)) ≡ end_line p r.answer r.state
  end_left =
      let l = limits p h.within in
      ap₂ end_in h.report_is count_left
      ∙ end_told p r.answer r.state r.state.count h.behind_report h.whole
      (line_small p r.state.machine (omega (arith, l.count, l.start)) (omega (arith, l.count, (parts (length p.code) r.state.machine h.storable.ok).pos_max)))

  pub left_text : ran_in state out ≡ ran_text p r
  unfolding ran_in
  left_text =
      ap₂ (λ (x y : List ℕ). x ++ y) end_left
      (ap₂ (λ (m : ℕ) (f : ℕ → Option Value). line_of (words "held" (ones_in 64 m ∷ [])) ++ name_lines 0 64 f) mark_left names_left)

-- ---- a run from start on, of a program that is accepted

pub run_left : (p : Program) (k : ℕ) (state told : List ℕ) → program_ok p ≡ true → Each (λ (i : Instr). OpFits (op i)) p.code → k < 2 ^ 64
    → let r = run p k (started p) in RunLeft p r (encode_state r.state ++ state) (report p r.answer r.state r.state.count ++ told)
run_left p k state told o f l =
    let g = started_storable p o in
    record {
      within = o;
      storable = run_storable p k (started p) o f g (omega arith);
      whole = λ e a. stop_whole p k (started p) e o f g (omega arith) a;
      behind_state = state;
      behind_report = told;
      state_is = refl;
      report_is = refl;
    }
