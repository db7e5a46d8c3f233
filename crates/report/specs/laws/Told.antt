-- Laws of the report's fields: written one behind the other; for an answer of the model they are its report.
use Rattle.std.specs.Prelude.{◌≡◌, ℕ, suc, ◌+◌, ◌-◌, ◌%◌, ◌^◌, ◌<◌, ◌≤◌, Bool, true, false, cond, List, [], ◌∷◌, ◌++◌, length, drop, replicate, pos, negsuc, nat_le, slice_index}
use Rattle.std.proofs.Math.Path.{refl, ap}
use Rattle.std.proofs.Common.{sym, ap₂, ◌∙◌, arith, leb-true, leb-false}
use Rattle.lent.specs.Bytes.{be_bytes, splice}
use Rattle.lent.specs.laws.Parts.{splice_append}
use Rattle.tables.specs.Tables.{Program}
use Rattle.vm.specs.RuntimeErr.{RuntimeErr, stop_number, details, InvalidName, InvalidIncr, InvalidIncrTy, InvalidDecr, InvalidDecrTy, InvalidJump, RegNoContents, TyMismatch, NotAnArray, InvalidFnSym, EmptyCallStack, IndexOutOfBounds, EmptyRegister, KeyAbsent, Nested, StackFull, TableFull, NoIndex}
use Rattle.vm.specs.Machine.{State, Answer, Done, Stopped, Spent, line}
use Rattle.execute.specs.inner.View.{given, err_model, three_details}
use Rattle.execute.specs.declared.RuntimeErr.{RuntimeErr as GivenErr}
use Rattle.execute.specs.inner.Progress.{Answers, done, stopped, spent}
use Rattle.execute.specs.declared.Answer.{Answer as GivenAnswer}
use Rattle.execute.specs.declared.Answer.TheVariants as given-answer
use Rattle.vm.specs.Report.{signed_bytes, report}
use Rattle.report.specs.inner.Fields.{line_at, report_fields, no_details, report_of}
use Rattle.lent.specs.Lists.{zeros}

-- ---- the line: the difference, or what is left of 2^64

pub line_law : (start at r : ℕ) → start ≤ 1024 → at ≤ 1024 → r < 2 ^ 64 → (r + start) % 2 ^ 64 ≡ at + 1 → be_bytes 8 r ≡ signed_bytes (line_at start at)
line_law start at r h g f e = by_test (nat_le start (suc at)) refl
  where
    by_test : (t : Bool) → nat_le start (suc at) ≡ t → be_bytes 8 r ≡ signed_bytes (cond t (pos (suc at - start)) (negsuc (start - (at + 2))))
    by_test true q = let o = leb-true start (suc at) q in let z : r ≡ suc at - start = omega arith in ap (be_bytes 8) z
    by_test false q = let o = leb-false start (suc at) q in let z : r ≡ 2 ^ 64 - suc (start - (at + 2)) = omega arith in ap (be_bytes 8) z

-- ---- the fields, written one behind the other

next : (b s t : List ℕ) (n : ℕ) {d e : List ℕ} → length s ≡ n → d ≡ splice b 0 s → e ≡ splice d n t → e ≡ splice b 0 (s ++ t)
next b s t n l p q =
    let z : n ≡ 0 + length s = omega arith in
    q ∙ ap₂ (λ (x : List ℕ) (k : ℕ). splice x k t) p z ∙ sym (splice_append b 0 s t (omega arith))

pub fields_written : (b : List ℕ) (a n l : ℕ) (g : ℕ × ℕ × ℕ) (k : ℕ) {b₁ b₂ b₃ b₄ b₅ b₆ b₇ b₈ : List ℕ} → b₁ ≡ splice b 0 (be_bytes 1 a) → b₂ ≡ splice b₁ 1 (be_bytes 1 n)
    → b₃ ≡ splice b₂ 2 (replicate 6 0) → b₄ ≡ splice b₃ 8 (be_bytes 8 l) → b₅ ≡ splice b₄ 16 (be_bytes 8 g.0) → b₆ ≡ splice b₅ 24 (be_bytes 8 g.1)
    → b₇ ≡ splice b₆ 32 (be_bytes 8 g.2) → b₈ ≡ splice b₇ 40 (be_bytes 8 k) → b₈ ≡ report_fields a n (be_bytes 8 l) g k ++ drop 48 b
unfolding report_fields
fields_written b a n l g k e1 e2 e3 e4 e5 e6 e7 e8 =
    let s2 = be_bytes 1 a ++ be_bytes 1 n in
    let s3 = s2 ++ zeros 6 in
    let s4 = s3 ++ be_bytes 8 l in
    let s5 = s4 ++ be_bytes 8 g.0 in
    let s6 = s5 ++ be_bytes 8 g.1 in
    let s7 = s6 ++ be_bytes 8 g.2 in
    next b s7 (be_bytes 8 k) 40 refl
    (next b s6 (be_bytes 8 g.2) 32 refl
    (next b s5 (be_bytes 8 g.1) 24 refl
    (next b s4 (be_bytes 8 g.0) 16 refl
    (next b s3 (be_bytes 8 l) 8 refl
    (next b s2 (zeros 6) 2 refl
    (next b (be_bytes 1 a) (be_bytes 1 n) 1 refl e1 e2) e3) e4) e5) e6) e7) e8

-- ---- the model's report

err_back : (e : RuntimeErr) → err_model (given e) ≡ e
err_back (InvalidName x) = refl
err_back InvalidIncr = refl
err_back InvalidIncrTy = refl
err_back InvalidDecr = refl
err_back InvalidDecrTy = refl
err_back InvalidJump = refl
err_back (RegNoContents r) = refl
err_back TyMismatch = refl
err_back (NotAnArray x) = refl
err_back (InvalidFnSym x) = refl
err_back EmptyCallStack = refl
err_back (IndexOutOfBounds x i n) = refl
err_back EmptyRegister = refl
err_back KeyAbsent = refl
err_back Nested = refl
err_back StackFull = refl
err_back TableFull = refl
err_back NoIndex = refl

number_byte : (e : RuntimeErr) → be_bytes 1 (stop_number e) ≡ stop_number e ∷ []
number_byte (InvalidName x) = refl
number_byte InvalidIncr = refl
number_byte InvalidIncrTy = refl
number_byte InvalidDecr = refl
number_byte InvalidDecrTy = refl
number_byte InvalidJump = refl
number_byte (RegNoContents r) = refl
number_byte TyMismatch = refl
number_byte (NotAnArray x) = refl
number_byte (InvalidFnSym x) = refl
number_byte EmptyCallStack = refl
number_byte (IndexOutOfBounds x i n) = refl
number_byte EmptyRegister = refl
number_byte KeyAbsent = refl
number_byte Nested = refl
number_byte StackFull = refl
number_byte TableFull = refl
number_byte NoIndex = refl

module _ (p : Program) (s : State) (k : ℕ) where
  stop_fields : (e : RuntimeErr) → report_fields 1 (stop_number e) (signed_bytes (line p s.machine)) (three_details e) k ≡ report p (Stopped e) s k
  unfolding report_fields
  stop_fields e =
      let d = details e in
      ap (λ (x : List ℕ). 1 ∷ (x ++ (zeros 6 ++ (signed_bytes (line p s.machine) ++ (be_bytes 8 (slice_index d 0) ++ (be_bytes 8 (slice_index d 1) ++ (be_bytes 8 (slice_index d 2) ++ be_bytes 8 k))))))) (number_byte e)

  done_fields : report_fields 0 0 (signed_bytes (pos 0)) no_details k ≡ report p Done s k
  unfolding report_fields
  done_fields = refl

  spent_fields : report_fields 2 0 (signed_bytes (pos 0)) no_details k ≡ report p Spent s k
  unfolding report_fields
  spent_fields = refl

  -- for an answer of the model, what is told is the model's report
  pub told_report : {a : Answer} {g : GivenAnswer} → Answers a g → {start at : ℕ} → p.code_start ≡ start → s.machine.pos ≡ at → report_of start g at k ≡ report p a s k
  told_report (done f) {start} {at} u v = ap (λ (y : GivenAnswer). report_of start y at k) f ∙ done_fields
  told_report (stopped {e = e} f) {start} {at} u v =
      ap (λ (y : GivenAnswer). report_of start y at k) f ∙ ap (λ (x : RuntimeErr). report_fields 1 (stop_number x) (signed_bytes (line_at start at)) (three_details x) k) (err_back e)
      ∙ ap₂ (λ (i j : ℕ). report_fields 1 (stop_number e) (signed_bytes (line_at i j)) (three_details e) k) (sym u) (sym v)
      ∙ stop_fields e
  told_report (spent f) {start} {at} u v = ap (λ (y : GivenAnswer). report_of start y at k) f ∙ spent_fields

-- ---- the fields of each answer

module _ (start at k : ℕ) (rest : List ℕ) {g : GivenAnswer} {b' : List ℕ} where
  pub told_done : g ≡ given-answer.Done → b' ≡ report_fields 0 0 (be_bytes 8 0) no_details k ++ rest → b' ≡ report_of start g at k ++ rest
  told_done q e = e ∙ ap (λ (y : GivenAnswer). report_of start y at k ++ rest) (sym q)

  pub told_spent : g ≡ given-answer.Spent → b' ≡ report_fields 2 0 (be_bytes 8 0) no_details k ++ rest → b' ≡ report_of start g at k ++ rest
  told_spent q e = e ∙ ap (λ (y : GivenAnswer). report_of start y at k ++ rest) (sym q)

  pub told_stopped : {x : GivenErr} → g ≡ given-answer.Stopped x → {n : ℕ} (l : ℕ) {d : ℕ × ℕ × ℕ} → n ≡ stop_number (err_model x) → be_bytes 8 l ≡ signed_bytes (line_at start at) → d ≡ three_details (err_model x)
      → b' ≡ report_fields 1 n (be_bytes 8 l) d k ++ rest → b' ≡ report_of start g at k ++ rest
  told_stopped {x} q l {d} u w v e =
      e
      ∙ ap₂ (λ (i : ℕ) (y : List ℕ). report_fields 1 i y d k ++ rest) u w
      ∙ ap (λ (y : ℕ × ℕ × ℕ). report_fields 1 (stop_number (err_model x)) (signed_bytes (line_at start at)) y k ++ rest) v
      ∙ ap (λ (y : GivenAnswer). report_of start y at k ++ rest) (sym q)
