-- What is refused has a number, and what is not has 0.
use Rattle.std.specs.Prelude.{◌≡◌, ℕ, true, false, Result, Ok, Err, is_err, IsErr, IsErrAnd, refl}
use Rattle.std.proofs.Common.{true≢false, sym, ap, ◌∙◌, arith}
use Rattle.lent.specs.declared.refusal.Refusal.{Refusal}
use Rattle.lent.specs.declared.refusal.Refusal.TheVariants.{FileCut, FileCounts, FileTexts, FileStructure, FileNumbers, NoRegister, ScriptTooLarge, ProgramRefused, BufferTooShort, StateRefused, ProgramFileRefused, NumberNotFinite}
use Rattle.lent.specs.inner.Answers.{refusal_number, answer_number}

pub refusal_number_ne0 : (r : Refusal) → refusal_number r ≡ 0 → ⊥
refusal_number_ne0 FileCut e = omega arith
refusal_number_ne0 FileCounts e = omega arith
refusal_number_ne0 FileTexts e = omega arith
refusal_number_ne0 FileStructure e = omega arith
refusal_number_ne0 FileNumbers e = omega arith
refusal_number_ne0 NoRegister e = omega arith
refusal_number_ne0 ScriptTooLarge e = omega arith
refusal_number_ne0 ProgramRefused e = omega arith
refusal_number_ne0 BufferTooShort e = omega arith
refusal_number_ne0 StateRefused e = omega arith
refusal_number_ne0 ProgramFileRefused e = omega arith
refusal_number_ne0 NumberNotFinite e = omega arith

pub refused_ne0 : (r : Result (Unit {0}) Refusal) → is_err r ≡ true → answer_number r ≡ 0 → ⊥
refused_ne0 (Ok u) e z = true≢false (sym e)
refused_ne0 (Err x) e z = refusal_number_ne0 x z

pub passed_zero : (r : Result (Unit {0}) Refusal) → is_err r ≡ false → answer_number r ≡ 0
passed_zero (Ok u) e = refl
passed_zero (Err x) e = elim (true≢false e) [ ]

-- an `Err` that a `?` hands on
pub raised_number : (e : Refusal) (r : Result (Unit {0}) Refusal) → IsErr r × IsErrAnd r (λ x. x ≡ e) → answer_number r ≡ refusal_number e
raised_number e (Ok u) h = elim (true≢false (sym h.0)) [ ]
raised_number e (Err x) h = ap refusal_number h.1

pub ok_zero : {n : ℕ} {r : Result (Unit {0}) Refusal} {u : Unit {0}} → answer_number r ≡ n → r ≡ Ok u → n ≡ 0
ok_zero e w = sym e ∙ ap answer_number w

pub told_err : {n : ℕ} {r : Result (Unit {0}) Refusal} {e : Refusal} (s : Result (Unit {0}) Refusal) → answer_number r ≡ n → r ≡ Err e → IsErr s × IsErrAnd s (λ x. x ≡ e) → (answer_number s ≡ n) × (n ≡ 0 → ⊥)
told_err {e = e} s h w f =
    let m = sym (ap answer_number w) ∙ h in
    (raised_number e s f ∙ m, λ z. refusal_number_ne0 e (m ∙ z))
