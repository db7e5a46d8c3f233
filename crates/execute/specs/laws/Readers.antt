-- One operand that is read: unary operators, increments and the length of an array, as operations of the model.
use Rattle.std.specs.Prelude.{◌≡◌, refl, Bool, cond, not, List, ℕ, eqb, length, Float}
use Rattle.std.proofs.Common.{sym, ap, ◌∙◌, subst}
use Rattle.std.proofs.Math.Option.{Option, none, some}
use Rattle.std.specs.Float.Ieee as Ieee
use Rattle.sifv.specs.Value.{Num, Str, Bl, Null, Value, One, Arr, Tab}
use Rattle.sifv.specs.Slot.{decode_slot}
use Rattle.sifv.specs.inner.Seen.{shown, seen, kind_in}
use Rattle.sifv.specs.inner.StoredForm.{stored_of}
use Rattle.opc.specs.Op as model
use Rattle.vm.specs.RuntimeErr.{RuntimeErr, InvalidName, NotAnArray, TyMismatch}
use Rattle.vm.specs.Operation.{Got, Ok, Err, Names, held, array, unary, moved, size, full}
use Rattle.execute.specs.inner.View.{given, ReadsSingle, ok, err, GivenGot}
use Rattle.execute.specs.laws.Acts.{kind_none}
use Rattle.execute.specs.laws.Arrays.{array_off, arr_is, arr_len}
use Rattle.std.specs.declared.result.Result.TheVariants as got
use Rattle.numeric.specs.Whole.{whole}
use Rattle.sifv.specs.inner.Forms.{Formed, len_in}

-- ---- unary operators: k is the operand's kind

module _ (o : Option Value) {k : ℕ} (e : k ≡ kind_in (seen o)) {r : GivenGot} where
  pub lneg_off : (k ≡ 3 → ⊥) → r ≡ got.Err (given TyMismatch) → ReadsSingle (full TyMismatch o (λ v. unary model.Lneg v)) r
  lneg_off h p = subst (λ (g : Got Value). ReadsSingle g r) (sym (off o (λ z. h (e ∙ z)))) (err p)
    where
      off : (o : Option Value) → (kind_in (seen o) ≡ 3 → ⊥) → full TyMismatch o (λ v. unary model.Lneg v) ≡ Err TyMismatch
      off none h = refl
      off (some (One (Num y))) h = refl
      off (some (One (Str t))) h = refl
      off (some (One (Bl b))) h = absurd (h refl)
      off (some (One Null)) h = refl
      off (some (Arr l)) h = refl
      off (some (Tab t)) h = refl

  pub nneg_off : (k ≡ 1 → ⊥) → r ≡ got.Err (given TyMismatch) → ReadsSingle (full TyMismatch o (λ v. unary model.Nneg v)) r
  nneg_off h p = subst (λ (g : Got Value). ReadsSingle g r) (sym (off o (λ z. h (e ∙ z)))) (err p)
    where
      off : (o : Option Value) → (kind_in (seen o) ≡ 1 → ⊥) → full TyMismatch o (λ v. unary model.Nneg v) ≡ Err TyMismatch
      off none h = refl
      off (some (One (Num y))) h = absurd (h refl)
      off (some (One (Str t))) h = refl
      off (some (One (Bl b))) h = refl
      off (some (One Null)) h = refl
      off (some (Arr l)) h = refl
      off (some (Tab t)) h = refl

  -- ---- increments: x is the stop of an empty register, y that of what is no number

  pub moved_none : (f : Float → Float) (x y : RuntimeErr) → k ≡ 0 → r ≡ got.Err (given x) → ReadsSingle (full x o (λ v. moved f y v)) r
  moved_none f x y z p = subst (λ (w : Option Value). ReadsSingle (full x w (λ v. moved f y v)) r) (sym (kind_none o (sym e ∙ z))) (err p)

  pub moved_off : (f : Float → Float) (x y : RuntimeErr) → (k ≡ 0 → ⊥) → (k ≡ 1 → ⊥) → r ≡ got.Err (given y) → ReadsSingle (full x o (λ v. moved f y v)) r
  moved_off f x y h g p = subst (λ (t : Got Value). ReadsSingle t r) (sym (off o (λ z. h (e ∙ z)) (λ z. g (e ∙ z)))) (err p)
    where
      off : (o : Option Value) → (kind_in (seen o) ≡ 0 → ⊥) → (kind_in (seen o) ≡ 1 → ⊥) → full x o (λ v. moved f y v) ≡ Err y
      off none h g = absurd (h refl)
      off (some (One (Num t))) h g = absurd (g refl)
      off (some (One (Str t))) h g = refl
      off (some (One (Bl b))) h g = refl
      off (some (One Null)) h g = refl
      off (some (Arr l)) h g = refl
      off (some (Tab t)) h g = refl

module _ {o : Option Value} {r : GivenGot} where
  pub lneg_on : {b : Bool} → o ≡ some (One (Bl b)) → r ≡ got.Ok (stored_of (shown (Bl (not b)))) → ReadsSingle (full TyMismatch o (λ v. unary model.Lneg v)) r
  lneg_on e p = subst (λ (w : Option Value). ReadsSingle (full TyMismatch w (λ v. unary model.Lneg v)) r) (sym e) (ok p)

  pub nneg_on : {x : Float} → o ≡ some (One (Num x)) → r ≡ got.Ok (stored_of (shown (Num (Ieee.neg x)))) → ReadsSingle (full TyMismatch o (λ v. unary model.Nneg v)) r
  nneg_on e p = subst (λ (w : Option Value). ReadsSingle (full TyMismatch w (λ v. unary model.Nneg v)) r) (sym e) (ok p)

  pub moved_on : (f : Float → Float) (x y : RuntimeErr) {t : Float} → o ≡ some (One (Num t)) → r ≡ got.Ok (stored_of (shown (Num (f t)))) → ReadsSingle (full x o (λ v. moved f y v)) r
  moved_on f x y e p = subst (λ (w : Option Value). ReadsSingle (full x w (λ v. moved f y v)) r) (sym e) (ok p)

-- ---- the length of an array

pub size_off : (e : Names) (x : ℕ) {k : ℕ} {r : GivenGot} → k ≡ kind_in (seen (e x)) → (k ≡ 5 → ⊥) → r ≡ got.Err (given (cond (eqb k 0) (InvalidName x) (NotAnArray x))) → ReadsSingle (size e x) r
size_off e x {k} {r} f h p =
    subst (λ (g : Got Value). ReadsSingle g r) (sym (array_off (e x) x (λ l. Ok (One (Num (whole (length l))))) (λ z. h (f ∙ z))))
    (err (p ∙ ap (λ (j : ℕ). got.Err (given (cond (eqb j 0) (InvalidName x) (NotAnArray x)))) f))

pub size_in_lem : (e : Names) (x : ℕ) (b : List ℕ) → Formed b → kind_in (seen (decode_slot b)) ≡ 5 → decode_slot b ≡ e x → {n : ℕ} {r : GivenGot} → n ≡ len_in (seen (decode_slot b))
    → r ≡ got.Ok (stored_of (shown (Num (whole n)))) → ReadsSingle (size e x) r
size_in_lem e x b f h q {n} {r} g p =
    subst (λ (v : Option Value). ReadsSingle (held x v (λ v. array x v (λ l. Ok (One (Num (whole (length l))))))) r) (sym (sym q ∙ arr_is b f h))
    (ok (p ∙ ap (λ (k : ℕ). got.Ok (stored_of (shown (Num (whole k))))) (arr_len b f h g).0))
