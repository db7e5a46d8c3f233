-- A call as a list of checks and a deed: what its answer tells of the checks and of the buffers, once for every call.
use Rattle.std.specs.Prelude.{ℕ, zero, suc, ◌≤◌, ◌≡◌, refl, Bool, true, false, List, [], ◌∷◌, leb, length}
use Rattle.std.proofs.Common.{arith, sym, ap, leb-true}
use Rattle.lent.specs.Answered.{check, size_check, guarded}
use Rattle.lent.specs.Bytes.{Each, none, more}

-- ---- one check

pub check_passed : (b : Bool) (n : ℕ) → check b (suc n) ≡ 0 → b ≡ true
check_passed true n e = refl
check_passed false n e = absurd (omega arith)

-- a buffer that is not too short
pub long_enough : (size : ℕ) (b : List ℕ) → size_check size b ≡ 0 → size ≤ length b
long_enough size b e = leb-true size (length b) (check_passed (leb size (length b)) 8 e)

-- ---- a call

-- every check of a list passes
abbrev pub Passed : List ℕ → Type 0
Passed checks = Each (λ (n : ℕ). n ≡ 0) checks

module _ {A : Type 0} (refused : ℕ → A) (deed : A) where
  -- then the deed is done
  pub deed_done : {checks : List ℕ} → Passed checks → guarded checks refused deed ≡ deed
  deed_done none = refl
  deed_done (more e h) = rw e (deed_done h)

  module _ (result : A → ℕ) (told : (n : ℕ) → result (refused n) ≡ n) where
    -- a call that answers 0 passed every check
    pub all_passed : (checks : List ℕ) → result (guarded checks refused deed) ≡ 0 → Passed checks
    all_passed [] e = none
    all_passed (zero ∷ checks) e = more refl (all_passed checks e)
    all_passed (suc n ∷ checks) e = absurd (omega (arith, told (suc n)))

    -- a call that is refused, where the deed is not, leaves what a refused call leaves: nothing is written
    pub refused_same : result deed ≡ 0 → (checks : List ℕ) → (result (guarded checks refused deed) ≡ 0 → ⊥) → guarded checks refused deed ≡ refused (result (guarded checks refused deed))
    refused_same d [] h = absurd (h d)
    refused_same d (zero ∷ checks) h = refused_same d checks h
    refused_same d (suc n ∷ checks) h = ap refused (sym (told (suc n)))
