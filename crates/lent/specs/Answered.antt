-- What a call answers and leaves, and a call as a list of checks and a deed. Document 01, "Numbers given for the input" and "Running". Definitions only.
use Rattle.std.specs.Prelude.{ℕ, zero, suc, Bool, cond, List, [], ◌∷◌, ◌++◌, leb, length, drop}
use Rattle.lent.specs.Refusals.{buffer_too_short}

-- new bytes at a buffer's start; "longer ones are untouched beyond"
abbrev pub over : List ℕ → List ℕ → List ℕ
over new buf = new ++ drop (length new) buf

-- the number that a call answers, and its one buffer afterwards
pub record Answered : Type 0 where
  pub result : ℕ
  pub buffer : List ℕ

abbrev pub answered : ℕ → List ℕ → Answered
answered n b = record { result = n; buffer = b }

-- the number that a call answers, the state and the report afterwards
pub record RunAnswered : Type 0 where
  pub result : ℕ
  pub state : List ℕ
  pub report : List ℕ

-- ---- checks: each is 0 where it passes, else the number of its refusal

abbrev pub check : Bool → ℕ → ℕ
check test n = cond test 0 n

-- 9
abbrev pub size_check : ℕ → List ℕ → ℕ
size_check size b = check (leb size (length b)) buffer_too_short

-- The first check that refuses decides what the call answers; where none does, the deed is done.
abbrev pub guarded : {A : Type 0} → List ℕ → (ℕ → A) → A → A
guarded [] refused deed = deed
guarded (zero ∷ checks) refused deed = guarded checks refused deed
guarded (suc n ∷ checks) refused deed = refused (suc n)
