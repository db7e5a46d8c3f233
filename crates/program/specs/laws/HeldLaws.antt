-- Whether there is a result. `is_some` is a definition; then what it says.
use Rattle.std.specs.Prelude.{◌≡◌, refl, true, false, ℕ}
use Rattle.std.proofs.Math.Option.{Option, none, some}
use Rattle.std.proofs.Common.{arith}
use Rattle.lent.specs.Lists.{is_some}

-- where there is one
pub held : {A : Type 0} (o : Option A) → is_some o ≡ true → (a : A) × (o ≡ some a)
held none e = let z : ◌≡◌ {A = ℕ} 0 1 = cc in absurd (omega arith)
held (some a) e = (a, refl)

-- where there is none
pub missing : {A : Type 0} (o : Option A) → is_some o ≡ false → o ≡ none
missing none e = refl
missing (some a) e = let z : ◌≡◌ {A = ℕ} 0 1 = cc in absurd (omega arith)
