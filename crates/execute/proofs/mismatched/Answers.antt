-- `execute::mismatched` meets its contract.
use Rattle.std.proofs.Common.{◌≡◌, refl}
use Rattle.sifv.specs.Value.{Value}
use Rattle.sifv.specs.inner.Seen.{bare}
use Rattle.sifv.specs.declared.SifVal.{SifVal}
use Rattle.sifv.specs.declared.SifVal.TheVariants as show
use Rattle.vm.specs.RuntimeErr.{RuntimeErr, RegNoContents, TyMismatch}
use Rattle.vm.specs.Operation.{Err, full}
use Rattle.execute.specs.inner.View.{err}
use Rattle.execute.proofs.mismatched.Goals as goal

-- no operator takes what is not empty
off : (e : RuntimeErr) (w : SifVal) → (w ≡ show.Empty → ⊥) → full {A = Value} e (bare w) (λ _. Err TyMismatch) ≡ Err TyMismatch
off e show.Empty h = absurd (h refl)
off e (show.Num y) h = refl
off e (show.Str y) h = refl
off e (show.Bl y) h = refl
off e show.Null h = refl
off e (show.Arr y) h = refl
off e (show.Tab y) h = refl

pub returns-in-Empty : goal.returns-in-Empty
returns-in-Empty c = rw c.in-Empty.is (err refl)

pub returns-in_default : goal.returns-in_default
returns-in_default c = rw (off (RegNoContents c.args.src2) c.args.w c.in_default.not-Empty) (err refl)
