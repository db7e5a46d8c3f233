-- `execute::with_truth` meets its contract.
use Rattle.std.proofs.Common.{◌≡◌, Bool, refl}
use Rattle.sifv.specs.Value.{Bl, One}
use Rattle.sifv.specs.inner.Seen.{bare}
use Rattle.sifv.specs.declared.SifVal.{SifVal}
use Rattle.sifv.specs.declared.SifVal.TheVariants as show
use Rattle.opc.specs.Op as model
use Rattle.vm.specs.RuntimeErr.{RuntimeErr, RegNoContents, TyMismatch}
use Rattle.vm.specs.Operation.{Err, binary, full}
use Rattle.execute.specs.inner.View.{bin_model, err}
use Rattle.execute.proofs.with_truth.Goals as goal

-- no operator takes a yes/no and what is neither empty nor a yes/no
off : (k : model.BinOpKind) (x : Bool) (e : RuntimeErr) (w : SifVal) → (w ≡ show.Empty → ⊥) → ((y : Bool) → w ≡ show.Bl y → ⊥) → full e (bare w) (λ u. binary k (One (Bl x)) u) ≡ Err TyMismatch
off k x e show.Empty h g = absurd (h refl)
off k x e (show.Num y) h g = refl
off k x e (show.Str y) h g = refl
off k x e (show.Bl y) h g = absurd (g y refl)
off k x e show.Null h g = refl
off k x e (show.Arr y) h g = refl
off k x e (show.Tab y) h g = refl

pub returns-in-Empty : goal.returns-in-Empty
returns-in-Empty c = rw c.in-Empty.is (err refl)

pub returns-in_default : goal.returns-in_default
returns-in_default c = rw (off (bin_model c.args.kind) c.args.x (RegNoContents c.args.src2) c.args.w c.in_default.not-Empty c.in_default.not-Bl) (err refl)
