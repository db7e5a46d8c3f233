-- `execute::others` meets its contract.
use Rattle.std.proofs.Common.{◌≡◌, Bool, [], refl}
use Rattle.sifv.specs.Value.{One, Null, Arr, Tab, Num, Str}
use Rattle.sifv.specs.inner.Seen.{bare, kind_in}
use Rattle.sifv.specs.declared.SifVal.{SifVal}
use Rattle.sifv.specs.declared.SifVal.TheVariants as show
use Rattle.opc.specs.Op as model
use Rattle.vm.specs.RuntimeErr.{RuntimeErr, RegNoContents, TyMismatch}
use Rattle.vm.specs.Operation.{Err, binary, full}
use Rattle.execute.specs.inner.View.{bin_model, ReadsSingle, err, GivenGot}
use Rattle.execute.specs.laws.Acts.{off_law, off_null, off_num, off_str}
use Rattle.execute.proofs.others.Goals as goal

-- no operator takes two that are not two numbers, the first neither empty nor a yes/no
off : (k : model.BinOpKind) (x y : RuntimeErr) (v w : SifVal) {r : GivenGot} → (v ≡ show.Empty → ⊥) → ((t : Bool) → v ≡ show.Bl t → ⊥) → (kind_in v ≡ 1 → kind_in w ≡ 1 → ⊥)
    → ReadsSingle (full y (bare w) (λ _. Err TyMismatch)) r → ReadsSingle (full x (bare v) (λ t. full y (bare w) (λ u. binary k t u))) r
off k x y show.Empty w h g n q = absurd (h refl)
off k x y (show.Num a) w h g n q = off_law k y (One (Num a)) (bare w) (off_num k a w (n refl)) q
off k x y (show.Str a) w h g n q = off_law k y (One (Str a)) (bare w) (λ u e. off_str k a u) q
off k x y (show.Bl a) w h g n q = absurd (g a refl)
off k x y show.Null w h g n q = off_law k y (One Null) (bare w) (λ u e. off_null k u) q
off k x y (show.Arr a) w h g n q = off_law k y (Arr []) (bare w) (λ u e. refl) q
off k x y (show.Tab a) w h g n q = off_law k y (Tab []) (bare w) (λ u e. refl) q

pub returns-in-Empty : goal.returns-in-Empty
returns-in-Empty c = rw c.in-Empty.is (err refl)

pub returns-in_default : goal.returns-in_default
returns-in_default c =
    let a = c.args in
    off (bin_model a.kind) (RegNoContents a.src1) (RegNoContents a.src2) a.v a.w c.in_default.not-Empty c.in_default.not-Bl c.requires c.mismatched.ensures
