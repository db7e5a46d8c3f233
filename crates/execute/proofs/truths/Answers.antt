-- `execute::truths` meets its contract.
use Rattle.std.proofs.Common.{◌≡◌, Bool, refl, ap}
use Rattle.opc.specs.declared.BinOpKind.{BinOpKind}
use Rattle.opc.specs.declared.BinOpKind.TheVariants.{Add, Sub, Mul, Div, Modu, Eq, Neq, LtEq, Lt, GtEq, Gt, Land, Lnot, Lor}
use Rattle.vm.specs.RuntimeErr.{TyMismatch}
use Rattle.vm.specs.Operation.{Err, truths}
use Rattle.execute.specs.inner.View.{bin_model, ok, err}
use Rattle.std.specs.declared.result.Result.TheVariants as got
use Rattle.execute.proofs.truths.Goals as goal

-- no other operator takes two yes/no
off : (k : BinOpKind) (x y : Bool) → (k ≡ Land → ⊥) → (k ≡ Lnot → ⊥) → (k ≡ Lor → ⊥) → truths (bin_model k) x y ≡ Err TyMismatch
off Add x y a b d = refl
off Sub x y a b d = refl
off Mul x y a b d = refl
off Div x y a b d = refl
off Modu x y a b d = refl
off Eq x y a b d = refl
off Neq x y a b d = refl
off LtEq x y a b d = refl
off Lt x y a b d = refl
off GtEq x y a b d = refl
off Gt x y a b d = refl
off Land x y a b d = absurd (a refl)
off Lnot x y a b d = absurd (b refl)
off Lor x y a b d = absurd (d refl)

pub returns-in-Land : goal.returns-in-Land
returns-in-Land c = rw c.in-Land.is (ok (ap got.Ok c.pack.ensures))

pub returns-in-Lnot : goal.returns-in-Lnot
returns-in-Lnot c = rw c.in-Lnot.is (ok (ap got.Ok c.pack-in-Lnot.ensures))

pub returns-in-Lor : goal.returns-in-Lor
returns-in-Lor c = rw c.in-Lor.is (ok (ap got.Ok c.pack-in-Lor.ensures))

pub returns-in_default : goal.returns-in_default
returns-in_default c = rw (off c.args.kind c.args.x c.args.y c.in_default.not-Land c.in_default.not-Lnot c.in_default.not-Lor) (err refl)
