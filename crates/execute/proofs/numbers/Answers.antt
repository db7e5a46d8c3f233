-- `execute::numbers` meets its contract.
use Rattle.std.proofs.Common.{refl, ap, ◌∙◌, inl, inr}
use lib.Ieee.{Float}
use Rattle.execute.specs.inner.View.{ok, err}
use Rattle.sifv.specs.inner.StoredForm.{stored_of}
use Rattle.std.specs.declared.result.Result.TheVariants as got
use Rattle.sifv.specs.declared.SifVal.TheVariants as show
use borrow.Author.Rules.{rules}
use Rattle.execute.proofs.numbers.Goals as goal

pub enum_told-1 : goal.enum_told-1
enum_told-1 c = search rules

pub returns-in-Add : goal.returns-in-Add
returns-in-Add c = rw c.in-Add.is (ok (ap got.Ok c.pack.ensures))

pub returns-in-Sub : goal.returns-in-Sub
returns-in-Sub c = rw c.in-Sub.is (ok (ap got.Ok c.pack-in-Sub.ensures))

pub returns-in-Mul : goal.returns-in-Mul
returns-in-Mul c = rw c.in-Mul.is (ok (ap got.Ok c.pack-in-Mul.ensures))

pub returns-in-Div : goal.returns-in-Div
returns-in-Div c = rw c.in-Div.is (ok (ap got.Ok c.pack-in-Div.ensures))

pub returns-in-Modu : goal.returns-in-Modu
returns-in-Modu c = rw c.in-Modu.is (ok (ap got.Ok (c.pack-in-Modu.ensures ∙ ap (λ (x : Float). stored_of (show.Num x)) c.modu.ensures.0)))

pub returns-in-Eq : goal.returns-in-Eq
returns-in-Eq c = rw c.in-Eq.is (ok (ap got.Ok c.pack-in-Eq.ensures))

pub returns-in-Neq : goal.returns-in-Neq
returns-in-Neq c = rw c.in-Neq.is (ok (ap got.Ok c.pack-in-Neq.ensures))

pub returns-in-LtEq : goal.returns-in-LtEq
returns-in-LtEq c = rw c.in-LtEq.is (ok (ap got.Ok c.pack-in-LtEq.ensures))

pub returns-in-Lt : goal.returns-in-Lt
returns-in-Lt c = rw c.in-Lt.is (ok (ap got.Ok c.pack-in-Lt.ensures))

pub returns-in-GtEq : goal.returns-in-GtEq
returns-in-GtEq c = rw c.in-GtEq.is (ok (ap got.Ok c.pack-in-GtEq.ensures))

pub returns-in-Gt : goal.returns-in-Gt
returns-in-Gt c = rw c.in-Gt.is (ok (ap got.Ok c.pack-in-Gt.ensures))

pub returns-in-Land : goal.returns-in-Land
returns-in-Land c = elim c.in-Land.is [ inl e ↦ rw e (err refl) | inr s ↦ elim s [ inl e ↦ rw e (err refl) | inr e ↦ rw e (err refl) ] ]
