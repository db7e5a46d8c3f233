-- `execute::loads` meets its contract.
use mathlib.Core.Path.{refl, ap, ◌∙◌}
use Prim.Native.Nat.{ℕ}
use mathlib.Core.List.{◌++◌}
use Rattle.lent.specs.Bytes.{splice}
use Rattle.sifv.specs.inner.Seen.{head_bytes}
use Rattle.execute.specs.inner.View.{fine, fail}
use Rattle.execute.specs.laws.Acts.{reg_formed}
use Rattle.std.specs.declared.result.Result.TheVariants as got
use Rattle.lent.specs.Lists.{zeros}
use borrow.Author.Rules.{rules}
use Rattle.execute.proofs.loads.Goals as goal

pub put-requires : goal.put-requires
put-requires c =
    reg_formed _ c.requires.0 _ c.requires.2 c.reg.ensures

pub returns-in_err-v : goal.returns-in_err-v
returns-in_err-v c = fail c.in_err-v.was (search rules) refl

pub returns : goal.returns
returns c =
    let v = c.in_ok-v.v in
    fine c.in_ok-v.was (ap got.Ok c.on.ensures) (c.put.ensures ∙ ap (λ (i : ℕ). splice c.args.state.now i (head_bytes v.kind 0 v.word ++ zeros 240)) c.reg.ensures)
