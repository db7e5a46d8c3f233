-- `execute::nneg` meets its contract.
use mathlib.Core.Path.{refl, sym, ap, ◌∙◌}
use mathlib.Core.Option.{Option}
use Rattle.sifv.specs.Value.{Value}
use Rattle.sifv.specs.inner.Seen.{seen, kind_in}
use Rattle.execute.specs.inner.View.{regs_of}
use Rattle.execute.specs.laws.Acts.{reg_formed, reg_value}
use Rattle.execute.specs.laws.Readers.{nneg_off, nneg_on}
use Rattle.std.specs.declared.result.Result.TheVariants as got
use Rattle.execute.proofs.nneg.Goals as goal

pub kind_at-requires : goal.kind_at-requires
kind_at-requires c =
    reg_formed _ c.requires.0 _ c.requires.1 c.reg-at.ensures

pub returns-then-kind_at-ne1 : goal.returns-then-kind_at-ne1
returns-then-kind_at-ne1 c =
    nneg_off (regs_of c.args.state.now c.args.src1) (c.kind_at.ensures ∙ ap (λ (o : Option Value). kind_in (seen o)) (reg_value _ c.requires.0 _ c.requires.1 c.reg-at.ensures)) c.if-kind_at-ne1.true refl

pub number_at-requires : goal.number_at-requires
number_at-requires c =
    let f = reg_formed _ c.requires.0 _ c.requires.1 c.reg-at.ensures in (f.0, f.1, sym c.kind_at.ensures ∙ c.if-kind_at-ne1.false)

pub returns : goal.returns
returns c =
    nneg_on (sym (reg_value _ c.requires.0 _ c.requires.1 c.reg-at.ensures) ∙ c.number_at.ensures) (ap got.Ok c.pack.ensures)
