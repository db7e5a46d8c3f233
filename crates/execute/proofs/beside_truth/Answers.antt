-- `execute::beside_truth` meets its contract.
use mathlib.Core.Path.{refl, sym, ap, ◌∙◌}
use mathlib.Core.Option.{some}
use Rattle.sifv.specs.Value.{Bl, One}
use Rattle.sifv.specs.inner.Seen.{seen}
use Rattle.vm.specs.RuntimeErr.{RegNoContents}
use Rattle.execute.specs.inner.View.{bin_model, regs_of}
use Rattle.execute.specs.laws.Acts.{reg_formed, reg_value, binop_others, binop_truths}
use Rattle.execute.proofs.beside_truth.Goals as goal
use Rattle.execute.proofs.beside_truth.Goals.{Start}

pub kind_at-requires : goal.kind_at-requires
kind_at-requires c = let s = (goal.at.kind_at-requires c).Start in reg_formed _ s.requires.0 _ s.requires.1 c.reg-b.ensures

pub returns-then-kind_at-ne3 : goal.returns-then-kind_at-ne3
returns-then-kind_at-ne3 c =
    let b = c.args.state.now in
    binop_others (bin_model c.args.kind) (RegNoContents c.args.src2) (RegNoContents c.args.src2) (some (One (Bl c.args.x))) (regs_of b c.args.src2) refl
    (c.get.ensures ∙ ap seen (reg_value b c.requires.0 c.args.src2 c.requires.1 c.reg-b.ensures)) c.with_truth.ensures

pub truth_at-requires : goal.truth_at-requires
truth_at-requires c =
    let f = reg_formed _ c.requires.0 _ c.requires.1 c.reg-b.ensures in
    (f.0, f.1, sym c.kind_at.ensures ∙ c.if-kind_at-ne3.false)

pub returns : goal.returns
returns c =
    let b = c.args.state.now in
    binop_truths (bin_model c.args.kind) (RegNoContents c.args.src2) c.args.x c.truth_at.result (sym (reg_value b c.requires.0 c.args.src2 c.requires.1 c.reg-b.ensures) ∙ c.truth_at.ensures) c.truths.ensures
