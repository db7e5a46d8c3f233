-- `execute::binop` meets its contract.
use mathlib.Core.Path.{sym, ap, ◌∙◌}
use Rattle.sifv.specs.inner.Seen.{seen, kind_in}
use Rattle.vm.specs.RuntimeErr.{RegNoContents}
use Rattle.execute.specs.inner.View.{bin_model, regs_of}
use Rattle.execute.specs.laws.Acts.{reg_formed, reg_value, binop_others, binop_numbers, binop_truth}
use Rattle.execute.proofs.binop.Goals as goal

pub kind_at-k-requires : goal.kind_at-k-requires
kind_at-k-requires c =
    reg_formed _ c.requires.0 _ c.requires.1 c.reg-a.ensures

pub truth_at-requires : goal.truth_at-requires
truth_at-requires c =
    let f = reg_formed _ c.requires.0 _ c.requires.1 c.reg-a.ensures in
    (f.0, f.1, sym c.kind_at-k.ensures ∙ c.if-k-eq3.true)

pub returns-then-k-eq3 : goal.returns-then-k-eq3
returns-then-k-eq3 c =
    let b = c.args.state.now in
    binop_truth (bin_model c.args.kind) (RegNoContents c.args.src1) (RegNoContents c.args.src2) (regs_of b c.args.src2) c.truth_at.result (sym (reg_value b c.requires.0 c.args.src1 c.requires.1 c.reg-a.ensures) ∙ c.truth_at.ensures) c.beside_truth.ensures

pub others-requires : goal.others-requires
others-requires c = λ p q. c.if-k-ne1.true (c.kind_at-k.ensures ∙ ap kind_in (sym c.get.ensures) ∙ p)

pub returns-then-k-ne1 : goal.returns-then-k-ne1
returns-then-k-ne1 c =
    let b = c.args.state.now in
    binop_others (bin_model c.args.kind) (RegNoContents c.args.src1) (RegNoContents c.args.src2) (regs_of b c.args.src1) (regs_of b c.args.src2)
    (c.get.ensures ∙ ap seen (reg_value b c.requires.0 c.args.src1 c.requires.1 c.reg-a.ensures)) (c.get-then-k-ne1.ensures ∙ ap seen (reg_value b c.requires.0 c.args.src2 c.requires.2 c.reg-b.ensures)) c.others.ensures

pub kind_at-requires : goal.kind_at-requires
kind_at-requires c =
    reg_formed _ c.requires.0 _ c.requires.2 c.reg-b.ensures

pub others-requires-then-kind_at-ne1 : goal.others-requires-then-kind_at-ne1
others-requires-then-kind_at-ne1 c = λ p q. c.if-kind_at-ne1.true (c.kind_at.ensures ∙ ap kind_in (sym c.get-then-kind_at-ne1-2.ensures) ∙ q)

pub returns-then-kind_at-ne1 : goal.returns-then-kind_at-ne1
returns-then-kind_at-ne1 c =
    let b = c.args.state.now in
    binop_others (bin_model c.args.kind) (RegNoContents c.args.src1) (RegNoContents c.args.src2) (regs_of b c.args.src1) (regs_of b c.args.src2)
    (c.get-then-kind_at-ne1.ensures ∙ ap seen (reg_value b c.requires.0 c.args.src1 c.requires.1 c.reg-a.ensures)) (c.get-then-kind_at-ne1-2.ensures ∙ ap seen (reg_value b c.requires.0 c.args.src2 c.requires.2 c.reg-b.ensures)) c.others-then-kind_at-ne1.ensures

pub number_at-requires : goal.number_at-requires
number_at-requires c =
    let f = reg_formed _ c.requires.0 _ c.requires.1 c.reg-a.ensures in
    (f.0, f.1, sym c.kind_at-k.ensures ∙ c.if-k-ne1.false)

pub number_at-requires-2 : goal.number_at-requires-2
number_at-requires-2 c =
    let f = reg_formed _ c.requires.0 _ c.requires.2 c.reg-b.ensures in
    (f.0, f.1, sym c.kind_at.ensures ∙ c.if-kind_at-ne1.false)

pub returns : goal.returns
returns c =
    let b = c.args.state.now in
    binop_numbers (bin_model c.args.kind) (RegNoContents c.args.src1) (RegNoContents c.args.src2)
    (sym (reg_value b c.requires.0 c.args.src1 c.requires.1 c.reg-a.ensures) ∙ c.number_at.ensures) (sym (reg_value b c.requires.0 c.args.src2 c.requires.2 c.reg-b.ensures) ∙ c.number_at-2.ensures) c.numbers.ensures
