use mathlib.Core.Path.{sym, ◌∙◌}
use native.Mathlib.Omega.{arith}
use Rattle.lent.specs.Bytes.{part}
use Rattle.lent.specs.laws.Parts.{length_part}
use Rattle.sifv.specs.laws.Laws.{first_byte}
use Rattle.sifv.specs.laws.Checks.{slot_zero, slot_one, slot_arr, slot_tab, slot_other}
use Rattle.sifv.proofs.slot_ok.Goals as goal

pub returns-then-kind-eq0 : goal.returns-then-kind-eq0
returns-then-kind-eq0 c =
    c.all_zero.ensures ∙ slot_zero (part c.args.s.now c.args.at 256) (first_byte c.args.s.now c.args.at c.wide-kind.result c.wide-kind.ensures.0 ∙ c.if-kind-eq0.true)

pub returns-then-kind-le4 : goal.returns-then-kind-le4
returns-then-kind-le4 c =
    let f = first_byte c.args.s.now c.args.at c.wide-kind.result c.wide-kind.ensures.0 in
    c.one_ok.ensures ∙ slot_one (part c.args.s.now c.args.at 256) (λ e. c.if-kind-eq0.false (sym f ∙ e)) (omega (arith, c.if-kind-le4.true))

pub returns-then-kind-eq5 : goal.returns-then-kind-eq5
returns-then-kind-eq5 c =
    c.arr_ok.ensures ∙ slot_arr (part c.args.s.now c.args.at 256) (first_byte c.args.s.now c.args.at c.wide-kind.result c.wide-kind.ensures.0 ∙ c.if-kind-eq5.true)

pub returns-then-kind-eq6 : goal.returns-then-kind-eq6
returns-then-kind-eq6 c =
    c.tab_ok.ensures ∙ slot_tab (part c.args.s.now c.args.at 256) (length_part c.args.s.now c.args.at 256 c.requires) (first_byte c.args.s.now c.args.at c.wide-kind.result c.wide-kind.ensures.0 ∙ c.if-kind-eq6.true)

pub returns : goal.returns
returns c =
    let f = first_byte c.args.s.now c.args.at c.wide-kind.result c.wide-kind.ensures.0 in slot_other (part c.args.s.now c.args.at 256) (omega (arith, c.if-kind-le4.false, c.if-kind-eq5.false, c.if-kind-eq6.false))
