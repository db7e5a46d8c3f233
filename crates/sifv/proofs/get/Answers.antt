use Rattle.sifv.specs.laws.Laws.{get_empty, get_single, get_arr, get_tab, get_other}
use Rattle.sifv.proofs.get.Goals as goal

pub returns-then-kind-eq0 : goal.returns-then-kind-eq0
returns-then-kind-eq0 c = get_empty c.args.s.now c.args.at c.wide-kind.result c.wide-kind.ensures.0 c.if-kind-eq0.true

pub returns-then-kind-le4 : goal.returns-then-kind-le4
returns-then-kind-le4 c =
    get_single c.args.s.now c.args.at c.wide-kind.result c.wide-kind.ensures.0 c.if-kind-eq0.false c.if-kind-le4.true c.get_u64.ensures c.single.ensures

pub returns-then-kind-eq5 : goal.returns-then-kind-eq5
returns-then-kind-eq5 c =
    get_arr c.args.s.now c.args.at c.wide-kind.result c.wide-kind.ensures.0 c.wide-n.ensures.0 c.if-kind-eq5.true c.min.ensures

pub returns-then-kind-eq6 : goal.returns-then-kind-eq6
returns-then-kind-eq6 c =
    get_tab c.args.s.now c.args.at c.wide-kind.result c.wide-kind.ensures.0 c.wide-n.ensures.0 c.if-kind-eq6.true c.min-then-kind-eq6.ensures

pub returns : goal.returns
returns c =
    get_other c.args.s.now c.args.at c.wide-kind.result c.wide-kind.ensures.0 c.if-kind-le4.false c.if-kind-eq5.false c.if-kind-eq6.false
