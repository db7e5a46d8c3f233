-- `lower::compile` meets its contract.
use Rattle.std.proofs.Common.{ℕ, refl, sym, subst, arith}
use Rattle.lent.specs.laws.Answers.{ok_zero, told_err}
use Rattle.compiler.specs.Lower.{lower_tree}
use Rattle.lower.specs.inner.Compile.{Compiled, one_pass}
use Rattle.lower.specs.laws.CompileLaws.{one_ready, one_number, one_refused, one_asks, one_gives, pass_long, pass_cleared}
use Rattle.lower.proofs.compile.Goals as goal

pub returns-then-declares : goal.returns-then-declares
returns-then-declares c = c.compile_both.ensures

pub lower_tree-c-requires : goal.lower_tree-c-requires
lower_tree-c-requires c =
    let t = c.requires.spelt.0 in
    let sp = c.requires.spelt.1 in
    record { ready = one_ready t c.requires.by_index.0 c.args.program.now sp.within sp.few c.requires.by_index.1; stmts_in = (t, sp.within, sp.few, sp.contents, sp.parts, sp.numbers) }

pub returns-in_err-passed : goal.returns-in_err-passed
returns-in_err-passed c t rest sp z =
    let did = c.lower_tree-c.ensures t sp.within sp.few sp.contents sp.parts sp.numbers refl in
    let n = one_number t rest c.args.program.now sp.within sp.few z _ _ did in
    let a = told_err c.from_residual.result (c.passed.ensures (lower_tree t) 0 0 n) c.in_err-passed.was c.from_residual.ensures in
    subst (λ (k : ℕ). Compiled t rest k c.lower_tree-c.new.out) (sym a.0) (one_refused t rest c.args.program.now sp.within sp.few z _ _ did a.1)

pub finish-requires : goal.finish-requires
finish-requires c =
    let t = c.requires.spelt.0 in
    let sp = c.requires.spelt.1 in
    let did = c.lower_tree-c.ensures t sp.within sp.few sp.contents sp.parts sp.numbers refl in
    let a = one_asks t c.requires.by_index.0 c.args.program.now sp.within sp.few c.requires.by_index.1 _ _ did (ok_zero (c.passed.ensures (lower_tree t) 0 0 (one_number t c.requires.by_index.0 c.args.program.now sp.within sp.few c.requires.by_index.1 _ _ did)) c.in_ok-passed.was) c.if-c.true in
    record { in_bounds = (a.long, a.few, a.labels, a.functions); records = (_, a.records) }

pub returns-then-c : goal.returns-then-c
returns-then-c c t rest sp z =
    let b = c.args.program.now in
    let did = c.lower_tree-c.ensures t sp.within sp.few sp.contents sp.parts sp.numbers refl in
    let o = ok_zero (c.passed.ensures (lower_tree t) 0 0 (one_number t rest b sp.within sp.few z _ _ did)) c.in_ok-passed.was in
    let h = c.if-c.true in
    one_gives t rest b sp.within sp.few z _ _ did o h _ (c.finish.ensures _ (one_asks t rest b sp.within sp.few z _ _ did o h).records)

pub clear-requires : goal.clear-requires
clear-requires c =
    let t = c.requires.spelt.0 in
    let sp = c.requires.spelt.1 in
    let did = c.lower_tree-c.ensures t sp.within sp.few sp.contents sp.parts sp.numbers refl in
    (omega arith, pass_long t c.requires.by_index.0 c.args.program.now sp.within sp.few c.requires.by_index.1 one_pass _ _ did)

pub compile_both-requires-2 : goal.compile_both-requires-2
compile_both-requires-2 c =
    let t = c.requires.spelt.0 in
    let sp = c.requires.spelt.1 in
    let did = c.lower_tree-c.ensures t sp.within sp.few sp.contents sp.parts sp.numbers refl in
    record { spelt = (t, sp); by_index = (c.requires.by_index.0, pass_cleared t c.requires.by_index.0 c.args.program.now sp.within sp.few c.requires.by_index.1 one_pass _ _ did _ c.clear.ensures) }

pub returns : goal.returns
returns c t rest sp z =
    let did = c.lower_tree-c.ensures t sp.within sp.few sp.contents sp.parts sp.numbers refl in
    c.compile_both-2.ensures t rest sp (pass_cleared t rest c.args.program.now sp.within sp.few z one_pass _ _ did _ c.clear.ensures)
