-- `lower::compile_both` meets its contract.
use Rattle.std.proofs.Common.{ℕ, refl, sym, ◌∙◌, subst}
use Rattle.lent.specs.laws.Answers.{ok_zero, told_err}
use Rattle.compiler.specs.Lower.{lower_tree}
use Rattle.lower.specs.inner.Compile.{Compiled}
use Rattle.lower.specs.laws.CompileLaws.{first_ready, first_number, first_refused, second_ready, tables_ask, compiled_gives}
use Rattle.lower.proofs.compile_both.Goals as goal

pub lower_tree-d-requires : goal.lower_tree-d-requires
lower_tree-d-requires c =
    let t = c.requires.spelt.0 in
    let sp = c.requires.spelt.1 in
    record { ready = first_ready t c.requires.by_index.0 c.args.program.now sp.within sp.few c.requires.by_index.1; stmts_in = (t, sp.within, sp.few, sp.contents, sp.parts, sp.numbers) }

pub returns-in_err-passed : goal.returns-in_err-passed
returns-in_err-passed c t rest sp z =
    let did = c.lower_tree-d.ensures t sp.within sp.few sp.contents sp.parts sp.numbers refl in
    let n = first_number t rest c.args.program.now sp.within sp.few z _ _ did in
    let a = told_err c.from_residual.result (c.passed.ensures (lower_tree t) 0 0 n) c.in_err-passed.was c.from_residual.ensures in
    subst (λ (k : ℕ). Compiled t rest k c.lower_tree-d.new.out) (sym a.0) (first_refused t rest c.args.program.now sp.within sp.few z _ _ did a.1)

pub lower_tree-c-requires : goal.lower_tree-c-requires
lower_tree-c-requires c =
    let t = c.requires.spelt.0 in
    let sp = c.requires.spelt.1 in
    let did = c.lower_tree-d.ensures t sp.within sp.few sp.contents sp.parts sp.numbers refl in
    let m = first_number t c.requires.by_index.0 c.args.program.now sp.within sp.few c.requires.by_index.1 _ _ did in
    let n = sym m ∙ ok_zero (c.passed.ensures (lower_tree t) 0 0 m) c.in_ok-passed.was in
    record { ready = second_ready t c.requires.by_index.0 c.args.program.now sp.within sp.few c.requires.by_index.1 _ _ did n; stmts_in = (t, sp.within, sp.few, sp.contents, sp.parts, sp.numbers) }

pub finish-requires : goal.finish-requires
finish-requires c =
    let t = c.requires.spelt.0 in
    let sp = c.requires.spelt.1 in
    let did = c.lower_tree-d.ensures t sp.within sp.few sp.contents sp.parts sp.numbers refl in
    let m = first_number t c.requires.by_index.0 c.args.program.now sp.within sp.few c.requires.by_index.1 _ _ did in
    let n = sym m ∙ ok_zero (c.passed.ensures (lower_tree t) 0 0 m) c.in_ok-passed.was in
    let did₂ = c.lower_tree-c.ensures t sp.within sp.few sp.contents sp.parts sp.numbers refl in
    let a = tables_ask t c.requires.by_index.0 c.args.program.now sp.within sp.few c.requires.by_index.1 _ _ did n _ _ did₂ in
    record { in_bounds = (a.long, a.few, a.labels, a.functions); records = (_, a.records) }

pub returns : goal.returns
returns c t rest sp z =
    let b = c.args.program.now in
    let did = c.lower_tree-d.ensures t sp.within sp.few sp.contents sp.parts sp.numbers refl in
    let m = first_number t rest b sp.within sp.few z _ _ did in
    let n = sym m ∙ ok_zero (c.passed.ensures (lower_tree t) 0 0 m) c.in_ok-passed.was in
    let did₂ = c.lower_tree-c.ensures t sp.within sp.few sp.contents sp.parts sp.numbers refl in
    compiled_gives t rest b sp.within sp.few z _ _ did n _ _ did₂ _ (c.finish.ensures _ (tables_ask t rest b sp.within sp.few z _ _ did n _ _ did₂).records)
