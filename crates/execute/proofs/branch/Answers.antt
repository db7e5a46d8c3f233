-- `execute::branch` meets its contract.
use mathlib.Core.Path.{refl, sym, ap, ◌∙◌}
use mathlib.Core.Option.{Option}
use Rattle.sifv.specs.Value.{Value}
use Rattle.sifv.specs.inner.Seen.{seen, kind_in}
use Rattle.tables.specs.Tables.{label_at}
use Rattle.execute.specs.inner.View.{regs_of}
use Rattle.execute.specs.laws.Acts.{reg_formed, reg_value}
use Rattle.execute.specs.laws.Programs.{branch_off, branch_go, branch_on}
use Rattle.std.specs.declared.result.Result.TheVariants as got
use Rattle.tables.specs.ProgramBytes.{program_in}
use Rattle.execute.proofs.branch.Goals as goal

pub kind_at-requires : goal.kind_at-requires
kind_at-requires c =
    reg_formed _ c.requires.1 _ c.requires.4 c.reg-at.ensures

pub returns-then-kind_at-ne3 : goal.returns-then-kind_at-ne3
returns-then-kind_at-ne3 c =
    branch_off c.args.state.now c.args.loc c.requires.2 c.args.kind (regs_of c.args.state.now c.args.src) (label_at (program_in c.args.program.now).code c.args.lblidx) (λ z. c.if-kind_at-ne3.true (c.kind_at.ensures ∙ ap (λ (o : Option Value). kind_in (seen o)) (reg_value _ c.requires.1 _ c.requires.4 c.reg-at.ensures) ∙ z)) refl

pub truth_at-requires : goal.truth_at-requires
truth_at-requires c =
    let f = (reg_formed _ c.requires.1 _ c.requires.4 c.reg-at.ensures) in
    (f.0, f.1, sym c.kind_at.ensures ∙ c.if-kind_at-ne3.false)

pub returns-then-taken : goal.returns-then-taken
returns-then-taken c =
    branch_go c.args.state.now c.args.loc c.requires.2 c.args.kind (regs_of c.args.state.now c.args.src) c.truth_at.result (label_at (program_in c.args.program.now).code c.args.lblidx) (sym (reg_value _ c.requires.1 _ c.requires.4 c.reg-at.ensures) ∙ c.truth_at.ensures) (sym c.taken.ensures ∙ c.if-taken.true) c.jump.ensures

pub returns : goal.returns
returns c =
    branch_on c.args.state.now c.args.loc c.requires.2 c.args.kind (regs_of c.args.state.now c.args.src) c.truth_at.result (label_at (program_in c.args.program.now).code c.args.lblidx) (sym (reg_value _ c.requires.1 _ c.requires.4 c.reg-at.ensures) ∙ c.truth_at.ensures) (sym c.taken.ensures ∙ c.if-taken.false) (ap got.Ok c.on.ensures)
