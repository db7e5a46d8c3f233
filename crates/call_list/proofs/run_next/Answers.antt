use Rattle.std.proofs.Common.{arith, sym, ◌∙◌}
use Rattle.lent.specs.laws.Answers.{passed_zero}
use Rattle.call_list.proofs.Carrying.{run_reported}
use Rattle.call_list.proofs.run_next.Goals as goal

pub ending_of-requires : goal.ending_of-requires
ending_of-requires c =
    let z = passed_zero c.run.result (sym c.is_err.ensures.value ∙ c.if-is_err.false) in
    let h = run_reported c.args.program.now c.args.state.now c.args.steps c.args.out.now c.run.ensures z in
    omega (arith, h, c.run.auto.report)
