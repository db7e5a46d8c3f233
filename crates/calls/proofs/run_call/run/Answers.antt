use mathlib.Core.Path.{ap}
use mathlib.Core.Bool.{not}
use Rattle.calls.proofs.Answered.{run_short_program, run_short_state, run_short_report, run_unprogrammed, run_passed}
use borrow.Author.Tests.{not-true, not-false}
use native.Mathlib.Omega.{arith}
use mathlib.Core.Path.{sym, ◌∙◌}
use Rattle.calls.proofs.run_call.run.Goals as goal

pub returns-then-program-lt-PROGRAM_SIZE : goal.returns-then-program-lt-PROGRAM_SIZE
returns-then-program-lt-PROGRAM_SIZE c =
    run_short_program c.args.program.now c.args.state.now c.args.steps c.args.report.now c.if-program-lt-PROGRAM_SIZE.true

pub returns-then-state-lt-STATE_SIZE : goal.returns-then-state-lt-STATE_SIZE
returns-then-state-lt-STATE_SIZE c =
    run_short_state c.args.program.now c.args.state.now c.args.steps c.args.report.now c.if-program-lt-PROGRAM_SIZE.false c.if-state-lt-STATE_SIZE.true

pub returns-then-report-lt-REPORT_SIZE : goal.returns-then-report-lt-REPORT_SIZE
returns-then-report-lt-REPORT_SIZE c =
    run_short_report c.args.program.now c.args.state.now c.args.steps c.args.report.now c.if-program-lt-PROGRAM_SIZE.false c.if-state-lt-STATE_SIZE.false c.if-report-lt-REPORT_SIZE.true

pub returns-then-not-program_ok : goal.returns-then-not-program_ok
returns-then-not-program_ok c =
    run_unprogrammed c.args.program.now c.args.state.now c.args.steps c.args.report.now c.if-program-lt-PROGRAM_SIZE.false c.if-state-lt-STATE_SIZE.false c.if-report-lt-REPORT_SIZE.false (sym c.program_ok.ensures ∙ not-true c.program_ok.result (ap not c.if-not-program_ok.true))

pub run_on-requires : goal.run_on-requires
run_on-requires c =
    (c.if-program-lt-PROGRAM_SIZE.false, omega (arith, c.if-state-lt-STATE_SIZE.false), omega (arith, c.if-report-lt-REPORT_SIZE.false), sym c.program_ok.ensures ∙ not-false c.program_ok.result (ap not c.if-not-program_ok.false))

pub returns : goal.returns
returns c =
    let held = sym c.program_ok.ensures ∙ not-false c.program_ok.result (ap not c.if-not-program_ok.false) in
    run_passed c.args.program.now c.args.state.now c.args.steps c.args.report.now c.if-program-lt-PROGRAM_SIZE.false c.if-state-lt-STATE_SIZE.false c.if-report-lt-REPORT_SIZE.false held ∙ c.run_on.ensures
