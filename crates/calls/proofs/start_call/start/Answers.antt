use mathlib.Core.Path.{ap}
use mathlib.Core.Bool.{not}
use borrow.Author.Rules.{rules}
use mathlib.Core.Path.{sym, ◌∙◌}
use native.Mathlib.Omega.{arith}
use borrow.Author.Tests.{not-true, not-false}
use Rattle.calls.proofs.Answered.{programmed, start_short_program, start_short_state, start_refused, start_written}
use Rattle.calls.proofs.start_call.start.Goals as goal

pub returns-then-program-lt-PROGRAM_SIZE : goal.returns-then-program-lt-PROGRAM_SIZE
returns-then-program-lt-PROGRAM_SIZE c = start_short_program c.args.program.now c.args.state.now c.if-program-lt-PROGRAM_SIZE.true

pub returns-then-state-lt-STATE_SIZE : goal.returns-then-state-lt-STATE_SIZE
returns-then-state-lt-STATE_SIZE c = start_short_state c.args.program.now c.args.state.now c.if-program-lt-PROGRAM_SIZE.false c.if-state-lt-STATE_SIZE.true

pub returns-then-not-program_ok : goal.returns-then-not-program_ok
returns-then-not-program_ok c =
    start_refused c.args.program.now c.args.state.now c.if-program-lt-PROGRAM_SIZE.false c.if-state-lt-STATE_SIZE.false (sym c.program_ok.ensures ∙ not-true c.program_ok.result (ap not c.if-not-program_ok.true))

pub start-requires : goal.start-requires
start-requires c =
    (c.if-program-lt-PROGRAM_SIZE.false, omega arith, programmed c.args.program.now (sym c.program_ok.ensures ∙ not-false c.program_ok.result (ap not c.if-not-program_ok.false)))

pub returns : goal.returns
returns c =
    start_written c.args.program.now c.args.state.now c.if-program-lt-PROGRAM_SIZE.false c.if-state-lt-STATE_SIZE.false (sym c.program_ok.ensures ∙ not-false c.program_ok.result (ap not c.if-not-program_ok.false)) c.start.ensures (search rules)
