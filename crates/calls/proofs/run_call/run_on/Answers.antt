-- `calls::run_call::run_on` meets its contract.
use mathlib.Core.Path.{ap}
use mathlib.Core.Bool.{not}
use Rattle.calls.proofs.Answered.{programmed, program_ready, start_small, run_refused_lem, run_overflows, run_written, used_canon, counted_so}
use Rattle.lent.specs.laws.Parts.{length_part, splice_lent}
use Rattle.lent.specs.laws.Each.{each_of}
use borrow.Author.Tests.{not-true, not-false}
use native.Mathlib.Omega.{arith}
use mathlib.Core.Path.{sym, ◌∙◌}
use Rattle.tables.specs.ProgramBytes.{program_in}
use Rattle.calls.proofs.run_call.run_on.Goals as goal
use Rattle.calls.proofs.run_call.run_on.Goals.{Start}

pub state_ok-requires : goal.state_ok-requires
state_ok-requires c =
    let s = (goal.at.state_ok-requires c).Start in
    let r = program_ready s.args.program.now (each_of s.args.program.now 0 (λ i h. omega (arith, c.type_inv.program i))) s.requires.0 s.requires.3 in
    (omega (arith, s.requires.1), omega (arith, r.few, c.count_of-n.ensures (program_in s.args.program.now) (programmed s.args.program.now s.requires.3)))

pub returns-then-not-state_ok : goal.returns-then-not-state_ok
returns-then-not-state_ok c = let s = (goal.at.returns-then-not-state_ok c).Start in run_refused_lem s.args.program.now s.args.state.now s.args.steps s.args.report.now (c.count_of-n.ensures (program_in s.args.program.now) (programmed s.args.program.now s.requires.3)) c.state_ok.ensures (not-true c.state_ok.result (ap not c.if-not-state_ok.true))

pub returns-then-count-steps : goal.returns-then-count-steps
returns-then-count-steps c =
    let s = (goal.at.returns-then-count-steps c).Start in
    run_overflows s.args.program.now s.args.state.now s.args.steps s.args.report.now (c.count_of-n.ensures (program_in s.args.program.now) (programmed s.args.program.now s.requires.3)) c.state_ok.ensures (not-false c.state_ok.result (ap not c.if-not-state_ok.false))
    (omega (arith, counted_so s.args.state.now c.progress_of-first.ensures, c.if-count-steps.true))

pub run_used-ran-requires : goal.run_used-ran-requires
run_used-ran-requires c =
    let s = (goal.at.run_used-ran-requires c).Start in
    let b = s.args.state.now in
    let r = program_ready s.args.program.now (each_of s.args.program.now 0 (λ i h. omega (arith, c.type_inv.program i))) s.requires.0 s.requires.3 in
    let e = c.count_of-n.ensures (program_in s.args.program.now) (programmed s.args.program.now s.requires.3) in
    let ok = sym c.state_ok.ensures ∙ not-false c.state_ok.result (ap not c.if-not-state_ok.false) in
    (r, used_canon c.count_of-n.result b (omega (arith, r.few, e)) (each_of b 0 (λ i h. omega (arith, c.slice_known-1.given i))) (omega (arith, s.requires.1)) ok c.progress_of-first.ensures, e, omega (arith, c.if-count-steps.false), length_part b 0 47360 (omega (arith, s.requires.1)))

pub overflow_sub-last : goal.overflow_sub-last
overflow_sub-last c = c.run_used-ran.ensures.begun

pub write_report-requires : goal.write_report-requires
write_report-requires c =
    let s = (goal.at.write_report-requires c).Start in
    let q = s.args.program.now in
    let k = start_small q (each_of q 0 (λ i h. omega (arith, c.type_inv.program i))) s.requires.3 in
    (omega (arith, s.requires.2), omega (arith, k, c.start_of-start.ensures (program_in q) (programmed q s.requires.3)), c.run_used-ran.ensures.inside)

pub returns : goal.returns
returns c =
    let s = (goal.at.returns c).Start in
    let q = s.args.program.now in
    let b = s.args.state.now in
    let r = program_ready q (each_of q 0 (λ i h. omega (arith, c.type_inv.program i))) s.requires.0 s.requires.3 in
    let e = c.count_of-n.ensures (program_in q) (programmed q s.requires.3) in
    let ran = c.run_used-ran in
    let l = ran.auto.state ∙ length_part b 0 47360 (omega (arith, s.requires.1)) in
    run_written q b s.args.steps s.args.report.now e (omega (arith, r.few, e)) (each_of b 0 (λ i h. omega (arith, c.slice_known-1.given i))) s.requires.1
    c.state_ok.ensures (not-false c.state_ok.result (ap not c.if-not-state_ok.false)) c.progress_of-first.ensures c.if-count-steps.false ran.ensures l (splice_lent b 0 47360 ran.new.state l)
    (sym (c.start_of-start.ensures (program_in q) (programmed q s.requires.3))) c.write_report.ensures c.write_report.auto.out s.requires.2
