-- `state::frames_ok` meets its contract.
use mathlib.Core.Path.{sym, ◌∙◌}
use borrow.Author.Tests.{eqb-true}
use lib.Dec.{eqb}
use Rattle.sifv.specs.laws.Layout.{and_left, and_right}
use Rattle.state.specs.laws.Checks.{frames_zero}
use Rattle.state.proofs.frames_ok.Goals as goal

pub returns-then-calls-all_zero : goal.returns-then-calls-all_zero
returns-then-calls-all_zero c =
    let a = c.args in
    let z = c.all_zero in
    let e = c.if-calls-all_zero.true in
    sym (frames_zero a.state.now a.calls a.n (eqb-true a.calls 0 (and_left (eqb a.calls 0) z.result e)) (sym z.ensures ∙ and_right (eqb a.calls 0) z.result e))
