-- `state::fns_ok` meets its contract.
use mathlib.Core.Path.{sym, ◌∙◌}
use Rattle.state.specs.laws.Checks.{fns_zero}
use Rattle.state.proofs.fns_ok.Goals as goal

pub returns-then-all_zero : goal.returns-then-all_zero
returns-then-all_zero c =
    sym (fns_zero c.args.state.now c.args.n (sym c.all_zero.ensures ∙ c.if-all_zero.true))
