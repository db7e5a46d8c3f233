-- `state::loc_of` meets its contract.
use mathlib.Core.Path.{◌∙◌}
use native.Mathlib.Omega.{arith}
use Rattle.lent.specs.laws.Numbers.{be_value_one}
use Rattle.state.proofs.loc_of.Goals as goal

pub returns : goal.returns
returns c =
    let s = c.args.state.now in
    let p = c.requires in
    let d = c.get_u8.ensures.0 ∙ be_value_one s 47346 (omega arith) in
    let e = c.get_u8-2.ensures.0 ∙ be_value_one s 47347 (omega arith) in
    λ i. record { pos = c.get_u16.ensures.0 i; depth = d i; calls = e i }
