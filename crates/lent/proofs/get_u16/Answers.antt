use native.Mathlib.Omega.{arith}
use Rattle.lent.specs.laws.Numbers.{read_both}
use Rattle.lent.proofs.get_u16.Goals as goal

pub returns : goal.returns
returns c =
    let a = c.args in
    (read_both a.s.now a.at 1 1 c.requires c.get_u8.ensures.0 c.get_u8-2.ensures.0, omega arith)
