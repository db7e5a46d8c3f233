use native.Mathlib.Omega.{arith}
use Rattle.lent.specs.laws.Numbers.{written_both}
use Rattle.lent.proofs.put_u32.Goals as goal

pub returns : goal.returns
returns c =
    let a = c.args in
    written_both a.d.now a.at 2 2 a.v (omega (arith, c.requires)) c.put_u16.ensures c.put_u16-2.ensures
