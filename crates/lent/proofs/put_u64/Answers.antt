use native.Mathlib.Omega.{arith}
use Rattle.lent.specs.laws.Numbers.{written_both}
use Rattle.lent.proofs.put_u64.Goals as goal

pub returns : goal.returns
returns c =
    let a = c.args in
    written_both a.d.now a.at 4 4 a.v (omega (arith, c.requires)) c.put_u32.ensures c.put_u32-2.ensures
