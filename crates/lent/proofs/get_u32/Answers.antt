use native.Mathlib.Omega.{arith}
use Rattle.lent.specs.laws.Numbers.{read_both}
use Rattle.lent.proofs.get_u32.Goals as goal

pub returns : goal.returns
returns c =
    let a = c.args in
    let p = c.requires in
    let e = read_both a.s.now a.at 2 1 (omega (arith, p)) c.get_u16.ensures.0 c.get_u8.ensures.0 in
    (read_both a.s.now a.at 3 1 p e c.get_u8-2.ensures.0, omega arith)
