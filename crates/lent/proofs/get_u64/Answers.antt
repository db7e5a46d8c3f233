use native.Mathlib.Omega.{arith}
use Rattle.lent.specs.laws.Numbers.{read_both}
use Rattle.lent.proofs.get_u64.Goals as goal

pub returns : goal.returns
returns c =
    let a = c.args in
    let p = c.requires in
    let e = read_both a.s.now a.at 4 1 (omega (arith, p)) c.get_u32.ensures.0 c.get_u8.ensures.0 in
    let f = read_both a.s.now a.at 5 1 (omega (arith, p)) e c.get_u8-2.ensures.0 in
    let g = read_both a.s.now a.at 6 1 (omega (arith, p)) f c.get_u8-3.ensures.0 in
    read_both a.s.now a.at 7 1 p g c.get_u8-4.ensures.0
