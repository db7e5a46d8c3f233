-- `sifv::arr_ok` meets its contract.
use native.Mathlib.Omega.{arith}
use Rattle.lent.specs.laws.Each.{bytes_of}
use Rattle.sifv.specs.laws.Direct.{arr_tests, arr_long}
use Rattle.sifv.proofs.arr_ok.Goals as goal

pub returns-then-n-gt-ARRAY_ITEMS : goal.returns-then-n-gt-ARRAY_ITEMS
returns-then-n-gt-ARRAY_ITEMS c =
    let s = c.args in
    arr_long s.s.now s.at (bytes_of s.s.now (λ i. omega (arith, c.type_inv.s i))) c.requires.0 c.wide-n.result
    c.wide-n.ensures.0 c.if-n-gt-ARRAY_ITEMS.true

pub returns : goal.returns
returns c =
    let s = c.args in
    arr_tests s.s.now s.at (bytes_of s.s.now (λ i. omega (arith, c.type_inv.s i))) c.requires.0 c.wide-n.result c.requires.1
    c.wide-n.ensures.0 c.if-n-gt-ARRAY_ITEMS.false c.box_ok.ensures c.all_zero.ensures
