-- `sifv::tab_ok` meets its contract.
use native.Mathlib.Omega.{arith}
use Rattle.lent.specs.laws.Each.{bytes_of}
use Rattle.sifv.specs.laws.Direct.{tab_tests}
use Rattle.sifv.proofs.tab_ok.Goals as goal

pub returns : goal.returns
returns c =
    let s = c.args in
    tab_tests s.s.now s.at (bytes_of s.s.now (λ i. omega (arith, c.type_inv.s i))) c.requires.0 c.wide-n.result c.requires.1
    c.wide-n.ensures.0 c.if-n-gt-TABLE_ITEMS.false c.keys_ok.ensures c.box_ok.ensures c.all_zero.ensures
