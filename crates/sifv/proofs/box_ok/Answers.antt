-- `sifv::box_ok` meets its contract.
use native.Mathlib.Omega.{arith}
use Rattle.lent.specs.laws.Each.{bytes_of}
use Rattle.sifv.specs.laws.Direct.{box_tests}
use Rattle.sifv.proofs.box_ok.Goals as goal

pub returns : goal.returns
returns c =
    let s = c.args in
    box_tests s.s.now s.at (bytes_of s.s.now (λ i. omega (arith, c.type_inv.s i))) c.requires.0 s.n c.requires.1
    c.all_zero.ensures c.items_ok.ensures c.all_zero-kinds.ensures c.all_zero-words.ensures
