-- `sifv::one_ok` meets its contract.
use native.Mathlib.Omega.{arith}
use Rattle.lent.specs.laws.Each.{bytes_of}
use Rattle.sifv.specs.laws.Direct.{one_tests}
use Rattle.sifv.proofs.one_ok.Goals as goal

pub returns : goal.returns
returns c =
    let s = c.args in
    one_tests s.s.now s.at (bytes_of s.s.now (λ i. omega (arith, c.type_inv.s i))) c.requires
    c.wide.ensures.0 c.get_u64.ensures c.item_ok-ok.ensures c.all_zero.ensures c.all_zero-2.ensures
