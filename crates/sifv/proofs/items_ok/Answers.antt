-- `sifv::items_ok` meets its contract.
use mathlib.Core.Path.{sym, ◌∙◌}
use native.Mathlib.Omega.{arith}
use Rattle.lent.specs.Bytes.{part}
use Rattle.lent.specs.laws.Each.{bytes_of, each_part}
use Rattle.lent.specs.laws.Parts.{length_part}
use Rattle.sifv.specs.laws.Direct.{moderate_numbers_law}
use Rattle.sifv.proofs.items_ok.Goals as goal

pub returns-then-moderate_numbers : goal.returns-then-moderate_numbers
returns-then-moderate_numbers c =
    let s = c.args in
    c.if-moderate_numbers.true
    ∙ moderate_numbers_law (part s.s.now s.at 256) s.n
    (each_part s.at 256 (bytes_of s.s.now (λ i. omega (arith, c.type_inv.s i))))
    (length_part s.s.now s.at 256 c.requires.0) c.requires.1 (sym c.moderate_numbers.ensures ∙ c.if-moderate_numbers.true)
