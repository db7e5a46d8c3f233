-- `sifv::table::has_key` meets its contract.
use Rattle.sifv.specs.laws.Tables.{has_none, has_this}
use Rattle.sifv.proofs.table.has_key.Goals as goal

pub returns-then-n-i : goal.returns-then-n-i
returns-then-n-i c =
    let a = c.args in
    has_none a.s.now a.at a.n a.i a.key c.requires.1 c.requires.2 c.if-n-i.true

pub returns : goal.returns
returns c =
    let a = c.args in
    has_this a.s.now a.at a.n a.i a.key c.requires.1 c.requires.2 c.if-n-i.false c.wide.ensures.0
