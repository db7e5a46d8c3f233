-- `sifv::item_ok` meets its contract.
use Rattle.sifv.specs.laws.Direct.{item_law}
use Rattle.sifv.proofs.item_ok.Goals as goal
use Rattle.sifv.proofs.item_ok.Goals.{Start}

pub returns : goal.returns
returns c =
    let s = (goal.at.returns c).Start in
    item_law s.args.kind s.args.word s.ranges.word.fits c.word_bound.ensures c.canonical.ensures
