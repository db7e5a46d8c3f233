-- `numeric::index_of` meets its contract.
use Rattle.std.proofs.Common.{T, sym, ap, subst}
use Rattle.numeric.specs.Index.{index_of, index_told}
use Rattle.numeric.proofs.Indexes.{max_none, max_some}
use Rattle.numeric.proofs.index_of.Goals as goal

pub returns-then-n : goal.returns-then-n
returns-then-n c =
    sym (ap index_told (max_none c.args.x (subst T (sym c.well_formed.0.1) tt) c.index_or_max-n.ensures c.if-n.true))

pub returns : goal.returns
returns c =
    sym (ap index_told (max_some (index_of c.args.x) c.index_or_max-n.ensures c.if-n.false))
