-- `lent::move_u64` meets its contract.
use native.Mathlib.Omega.{arith}
use Rattle.lent.specs.laws.Each.{each_of}
use Rattle.lent.specs.laws.Numbers.{moved_eight}
use Rattle.lent.proofs.move_u64.Goals as goal

pub returns : goal.returns
returns c =
    moved_eight c.args.d.now c.args.from c.args.to
    (each_of c.args.d.now 0 (λ i h. omega (arith, c.slice_known-1.given i)))
    c.requires.0 c.get_u64.ensures c.put_u64.ensures
