-- `sifv::item` meets its contract.
use mathlib.Core.Path.{refl}
use native.Mathlib.Omega.{arith}
use Rattle.sifv.specs.laws.Boxed.{item_law, item_below}
use Rattle.sifv.proofs.item.Goals as goal

pub overflow_add-result : goal.overflow_add-result
overflow_add-result c = omega (arith, item_below c.args.s.now c.args.at c.args.i c.requires.0 c.requires.1 c.requires.2)

pub overflow_add-result-2 : goal.overflow_add-result-2
overflow_add-result-2 c = omega (arith, item_below c.args.s.now c.args.at c.args.i c.requires.0 c.requires.1 c.requires.2)

pub bounds-s-at : goal.bounds-s-at
bounds-s-at c =
    omega (arith, item_below c.args.s.now c.args.at c.args.i c.requires.0 c.requires.1 c.requires.2)

pub overflow_mul-i : goal.overflow_mul-i
overflow_mul-i c =
    omega (arith, item_below c.args.s.now c.args.at c.args.i c.requires.0 c.requires.1 c.requires.2)

pub overflow_add-i : goal.overflow_add-i
overflow_add-i c =
    omega (arith, item_below c.args.s.now c.args.at c.args.i c.requires.0 c.requires.1 c.requires.2)

pub overflow_add-at : goal.overflow_add-at
overflow_add-at c =
    omega (arith, item_below c.args.s.now c.args.at c.args.i c.requires.0 c.requires.1 c.requires.2)

pub get_u64-requires : goal.get_u64-requires
get_u64-requires c =
    omega (arith, item_below c.args.s.now c.args.at c.args.i c.requires.0 c.requires.1 c.requires.2)

pub returns : goal.returns
returns c =
    item_law c.args.s.now c.args.at c.args.i c.requires.0 c.requires.1 c.requires.2 refl c.get_u64.ensures
