-- `numeric::product` meets its contract.
use Rattle.std.proofs.Common.{arith}
use Rattle.numeric.proofs.Products.{Small, small, product_same}
use Rattle.numeric.proofs.product.Goals as goal
use Rattle.numeric.proofs.product.Goals.{Start}

fits : (c : Start) → Small c.args.a c.args.b
fits c = small c.args.a c.args.b c.requires.0 c.requires.1

pub overflow_mul-a : goal.overflow_mul-a
overflow_mul-a c = omega (arith, (fits (goal.at.overflow_mul-a c).Start).high)

pub shifted-high-requires : goal.shifted-high-requires
shifted-high-requires c = ((fits (goal.at.shifted-high-requires c).Start).high, c.requires.2)

pub overflow_mul-middle : goal.overflow_mul-middle
overflow_mul-middle c = omega (arith, (fits (goal.at.overflow_mul-middle c).Start).cross)

pub overflow_mul-middle-2 : goal.overflow_mul-middle-2
overflow_mul-middle-2 c = omega (arith, (fits (goal.at.overflow_mul-middle-2 c).Start).cross')

pub overflow_add-middle : goal.overflow_add-middle
overflow_add-middle c = omega (arith, (fits (goal.at.overflow_add-middle c).Start).cross, (fits (goal.at.overflow_add-middle c).Start).cross')

pub overflow_add-high : goal.overflow_add-high
overflow_add-high c = omega (arith, (fits (goal.at.overflow_add-high c).Start).cross, (fits (goal.at.overflow_add-high c).Start).cross', c.shifted-high.ensures.1)

pub shifted-requires : goal.shifted-requires
shifted-requires c = (omega (arith, (fits (goal.at.shifted-requires c).Start).cross, (fits (goal.at.shifted-requires c).Start).cross', c.shifted-high.ensures.1), c.requires.2)

pub overflow_mul-result : goal.overflow_mul-result
overflow_mul-result c = omega (arith, (fits (goal.at.overflow_mul-result c).Start).low)

pub overflow_add-result : goal.overflow_add-result
overflow_add-result c = omega (arith, (fits (goal.at.overflow_add-result c).Start).low, c.shifted.ensures.1)

pub returns : goal.returns
returns c =
    let start = (goal.at.returns c).Start in (
      product_same start.args.a start.args.b start.args.n c.shifted-high.result c.shifted.result c.shifted-high.ensures.0 c.shifted.ensures.0,
      omega (arith, (fits start).low, c.shifted.ensures.1),
    )
