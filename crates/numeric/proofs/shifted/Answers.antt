-- `numeric::shifted` meets its contract.
use Rattle.std.proofs.Common.{◌*◌, ◌/◌, arith}
use Rattle.numeric.proofs.Products.{Quotient, Parts, quotient_fits, quotient, parts, shift_same}
use Rattle.numeric.proofs.shifted.Goals as goal
use Rattle.numeric.proofs.shifted.Goals.{Start}

guess : (c : Start) → Quotient c.args.r c.args.n (c.args.r / 67108864 * c.args.v / 2147483648)
guess c = quotient c.args.r c.args.n c.args.v c.requires.0 c.requires.1

cut : (c : Start) → Parts c.args.r c.args.n (c.args.r / 67108864 * c.args.v / 2147483648)
cut c = parts _ _ _ (guess c)

pub overflow_mul-q : goal.overflow_mul-q
overflow_mul-q c = omega (arith, quotient_fits c.args.r c.args.n c.args.v c.requires.0 c.requires.1)

pub overflow_mul-result : goal.overflow_mul-result
overflow_mul-result c = omega (arith, (cut (goal.at.overflow_mul-result c).Start).first)

pub overflow_sub-result : goal.overflow_sub-result
overflow_sub-result c = (cut (goal.at.overflow_sub-result c).Start).first

pub overflow_mul-result-2 : goal.overflow_mul-result-2
overflow_mul-result-2 c = omega (arith, (cut (goal.at.overflow_mul-result-2 c).Start).shift)

pub overflow_mul-result-3 : goal.overflow_mul-result-3
overflow_mul-result-3 c = omega (arith, (cut (goal.at.overflow_mul-result-3 c).Start).second, (cut (goal.at.overflow_mul-result-3 c).Start).shift)

pub overflow_sub-result-2 : goal.overflow_sub-result-2
overflow_sub-result-2 c = (cut (goal.at.overflow_sub-result-2 c).Start).second

pub returns : goal.returns
returns c = (shift_same _ c.args.r c.args.n _ (cut (goal.at.returns c).Start).same, omega (arith, (cut (goal.at.returns c).Start).same, (guess (goal.at.returns c).Start).near))
