-- `numeric::remainder_of` meets its contract.
use Rattle.std.proofs.Common.{◌≡◌, ◌-◌, ◌*◌, ◌%◌, ◌^◌, mod-eq_of_lt, arith}
use lib.Count.{count_leading_zeros}
use Rattle.numeric.proofs.Units.{Moved, moved}
use Rattle.numeric.proofs.Products.{moved_back}
use Rattle.numeric.proofs.remainder_of.Goals as goal
use Rattle.numeric.proofs.remainder_of.Goals.{Else-n-ge-LEADING}

-- where the leading digit of n goes
found : (c : Else-n-ge-LEADING) → Moved c.args.n (count_leading_zeros 64 c.args.n)
found c =
    moved c.args.n c.requires.1 c.requires.2

pub overflow_cast-z : goal.overflow_cast-z
overflow_cast-z c = let m = found (goal.at.overflow_cast-z c).Else-n-ge-LEADING in omega arith

pub overflow_sub-z : goal.overflow_sub-z
overflow_sub-z c = (found (goal.at.overflow_sub-z c).Else-n-ge-LEADING).zeros

pub overflow_shl-n : goal.overflow_shl-n
overflow_shl-n c = let m = found (goal.at.overflow_shl-n c).Else-n-ge-LEADING in omega arith

pub overflow_add-s : goal.overflow_add-s
overflow_add-s c = let m = found (goal.at.overflow_add-s c).Else-n-ge-LEADING in omega arith

pub far-requires-2 : goal.far-requires-2
far-requires-2 c =
    let m = found (goal.at.far-requires-2 c).Else-n-ge-LEADING in
    let n = c.args.n * 2 ^ (count_leading_zeros 64 c.args.n - 11) in
    let same : n % 18446744073709551616 ≡ n = mod-eq_of_lt (omega arith) in
    (c.requires.0, omega arith, omega arith, omega arith)

pub overflow_shr-result : goal.overflow_shr-result
overflow_shr-result c = let m = found (goal.at.overflow_shr-result c).Else-n-ge-LEADING in omega arith

pub returns : goal.returns
returns c =
    moved_back c.args.m c.args.n c.args.s (count_leading_zeros 64 c.args.n - 11) c.far-2.result c.requires.1 (found (goal.at.returns c).Else-n-ge-LEADING).below c.far-2.ensures
