-- `numeric::index_or_max` meets its contract.
use Rattle.std.proofs.Common.{ℕ, ◌%◌, ◌^◌, ◌≤◌, T, sym, ap, ◌∙◌, subst, mod-lt, zero-lt-suc, arith, le→leb}
use lib.Ieee.{of_bits, in_float}
use Rattle.numeric.specs.inner.OrMax.{or_max}
use Rattle.numeric.proofs.Indexes.{index_equal, index_zero}
use Rattle.numeric.proofs.index_or_max.Goals as goal

small : (n : ℕ) → n % 4294967296 ≤ 2 ^ 53
small n = omega (arith, mod-lt n (zero-lt-suc 4294967295))

pub int_to_float-n : goal.int_to_float-n
unfolding in_float
int_to_float-n c = le→leb (c.bits_of-n.result % 4294967296) (2 ^ 53) (small c.bits_of-n.result)

pub returns-then-n-x : goal.returns-then-n-x
returns-then-n-x c = sym (ap or_max (index_equal c.args.x (c.bits_of-n.result % 4294967296) (small c.bits_of-n.result) c.if-n-x.true))

pub returns : goal.returns
unfolding of_bits
returns c = c.exact.ensures ∙ ap or_max (index_zero c.args.x (subst T (sym c.well_formed.0.1) tt))
