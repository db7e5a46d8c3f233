-- The remainder of two numbers, with no rounding. Document 01, "Running": "`%` is Rust's truncated remainder, not IEEE 754's: exactly the dividend less
-- the divisor times the quotient cut toward zero, with the dividend's sign, also on zero; NaN for a NaN, an infinite dividend or a zero divisor; a finite
-- dividend itself for an infinite divisor." Definitions and worked examples; the laws are in Exact.
use Rattle.std.specs.Prelude.{◌≡◌, true, false, pos, negsuc, refl}
use Rattle.std.specs.Float.{nan, inf, fin}
use Rattle.std.specs.Float.Ieee.{rem, fits}
use Rattle.numeric.specs.Remainder.{Remainder, modu}

-- ---- worked examples

-- 5.5 % 2 is 1.5, -5.5 % 2 is -1.5, 5.5 % -2 is 1.5, -4 % 2 is -0
positive : Remainder (fin false 11 (negsuc 0)) (fin false 1 (pos 1)) (fin false 3 (negsuc 0))
unfolding fits
positive = (tt, (refl, refl))

negative : Remainder (fin true 11 (negsuc 0)) (fin false 1 (pos 1)) (fin true 3 (negsuc 0))
unfolding fits
negative = (tt, (refl, refl))

by_negative : Remainder (fin false 11 (negsuc 0)) (fin true 1 (pos 1)) (fin false 3 (negsuc 0))
unfolding fits
by_negative = (tt, (refl, refl))

minus_zero : Remainder (fin true 1 (pos 2)) (fin false 1 (pos 1)) (fin true 0 (pos 0))
unfolding fits
minus_zero = (tt, (refl, refl))

-- 2^1000 % 3 is 1, 1 % 2^-1074 is 0, 1 % -inf is 1, 1 % -0 is the NaN
large : Remainder (fin false 1 (pos 1000)) (fin false 3 (pos 0)) (fin false 1 (pos 0))
unfolding fits
large = (tt, (refl, refl))

tiny : Remainder (fin false 1 (pos 0)) (fin false 1 (negsuc 1073)) (fin false 0 (pos 0))
unfolding fits
tiny = (tt, (refl, refl))

by_inf : Remainder (fin false 1 (pos 0)) (inf true) (fin false 1 (pos 0))
by_inf = refl

by_zero : Remainder (fin false 1 (pos 0)) (fin true 0 (pos 0)) nan
by_zero = refl

-- computed: -5.5 % 2 is -1.5, and 2^1000 % 3 is 1
computed : modu (fin true 11 (negsuc 0)) (fin false 1 (pos 1)) ≡ fin true 3 (negsuc 0)
unfolding rem
computed = refl

computed_large : modu (fin false 1 (pos 1000)) (fin false 3 (pos 0)) ≡ fin false 1 (pos 0)
unfolding rem
computed_large = refl
