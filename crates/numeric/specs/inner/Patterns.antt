-- The bit pattern of a number, with one for the NaN. Document 01, "Running": "All NaNs count as one value", "and the listing prints each as
-- 7ff8000000000000". Definitions only.
use Rattle.std.specs.Prelude.{ℕ, to_bits, Float}
use Rattle.std.specs.Float.{binary64}

-- the number of a pattern n is `of_bits binary64 n`
abbrev pub bits_of : Float → ℕ
bits_of x = to_bits binary64 x
