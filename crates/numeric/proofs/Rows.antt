-- Indexes from numbers, computed: document 02, M-103, "Whole numbers from 0 up to below 2^64 pass, and minus zero is 0. NaN, negatives, fractions, infinities
-- and larger numbers stop the step." A row has a number's bit pattern and its index; each border has its neighbours. And which patterns are a finite number's:
-- document 02, M-104, "A Num body that is NaN or infinite". oracle/ compares every row with rules of its own.
use Rattle.std.proofs.Common.{◌≡◌, ℕ, Bool, true, false, List, [], ◌∷◌, refl}
use mathlib.Core.Option.{Option, none, some}
use lib.Ieee.{of_bits, binary64}
use lib.Ieee.Scale.{finite}
use Rattle.numeric.specs.Index.{index_of}

data Row : Type 0 where
  row : (bits : ℕ) (index : Option ℕ) → index_of (of_bits binary64 bits) ≡ index → Row

rows : List Row
unfolding index_of of_bits
rows =
    -- the zeros, and the numbers next to them
    row 0x0000000000000000 (some 0) refl ∷
    row 0x8000000000000000 (some 0) refl ∷
    row 0x0000000000000001 none refl ∷
    row 0x8000000000000001 none refl ∷
    -- fractions and whole numbers: 1 and its neighbours, 1/2, 5/2; case 4's 2.9; 23 and 24
    row 0x3fefffffffffffff none refl ∷
    row 0x3ff0000000000000 (some 1) refl ∷
    row 0x3ff0000000000001 none refl ∷
    row 0x3fe0000000000000 none refl ∷
    row 0x4000000000000000 (some 2) refl ∷
    row 0x4004000000000000 none refl ∷
    row 0x4007333333333333 none refl ∷
    row 0x4037000000000000 (some 23) refl ∷
    row 0x4038000000000000 (some 24) refl ∷
    -- negatives: -1/2, -1 and its neighbours, case 4's -7.9, -2^63, -2^64
    row 0xbfe0000000000000 none refl ∷
    row 0xbfefffffffffffff none refl ∷
    row 0xbff0000000000000 none refl ∷
    row 0xbff0000000000001 none refl ∷
    row 0xc01f99999999999a none refl ∷
    row 0xc3e0000000000000 none refl ∷
    row 0xc3f0000000000000 none refl ∷
    -- 2^32 - 1 and 2^32, each between its neighbours
    row 0x41efffffffdfffff none refl ∷
    row 0x41efffffffe00000 (some 4294967295) refl ∷
    row 0x41efffffffe00001 none refl ∷
    row 0x41efffffffffffff none refl ∷
    row 0x41f0000000000000 (some 4294967296) refl ∷
    row 0x41f0000000000001 none refl ∷
    -- up to 2^52 a number may have a fraction, from there on none has: 2^51, 2^52 and 2^53 between their neighbours
    row 0x431fffffffffffff none refl ∷
    row 0x4320000000000000 (some 2251799813685248) refl ∷
    row 0x4320000000000001 none refl ∷
    row 0x432fffffffffffff none refl ∷
    row 0x4330000000000000 (some 4503599627370496) refl ∷
    row 0x4330000000000001 (some 4503599627370497) refl ∷
    row 0x433fffffffffffff (some 9007199254740991) refl ∷
    row 0x4340000000000000 (some 9007199254740992) refl ∷
    row 0x4340000000000001 (some 9007199254740994) refl ∷
    -- 2^63 between its neighbours
    row 0x43dfffffffffffff (some 9223372036854774784) refl ∷
    row 0x43e0000000000000 (some 9223372036854775808) refl ∷
    row 0x43e0000000000001 (some 9223372036854777856) refl ∷
    -- the largest below 2^64, 2^64, the next, the largest number
    row 0x43efffffffffffff (some 18446744073709549568) refl ∷
    row 0x43f0000000000000 none refl ∷
    row 0x43f0000000000001 none refl ∷
    row 0x7fefffffffffffff none refl ∷
    -- infinities and NaNs
    row 0x7ff0000000000000 none refl ∷
    row 0xfff0000000000000 none refl ∷
    row 0x7ff8000000000000 none refl ∷
    row 0xfff8000000000000 none refl ∷
    row 0x7ff0000000000001 none refl ∷
    row 0x7fffffffffffffff none refl ∷
    []

data Pattern : Type 0 where
  pattern : (bits : ℕ) (answer : Bool) → finite (of_bits binary64 bits) ≡ answer → Pattern

patterns : List Pattern
unfolding of_bits
patterns =
    -- the zeros, the smallest and the largest subnormals, the smallest that is none, 1
    pattern 0x0000000000000000 true refl ∷
    pattern 0x8000000000000000 true refl ∷
    pattern 0x0000000000000001 true refl ∷
    pattern 0x8000000000000001 true refl ∷
    pattern 0x000fffffffffffff true refl ∷
    pattern 0x800fffffffffffff true refl ∷
    pattern 0x0010000000000000 true refl ∷
    pattern 0x3ff0000000000000 true refl ∷
    -- the largest numbers, and those whose exponent is one below all ones
    pattern 0x7fefffffffffffff true refl ∷
    pattern 0xffefffffffffffff true refl ∷
    pattern 0x7fe0000000000000 true refl ∷
    pattern 0xffe0000000000000 true refl ∷
    -- the infinities
    pattern 0x7ff0000000000000 false refl ∷
    pattern 0xfff0000000000000 false refl ∷
    -- NaNs: the first and the last behind an infinity, the quiet one, the last that is not quiet
    pattern 0x7ff0000000000001 false refl ∷
    pattern 0xfff0000000000001 false refl ∷
    pattern 0x7ff7ffffffffffff false refl ∷
    pattern 0x7ff8000000000000 false refl ∷
    pattern 0xfff8000000000000 false refl ∷
    pattern 0x7fffffffffffffff false refl ∷
    pattern 0xffffffffffffffff false refl ∷
    []
