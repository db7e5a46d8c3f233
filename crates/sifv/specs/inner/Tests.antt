-- The tests of a slot's bytes, one after the other. Definitions only.
use Rattle.std.specs.Prelude.{ℕ, ◌+◌, ◌*◌, ◌-◌, ◌%◌, Bool, cond, ◌&&◌, List, ltb, eqb, get_or}
use Rattle.lent.specs.Bytes.{be_value, part, same_bytes}
use Rattle.lent.specs.Lists.{zeros, upto}
use Rattle.sifv.specs.Slot.{single_kind, word_of, single_of, single_ok}

-- the numbers of a kind are below it; 2 ^ 64 - 1 is a NaN's
abbrev pub word_bound : ℕ → ℕ
word_bound k = cond (eqb k 1) 0xffff_ffff_ffff_ffff (cond (eqb k 2) 64 (cond (eqb k 3) 2 (cond (eqb k 4) 1 0)))

-- a kind and a number are the one form of a single value that may be stored
abbrev pub item_ok : ℕ → ℕ → Bool
item_ok k w = let x = single_of k w in single_ok x && (eqb (single_kind x) k && eqb (word_of x) w)

-- item i of a slot's bytes: that; a number; below 2 ^ 1009
abbrev pub item_test : List ℕ → ℕ → Bool
item_test b i = item_ok (get_or b (16 + i) 0) (be_value (part b (40 + i * 8) 8))

abbrev pub number_test : List ℕ → ℕ → Bool
number_test b i = eqb (get_or b (16 + i) 0) 1

abbrev pub moderate_test : List ℕ → ℕ → Bool
moderate_test b i = ltb (get_or b (40 + i * 8) 0 % 128) 127

-- the bytes of an array or a table of n items, but its kind, its length and what lies behind its items
abbrev pub box_ok : ℕ → List ℕ → Bool
box_ok n b =
    same_bytes (part b 2 14) (zeros 14)
    && (upto n (item_test b) && (same_bytes (part b (16 + n) (24 - n)) (zeros (24 - n)) && same_bytes (part b (40 + n * 8) (192 - n * 8)) (zeros (192 - n * 8))))
