-- Which states are accepted, computed: each field at the end of its range and one past it, beside a program of some instructions and where none is lent
-- (document 01, "Numbers given for the state", 10; docs/FORMATS.md, "State"). A row has the count of instructions, the state as runs of bytes, and whether it
-- is accepted; oracle/ compares every row with its own reader. What a slot may hold has its rows in crate sifv.
use Prim.Native.Nat.{ℕ}
use mathlib.Core.Path.{◌≡◌, refl}
use mathlib.Core.Bool.{Bool, true, false}
use mathlib.Core.List.{List, [], ◌∷◌}
use lib.ListN.{replicate}
use Rattle.lent.specs.Bytes.{be_bytes, concat}
use Rattle.sifv.specs.Slot.{encode_slot, decode_slot}
use Rattle.stored.specs.StateBytes.{encode_state, decode_state, state_ok}
use Rattle.lent.specs.Lists.{zeros}

data Row : Type 0 where
  row : (n : ℕ) (state : List ℕ) (accepted : Bool) → state_ok n state ≡ accepted → Row

-- registers and names, each slot in its one form; the mark has the bit of each name that is held
slots : List Row
unfolding state_ok encode_state decode_state encode_slot decode_slot
slots =
    -- register 95 and name 63 with the highest text; a text over 63 in a register and in a name
    row 1 (concat (zeros 24320 ∷ be_bytes 1 2 ∷ zeros 14 ∷ be_bytes 1 63 ∷ zeros 16368 ∷ be_bytes 1 2 ∷ zeros 14 ∷ be_bytes 1 63 ∷ zeros 6608 ∷ be_bytes 1 128 ∷ zeros 31 ∷ [])) true refl ∷
    row 1 (concat (zeros 24320 ∷ be_bytes 1 2 ∷ zeros 14 ∷ be_bytes 1 64 ∷ zeros 23024 ∷ [])) false refl ∷
    row 1 (concat (zeros 24576 ∷ be_bytes 1 2 ∷ zeros 14 ∷ be_bytes 1 64 ∷ zeros 22743 ∷ be_bytes 1 1 ∷ zeros 24 ∷ [])) false refl ∷
    -- an array and a table of nothing; an array of a text over 63
    row 1 (concat (be_bytes 2 0x0501 ∷ zeros 14 ∷ be_bytes 1 4 ∷ zeros 239 ∷ be_bytes 2 0x0601 ∷ zeros 14 ∷ be_bytes 1 4 ∷ zeros 47087 ∷ [])) true refl ∷
    row 1 (concat (be_bytes 2 0x0501 ∷ zeros 14 ∷ be_bytes 1 2 ∷ zeros 23 ∷ be_bytes 8 64 ∷ zeros 47312 ∷ [])) false refl ∷
    -- a byte that the value does not use
    row 1 (concat (zeros 255 ∷ be_bytes 1 1 ∷ zeros 47104 ∷ [])) false refl ∷
    -- a name that is held, without its bit; a bit without its name
    row 1 (concat (zeros 24832 ∷ be_bytes 1 4 ∷ zeros 22527 ∷ [])) false refl ∷
    row 1 (concat (zeros 47335 ∷ be_bytes 1 1 ∷ zeros 24 ∷ [])) false refl ∷
    []

-- values and frames below their depths, 24 at most, and nothing above; return positions below the count
stacks : List Row
unfolding state_ok encode_state decode_state encode_slot decode_slot
stacks =
    -- a value, a frame, functions of texts 0 and 63 and the position, all as high as 5 instructions allow; for 4 they are too high
    row 5 (concat (zeros 40960 ∷ be_bytes 1 4 ∷ zeros 6143 ∷ be_bytes 2 4 ∷ zeros 94 ∷ be_bytes 2 5 ∷ zeros 124 ∷ be_bytes 2 5 ∷ zeros 16 ∷ be_bytes 2 5 ∷ be_bytes 2 0x0101 ∷ zeros 12 ∷ [])) true refl ∷
    row 4 (concat (zeros 40960 ∷ be_bytes 1 4 ∷ zeros 6143 ∷ be_bytes 2 4 ∷ zeros 94 ∷ be_bytes 2 5 ∷ zeros 124 ∷ be_bytes 2 5 ∷ zeros 16 ∷ be_bytes 2 5 ∷ be_bytes 2 0x0101 ∷ zeros 12 ∷ [])) false refl ∷
    -- a value with a text over 63; a depth with no value; a value above the depth; a frame above the depth
    row 5 (concat (zeros 40960 ∷ be_bytes 1 2 ∷ zeros 14 ∷ be_bytes 1 64 ∷ zeros 6370 ∷ be_bytes 1 1 ∷ zeros 13 ∷ [])) false refl ∷
    row 5 (concat (zeros 47346 ∷ be_bytes 1 1 ∷ zeros 13 ∷ [])) false refl ∷
    row 5 (concat (zeros 40960 ∷ be_bytes 1 4 ∷ zeros 6399 ∷ [])) false refl ∷
    row 5 (concat (zeros 47104 ∷ be_bytes 2 1 ∷ zeros 254 ∷ [])) false refl ∷
    -- 24 values and 24 frames; 25 values; 25 frames; a byte of a frame that is no position
    row 5 (concat (zeros 40960 ∷ be_bytes 1 4 ∷ zeros 255 ∷ be_bytes 1 4 ∷ zeros 255 ∷ be_bytes 1 4 ∷ zeros 255 ∷ be_bytes 1 4 ∷ zeros 255 ∷ be_bytes 1 4 ∷ zeros 255 ∷ be_bytes 1 4 ∷ zeros 255 ∷ be_bytes 1 4 ∷ zeros 255 ∷ be_bytes 1 4 ∷ zeros 255 ∷ be_bytes 1 4 ∷ zeros 255 ∷ be_bytes 1 4 ∷ zeros 255 ∷ be_bytes 1 4 ∷ zeros 255 ∷ be_bytes 1 4 ∷ zeros 255 ∷ be_bytes 1 4 ∷ zeros 255 ∷ be_bytes 1 4 ∷ zeros 255 ∷ be_bytes 1 4 ∷ zeros 255 ∷ be_bytes 1 4 ∷ zeros 255 ∷ be_bytes 1 4 ∷ zeros 255 ∷ be_bytes 1 4 ∷ zeros 255 ∷ be_bytes 1 4 ∷ zeros 255 ∷ be_bytes 1 4 ∷ zeros 255 ∷ be_bytes 1 4 ∷ zeros 255 ∷ be_bytes 1 4 ∷ zeros 255 ∷ be_bytes 1 4 ∷ zeros 255 ∷ be_bytes 1 4 ∷ zeros 255 ∷ zeros 242 ∷ be_bytes 2 0x1818 ∷ zeros 12 ∷ [])) true refl ∷
    row 5 (concat (zeros 40960 ∷ be_bytes 1 4 ∷ zeros 255 ∷ be_bytes 1 4 ∷ zeros 255 ∷ be_bytes 1 4 ∷ zeros 255 ∷ be_bytes 1 4 ∷ zeros 255 ∷ be_bytes 1 4 ∷ zeros 255 ∷ be_bytes 1 4 ∷ zeros 255 ∷ be_bytes 1 4 ∷ zeros 255 ∷ be_bytes 1 4 ∷ zeros 255 ∷ be_bytes 1 4 ∷ zeros 255 ∷ be_bytes 1 4 ∷ zeros 255 ∷ be_bytes 1 4 ∷ zeros 255 ∷ be_bytes 1 4 ∷ zeros 255 ∷ be_bytes 1 4 ∷ zeros 255 ∷ be_bytes 1 4 ∷ zeros 255 ∷ be_bytes 1 4 ∷ zeros 255 ∷ be_bytes 1 4 ∷ zeros 255 ∷ be_bytes 1 4 ∷ zeros 255 ∷ be_bytes 1 4 ∷ zeros 255 ∷ be_bytes 1 4 ∷ zeros 255 ∷ be_bytes 1 4 ∷ zeros 255 ∷ be_bytes 1 4 ∷ zeros 255 ∷ be_bytes 1 4 ∷ zeros 255 ∷ be_bytes 1 4 ∷ zeros 255 ∷ be_bytes 1 4 ∷ zeros 255 ∷ zeros 242 ∷ be_bytes 2 0x1918 ∷ zeros 12 ∷ [])) false refl ∷
    row 5 (concat (zeros 47347 ∷ be_bytes 1 25 ∷ zeros 12 ∷ [])) false refl ∷
    row 5 (concat (zeros 47107 ∷ be_bytes 1 1 ∷ zeros 239 ∷ be_bytes 1 1 ∷ zeros 12 ∷ [])) false refl ∷
    []

-- functions below the count, the position at most it, any count of steps, zeros behind the depths
numbers : List Row
unfolding state_ok encode_state decode_state encode_slot decode_slot
numbers =
    -- a function past the end, a position past the end
    row 5 (concat (zeros 47326 ∷ be_bytes 2 6 ∷ zeros 32 ∷ [])) false refl ∷
    row 5 (concat (zeros 47344 ∷ be_bytes 2 6 ∷ zeros 14 ∷ [])) false refl ∷
    -- where no program is lent, 1,024 stands for the count; the highest count of steps; bytes behind the fields
    row 1024 (concat (zeros 47104 ∷ be_bytes 2 1023 ∷ zeros 94 ∷ be_bytes 2 1024 ∷ zeros 134 ∷ be_bytes 8 0xffffffffffffffff ∷ be_bytes 2 1024 ∷ zeros 1 ∷ be_bytes 1 1 ∷ zeros 12 ∷ replicate 9 7 ∷ [])) true refl ∷
    row 1024 (concat (zeros 47104 ∷ be_bytes 2 1024 ∷ zeros 241 ∷ be_bytes 1 1 ∷ zeros 12 ∷ [])) false refl ∷
    row 1024 (concat (zeros 47200 ∷ be_bytes 2 1025 ∷ zeros 158 ∷ [])) false refl ∷
    row 1024 (concat (zeros 47344 ∷ be_bytes 2 1025 ∷ zeros 14 ∷ [])) false refl ∷
    -- the last of the zeros
    row 5 (concat (zeros 47359 ∷ be_bytes 1 1 ∷ [])) false refl ∷
    []
