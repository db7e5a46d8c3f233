-- Which slots are accepted, computed: what each field may hold at the end of its range and one past it (docs/FORMATS.md, "Value slot"; document 01,
-- "Numbers given for the state", 10). A row has the slot as runs of bytes, and whether it is accepted; oracle/ compares every row with its own reader. The
-- one NaN and the order of keys are in Examples.antt.
use mathlib.Core.Path.{◌≡◌, refl}
use mathlib.Core.Bool.{Bool, true, false}
use mathlib.Core.List.{List, [], ◌∷◌}
use Prim.Native.Nat.{ℕ}
use lib.ListN.{replicate}
use Rattle.lent.specs.Bytes.{be_bytes, concat}
use Rattle.lent.specs.Lists.{zeros}
use Rattle.sifv.specs.Slot.{encode_slot, decode_slot, slot_ok}

data Row : Type 0 where
  row : (slot : List ℕ) (accepted : Bool) → slot_ok slot ≡ accepted → Row

-- single values: the kind's byte, what it holds, zeros behind
singles : List Row
unfolding slot_ok encode_slot decode_slot
singles =
    -- the highest text; a text over 63; yes; nothing
    row (concat (be_bytes 1 2 ∷ zeros 14 ∷ be_bytes 1 63 ∷ zeros 240 ∷ [])) true refl ∷
    row (concat (be_bytes 1 2 ∷ zeros 14 ∷ be_bytes 1 64 ∷ zeros 240 ∷ [])) false refl ∷
    row (concat (be_bytes 1 3 ∷ zeros 14 ∷ be_bytes 1 1 ∷ zeros 240 ∷ [])) true refl ∷
    row (concat (be_bytes 1 4 ∷ zeros 255 ∷ [])) true refl ∷
    -- an unknown kind; a Bl of 2; a Null with a payload; a byte that the value does not use
    row (concat (be_bytes 1 7 ∷ zeros 255 ∷ [])) false refl ∷
    row (concat (be_bytes 1 3 ∷ zeros 14 ∷ be_bytes 1 2 ∷ zeros 240 ∷ [])) false refl ∷
    row (concat (be_bytes 1 4 ∷ zeros 14 ∷ be_bytes 1 1 ∷ zeros 240 ∷ [])) false refl ∷
    row (concat (zeros 255 ∷ be_bytes 1 1 ∷ [])) false refl ∷
    -- an array's item: the highest text; a text over 63; an unknown kind; a Bl of 2; a Null with a payload
    row (concat (be_bytes 2 0x0501 ∷ zeros 14 ∷ be_bytes 1 2 ∷ zeros 23 ∷ be_bytes 8 63 ∷ zeros 208 ∷ [])) true refl ∷
    row (concat (be_bytes 2 0x0501 ∷ zeros 14 ∷ be_bytes 1 2 ∷ zeros 23 ∷ be_bytes 8 64 ∷ zeros 208 ∷ [])) false refl ∷
    row (concat (be_bytes 2 0x0501 ∷ zeros 14 ∷ be_bytes 1 5 ∷ zeros 239 ∷ [])) false refl ∷
    row (concat (be_bytes 2 0x0501 ∷ zeros 14 ∷ be_bytes 1 3 ∷ zeros 23 ∷ be_bytes 8 2 ∷ zeros 208 ∷ [])) false refl ∷
    row (concat (be_bytes 2 0x0501 ∷ zeros 14 ∷ be_bytes 1 4 ∷ zeros 23 ∷ be_bytes 8 1 ∷ zeros 208 ∷ [])) false refl ∷
    -- a table's value: the highest text; a text over 63
    row (concat (be_bytes 2 0x0601 ∷ zeros 14 ∷ be_bytes 1 2 ∷ zeros 23 ∷ be_bytes 8 63 ∷ zeros 208 ∷ [])) true refl ∷
    row (concat (be_bytes 2 0x0601 ∷ zeros 14 ∷ be_bytes 1 2 ∷ zeros 23 ∷ be_bytes 8 64 ∷ zeros 208 ∷ [])) false refl ∷
    []

-- arrays and tables by their length
lengths : List Row
unfolding slot_ok encode_slot decode_slot
lengths =
    -- 24 items, and 25; 16 keys, and 17
    row (concat (be_bytes 2 0x0518 ∷ zeros 14 ∷ replicate 24 4 ∷ zeros 216 ∷ [])) true refl ∷
    row (concat (be_bytes 2 0x0519 ∷ zeros 14 ∷ replicate 24 4 ∷ zeros 216 ∷ [])) false refl ∷
    row (concat (be_bytes 2 0x0610 ∷ zeros 14 ∷ replicate 16 4 ∷ zeros 200 ∷ be_bytes 16 0x000102030405060708090a0b0c0d0e0f ∷ zeros 8 ∷ [])) true refl ∷
    row (concat (be_bytes 2 0x0611 ∷ zeros 14 ∷ replicate 17 4 ∷ zeros 199 ∷ be_bytes 16 0x000102030405060708090a0b0c0d0e0f ∷ zeros 8 ∷ [])) false refl ∷
    []

-- a table's keys: texts below 64, each once
keys : List Row
unfolding slot_ok encode_slot decode_slot
keys =
    -- the two highest; one over 63; a key twice
    row (concat (be_bytes 2 0x0602 ∷ zeros 14 ∷ be_bytes 2 0x0404 ∷ zeros 214 ∷ be_bytes 2 0x3e3f ∷ zeros 22 ∷ [])) true refl ∷
    row (concat (be_bytes 2 0x0601 ∷ zeros 14 ∷ be_bytes 1 4 ∷ zeros 215 ∷ be_bytes 1 64 ∷ zeros 23 ∷ [])) false refl ∷
    row (concat (be_bytes 2 0x0602 ∷ zeros 14 ∷ be_bytes 2 0x0404 ∷ zeros 214 ∷ be_bytes 2 0x0303 ∷ zeros 22 ∷ [])) false refl ∷
    []
