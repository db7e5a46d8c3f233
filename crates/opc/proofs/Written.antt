-- Records as they are written, computed: every operation, with zeros where it has no field (docs/FORMATS.md, "Program buffer"). Reading does not look there, so
-- neither Rows.antt nor `instr_back` says it. A row has the instruction, the entry of the pool at which its items begin, and the record as one number of 16 bytes.
use Prim.Native.Nat.{ℕ}
use mathlib.Core.Path.{◌≡◌, refl}
use mathlib.Core.Bool.{true}
use mathlib.Core.List.{List, [], ◌∷◌}
use lib.Ieee.{of_bits, to_bits, binary64}
use Rattle.lent.specs.Bytes.{be_bytes}
use Rattle.sifv.specs.Value.{Single, Num, Bl, Null, One, Arr, Tab}
use Rattle.sifv.specs.Value.{Str as Text}
use Rattle.opc.specs.Op.{Add, Lor, Nneg, Jmpt, Jmpf}
use Rattle.opc.specs.Op.{Binary, Unary, Ldc, Ldn, Mv, Ldas, Ldav, Upda, Stc, Stn, Str, JmpCnd, Jmpa, Incrr, Decrr, Fn, Call, FnRet, FnStackPush, FnStackPop, Tbli, Tblg, Nop, Stop, Instr, instr}
use Rattle.opc.specs.Record.{encode_instr, item_bytes}

data Row : Type 0 where
  row : (i : Instr) (entry bytes : ℕ) → encode_instr i entry ≡ be_bytes 16 bytes → Row

records : List Row
unfolding of_bits to_bits
records =
    -- operators
    row (instr 1023 (Binary Add 95 94 93)) 5 0x010103ff5f5e5d000000000000000000 refl ∷
    row (instr 1023 (Binary Lor 95 94 93)) 5 0x010e03ff5f5e5d000000000000000000 refl ∷
    row (instr 1023 (Unary Nneg 95 94)) 5 0x020203ff5f5e00000000000000000000 refl ∷
    -- single literals: a number, every NaN in one pattern, a text, a yes/no, nothing
    row (instr 1023 (Ldc 95 (One (Num (of_bits binary64 0x4000000000000000))))) 5 0x030103ff5f0000004000000000000000 refl ∷
    row (instr 1023 (Ldc 95 (One (Num (of_bits binary64 0xfff4000000000001))))) 5 0x030103ff5f0000007ff8000000000000 refl ∷
    row (instr 1023 (Ldc 95 (One (Text 63)))) 5 0x030203ff5f000000000000000000003f refl ∷
    row (instr 1023 (Stc (One (Bl true)) 63)) 5 0x090303ff3f0000000000000000000001 refl ∷
    row (instr 1023 (Stc (One Null) 63)) 5 0x090403ff3f0000000000000000000000 refl ∷
    -- arrays and parameters with their length and first entry of the pool, also where there are none; a table
    row (instr 1023 (Ldc 95 (Arr (Null ∷ Null ∷ [])))) 5 0x030503ff5f0000020000000000000005 refl ∷
    row (instr 1023 (Stc (Arr []) 63)) 5 0x090503ff3f0000000000000000000005 refl ∷
    row (instr 1023 (Stc (Tab []) 63)) 5 0x090603ff3f0000000000000000000000 refl ∷
    row (instr 1023 (Fn 63 (7 ∷ 62 ∷ []))) 5 0x100003ff3f0000020000000000000005 refl ∷
    row (instr 1023 (Fn 63 [])) 5 0x100003ff3f0000000000000000000005 refl ∷
    -- registers and names
    row (instr 1023 (Ldn 95 63)) 5 0x040003ff5f3f00000000000000000000 refl ∷
    row (instr 1023 (Mv 95 94)) 5 0x050003ff5f5e00000000000000000000 refl ∷
    row (instr 1023 (Ldas 63 95)) 5 0x060003ff3f5f00000000000000000000 refl ∷
    row (instr 1023 (Ldav 63 95 94)) 5 0x070003ff3f5f5e000000000000000000 refl ∷
    row (instr 1023 (Upda 63 95 94)) 5 0x080003ff3f5f5e000000000000000000 refl ∷
    row (instr 1023 (Stn 63 62)) 5 0x0a0003ff3f3e00000000000000000000 refl ∷
    row (instr 1023 (Str 95 63)) 5 0x0b0003ff5f3f00000000000000000000 refl ∷
    row (instr 1023 (Incrr 95)) 5 0x0e0003ff5f0000000000000000000000 refl ∷
    row (instr 1023 (Decrr 95)) 5 0x0f0003ff5f0000000000000000000000 refl ∷
    row (instr 1023 (FnStackPush 95)) 5 0x130003ff5f0000000000000000000000 refl ∷
    row (instr 1023 (FnStackPop 95)) 5 0x140003ff5f0000000000000000000000 refl ∷
    row (instr 1023 (Tbli 63 62 95)) 5 0x150003ff3f3e5f000000000000000000 refl ∷
    row (instr 1023 (Tblg 63 62 95)) 5 0x160003ff3f3e5f000000000000000000 refl ∷
    -- jumps and calls; no operands
    row (instr 1023 (JmpCnd Jmpt 95 1022)) 5 0x0c0103ff5f00000000000000000003fe refl ∷
    row (instr 1023 (JmpCnd Jmpf 95 1022)) 5 0x0c0203ff5f00000000000000000003fe refl ∷
    row (instr 1023 (Jmpa 1022)) 5 0x0d0003ff0000000000000000000003fe refl ∷
    row (instr 1023 (Call 63 255)) 5 0x110003ff3f00000000000000000000ff refl ∷
    row (instr 1023 FnRet) 5 0x120003ff000000000000000000000000 refl ∷
    row (instr 1023 Nop) 5 0x170003ff000000000000000000000000 refl ∷
    row (instr 1023 Stop) 5 0x180003ff000000000000000000000000 refl ∷
    []

-- an entry of the pool
data Item : Type 0 where
  item : (s : Single) (bytes : ℕ) → item_bytes s ≡ be_bytes 16 bytes → Item

items : List Item
unfolding of_bits to_bits
items =
    item (Num (of_bits binary64 0x4000000000000000)) 0x01000000000000004000000000000000 refl ∷
    item (Text 63) 0x0200000000000000000000000000003f refl ∷
    item (Bl true) 0x03000000000000000000000000000001 refl ∷
    item Null 0x04000000000000000000000000000000 refl ∷
    []
