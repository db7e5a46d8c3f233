-- Instructions in range: document 01, "Numbers given for the input", 8. Definitions only.
use Rattle.std.specs.Prelude.{Bool, true, false, ◌&&◌, [], ◌∷◌, List, leb, T, length, ℕ}
use Rattle.sifv.specs.Value.{Value, One, Arr, Tab}
use Rattle.sifv.specs.Slot.{single_ok, singles_ok}
use Rattle.opc.specs.Record.{text_ok, reg_ok, lbl_ok}
use Rattle.opc.specs.Op.{Op, Binary, Unary, Ldc, Ldn, Mv, Ldas, Ldav, Upda, Stc, Stn, Str, JmpCnd, Jmpa, Incrr, Decrr, Fn, Call, FnRet, FnStackPush, FnStackPop, Tbli, Tblg, Nop, Stop, Instr, instr}
use Rattle.std.proofs.Math.Option.{some}
use Rattle.sifv.specs.Limits.{ValueFits}

-- a literal: single, an array of at most 24 items, or the empty table
abbrev pub literal_ok : Value → Bool
literal_ok (One s) = single_ok s
literal_ok (Arr l) = leb (length l) 24 && singles_ok l
literal_ok (Tab []) = true
literal_ok (Tab (e ∷ t)) = false

abbrev pub params_ok : List ℕ → Bool
params_ok [] = true
params_ok (t ∷ ts) = text_ok t && params_ok ts

abbrev pub op_ok : Op → Bool
op_ok (Binary k a b d) = reg_ok a && (reg_ok b && reg_ok d)
op_ok (Unary k a d) = reg_ok a && reg_ok d
op_ok (Ldc d v) = reg_ok d && literal_ok v
op_ok (Ldn d n) = reg_ok d && text_ok n
op_ok (Mv s d) = reg_ok s && reg_ok d
op_ok (Ldas n d) = text_ok n && reg_ok d
op_ok (Ldav n i d) = text_ok n && (reg_ok i && reg_ok d)
op_ok (Upda n i v) = text_ok n && (reg_ok i && reg_ok v)
op_ok (Stc v n) = text_ok n && literal_ok v
op_ok (Stn s d) = text_ok s && text_ok d
op_ok (Str s n) = reg_ok s && text_ok n
op_ok (JmpCnd k s l) = reg_ok s && lbl_ok l
op_ok (Jmpa l) = lbl_ok l
op_ok (Incrr s) = reg_ok s
op_ok (Decrr s) = reg_ok s
op_ok (Fn n ps) = text_ok n && (params_ok ps && leb (length ps) 255)
op_ok (Call n k) = text_ok n && leb k 255
op_ok FnRet = true
op_ok (FnStackPush s) = reg_ok s
op_ok (FnStackPop d) = reg_ok d
op_ok (Tbli t k s) = text_ok t && (text_ok k && reg_ok s)
op_ok (Tblg t k d) = text_ok t && (text_ok k && reg_ok d)
op_ok Nop = true
op_ok Stop = true

abbrev pub instr_ok : Instr → Bool
instr_ok (instr l o) = lbl_ok l && op_ok o

-- the numbers in its literal fit in 64 bits
abbrev pub OpFits : Op → Type 0
OpFits (Binary k a b d) = T true
OpFits (Unary k a d) = T true
OpFits (Ldc d v) = ValueFits (some v)
OpFits (Ldn d n) = T true
OpFits (Mv s d) = T true
OpFits (Ldas n d) = T true
OpFits (Ldav n i d) = T true
OpFits (Upda n i v) = T true
OpFits (Stc v n) = ValueFits (some v)
OpFits (Stn s d) = T true
OpFits (Str s n) = T true
OpFits (JmpCnd k s l) = T true
OpFits (Jmpa l) = T true
OpFits (Incrr s) = T true
OpFits (Decrr s) = T true
OpFits (Fn n ps) = T true
OpFits (Call n k) = T true
OpFits FnRet = T true
OpFits (FnStackPush s) = T true
OpFits (FnStackPop d) = T true
OpFits (Tbli t k s) = T true
OpFits (Tblg t k d) = T true
OpFits Nop = T true
OpFits Stop = T true
