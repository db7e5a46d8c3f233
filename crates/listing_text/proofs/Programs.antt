-- Programs with operations, stops and jumps that no tree yields, and with orders of stops: code start, steps given, instructions, and what the original leaves
-- behind; a 38 is the oracle's own rule.
use mathlib.Core.Bool.{true, false}
use mathlib.Core.List.{List, [], ◌∷◌}
use lib.Dec.{T}
use lib.Ieee.{add, sub, mul, div, rem, neg, lt, le, eq, ne, of_int, of_bits, to_bits, binary64}
use lib.Count.{ones_in}
use Rattle.listing_text.proofs.Shown.{ProgramRow, program_row, leave_all}
use Rattle.sifv.specs.Value.{Num, Bl, Null, One, Arr, Tab}
use Rattle.sifv.specs.Value.{Str as Text}
use Rattle.opc.specs.Op.{Add, Neq, Jmpt, Jmpf, Binary, Ldc, Ldav, Upda, Mv, Stc, JmpCnd, Jmpa, Incrr, Decrr, Fn, Call, FnRet, FnStackPush, Tbli, Tblg, Nop, Stop, instr}
use Rattle.numeric.specs.Index.{index_of}

abbrev programs : List ProgramRow
programs =
    -- Mv copies a register, and an empty one
    program_row 0 9 (
    instr 0 (Ldc 0 (One (Num (of_bits binary64 0x4000000000000000)))) ∷
    instr 0 (Mv 0 1) ∷
    instr 0 (Mv 5 0) ∷
    instr 0 (Mv 1 1) ∷
    [])
    "end done 4\nheld 0\nreg 1 Num:4000000000000000\nstack\ncalls\nposition 4\ncount 4\n" ∷
    -- Decrr
    program_row 0 9 (
    instr 0 (Ldc 0 (One (Num (of_bits binary64 0x4000000000000000)))) ∷
    instr 0 (Decrr 0) ∷
    instr 0 (Decrr 0) ∷
    instr 0 (Decrr 0) ∷
    [])
    "end done 4\nheld 0\nreg 0 Num:bff0000000000000\nstack\ncalls\nposition 4\ncount 4\n" ∷
    -- 23: Decrr of an empty register
    program_row 0 9 (
    instr 0 (Nop) ∷
    instr 0 (Decrr 3) ∷
    [])
    "end stopped 1 23 2\nheld 0\nstack\ncalls\nposition 1\ncount 1\n" ∷
    -- 24: Decrr of a text
    program_row 0 9 (
    instr 0 (Ldc 0 (One (Text 1))) ∷
    instr 0 (Decrr 0) ∷
    [])
    "end stopped 1 24 2\nheld 0\nreg 0 Str:1\nstack\ncalls\nposition 1\ncount 1\n" ∷
    -- 21: Incrr of an empty register
    program_row 0 9 (
    instr 0 (Incrr 0) ∷
    [])
    "end stopped 0 21 1\nheld 0\nstack\ncalls\nposition 0\ncount 0\n" ∷
    -- 22: Incrr of an array
    program_row 0 9 (
    instr 0 (Ldc 0 (Arr ([]))) ∷
    instr 0 (Incrr 0) ∷
    [])
    "end stopped 1 22 2\nheld 0\nreg 0 Arr:[]\nstack\ncalls\nposition 1\ncount 1\n" ∷
    -- Stop carries on
    program_row 0 9 (
    instr 0 (Stc (One (Num (of_bits binary64 0x4000000000000000))) 1) ∷
    instr 0 (Stop) ∷
    instr 0 (Stc (One (Bl true)) 2) ∷
    [])
    "end done 3\nheld 2\nname 1 Num:4000000000000000\nname 2 Bl:1\nstack\ncalls\nposition 3\ncount 3\n" ∷
    -- Neq
    program_row 0 9 (
    instr 0 (Ldc 0 (One (Num (of_bits binary64 0x4000000000000000)))) ∷
    instr 0 (Ldc 1 (One (Num (of_bits binary64 0x7ff8000000000000)))) ∷
    instr 0 (Binary Neq 0 0 2) ∷
    instr 0 (Binary Neq 0 1 3) ∷
    instr 0 (Binary Neq 1 1 4) ∷
    [])
    "end done 5\nheld 0\nreg 0 Num:4000000000000000\nreg 1 Num:7ff8000000000000\nreg 2 Bl:0\nreg 3 Bl:1\nreg 4 Bl:1\nstack\ncalls\nposition 5\ncount 5\n" ∷
    -- infinities and the NaN as literals: no tree has them (document 02, M-104), a program may
    program_row 0 9 (
    instr 0 (Stc (One (Num (of_bits binary64 0x7ff0000000000000))) 1) ∷
    instr 0 (Stc (Arr (Num (of_bits binary64 0xfff0000000000000) ∷ Num (of_bits binary64 0x7ff8000000000000) ∷ [])) 2) ∷
    instr 0 (Ldc 0 (One (Num (of_bits binary64 0x7ff0000000000000)))) ∷
    instr 0 (Ldc 1 (One (Num (of_bits binary64 0xfff0000000000000)))) ∷
    instr 0 (Binary Add 0 1 2) ∷
    [])
    "end done 5\nheld 2\nname 1 Num:7ff0000000000000\nname 2 Arr:[Num:fff0000000000000,Num:7ff8000000000000]\nreg 0 Num:7ff0000000000000\nreg 1 Num:fff0000000000000\nreg 2 Num:7ff8000000000000\nstack\ncalls\nposition 5\ncount 5\n" ∷
    -- Tblg, a key that is there
    program_row 0 9 (
    instr 0 (Stc (Tab []) 1) ∷
    instr 0 (Ldc 0 (One (Num (of_bits binary64 0x4000000000000000)))) ∷
    instr 0 (Tbli 1 5 0) ∷
    instr 0 (Tbli 1 3 0) ∷
    instr 0 (Tblg 1 5 2) ∷
    [])
    "end done 5\nheld 1\nname 1 Tab:[3=Num:4000000000000000,5=Num:4000000000000000]\nreg 0 Num:4000000000000000\nreg 2 Num:4000000000000000\nstack\ncalls\nposition 5\ncount 5\n" ∷
    -- 33: Tblg, a key that is absent
    program_row 0 9 (
    instr 0 (Stc (Tab []) 1) ∷
    instr 0 (Tblg 1 5 2) ∷
    [])
    "end stopped 1 33 2\nheld 1\nname 1 Tab:[]\nstack\ncalls\nposition 1\ncount 1\n" ∷
    -- 20: Tblg of an unset name
    program_row 0 9 (
    instr 0 (Tblg 1 5 2) ∷
    [])
    "end stopped 0 20 1 1\nheld 0\nstack\ncalls\nposition 0\ncount 0\n" ∷
    -- Tblg of what is no table has no effect
    program_row 0 9 (
    instr 0 (Stc (Arr ((Bl true) ∷ Null ∷ [])) 1) ∷
    instr 0 (Tblg 1 5 2) ∷
    [])
    "end done 2\nheld 1\nname 1 Arr:[Bl:1,Null]\nstack\ncalls\nposition 2\ncount 2\n" ∷
    -- Tbli of what is no table has no effect, also with an empty register
    program_row 0 9 (
    instr 0 (Stc (One Null) 1) ∷
    instr 0 (Tbli 1 5 2) ∷
    [])
    "end done 2\nheld 1\nname 1 Null\nstack\ncalls\nposition 2\ncount 2\n" ∷
    -- 20 comes before 32 at Tbli
    program_row 0 9 (
    instr 0 (Tbli 1 5 2) ∷
    [])
    "end stopped 0 20 1 1\nheld 0\nstack\ncalls\nposition 0\ncount 0\n" ∷
    -- 36: a 17th key; a key that is there is set
    program_row 0 99 (
    instr 0 (Stc (Tab []) 1) ∷
    instr 0 (Ldc 0 (One (Num (of_bits binary64 0x4000000000000000)))) ∷
    instr 0 (Tbli 1 40 0) ∷
    instr 0 (Tbli 1 39 0) ∷
    instr 0 (Tbli 1 38 0) ∷
    instr 0 (Tbli 1 37 0) ∷
    instr 0 (Tbli 1 36 0) ∷
    instr 0 (Tbli 1 35 0) ∷
    instr 0 (Tbli 1 34 0) ∷
    instr 0 (Tbli 1 33 0) ∷
    instr 0 (Tbli 1 32 0) ∷
    instr 0 (Tbli 1 31 0) ∷
    instr 0 (Tbli 1 30 0) ∷
    instr 0 (Tbli 1 29 0) ∷
    instr 0 (Tbli 1 28 0) ∷
    instr 0 (Tbli 1 27 0) ∷
    instr 0 (Tbli 1 26 0) ∷
    instr 0 (Tbli 1 25 0) ∷
    instr 0 (Ldc 0 (One (Bl false))) ∷
    instr 0 (Tbli 1 30 0) ∷
    instr 0 (Tbli 1 41 0) ∷
    [])
    "end stopped 20 36 21\nheld 1\nname 1 Tab:[25=Num:4000000000000000,26=Num:4000000000000000,27=Num:4000000000000000,28=Num:4000000000000000,29=Num:4000000000000000,30=Bl:0,31=Num:4000000000000000,32=Num:4000000000000000,33=Num:4000000000000000,34=Num:4000000000000000,35=Num:4000000000000000,36=Num:4000000000000000,37=Num:4000000000000000,38=Num:4000000000000000,39=Num:4000000000000000,40=Num:4000000000000000]\nreg 0 Bl:0\nstack\ncalls\nposition 20\ncount 20\n" ∷
    -- a jump to index 0
    program_row 0 7 (
    instr 0 (Stc (One Null) 1) ∷
    instr 0 (Jmpa 0) ∷
    [])
    "end spent 7\nheld 1\nname 1 Null\nstack\ncalls\nposition 1\ncount 7\n" ∷
    -- a taken conditional jump to index 0
    program_row 0 7 (
    instr 0 (Ldc 0 (One (Bl false))) ∷
    instr 0 (JmpCnd Jmpf 0 0) ∷
    [])
    "end spent 7\nheld 0\nreg 0 Bl:0\nstack\ncalls\nposition 1\ncount 7\n" ∷
    -- 25: a label that is not there, only where the jump is taken
    program_row 0 9 (
    instr 0 (Ldc 0 (One (Bl false))) ∷
    instr 0 (JmpCnd Jmpt 0 9) ∷
    instr 0 (JmpCnd Jmpf 0 9) ∷
    [])
    "end stopped 2 25 3\nheld 0\nreg 0 Bl:0\nstack\ncalls\nposition 2\ncount 2\n" ∷
    -- Ldav with equal registers reads, then writes
    program_row 0 9 (
    instr 0 (Stc (Arr ((Text 3) ∷ (Bl true) ∷ [])) 1) ∷
    instr 0 (Ldc 0 (One (Num (of_bits binary64 0x3ff0000000000000)))) ∷
    instr 0 (Ldav 1 0 0) ∷
    [])
    "end done 3\nheld 1\nname 1 Arr:[Str:3,Bl:1]\nreg 0 Bl:1\nstack\ncalls\nposition 3\ncount 3\n" ∷
    -- 27 at Upda: an empty value register, before an unset name
    program_row 0 9 (
    instr 0 (Ldc 0 (One (Num (of_bits binary64 0x4000000000000000)))) ∷
    instr 0 (Upda 1 0 1) ∷
    [])
    "end stopped 1 27 2\nheld 0\nreg 0 Num:4000000000000000\nstack\ncalls\nposition 1\ncount 1\n" ∷
    -- 38 before 20: Ldav with 2.5 of an unset name
    program_row 0 9 (
    instr 0 (Ldc 0 (One (Num (of_bits binary64 0x4004000000000000)))) ∷
    instr 0 (Ldav 1 0 1) ∷
    [])
    "end stopped 1 38 2\nheld 0\nreg 0 Num:4004000000000000\nstack\ncalls\nposition 1\ncount 1\n" ∷
    -- 38 before 28: Ldav with 2.5 of a number's name
    program_row 0 9 (
    instr 0 (Stc (One (Num (of_bits binary64 0x3ff0000000000000))) 1) ∷
    instr 0 (Ldc 0 (One (Num (of_bits binary64 0x4004000000000000)))) ∷
    instr 0 (Ldav 1 0 1) ∷
    [])
    "end stopped 2 38 3\nheld 1\nname 1 Num:3ff0000000000000\nreg 0 Num:4004000000000000\nstack\ncalls\nposition 2\ncount 2\n" ∷
    -- 27 before 38 at Upda: 2.5 and an empty value register
    program_row 0 9 (
    instr 0 (Stc (Arr ((Num (of_bits binary64 0x3ff0000000000000)) ∷ (Num (of_bits binary64 0x4000000000000000)) ∷ [])) 1) ∷
    instr 0 (Ldc 0 (One (Num (of_bits binary64 0x4004000000000000)))) ∷
    instr 0 (Upda 1 0 1) ∷
    [])
    "end stopped 2 27 3\nheld 1\nname 1 Arr:[Num:3ff0000000000000,Num:4000000000000000]\nreg 0 Num:4004000000000000\nstack\ncalls\nposition 2\ncount 2\n" ∷
    -- 38 before 20: Upda with 2.5, a value, an unset name
    program_row 0 9 (
    instr 0 (Ldc 0 (One (Num (of_bits binary64 0x4004000000000000)))) ∷
    instr 0 (Ldc 1 (One Null)) ∷
    instr 0 (Upda 1 0 1) ∷
    [])
    "end stopped 2 38 3\nheld 0\nreg 0 Num:4004000000000000\nreg 1 Null\nstack\ncalls\nposition 2\ncount 2\n" ∷
    -- 38 before 28: Upda with 2.5 of a number's name
    program_row 0 9 (
    instr 0 (Stc (One (Num (of_bits binary64 0x3ff0000000000000))) 1) ∷
    instr 0 (Ldc 0 (One (Num (of_bits binary64 0x4004000000000000)))) ∷
    instr 0 (Ldc 1 (One Null)) ∷
    instr 0 (Upda 1 0 1) ∷
    [])
    "end stopped 3 38 4\nheld 1\nname 1 Num:3ff0000000000000\nreg 0 Num:4004000000000000\nreg 1 Null\nstack\ncalls\nposition 3\ncount 3\n" ∷
    -- 38 before 34: Upda with 0.5 and a table as value
    program_row 0 9 (
    instr 0 (Stc (Arr ((Num (of_bits binary64 0x3ff0000000000000)) ∷ (Num (of_bits binary64 0x4000000000000000)) ∷ [])) 1) ∷
    instr 0 (Ldc 0 (One (Num (of_bits binary64 0x3fe0000000000000)))) ∷
    instr 0 (Ldc 1 (Tab [])) ∷
    instr 0 (Upda 1 0 1) ∷
    [])
    "end stopped 3 38 4\nheld 1\nname 1 Arr:[Num:3ff0000000000000,Num:4000000000000000]\nreg 0 Num:3fe0000000000000\nreg 1 Tab:[]\nstack\ncalls\nposition 3\ncount 3\n" ∷
    -- 27: Ldav with an empty index register
    program_row 0 9 (
    instr 0 (Stc (Arr ((Num (of_bits binary64 0x3ff0000000000000)) ∷ (Num (of_bits binary64 0x4000000000000000)) ∷ [])) 1) ∷
    instr 0 (Ldav 1 0 1) ∷
    [])
    "end stopped 1 27 2\nheld 1\nname 1 Arr:[Num:3ff0000000000000,Num:4000000000000000]\nstack\ncalls\nposition 1\ncount 1\n" ∷
    -- 27: Upda with a text as index and an empty value register
    program_row 0 9 (
    instr 0 (Stc (Arr ((Num (of_bits binary64 0x3ff0000000000000)) ∷ (Num (of_bits binary64 0x4000000000000000)) ∷ [])) 1) ∷
    instr 0 (Ldc 0 (One (Text 1))) ∷
    instr 0 (Upda 1 0 1) ∷
    [])
    "end stopped 2 27 3\nheld 1\nname 1 Arr:[Num:3ff0000000000000,Num:4000000000000000]\nreg 0 Str:1\nstack\ncalls\nposition 2\ncount 2\n" ∷
    -- 31 comes before 34 at Upda
    program_row 0 9 (
    instr 0 (Stc (Arr ([])) 1) ∷
    instr 0 (Ldc 0 (One (Num (of_bits binary64 0x4000000000000000)))) ∷
    instr 0 (Ldc 1 (Tab [])) ∷
    instr 0 (Upda 1 0 1) ∷
    [])
    "end stopped 3 31 4 1 2 0\nheld 1\nname 1 Arr:[]\nreg 0 Num:4000000000000000\nreg 1 Tab:[]\nstack\ncalls\nposition 3\ncount 3\n" ∷
    -- 35: the call stack holds 24
    program_row 2 60 (
    instr 0 (Call 2 0) ∷
    instr 0 (Nop) ∷
    instr 0 (Fn 3 ([])) ∷
    instr 0 (Call 3 1) ∷
    [])
    "end stopped 25 35 2\nheld 0\nstack\ncalls 3 3 3 3 3 3 3 3 3 3 3 3 3 3 3 3 3 3 3 3 3 3 3 3\nfn 3 2\nposition 3\ncount 25\n" ∷
    -- 35: the value stack holds 24
    program_row 0 60 (
    instr 0 (Ldc 0 (One Null)) ∷
    instr 0 (FnStackPush 0) ∷
    instr 0 (FnStackPush 0) ∷
    instr 0 (FnStackPush 0) ∷
    instr 0 (FnStackPush 0) ∷
    instr 0 (FnStackPush 0) ∷
    instr 0 (FnStackPush 0) ∷
    instr 0 (FnStackPush 0) ∷
    instr 0 (FnStackPush 0) ∷
    instr 0 (FnStackPush 0) ∷
    instr 0 (FnStackPush 0) ∷
    instr 0 (FnStackPush 0) ∷
    instr 0 (FnStackPush 0) ∷
    instr 0 (FnStackPush 0) ∷
    instr 0 (FnStackPush 0) ∷
    instr 0 (FnStackPush 0) ∷
    instr 0 (FnStackPush 0) ∷
    instr 0 (FnStackPush 0) ∷
    instr 0 (FnStackPush 0) ∷
    instr 0 (FnStackPush 0) ∷
    instr 0 (FnStackPush 0) ∷
    instr 0 (FnStackPush 0) ∷
    instr 0 (FnStackPush 0) ∷
    instr 0 (FnStackPush 0) ∷
    instr 0 (FnStackPush 0) ∷
    instr 0 (FnStackPush 0) ∷
    [])
    "end stopped 25 35 26\nheld 0\nreg 0 Null\nstack Null Null Null Null Null Null Null Null Null Null Null Null Null Null Null Null Null Null Null Null Null Null Null Null\ncalls\nposition 25\ncount 25\n" ∷
    -- 26: the second register
    program_row 0 9 (
    instr 0 (Ldc 0 (One (Num (of_bits binary64 0x4000000000000000)))) ∷
    instr 0 (Binary Add 0 7 2) ∷
    [])
    "end stopped 1 26 2 7\nheld 0\nreg 0 Num:4000000000000000\nstack\ncalls\nposition 1\ncount 1\n" ∷
    -- a first label that is not 0: label 0 goes to 0, the first label nowhere
    program_row 0 9 (
    instr 3 (Ldc 0 (One (Bl true))) ∷
    instr 3 (JmpCnd Jmpt 0 3) ∷
    instr 4 (Nop) ∷
    [])
    "end stopped 1 25 2\nheld 0\nreg 0 Bl:1\nstack\ncalls\nposition 1\ncount 1\n" ∷
    -- a label entered twice: the last entry counts
    program_row 0 20 (
    instr 0 (Ldc 0 (One (Bl true))) ∷
    instr 1 (Stc (One Null) 1) ∷
    instr 2 (JmpCnd Jmpt 0 5) ∷
    instr 1 (Stc (One (Bl true)) 2) ∷
    instr 2 (Jmpa 1) ∷
    instr 5 (Jmpa 1) ∷
    [])
    "end spent 20\nheld 2\nname 1 Null\nname 2 Bl:1\nreg 0 Bl:1\nstack\ncalls\nposition 3\ncount 20\n" ∷
    -- spent inside the program
    program_row 0 3 (
    instr 0 (Nop) ∷
    instr 0 (Nop) ∷
    instr 0 (Nop) ∷
    instr 0 (Nop) ∷
    instr 0 (Nop) ∷
    [])
    "end spent 3\nheld 0\nstack\ncalls\nposition 3\ncount 3\n" ∷
    -- 0 steps at the end of the program
    program_row 1 0 (
    instr 0 (Nop) ∷
    [])
    "end done 0\nheld 0\nstack\ncalls\nposition 1\ncount 0\n" ∷
    -- 0 steps inside it
    program_row 0 0 (
    instr 0 (Nop) ∷
    [])
    "end spent 0\nheld 0\nstack\ncalls\nposition 0\ncount 0\n" ∷
    -- the last declaration of a function counts
    program_row 4 9 (
    instr 0 (Fn 1 (2 ∷ 3 ∷ [])) ∷
    instr 0 (FnRet) ∷
    instr 0 (Fn 1 ([])) ∷
    instr 0 (FnRet) ∷
    instr 0 (Call 1 0) ∷
    [])
    "end done 2\nheld 0\nstack\ncalls\nfn 1 2\nposition 5\ncount 2\n" ∷
    []

pub all_programs : T (leave_all programs)
unfolding index_of add sub mul div rem neg lt le eq ne of_int of_bits to_bits ones_in
all_programs = tt

-- ---- which stop comes first, and which register or function is meant

abbrev orders : List ProgramRow
orders =
    -- 29 before 35: Call of a function that is not there, 24 calls deep
    program_row 0 60 (
    instr 0 (Call 1 0) ∷
    instr 0 (Fn 1 ([])) ∷
    instr 0 (Call 2 0) ∷
    instr 0 (Fn 2 ([])) ∷
    instr 0 (Call 3 0) ∷
    instr 0 (Fn 3 ([])) ∷
    instr 0 (Call 4 0) ∷
    instr 0 (Fn 4 ([])) ∷
    instr 0 (Call 5 0) ∷
    instr 0 (Fn 5 ([])) ∷
    instr 0 (Call 6 0) ∷
    instr 0 (Fn 6 ([])) ∷
    instr 0 (Call 7 0) ∷
    instr 0 (Fn 7 ([])) ∷
    instr 0 (Call 8 0) ∷
    instr 0 (Fn 8 ([])) ∷
    instr 0 (Call 9 0) ∷
    instr 0 (Fn 9 ([])) ∷
    instr 0 (Call 10 0) ∷
    instr 0 (Fn 10 ([])) ∷
    instr 0 (Call 11 0) ∷
    instr 0 (Fn 11 ([])) ∷
    instr 0 (Call 12 0) ∷
    instr 0 (Fn 12 ([])) ∷
    instr 0 (Call 13 0) ∷
    instr 0 (Fn 13 ([])) ∷
    instr 0 (Call 14 0) ∷
    instr 0 (Fn 14 ([])) ∷
    instr 0 (Call 15 0) ∷
    instr 0 (Fn 15 ([])) ∷
    instr 0 (Call 16 0) ∷
    instr 0 (Fn 16 ([])) ∷
    instr 0 (Call 17 0) ∷
    instr 0 (Fn 17 ([])) ∷
    instr 0 (Call 18 0) ∷
    instr 0 (Fn 18 ([])) ∷
    instr 0 (Call 19 0) ∷
    instr 0 (Fn 19 ([])) ∷
    instr 0 (Call 20 0) ∷
    instr 0 (Fn 20 ([])) ∷
    instr 0 (Call 21 0) ∷
    instr 0 (Fn 21 ([])) ∷
    instr 0 (Call 22 0) ∷
    instr 0 (Fn 22 ([])) ∷
    instr 0 (Call 23 0) ∷
    instr 0 (Fn 23 ([])) ∷
    instr 0 (Call 24 0) ∷
    instr 0 (Fn 24 ([])) ∷
    instr 0 (Call 25 0) ∷
    [])
    "end stopped 24 29 49 25\nheld 0\nstack\ncalls 0 2 4 6 8 10 12 14 16 18 20 22 24 26 28 30 32 34 36 38 40 42 44 46\nfn 1 1\nfn 2 3\nfn 3 5\nfn 4 7\nfn 5 9\nfn 6 11\nfn 7 13\nfn 8 15\nfn 9 17\nfn 10 19\nfn 11 21\nfn 12 23\nfn 13 25\nfn 14 27\nfn 15 29\nfn 16 31\nfn 17 33\nfn 18 35\nfn 19 37\nfn 20 39\nfn 21 41\nfn 22 43\nfn 23 45\nfn 24 47\nposition 48\ncount 24\n" ∷
    -- 32 before 35: Push of an empty register on a full value stack
    program_row 0 60 (
    instr 0 (Ldc 0 (One Null)) ∷
    instr 0 (FnStackPush 0) ∷
    instr 0 (FnStackPush 0) ∷
    instr 0 (FnStackPush 0) ∷
    instr 0 (FnStackPush 0) ∷
    instr 0 (FnStackPush 0) ∷
    instr 0 (FnStackPush 0) ∷
    instr 0 (FnStackPush 0) ∷
    instr 0 (FnStackPush 0) ∷
    instr 0 (FnStackPush 0) ∷
    instr 0 (FnStackPush 0) ∷
    instr 0 (FnStackPush 0) ∷
    instr 0 (FnStackPush 0) ∷
    instr 0 (FnStackPush 0) ∷
    instr 0 (FnStackPush 0) ∷
    instr 0 (FnStackPush 0) ∷
    instr 0 (FnStackPush 0) ∷
    instr 0 (FnStackPush 0) ∷
    instr 0 (FnStackPush 0) ∷
    instr 0 (FnStackPush 0) ∷
    instr 0 (FnStackPush 0) ∷
    instr 0 (FnStackPush 0) ∷
    instr 0 (FnStackPush 0) ∷
    instr 0 (FnStackPush 0) ∷
    instr 0 (FnStackPush 0) ∷
    instr 0 (FnStackPush 1) ∷
    [])
    "end stopped 25 32 26\nheld 0\nreg 0 Null\nstack Null Null Null Null Null Null Null Null Null Null Null Null Null Null Null Null Null Null Null Null Null Null Null Null\ncalls\nposition 25\ncount 25\n" ∷
    -- 34 before 36: Tbli of an array as the 17th key
    program_row 0 60 (
    instr 0 (Stc (Tab []) 1) ∷
    instr 0 (Ldc 0 (One Null)) ∷
    instr 0 (Tbli 1 20 0) ∷
    instr 0 (Tbli 1 21 0) ∷
    instr 0 (Tbli 1 22 0) ∷
    instr 0 (Tbli 1 23 0) ∷
    instr 0 (Tbli 1 24 0) ∷
    instr 0 (Tbli 1 25 0) ∷
    instr 0 (Tbli 1 26 0) ∷
    instr 0 (Tbli 1 27 0) ∷
    instr 0 (Tbli 1 28 0) ∷
    instr 0 (Tbli 1 29 0) ∷
    instr 0 (Tbli 1 30 0) ∷
    instr 0 (Tbli 1 31 0) ∷
    instr 0 (Tbli 1 32 0) ∷
    instr 0 (Tbli 1 33 0) ∷
    instr 0 (Tbli 1 34 0) ∷
    instr 0 (Tbli 1 35 0) ∷
    instr 0 (Ldc 0 (Arr ([]))) ∷
    instr 0 (Tbli 1 36 0) ∷
    [])
    "end stopped 19 34 20\nheld 1\nname 1 Tab:[20=Null,21=Null,22=Null,23=Null,24=Null,25=Null,26=Null,27=Null,28=Null,29=Null,30=Null,31=Null,32=Null,33=Null,34=Null,35=Null]\nreg 0 Arr:[]\nstack\ncalls\nposition 19\ncount 19\n" ∷
    -- 32 before 36: Tbli of an empty register as the 17th key
    program_row 0 60 (
    instr 0 (Stc (Tab []) 1) ∷
    instr 0 (Ldc 0 (One Null)) ∷
    instr 0 (Tbli 1 20 0) ∷
    instr 0 (Tbli 1 21 0) ∷
    instr 0 (Tbli 1 22 0) ∷
    instr 0 (Tbli 1 23 0) ∷
    instr 0 (Tbli 1 24 0) ∷
    instr 0 (Tbli 1 25 0) ∷
    instr 0 (Tbli 1 26 0) ∷
    instr 0 (Tbli 1 27 0) ∷
    instr 0 (Tbli 1 28 0) ∷
    instr 0 (Tbli 1 29 0) ∷
    instr 0 (Tbli 1 30 0) ∷
    instr 0 (Tbli 1 31 0) ∷
    instr 0 (Tbli 1 32 0) ∷
    instr 0 (Tbli 1 33 0) ∷
    instr 0 (Tbli 1 34 0) ∷
    instr 0 (Tbli 1 35 0) ∷
    instr 0 (Tbli 1 36 1) ∷
    [])
    "end stopped 18 32 19\nheld 1\nname 1 Tab:[20=Null,21=Null,22=Null,23=Null,24=Null,25=Null,26=Null,27=Null,28=Null,29=Null,30=Null,31=Null,32=Null,33=Null,34=Null,35=Null]\nreg 0 Null\nstack\ncalls\nposition 18\ncount 18\n" ∷
    -- Fn sets the function table where it is met: its own position in place of the last declaration's
    program_row 0 1 (
    instr 0 (Fn 1 ([])) ∷
    instr 0 (Call 1 0) ∷
    instr 0 (Fn 1 ([])) ∷
    instr 0 (Nop) ∷
    [])
    "end spent 1\nheld 0\nstack\ncalls\nfn 1 0\nposition 1\ncount 1\n" ∷
    -- and Call goes by that table
    program_row 0 3 (
    instr 0 (Fn 1 ([])) ∷
    instr 0 (Call 1 0) ∷
    instr 0 (Fn 1 ([])) ∷
    instr 0 (Nop) ∷
    [])
    "end spent 3\nheld 0\nstack\ncalls 1 1\nfn 1 0\nposition 1\ncount 3\n" ∷
    -- 26 names the first of two empty registers
    program_row 0 9 (
    instr 0 (Binary Add 4 5 2) ∷
    [])
    "end stopped 0 26 1 4\nheld 0\nstack\ncalls\nposition 0\ncount 0\n" ∷
    -- also where its number is the larger
    program_row 0 9 (
    instr 0 (Binary Add 5 4 2) ∷
    [])
    "end stopped 0 26 1 5\nheld 0\nstack\ncalls\nposition 0\ncount 0\n" ∷
    -- 26 before 27: a text and an empty register
    program_row 0 9 (
    instr 0 (Ldc 0 (One (Text 1))) ∷
    instr 0 (Binary Add 0 4 2) ∷
    [])
    "end stopped 1 26 2 4\nheld 0\nreg 0 Str:1\nstack\ncalls\nposition 1\ncount 1\n" ∷
    -- 27 before 20 at Ldav: a text as index of an unset name
    program_row 0 9 (
    instr 0 (Ldc 0 (One (Text 1))) ∷
    instr 0 (Ldav 1 0 1) ∷
    [])
    "end stopped 1 27 2\nheld 0\nreg 0 Str:1\nstack\ncalls\nposition 1\ncount 1\n" ∷
    -- the same with an empty index register
    program_row 0 9 (
    instr 0 (Ldav 1 0 1) ∷
    [])
    "end stopped 0 27 1\nheld 0\nstack\ncalls\nposition 0\ncount 0\n" ∷
    -- 27 before 20 at Upda: a text as index of an unset name
    program_row 0 9 (
    instr 0 (Ldc 0 (One (Text 1))) ∷
    instr 0 (Upda 1 0 0) ∷
    [])
    "end stopped 1 27 2\nheld 0\nreg 0 Str:1\nstack\ncalls\nposition 1\ncount 1\n" ∷
    -- the same with an empty index register
    program_row 0 9 (
    instr 0 (Ldc 0 (One (Text 1))) ∷
    instr 0 (Upda 1 1 0) ∷
    [])
    "end stopped 1 27 2\nheld 0\nreg 0 Str:1\nstack\ncalls\nposition 1\ncount 1\n" ∷
    -- 27 before 25 at Jmpt: an empty register and a label that is not there
    program_row 0 9 (
    instr 0 (JmpCnd Jmpt 0 9) ∷
    [])
    "end stopped 0 27 1\nheld 0\nstack\ncalls\nposition 0\ncount 0\n" ∷
    -- 27 before 25 at Jmpf: a text and a label that is not there
    program_row 0 9 (
    instr 0 (Ldc 0 (One (Text 1))) ∷
    instr 0 (JmpCnd Jmpf 0 9) ∷
    [])
    "end stopped 1 27 2\nheld 0\nreg 0 Str:1\nstack\ncalls\nposition 1\ncount 1\n" ∷
    []

pub all_orders : T (leave_all orders)
unfolding index_of of_bits ones_in
all_orders = tt
