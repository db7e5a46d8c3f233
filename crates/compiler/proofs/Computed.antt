-- The lowering, computed on small trees: document 01's cases, and what its "Lowering rules that surprise" and document 02, M-100, say of instructions. A row
-- has the tree file as one number, its size before it, then the tree and what it is lowered to. The first `refl` says that the file is read as this tree, the
-- second that this tree is lowered so. The rows' programs and refusals are those of the original, so altered, for the same files; oracle/ compares every row with
-- it. The limits behind the rows are document 01's, on trees made by repetition; they have no file there.
use Prim.Native.Nat.{ℕ, zero, suc}
use mathlib.Core.Path.{◌≡◌, refl}
use mathlib.Core.Bool.{Bool, true, false}
use mathlib.Core.List.{List, [], ◌∷◌, map}
use lib.Ieee.{of_int, of_bits, binary64}
use Rattle.lent.specs.Bytes.{be_bytes}
use Rattle.sifv.specs.Value.{Num, Bl, Null, One, Arr, Tab}
use Rattle.sifv.specs.Value.{Str as Text}
use Rattle.opc.specs.Op.{BinOpKind, Add, Sub, Mul, Div, Modu, Eq, Land, Lnot, Lor, Lneg, Nneg, Jmpt, Jmpf, instr, Code}
use Rattle.opc.specs.Op.{Binary, Unary, Ldc, Ldn, Ldas, Ldav, Upda, Stc, Stn, Str, JmpCnd, Jmpa, Incrr, Fn, Call, FnRet, FnStackPush, FnStackPop, Tbli, Nop}
use Rattle.ast.specs.Tree.{BinTok, Plus, Minus, Star, Slash, Percent, EqEq, AmpAmp, PipePipe, BangEq, Bang, Negate, Lit, Val, Truth}
use Rattle.ast.specs.Tree.{Literal, Name, BinaryExpr, UnaryExpr, VarAssign, ArrayMut, FnCall, Expression, Table, Array, ArrayAccess}
use Rattle.ast.specs.Tree.{no_exprs, more_exprs, no_items, more_items, OverName, OverCall}
use Rattle.ast.specs.Tree.{Stmt, Block, IfStmt, ForStmt, Return, ReturnExpr, ExprStmt, VarDecl, VarInit, FnDecl, Stmts, no_stmts, more_stmts, Else, Elif}
use Rattle.ast.specs.File.{read_tree, Tree}
use Rattle.compiler.specs.Literals.{literal, finite_single}
use Rattle.compiler.specs.Lower.{lower, Lowered, refused, lowered}

-- ---- trees in short

abbrev one : Lit
one = Val 0x3ff0000000000000

abbrev two : Lit
two = Val 0x4000000000000000

abbrev three : Lit
three = Val 0x4008000000000000

abbrev script : List Stmt → Stmts
script [] = no_stmts
script (s ∷ l) = more_stmts s (script l)

-- n times the statement s, then k
abbrev times : ℕ → Stmt → Stmts → Stmts
times zero s k = k
times (suc n) s k = more_stmts s (times n s k)

abbrev with_two : BinTok → Stmt
with_two t = ExprStmt (BinaryExpr t (Name 1) (Literal two))

-- ---- rows

data Row : Type 0 where
  row : (size file : ℕ) (t : Stmts) (l : Lowered) → read_tree (be_bytes size file) ≡ Tree t → lower t ≡ l → Row

-- code start, instructions
abbrev program : ℕ → Code → Lowered
program s c = lowered (record { code = c; code_start = s })

rows : List Row
unfolding read_tree of_int of_bits
rows =
    -- case 1: x = 2
    row 27 0x0003020601010108011300666f72746d7061014000000000000000
    (script (VarInit 1 (Expression (Literal two)) ∷ []))
    (program 0 (
    instr 0 (Stc (One (Num (of_bits binary64 0x4000000000000000))) 1) ∷
    [])) refl refl ∷
    -- case 2: for i, v in a, s = v
    row 71 0x000b050601010101010208010c0313001300130005021500020108011500666f72746d706162636401013ff0000000000000400000000000000040080000000000000203010403
    (script (VarInit 1 (Array 1 (one ∷ two ∷ three ∷ [])) ∷ ForStmt 2 3 (OverName 1) (script (VarInit 4 (Expression (Name 3)) ∷ [])) ∷ []))
    (program 0 (
    instr 0 (Stc (Arr (Num (of_bits binary64 0x3ff0000000000000) ∷ Num (of_bits binary64 0x4000000000000000) ∷ Num (of_bits binary64 0x4008000000000000) ∷ [])) 1) ∷
    instr 0 (Stc (One (Num (of_bits binary64 0x0000000000000000))) 2) ∷
    instr 0 (Ldas 1 1) ∷
    instr 1 (Ldn 0 2) ∷
    instr 1 (Ldav 1 0 2) ∷
    instr 1 (Str 2 3) ∷
    instr 1 (Stn 3 4) ∷
    instr 1 (Incrr 0) ∷
    instr 1 (Str 0 2) ∷
    instr 1 (Binary BinOpKind.Lt 0 1 3) ∷
    instr 1 (JmpCnd Jmpt 3 1) ∷
    [])) refl refl ∷
    -- case 3: x = 1; if x == 1 then y = 1
    row 63 0x000a030601010102080113000302110215001300020108011300666f72746d706162013ff00000000000000006013ff0000000000000023ff0000000000000
    (script (VarInit 1 (Expression (Literal one)) ∷ IfStmt (BinaryExpr EqEq (Name 1) (Literal one)) (script (VarInit 2 (Expression (Literal one)) ∷ [])) (Else no_stmts) ∷ []))
    (program 0 (
    instr 0 (Stc (One (Num (of_bits binary64 0x3ff0000000000000))) 1) ∷
    instr 0 (Ldn 0 1) ∷
    instr 0 (Ldc 1 (One (Num (of_bits binary64 0x3ff0000000000000)))) ∷
    instr 0 (Binary Eq 0 1 2) ∷
    instr 0 (JmpCnd Jmpf 2 2) ∷
    instr 1 (Stc (One (Num (of_bits binary64 0x3ff0000000000000))) 2) ∷
    instr 1 (Jmpa 2) ∷
    instr 2 Nop ∷
    [])) refl refl ∷
    -- case 6: the empty Program
    row 12 0x000101060100666f72746d70
    no_stmts
    (program 0 (
    instr 0 Nop ∷
    [])) refl refl ∷
    -- an empty Block is a Nop too
    row 23 0x000502060101020200020107011500666f72746d706101
    (script (Block no_stmts ∷ Block (script (ExprStmt (Name 1) ∷ [])) ∷ []))
    (program 0 (
    instr 0 Nop ∷
    instr 0 (Ldn 0 1) ∷
    [])) refl refl ∷
    -- the operators of 17, in `expr`'s order
    row 248 0x0035020601010d0701110215001300070111021500130007011102150013000701110215001300070111021500130007011102150013000701110215001300070111021500130007011102150013000701110215001300070111021500130007011102150013000701110215001300666f72746d70610101400000000000000002014000000000000000030140000000000000000401400000000000000005014000000000000000060140000000000000000701400000000000000008014000000000000000090140000000000000000a0140000000000000000b0140000000000000000c0140000000000000000d014000000000000000
    (script (map with_two (Plus ∷ Minus ∷ Star ∷ Slash ∷ Percent ∷ EqEq ∷ BinTok.LtEq ∷ BinTok.Lt ∷ BinTok.GtEq ∷ BinTok.Gt ∷ AmpAmp ∷ PipePipe ∷ BangEq ∷ [])))
    (program 0 (
    instr 0 (Ldn 0 1) ∷
    instr 0 (Ldc 1 (One (Num (of_bits binary64 0x4000000000000000)))) ∷
    instr 0 (Binary Add 0 1 2) ∷
    instr 0 (Ldn 3 1) ∷
    instr 0 (Ldc 4 (One (Num (of_bits binary64 0x4000000000000000)))) ∷
    instr 0 (Binary Sub 3 4 5) ∷
    instr 0 (Ldn 6 1) ∷
    instr 0 (Ldc 7 (One (Num (of_bits binary64 0x4000000000000000)))) ∷
    instr 0 (Binary Mul 6 7 8) ∷
    instr 0 (Ldn 9 1) ∷
    instr 0 (Ldc 10 (One (Num (of_bits binary64 0x4000000000000000)))) ∷
    instr 0 (Binary Div 9 10 11) ∷
    instr 0 (Ldn 12 1) ∷
    instr 0 (Ldc 13 (One (Num (of_bits binary64 0x4000000000000000)))) ∷
    instr 0 (Binary Modu 12 13 14) ∷
    instr 0 (Ldn 15 1) ∷
    instr 0 (Ldc 16 (One (Num (of_bits binary64 0x4000000000000000)))) ∷
    instr 0 (Binary Eq 15 16 17) ∷
    instr 0 (Ldn 18 1) ∷
    instr 0 (Ldc 19 (One (Num (of_bits binary64 0x4000000000000000)))) ∷
    instr 0 (Binary BinOpKind.LtEq 18 19 20) ∷
    instr 0 (Ldn 21 1) ∷
    instr 0 (Ldc 22 (One (Num (of_bits binary64 0x4000000000000000)))) ∷
    instr 0 (Binary BinOpKind.Lt 21 22 23) ∷
    instr 0 (Ldn 24 1) ∷
    instr 0 (Ldc 25 (One (Num (of_bits binary64 0x4000000000000000)))) ∷
    instr 0 (Binary BinOpKind.GtEq 24 25 26) ∷
    instr 0 (Ldn 27 1) ∷
    instr 0 (Ldc 28 (One (Num (of_bits binary64 0x4000000000000000)))) ∷
    instr 0 (Binary BinOpKind.Gt 27 28 29) ∷
    instr 0 (Ldn 30 1) ∷
    instr 0 (Ldc 31 (One (Num (of_bits binary64 0x4000000000000000)))) ∷
    instr 0 (Binary Land 30 31 32) ∷
    instr 0 (Ldn 33 1) ∷
    instr 0 (Ldc 34 (One (Num (of_bits binary64 0x4000000000000000)))) ∷
    instr 0 (Binary Lor 33 34 35) ∷
    instr 0 (Ldn 36 1) ∷
    instr 0 (Ldc 37 (One (Num (of_bits binary64 0x4000000000000000)))) ∷
    instr 0 (Binary Lnot 36 37 38) ∷
    [])) refl refl ∷
    -- the operators of 18
    row 30 0x00070206010102070112011500070112011500666f72746d706101010201
    (script (ExprStmt (UnaryExpr Bang (Name 1)) ∷ ExprStmt (UnaryExpr Negate (Name 1)) ∷ []))
    (program 0 (
    instr 0 (Ldn 0 1) ∷
    instr 0 (Unary Lneg 0 1) ∷
    instr 0 (Ldn 2 1) ∷
    instr 0 (Unary Nneg 2 3) ∷
    [])) refl refl ∷
    -- True and False as operands are loaded, the left first
    row 28 0x0008010601020701110216001700070112011600666f72746d700b01
    (script (ExprStmt (BinaryExpr AmpAmp (Literal (Truth true)) (Literal (Truth false))) ∷ ExprStmt (UnaryExpr Bang (Literal (Truth true))) ∷ []))
    (program 0 (
    instr 0 (Ldc 0 (One (Bl true))) ∷
    instr 0 (Ldc 1 (One (Bl false))) ∷
    instr 0 (Binary Land 0 1 2) ∷
    instr 0 (Ldc 3 (One (Bl true))) ∷
    instr 0 (Unary Lneg 3 4) ∷
    [])) refl refl ∷
    -- operands that are operations: the left's registers come first
    row 38 0x0008040601010101010701110211021500150012011500666f72746d70616263020301020203
    (script (ExprStmt (BinaryExpr Minus (BinaryExpr Star (Name 1) (Name 2)) (UnaryExpr Negate (Name 3))) ∷ []))
    (program 0 (
    instr 0 (Ldn 0 1) ∷
    instr 0 (Ldn 1 2) ∷
    instr 0 (Binary Mul 0 1 2) ∷
    instr 0 (Ldn 3 3) ∷
    instr 0 (Unary Nneg 3 4) ∷
    instr 0 (Binary Sub 2 4 5) ∷
    [])) refl refl ∷
    -- literals and names as statements: True and False give nothing
    row 44 0x000b02060101050701130007011400070116000701170007011500666f72746d706140000000000000000101
    (script (ExprStmt (Literal two) ∷ ExprStmt (Literal (Lit.Text 1)) ∷ ExprStmt (Literal (Truth true)) ∷ ExprStmt (Literal (Truth false)) ∷ ExprStmt (Name 1) ∷ []))
    (program 0 (
    instr 0 (Ldc 0 (One (Num (of_bits binary64 0x4000000000000000)))) ∷
    instr 0 (Ldc 1 (One (Text 1))) ∷
    instr 0 (Ldn 2 1) ∷
    [])) refl refl ∷
    -- nothing but True: no instructions at all
    row 16 0x00030106010107011600666f72746d70
    (script (ExprStmt (Literal (Truth true)) ∷ []))
    (program 0 (
    [])) refl refl ∷
    -- each literal, a name and nothing assigned
    row 61 0x000f03060101010708011600080117000701100116000801130008011400080115000800666f72746d7061620101010140000000000000000102010201
    (script (VarInit 1 (Expression (Literal (Truth true))) ∷ VarInit 1 (Expression (Literal (Truth false))) ∷ ExprStmt (VarAssign 1 (Expression (Literal (Truth true)))) ∷ VarInit 1 (Expression (Literal two)) ∷ VarInit 1 (Expression (Literal (Lit.Text 2))) ∷ VarInit 1 (Expression (Name 2)) ∷ VarDecl 1 ∷ []))
    (program 0 (
    instr 0 (Stc (One (Bl true)) 1) ∷
    instr 0 (Stc (One (Bl false)) 1) ∷
    instr 0 (Stc (One (Bl true)) 1) ∷
    instr 0 (Stc (One (Num (of_bits binary64 0x4000000000000000))) 1) ∷
    instr 0 (Stc (One (Text 2)) 1) ∷
    instr 0 (Stn 2 1) ∷
    instr 0 (Stc (One Null) 1) ∷
    [])) refl refl ∷
    -- operations, an assignment, an ArrayMut and a Call assigned: the last register is stored
    row 96 0x0012040601010101050801110213001300070110011201150008011001150008010e021300130008010f00666f72746d7061626301013ff0000000000000400000000000000002020103020101033ff000000000000040000000000000000201
    (script (VarInit 1 (Expression (BinaryExpr Plus (Literal one) (Literal two))) ∷ ExprStmt (VarAssign 2 (Expression (UnaryExpr Negate (Name 1)))) ∷ VarInit 3 (Expression (VarAssign 2 (Expression (Name 1)))) ∷ VarInit 1 (Expression (ArrayMut 3 (Literal one) (Literal two))) ∷ VarInit 2 (Expression (FnCall 1 no_exprs)) ∷ []))
    (program 0 (
    instr 0 (Ldc 0 (One (Num (of_bits binary64 0x3ff0000000000000)))) ∷
    instr 0 (Ldc 1 (One (Num (of_bits binary64 0x4000000000000000)))) ∷
    instr 0 (Binary Add 0 1 2) ∷
    instr 0 (Str 2 1) ∷
    instr 0 (Ldn 3 1) ∷
    instr 0 (Unary Nneg 3 4) ∷
    instr 0 (Str 4 2) ∷
    instr 0 (Stn 1 2) ∷
    instr 0 (Str 4 3) ∷
    instr 0 (Ldc 5 (One (Num (of_bits binary64 0x4000000000000000)))) ∷
    instr 0 (Ldc 6 (One (Num (of_bits binary64 0x3ff0000000000000)))) ∷
    instr 0 (Upda 3 6 5) ∷
    instr 0 (Str 6 1) ∷
    instr 0 (Call 1 0) ∷
    instr 0 (FnStackPop 7) ∷
    instr 0 (Str 7 2) ∷
    [])) refl refl ∷
    -- an Array stores under its own name, each literal as it is
    row 47 0x000a03060101010208010c041300140016001700070110010c00666f72746d70616202014000000000000000020201
    (script (VarInit 2 (Array 1 (two ∷ Lit.Text 2 ∷ Truth true ∷ Truth false ∷ [])) ∷ ExprStmt (VarAssign 2 (Array 1 [])) ∷ []))
    (program 0 (
    instr 0 (Stc (Arr (Num (of_bits binary64 0x4000000000000000) ∷ Text 2 ∷ Bl true ∷ Bl false ∷ [])) 1) ∷
    instr 0 (Stc (Arr []) 1) ∷
    [])) refl refl ∷
    -- an ArrayAccess: Ldav, then Str of its register
    row 45 0x00080406010101010208010d011300070110010d011500666f72746d7061626302014000000000000000020103
    (script (VarInit 2 (ArrayAccess 1 (Literal two)) ∷ ExprStmt (VarAssign 2 (ArrayAccess 1 (Name 3))) ∷ []))
    (program 0 (
    instr 0 (Ldc 0 (One (Num (of_bits binary64 0x4000000000000000)))) ∷
    instr 0 (Ldav 1 0 1) ∷
    instr 0 (Str 1 2) ∷
    instr 0 (Ldn 2 3) ∷
    instr 0 (Ldav 1 2 3) ∷
    instr 0 (Str 3 2) ∷
    [])) refl refl ∷
    -- two names assigned: both store the Ldav's register; behind a True the outer one stores the register before
    row 47 0x0009040601010101020701100110010d011300080110011600666f72746d7061626302030140000000000000000203
    (script (ExprStmt (VarAssign 2 (Expression (VarAssign 3 (ArrayAccess 1 (Literal two))))) ∷ VarInit 2 (Expression (VarAssign 3 (Expression (Literal (Truth true))))) ∷ []))
    (program 0 (
    instr 0 (Ldc 0 (One (Num (of_bits binary64 0x4000000000000000)))) ∷
    instr 0 (Ldav 1 0 1) ∷
    instr 0 (Str 1 3) ∷
    instr 0 (Str 1 2) ∷
    instr 0 (Stc (One (Bl true)) 3) ∷
    instr 0 (Str 1 2) ∷
    [])) refl refl ∷
    -- an index that takes no register: Ldav into the first, which is stored
    row 24 0x000403060101010108010d011600666f72746d7061620201
    (script (VarInit 2 (ArrayAccess 1 (Literal (Truth true))) ∷ []))
    (program 0 (
    instr 0 (Ldav 1 0 0) ∷
    instr 0 (Str 0 2) ∷
    [])) refl refl ∷
    -- an ArrayMut: the value first, then the index
    row 39 0x0005020601010107010e0213001300666f72746d7061013ff00000000000004000000000000000
    (script (ExprStmt (ArrayMut 1 (Literal one) (Literal two)) ∷ []))
    (program 0 (
    instr 0 (Ldc 0 (One (Num (of_bits binary64 0x4000000000000000)))) ∷
    instr 0 (Ldc 1 (One (Num (of_bits binary64 0x3ff0000000000000)))) ∷
    instr 0 (Upda 1 1 0) ∷
    [])) refl refl ∷
    -- a Table's items in file order, and an empty Table
    row 57 0x000c050601010101010208010a030b0113000b0115000b011400070110010a00666f72746d706162636401043ff00000000000000201030102
    (script (VarInit 1 (Table (more_items 4 (Literal one) (more_items 2 (Name 1) (more_items 3 (Literal (Lit.Text 1)) no_items)))) ∷ ExprStmt (VarAssign 2 (Table no_items)) ∷ []))
    (program 0 (
    instr 0 (Stc (Tab []) 1) ∷
    instr 0 (Ldc 0 (One (Num (of_bits binary64 0x3ff0000000000000)))) ∷
    instr 0 (Tbli 1 4 0) ∷
    instr 0 (Ldn 1 1) ∷
    instr 0 (Tbli 1 2 1) ∷
    instr 0 (Ldc 2 (One (Text 1))) ∷
    instr 0 (Tbli 1 3 2) ∷
    instr 0 (Stc (Tab []) 2) ∷
    [])) refl refl ∷
    -- a Call with two parameters, pushed in written order
    row 34 0x000503060101010107010f0213001500666f72746d706162013ff000000000000002
    (script (ExprStmt (FnCall 1 (more_exprs (Literal one) (more_exprs (Name 2) no_exprs))) ∷ []))
    (program 0 (
    instr 0 (Ldc 0 (One (Num (of_bits binary64 0x3ff0000000000000)))) ∷
    instr 0 (FnStackPush 0) ∷
    instr 0 (Ldn 1 2) ∷
    instr 0 (FnStackPush 1) ∷
    instr 0 (Call 1 2) ∷
    instr 0 (FnStackPop 2) ∷
    [])) refl refl ∷
    -- case 7: parameters are popped in written order; the declarations come first
    row 68 0x000e050601010101010307011500090315001500020206011500060007010f0213001300666f72746d70616263640304020101043ff00000000000004000000000000000
    (script (ExprStmt (Name 3) ∷ FnDecl 4 (2 ∷ 1 ∷ []) (script (ReturnExpr (Name 1) ∷ Return ∷ [])) ∷ ExprStmt (FnCall 4 (more_exprs (Literal one) (more_exprs (Literal two) no_exprs))) ∷ []))
    (program 9 (
    instr 0 (Fn 4 (2 ∷ 1 ∷ [])) ∷
    instr 0 (FnStackPop 1) ∷
    instr 0 (Str 1 2) ∷
    instr 0 (FnStackPop 2) ∷
    instr 0 (Str 2 1) ∷
    instr 0 (Ldn 3 1) ∷
    instr 0 (FnStackPush 3) ∷
    instr 0 FnRet ∷
    instr 0 FnRet ∷
    instr 0 (Ldn 0 3) ∷
    instr 1 (Ldc 4 (One (Num (of_bits binary64 0x3ff0000000000000)))) ∷
    instr 1 (FnStackPush 4) ∷
    instr 1 (Ldc 5 (One (Num (of_bits binary64 0x4000000000000000)))) ∷
    instr 1 (FnStackPush 5) ∷
    instr 1 (Call 4 2) ∷
    instr 1 (FnStackPop 6) ∷
    [])) refl refl ∷
    -- a function without parameters and with an empty Block
    row 19 0x0003020601010109010200666f72746d706101
    (script (FnDecl 1 [] no_stmts ∷ []))
    (program 2 (
    instr 0 (Fn 1 []) ∷
    instr 0 Nop ∷
    [])) refl refl ∷
    -- a function whose Block opens labels: the code behind it stands under a label of its own
    row 34 0x00080306010101020901020103021500020007011500666f72746d70616201000202
    (script (FnDecl 1 [] (script (IfStmt (Name 2) no_stmts (Else no_stmts) ∷ [])) ∷ ExprStmt (Name 2) ∷ []))
    (program 6 (
    instr 0 (Fn 1 []) ∷
    instr 0 (Ldn 0 2) ∷
    instr 0 (JmpCnd Jmpf 0 2) ∷
    instr 1 Nop ∷
    instr 1 (Jmpa 2) ∷
    instr 2 Nop ∷
    instr 3 (Ldn 1 2) ∷
    [])) refl refl ∷
    -- Return with and without a value outside of a function
    row 26 0x000401060102060113000600666f72746d704000000000000000
    (script (ReturnExpr (Literal two) ∷ Return ∷ []))
    (program 0 (
    instr 0 (Ldc 0 (One (Num (of_bits binary64 0x4000000000000000)))) ∷
    instr 0 (FnStackPush 0) ∷
    instr 0 FnRet ∷
    instr 0 FnRet ∷
    [])) refl refl ∷
    -- If, two Elifs and an else
    row 77 0x0014070601010101010101020306150002010701150004021500020004021600020107011500070115000701130007011500666f72746d70616263646566020102030405400000000000000006
    (script (IfStmt (Name 1) (script (ExprStmt (Name 2) ∷ [])) (Elif (Name 3) no_stmts (Elif (Literal (Truth true)) (script (ExprStmt (Name 4) ∷ [])) (Else (script (ExprStmt (Name 5) ∷ ExprStmt (Literal two) ∷ []))))) ∷ ExprStmt (Name 6) ∷ []))
    (program 0 (
    instr 0 (Ldn 0 1) ∷
    instr 0 (JmpCnd Jmpf 0 2) ∷
    instr 1 (Ldn 1 2) ∷
    instr 1 (Jmpa 7) ∷
    instr 2 (Ldn 2 3) ∷
    instr 2 (JmpCnd Jmpf 2 4) ∷
    instr 3 Nop ∷
    instr 3 (Jmpa 7) ∷
    instr 4 (JmpCnd Jmpf 2 6) ∷
    instr 5 (Ldn 3 4) ∷
    instr 5 (Jmpa 7) ∷
    instr 6 (Ldn 4 5) ∷
    instr 6 (Ldc 5 (One (Num (of_bits binary64 0x4000000000000000)))) ∷
    instr 7 Nop ∷
    instr 7 (Ldn 6 6) ∷
    [])) refl refl ∷
    -- an If in a Block of an If and in an else
    row 49 0x000c050601010101010103031500020103021500020003021500020107011500666f72746d706162636400010002000304
    (script (IfStmt (Name 1) (script (IfStmt (Name 2) no_stmts (Else no_stmts) ∷ [])) (Else (script (IfStmt (Name 3) (script (ExprStmt (Name 4) ∷ [])) (Else no_stmts) ∷ []))) ∷ []))
    (program 0 (
    instr 0 (Ldn 0 1) ∷
    instr 0 (JmpCnd Jmpf 0 4) ∷
    instr 1 (Ldn 1 2) ∷
    instr 1 (JmpCnd Jmpf 1 3) ∷
    instr 2 Nop ∷
    instr 2 (Jmpa 3) ∷
    instr 3 Nop ∷
    instr 3 (Jmpa 7) ∷
    instr 4 (Ldn 2 3) ∷
    instr 4 (JmpCnd Jmpf 2 6) ∷
    instr 5 (Ldn 3 4) ∷
    instr 5 (Jmpa 6) ∷
    instr 6 Nop ∷
    instr 7 Nop ∷
    [])) refl refl ∷
    -- a For with an empty Block, in a For over a Call (`fortmp`) with two parameters
    row 68 0x000f0606010101010101030701150005020f021300150002020502150002000701150007011500666f72746d706162636465010203043ff0000000000000010102030405
    (script (ExprStmt (Name 1) ∷ ForStmt 2 3 (OverCall 4 (more_exprs (Literal one) (more_exprs (Name 1) no_exprs))) (script (ForStmt 1 2 (OverName 3) no_stmts ∷ ExprStmt (Name 4) ∷ [])) ∷ ExprStmt (Name 5) ∷ []))
    (program 0 (
    instr 0 (Ldn 0 1) ∷
    instr 0 (Ldc 2 (One (Num (of_bits binary64 0x3ff0000000000000)))) ∷
    instr 0 (FnStackPush 2) ∷
    instr 0 (Ldn 3 1) ∷
    instr 0 (FnStackPush 3) ∷
    instr 0 (Call 4 2) ∷
    instr 0 (FnStackPop 4) ∷
    instr 0 (Str 4 0) ∷
    instr 0 (Stc (One (Num (of_bits binary64 0x0000000000000000))) 2) ∷
    instr 0 (Ldas 0 5) ∷
    instr 1 (Ldn 1 2) ∷
    instr 1 (Ldav 0 1 6) ∷
    instr 1 (Str 6 3) ∷
    instr 1 (Stc (One (Num (of_bits binary64 0x0000000000000000))) 1) ∷
    instr 1 (Ldas 3 8) ∷
    instr 2 (Ldn 7 1) ∷
    instr 2 (Ldav 3 7 9) ∷
    instr 2 (Str 9 2) ∷
    instr 2 Nop ∷
    instr 2 (Incrr 7) ∷
    instr 2 (Str 7 1) ∷
    instr 2 (Binary BinOpKind.Lt 7 8 10) ∷
    instr 2 (JmpCnd Jmpt 10 2) ∷
    instr 2 (Ldn 11 4) ∷
    instr 2 (Incrr 1) ∷
    instr 2 (Str 1 2) ∷
    instr 2 (Binary BinOpKind.Lt 1 5 12) ∷
    instr 2 (JmpCnd Jmpt 12 1) ∷
    instr 2 (Ldn 13 5) ∷
    [])) refl refl ∷
    -- an If in a For: the loop's end stands under the If's last label
    row 47 0x000b05060101010101020502150002010302150002010701150007011500666f72746d706162636401020300010204
    (script (ForStmt 1 2 (OverName 3) (script (IfStmt (Name 1) (script (ExprStmt (Name 2) ∷ [])) (Else no_stmts) ∷ [])) ∷ ExprStmt (Name 4) ∷ []))
    (program 0 (
    instr 0 (Stc (One (Num (of_bits binary64 0x0000000000000000))) 1) ∷
    instr 0 (Ldas 3 1) ∷
    instr 1 (Ldn 0 1) ∷
    instr 1 (Ldav 3 0 2) ∷
    instr 1 (Str 2 2) ∷
    instr 1 (Ldn 3 1) ∷
    instr 1 (JmpCnd Jmpf 3 3) ∷
    instr 2 (Ldn 4 2) ∷
    instr 2 (Jmpa 3) ∷
    instr 3 Nop ∷
    instr 3 (Incrr 0) ∷
    instr 3 (Str 0 1) ∷
    instr 3 (Binary BinOpKind.Lt 0 1 5) ∷
    instr 3 (JmpCnd Jmpt 5 1) ∷
    instr 3 (Ldn 6 4) ∷
    [])) refl refl ∷
    -- 6: the left operand of a Binary takes no register
    row 42 0x0006020601010107011102100113001300666f72746d7061010140000000000000004000000000000000
    (script (ExprStmt (BinaryExpr Plus (VarAssign 1 (Expression (Literal two))) (Literal two)) ∷ []))
    (refused 6) refl refl ∷
    -- 6: the operand of a Unary takes no register
    row 32 0x000502060101010701120110011300666f72746d706102014000000000000000
    (script (ExprStmt (UnaryExpr Negate (VarAssign 1 (Expression (Literal two)))) ∷ []))
    (refused 6) refl refl ∷
    -- 6: the value of an ArrayMut takes no register
    row 31 0x0005020601010107010e0213001600666f72746d7061013ff0000000000000
    (script (ExprStmt (ArrayMut 1 (Literal one) (Literal (Truth true))) ∷ []))
    (refused 6) refl refl ∷
    -- where a register was taken before, that one is read in its place
    row 59 0x000d02060101030701150007011102100113001001130007010e0216001700666f72746d7061010101400000000000000001400000000000000001
    (script (ExprStmt (Name 1) ∷ ExprStmt (BinaryExpr Plus (VarAssign 1 (Expression (Literal two))) (VarAssign 1 (Expression (Literal two)))) ∷ ExprStmt (ArrayMut 1 (Literal (Truth true)) (Literal (Truth false))) ∷ []))
    (program 0 (
    instr 0 (Ldn 0 1) ∷
    instr 0 (Stc (One (Num (of_bits binary64 0x4000000000000000))) 1) ∷
    instr 0 (Stc (One (Num (of_bits binary64 0x4000000000000000))) 1) ∷
    instr 0 (Binary Add 0 0 1) ∷
    instr 0 (Upda 1 1 1) ∷
    [])) refl refl ∷
    -- 7: 97 registers
    row 235 0x004b020601011905021500020005021500020005021500020005021500020005021500020005021500020005021500020005021500020005021500020005021500020005021500020005021500020005021500020005021500020005021500020005021500020005021500020005021500020005021500020005021500020005021500020005021500020005021500020005021500020007011500666f72746d706101010101010101010101010101010101010101010101010101010101010101010101010101010101010101010101010101010101010101010101010101010101010101010101010101
    (times 24 (ForStmt 1 1 (OverName 1) no_stmts) (script (ExprStmt (Name 1) ∷ [])))
    (refused 7) refl refl ∷
    []

-- ---- 7, "more than 96 registers or 1,024 instructions", and "6 or 7, the earlier in emission (6 first at the same node)"

abbrev number : Lowered → ℕ
number (refused n) = n
number (lowered p) = 0

-- a register, an instruction, and an ArrayMut whose value takes no register and whose index takes one
abbrev register : Stmt
register = ExprStmt (Name 1)

abbrev instruction : Stmt
instruction = VarDecl 1

abbrev below : Stmts
below = script (ExprStmt (ArrayMut 1 (Literal one) (Literal (Truth true))) ∷ [])

registers_taken : number (lower (times 96 register no_stmts)) ≡ 0
registers_taken = refl

register_too_many : number (lower (times 97 register no_stmts)) ≡ 7
register_too_many = refl

instructions_pushed : number (lower (times 1024 instruction no_stmts)) ≡ 0
instructions_pushed = refl

instruction_too_many : number (lower (times 1025 instruction no_stmts)) ≡ 7
instruction_too_many = refl

-- an ArrayAccess by a name: Ldn, Ldav and Str, and two registers
abbrev access : Stmts
access = script (VarInit 2 (ArrayAccess 1 (Name 1)) ∷ [])

store_pushed : number (lower (times 1021 instruction access)) ≡ 0
store_pushed = refl

store_too_many : number (lower (times 1022 instruction access)) ≡ 7
store_too_many = refl

store_takes_no_register : number (lower (times 94 register access)) ≡ 0
store_takes_no_register = refl

instruction_before_below : number (lower (times 1025 instruction below)) ≡ 7
instruction_before_below = refl

below_at_the_same_node : number (lower (times 1024 instruction below)) ≡ 6
below_at_the_same_node = refl

-- ---- which literals are finite: document 02, M-104

abbrev finite_lit : Lit → Bool
finite_lit l = finite_single (literal l)

finite_literals : (finite_lit (Val 0x7fefffffffffffff) ≡ true) × (finite_lit (Val 0x7ff0000000000000) ≡ false) × (finite_lit (Val 0xfff8000000000001) ≡ false)
unfolding of_bits
finite_literals = (refl, refl, refl)
