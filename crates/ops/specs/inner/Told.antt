-- What the records of a program's bytes tell, and the lines of its stored tables, without a check of ranges. Written as the code is, and needed by its
-- proof only: the contract of the whole cites `program_text`. Definitions only.
use Rattle.std.specs.Prelude.{ℕ, zero, suc, ◌+◌, ◌*◌, ◌≤◌, ◌<◌, cond, List, [], ◌∷◌, eqb, length, get_or}
use Rattle.lent.specs.Bytes.{be_value, part}
use Rattle.sifv.specs.Value.{Single, Value, One, Arr, Tab}
use Rattle.sifv.specs.Slot.{single_of}
use Rattle.opc.specs.Op.{BinOpKind, Lor, UnOpKind, Lneg, Nneg, JmpOpKind, Jmpt, Jmpf}
use Rattle.opc.specs.Op.{Op, Binary, Unary, Ldc, Ldn, Mv, Ldas, Ldav, Upda, Stc, Stn, Str, JmpCnd, Jmpa, Incrr, Decrr, Fn, Call, FnRet, FnStackPush, FnStackPop, Tbli, Tblg, Nop, Stop, Instr, instr}
use Rattle.opc.specs.Record.{Fields, bin_kinds, items_of}
use Rattle.opc.specs.inner.Fetch.{pick_or, record_at}
use Rattle.text.specs.Text.{decimal, line_of}
use Rattle.lent.specs.Lists.{tabulate}

-- ---- kinds by number: another number is as the last

abbrev pub bin_in : ℕ → BinOpKind
bin_in k = pick_or Lor bin_kinds k

abbrev pub un_in : ℕ → UnOpKind
un_in k = pick_or Nneg (Lneg ∷ Nneg ∷ []) k

abbrev pub jmp_in : ℕ → JmpOpKind
jmp_in k = pick_or Jmpf (Jmpt ∷ Jmpf ∷ []) k

-- ---- the pool

-- the number of entry k, which is also the parameter that it holds
abbrev pub param_at : List ℕ → ℕ → ℕ
param_at b k = be_value (part b (16384 + 16 * k + 8) 8)

-- the single value of entry k
abbrev pub item_told : List ℕ → ℕ → Single
item_told b k = single_of (get_or b (16384 + 16 * k) 0) (param_at b k)

-- kind, length, number
abbrev pub literal_told : List ℕ → ℕ → ℕ → ℕ → Value
literal_told b k n w = cond (eqb k 5) (Arr (tabulate w n (item_told b))) (cond (eqb k 6) (Tab []) (One (single_of k w)))

-- ---- operations: 1 to 24, in the order of opc.rs less StdCall; another number is as the last

abbrev pub operations_told : List ℕ → Fields → List Op
operations_told b f =
    Binary (bin_in f.kind) f.a f.b f.c
    ∷ Unary (un_in f.kind) f.a f.b
    ∷ Ldc f.a (literal_told b f.kind f.len f.word)
    ∷ Ldn f.a f.b
    ∷ Mv f.a f.b
    ∷ Ldas f.a f.b
    ∷ Ldav f.a f.b f.c
    ∷ Upda f.a f.b f.c
    ∷ Stc (literal_told b f.kind f.len f.word) f.a
    ∷ Stn f.a f.b
    ∷ Str f.a f.b
    ∷ JmpCnd (jmp_in f.kind) f.a f.word
    ∷ Jmpa f.word
    ∷ Incrr f.a
    ∷ Decrr f.a
    ∷ Fn f.a (tabulate f.word f.len (param_at b))
    ∷ Call f.a f.word
    ∷ FnRet
    ∷ FnStackPush f.a
    ∷ FnStackPop f.a
    ∷ Tbli f.a f.b f.c
    ∷ Tblg f.a f.b f.c
    ∷ Nop
    ∷ Stop
    ∷ []

abbrev pub op_in : List ℕ → Fields → Op
op_in b f = pick_or Stop (operations_told b f) f.code

-- the n entries from `first` on are within the pool
abbrev pub Within : ℕ → ℕ → Type 0
Within first n = 0 < n → first + n ≤ 1024

-- what an operation keeps in the pool is within
abbrev pub PooledTold : ℕ → Op → Type 0
PooledTold first o = Within first (length (items_of o))

abbrev pub instr_at : List ℕ → ℕ → Instr
instr_at b i = instr (record_at b i).lbl (op_in b (record_at b i))

-- ---- stored tables: two bytes an entry, 0 or the index and 1

-- a line of word w for number i
abbrev pub entry_line : List ℕ → ℕ → ℕ → List ℕ
entry_line w i zero = []
entry_line w i (suc j) = line_of (w ∷ (decimal i ∷ (decimal j ∷ [])))

abbrev pub table_entry : List ℕ → ℕ → ℕ → ℕ
table_entry b base i = be_value (part b (base + i * 2) 2)
