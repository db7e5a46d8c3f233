-- A program as text: document 01, "The listing program", from its `start` line to its `fn` lines. Definitions only.
use Rattle.std.specs.Prelude.{ℕ, zero, suc, max, List, [], ◌∷◌, ◌++◌, map}
use Prim.Native.String.{String}
use Rattle.std.proofs.Math.Option.{Option, none, some}
use Rattle.opc.specs.Op.{BinOpKind, Add, Sub, Mul, Div, Modu, Eq, Neq, LtEq, Lt, GtEq, Gt, Land, Lnot, Lor, UnOpKind, Lneg, Nneg, JmpOpKind, Jmpt, Jmpf}
use Rattle.opc.specs.Op.{Op, Binary, Unary, Ldc, Ldn, Mv, Ldas, Ldav, Upda, Stc, Stn, Str, JmpCnd, Jmpa, Incrr, Decrr, Fn, Call, FnRet, FnStackPush, FnStackPop, Tbli, Tblg, Nop, Stop, Instr, instr, label, Code}
use Rattle.tables.specs.Tables.{Program, label_at, function_at}
use Rattle.text.specs.Text.{ascii, decimal, value_text, words, line_of}

-- ---- operations: "operation, operands in `opc.rs` order (kinds by their names there, parameters one by one, numbers decimal)"

abbrev pub bin_text : BinOpKind → List ℕ
bin_text Add = ascii "Add"
bin_text Sub = ascii "Sub"
bin_text Mul = ascii "Mul"
bin_text Div = ascii "Div"
bin_text Modu = ascii "Modu"
bin_text Eq = ascii "Eq"
bin_text Neq = ascii "Neq"
bin_text LtEq = ascii "LtEq"
bin_text Lt = ascii "Lt"
bin_text GtEq = ascii "GtEq"
bin_text Gt = ascii "Gt"
bin_text Land = ascii "Land"
bin_text Lnot = ascii "Lnot"
bin_text Lor = ascii "Lor"

abbrev pub un_text : UnOpKind → List ℕ
un_text Lneg = ascii "Lneg"
un_text Nneg = ascii "Nneg"

abbrev pub jmp_text : JmpOpKind → List ℕ
jmp_text Jmpt = ascii "Jmpt"
jmp_text Jmpf = ascii "Jmpf"

abbrev pub op_words : Op → List (List ℕ)
op_words (Binary k a b d) = ascii "Binary" ∷ (bin_text k ∷ map decimal (a ∷ (b ∷ (d ∷ []))))
op_words (Unary k a d) = ascii "Unary" ∷ (un_text k ∷ map decimal (a ∷ (d ∷ [])))
op_words (Ldc d v) = ascii "Ldc" ∷ (decimal d ∷ (value_text v ∷ []))
op_words (Ldn d x) = words "Ldn" (d ∷ (x ∷ []))
op_words (Mv s d) = words "Mv" (s ∷ (d ∷ []))
op_words (Ldas x d) = words "Ldas" (x ∷ (d ∷ []))
op_words (Ldav x i d) = words "Ldav" (x ∷ (i ∷ (d ∷ [])))
op_words (Upda x i v) = words "Upda" (x ∷ (i ∷ (v ∷ [])))
op_words (Stc v x) = ascii "Stc" ∷ (value_text v ∷ (decimal x ∷ []))
op_words (Stn x y) = words "Stn" (x ∷ (y ∷ []))
op_words (Str s x) = words "Str" (s ∷ (x ∷ []))
op_words (JmpCnd k s l) = ascii "JmpCnd" ∷ (jmp_text k ∷ map decimal (s ∷ (l ∷ [])))
op_words (Jmpa l) = words "Jmpa" (l ∷ [])
op_words (Incrr s) = words "Incrr" (s ∷ [])
op_words (Decrr s) = words "Decrr" (s ∷ [])
op_words (Fn x ps) = words "Fn" (x ∷ ps)
op_words (Call x k) = words "Call" (x ∷ (k ∷ []))
op_words FnRet = words "FnRet" []
op_words (FnStackPush s) = words "FnStackPush" (s ∷ [])
op_words (FnStackPop d) = words "FnStackPop" (d ∷ [])
op_words (Tbli t k s) = words "Tbli" (t ∷ (k ∷ (s ∷ [])))
op_words (Tblg t k d) = words "Tblg" (t ∷ (k ∷ (d ∷ [])))
op_words Nop = words "Nop" []
op_words Stop = words "Stop" []

-- ---- lines

-- "index, label, operation, operands"
abbrev pub op_line : ℕ → Instr → List ℕ
op_line i (instr l o) = line_of (ascii "op" ∷ (decimal i ∷ (decimal l ∷ op_words o)))

abbrev pub op_lines : ℕ → Code → List ℕ
op_lines i [] = []
op_lines i (c ∷ cs) = op_line i c ++ op_lines (suc i) cs

-- a line for each number from i on, n of them, that has an index
abbrev pub index_line : String → ℕ → Option ℕ → List ℕ
index_line s i none = []
index_line s i (some j) = line_of (words s (i ∷ (j ∷ [])))

abbrev pub index_lines : String → ℕ → ℕ → (ℕ → Option ℕ) → List ℕ
index_lines s i zero f = []
index_lines s i (suc n) f = index_line s i (f i) ++ index_lines s (suc i) n f

-- no label beyond the highest has an index
abbrev pub highest : Code → ℕ
highest [] = 0
highest (c ∷ cs) = max (label c) (highest cs)

-- ---- the whole: "code start", the instructions, "label and index, labels ascending", "`fn text index` after labels, texts ascending"

abbrev pub program_text : Program → List ℕ
program_text p =
    line_of (words "start" (p.code_start ∷ [])) ++ (op_lines 0 p.code ++
    (index_lines "label" 0 (suc (highest p.code)) (label_at p.code) ++ index_lines "fn" 0 64 (function_at p.code)))
