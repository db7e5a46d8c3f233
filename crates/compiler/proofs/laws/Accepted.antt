-- What is lowered is accepted: a tree within the limits, of at most 1,024 nodes, that is not refused gives a program whose buffer is read back, so that
-- neither start nor run answers 8 on it. Document 01, "Numbers given for the input".
use Rattle.std.specs.Prelude.{◌≡◌, refl, Bool, true, false, cond, List, [], ◌∷◌, ◌++◌, ℕ, zero, suc, ◌+◌, ◌≤◌, T, leb, length}
use Rattle.std.proofs.Common.{ap, ◌∙◌, subst, arith, length-append, le-leb, leb-false}
use Rattle.std.proofs.Math.Option.{none, some}
use Rattle.lent.specs.Bytes.{Each, none, more}
use Rattle.lent.specs.laws.Each.{each_append}
use Rattle.sifv.specs.laws.Layout.{and_both}
use Rattle.opc.specs.Op.{Instr, op, Code}
use Rattle.opc.specs.Record.{items_of}
use Rattle.tables.specs.Tables.{Program}
use Rattle.tables.specs.ProgramBytes.{encode_program, decode_program}
use Rattle.tables.specs.laws.ProgramLaws.{program_behind}
use Rattle.ast.specs.Tree.{Expr, Literal, Name, BinaryExpr, UnaryExpr, VarAssign, ArrayMut, FnCall}
use Rattle.ast.specs.Flat.{flat_expr, flat_stmt, flat_stmts, flat_rest, flat}
use Rattle.ast.specs.Tree.{Stmt, Block, IfStmt, ForStmt, Return, ReturnExpr, ExprStmt, VarDecl, VarInit, FnDecl, Stmts, no_stmts, more_stmts, Rest, Else, Elif}
use Rattle.compiler.specs.Lower.{Section, Decl, Main, Event, Reg, Push, Below, stmts_regs}
use Rattle.compiler.specs.Lower.{else_labels, stmt_labels, stmts_labels, rest_labels}
use Rattle.compiler.specs.Lower.{top, lower_tree, refusal, only, code_of, program_of, lowered, decide, lower}
pub use Rattle.compiler.proofs.laws.Events.{regs_in}
use Rattle.compiler.proofs.laws.Events.{weigh, pushes_in, InRange, EventOk, Emits, else_labels_lem, block_emits, stmts_emits, anywhere}
use Rattle.compiler.specs.Within.{StmtsIn}
use Rattle.opc.specs.laws.RecordRange.{Any}
use Rattle.opc.specs.Limits.{OpFits}
use Rattle.tables.specs.Limits.{item_total, code_ok, program_ok}

-- ---- labels: fewer than nodes

some_node : (e : Expr) → 1 ≤ length (flat_expr e)
some_node (Literal l) = omega arith
some_node (Name x) = omega arith
some_node (BinaryExpr t a b) = omega arith
some_node (UnaryExpr t a) = omega arith
some_node (VarAssign x r) = omega arith
some_node (ArrayMut x i v) = omega arith
some_node (FnCall f ps) = omega arith

mutual
  stmt_labels_lem : (s : Stmt) → stmt_labels s + 1 ≤ length (flat_stmt s)
  stmt_labels_lem (Block b) = omega (arith, else_labels_lem b, stmts_labels_lem b)
  stmt_labels_lem (IfStmt c b k) = simp length-append (omega (arith, some_node c, else_labels_lem b, stmts_labels_lem b, rest_labels_lem k))
  stmt_labels_lem (ForStmt i v s b) = simp length-append (omega (arith, else_labels_lem b, stmts_labels_lem b))
  stmt_labels_lem Return = omega arith
  stmt_labels_lem (ReturnExpr e) = omega arith
  stmt_labels_lem (ExprStmt e) = omega arith
  stmt_labels_lem (VarDecl x) = omega arith
  stmt_labels_lem (VarInit x r) = omega arith
  stmt_labels_lem (FnDecl f ps b) = simp length-append (omega (arith, else_labels_lem b, stmts_labels_lem b))

  stmts_labels_lem : (b : Stmts) → else_labels b (stmts_labels b) ≤ length (flat_stmts b)
  stmts_labels_lem no_stmts = omega arith
  stmts_labels_lem (more_stmts s k) = simp length-append (omega (arith, stmt_labels_lem s, else_labels_lem k, stmts_labels_lem k))

  rest_labels_lem : (k : Rest) → rest_labels k ≤ length (flat_rest k)
  rest_labels_lem (Else k) = stmts_labels_lem k
  rest_labels_lem (Elif c b k) = simp length-append (omega (arith, some_node c, else_labels_lem b, stmts_labels_lem b, rest_labels_lem k))

pub tree_labels : (t : Stmts) → length (flat t) ≤ 1024 → stmts_labels t ≤ 1023
tree_labels t h = omega (arith, else_labels_lem t, stmts_labels_lem t)

tree_emits : (t : Stmts) → StmtsIn t → length (flat t) ≤ 1024 → Emits Any (T true) 0 (0 + stmts_labels t) 0 (stmts_regs t) (length (flat_stmts t)) (lower_tree t)
tree_emits t i h = block_emits top tt 0 (λ z. omega arith) t (stmts_emits anywhere t (λ z. i) top tt tt 0 0 (λ z. omega (arith, tree_labels t h)))

-- ---- what is not refused

-- from r registers and k instructions on: at most 96 registers are taken and 1,024 instructions pushed
pub not_refused : (es : List Event) (r k : ℕ) → r ≤ 96 → k ≤ 1024 → refusal es r k ≡ 0 → (r + regs_in es ≤ 96) × (k + pushes_in es ≤ 1024)
not_refused [] r k h g e = omega arith
not_refused (Reg ∷ es) r k h g e = by_test (leb 96 r) refl e (not_refused es (suc r) k)
  where
    by_test : (b : Bool) → leb 96 r ≡ b → cond b 7 (refusal es (suc r) k) ≡ 0
        → (suc r ≤ 96 → k ≤ 1024 → refusal es (suc r) k ≡ 0 → (suc r + regs_in es ≤ 96) × (k + pushes_in es ≤ 1024)) → (r + suc (regs_in es) ≤ 96) × (k + pushes_in es ≤ 1024)
    by_test true q z f = absurd (omega arith)
    by_test false q z f = let p = leb-false 96 r q in let y = f p g z in omega arith
not_refused (Push w i ∷ es) r k h g e = by_test (leb 1024 k) refl e (not_refused es r (suc k))
  where
    by_test : (b : Bool) → leb 1024 k ≡ b → cond b 7 (refusal es r (suc k)) ≡ 0
        → (r ≤ 96 → suc k ≤ 1024 → refusal es r (suc k) ≡ 0 → (r + regs_in es ≤ 96) × (suc k + pushes_in es ≤ 1024)) → (r + regs_in es ≤ 96) × (k + (1 + pushes_in es) ≤ 1024)
    by_test true q z f = absurd (omega arith)
    by_test false q z f = let p = leb-false 1024 k q in let y = f h p z in omega arith
not_refused (Below ∷ es) r k h g e = absurd (omega arith)

-- ---- the program: declarations, then code

abbrev code_weight : (Instr → ℕ) → Code → ℕ
code_weight f [] = 0
code_weight f (i ∷ c) = f i + code_weight f c

weight_append : (f : Instr → ℕ) (c d : Code) → code_weight f (c ++ d) ≡ code_weight f c + code_weight f d
weight_append f [] d = omega arith
weight_append f (i ∷ c) d = omega (arith, weight_append f c d)

-- what is pushed goes to one of the two sections
sections_weight : (f : Instr → ℕ) (es : List Event) → code_weight f (code_of Decl es) + code_weight f (code_of Main es) ≡ weigh f es
sections_weight f [] = refl
sections_weight f (Reg ∷ es) = sections_weight f es
sections_weight f (Push w i ∷ es) = by_section w.section (sections_weight f es)
  where
    by_section : (s : Section) → code_weight f (code_of Decl es) + code_weight f (code_of Main es) ≡ weigh f es
        → code_weight f (only Decl s i (code_of Decl es)) + code_weight f (only Main s i (code_of Main es)) ≡ f i + weigh f es
    by_section Decl e = omega arith
    by_section Main e = omega arith
sections_weight f (Below ∷ es) = sections_weight f es

program_weight : (f : Instr → ℕ) (es : List Event) → code_weight f (program_of es).code ≡ weigh f es
program_weight f es = weight_append f (code_of Decl es) (code_of Main es) ∙ sections_weight f es

length_weight : (c : Code) → length c ≡ code_weight (λ (i : Instr). 1) c
length_weight [] = refl
length_weight (i ∷ c) = omega (arith, length_weight c)

items_weight : (c : Code) → item_total c ≡ code_weight (λ (i : Instr). length (items_of (op i))) c
items_weight [] = refl
items_weight (i ∷ c) = ap (λ (n : ℕ). length (items_of (op i)) + n) (items_weight c)

section_range : (s : Section) {es : List Event} → Each EventOk es → Each InRange (code_of s es)
section_range s none = none
section_range s (more {a = Reg} p h) = section_range s h
section_range s (more {a = Push w i} {l = es} p h) = by_section s w.section (section_range s h)
  where
    by_section : (s u : Section) {c : Code} → Each InRange c → Each InRange (only s u i c)
    by_section Decl Decl k = more p k
    by_section Decl Main k = k
    by_section Main Decl k = k
    by_section Main Main k = more p k
section_range s (more {a = Below} p h) = section_range s h

range_ok : {c : Code} → Each InRange c → code_ok c ≡ true
range_ok none = refl
range_ok (more p h) = and_both p.0 (range_ok h)

range_fits : {c : Code} → Each InRange c → Each (λ (i : Instr). OpFits (op i)) c
range_fits none = none
range_fits (more p h) = more p.1 (range_fits h)

pub decided : (k : ℕ) (q p : Program) → decide k q ≡ lowered p → (k ≡ 0) × (q ≡ p)
decided zero q p e = (refl, cc)
decided (suc k) q p e = let z : ◌≡◌ {A = ℕ} 0 1 = cc in absurd (omega arith)

-- ---- the laws

-- The items of all instructions of a tree within the limits, of at most 1,024 nodes, fit in the pool, refused or not.
pub tree_items : (t : Stmts) → StmtsIn t → length (flat t) ≤ 1024 → item_total (program_of (lower_tree t)).code ≤ 1024
tree_items t i h =
    omega (arith, items_weight (program_of (lower_tree t)).code, program_weight (λ (i : Instr). length (items_of (op i))) (lower_tree t), (tree_emits t i h).items)

-- Where nothing is refused, at most 1,024 instructions are pushed.
pub unrefused_length : (es : List Event) → refusal es 0 0 ≡ 0 → length (program_of es).code ≤ 1024
unrefused_length es e =
    omega (arith, length_weight (program_of es).code, program_weight (λ (i : Instr). 1) es, (not_refused es 0 0 (omega arith) (omega arith) e).1)

-- A tree within the limits, of at most 1,024 nodes, that is lowered and not refused gives a program within the limits, whose numbers fit.
pub lowered_within : (t : Stmts) (p : Program) → StmtsIn t → length (flat t) ≤ 1024 → lower t ≡ lowered p → (program_ok p ≡ true) × Each (λ (i : Instr). OpFits (op i)) p.code
lowered_within t p i h e =
    let es = lower_tree t in
    let d = decided (refusal es 0 0) (program_of es) p e in
    let a = tree_emits t i h in
    let n = not_refused es 0 0 (omega arith) (omega arith) d.0 in
    let g : Each EventOk es = a.good tt (omega (arith, a.regs, n.0)) in
    let c = (program_of es).code in
    let r : Each InRange c = each_append (section_range Decl g) (section_range Main g) in
    let x : length c ≤ 1024 = omega (arith, length_weight c, program_weight (λ (i : Instr). 1) es, n.1) in
    let y : item_total c ≤ 1024 = omega (arith, items_weight c, program_weight (λ (i : Instr). length (items_of (op i))) es, a.items) in
    let z : (program_of es).code_start ≤ length c = omega (arith, length-append (code_of Decl es) (code_of Main es)) in
    subst (λ (q : Program). (program_ok q ≡ true) × Each (λ (i : Instr). OpFits (op i)) q.code) d.1
    (and_both (le-leb (length c) 1024 x) (and_both (le-leb (program_of es).code_start (length c) z) (and_both (le-leb (item_total c) 1024 y) (range_ok r))), range_fits r)

-- So its buffer is read back, whatever lies behind.
pub lowered_back : (t : Stmts) (p : Program) (rest : List ℕ) → StmtsIn t → length (flat t) ≤ 1024 → lower t ≡ lowered p → decode_program (encode_program p ++ rest) ≡ some p
lowered_back t p rest i h e = let k = lowered_within t p i h e in program_behind p rest k.0 k.1
