-- One induction over what the lowering emits, for every tree: the registers taken, the items held, labels that never decrease, at places that satisfy Q; and
-- where Z holds and says that the tree is within the limits, instructions in range. Accepted has it of trees within the limits, the walk of the loops around an
-- instruction and of plain scripts.
use Rattle.std.specs.Prelude.{◌≡◌, refl, Bool, true, false, cond, List, [], ◌∷◌, ◌++◌, map, ℕ, zero, suc, ◌+◌, ◌≤◌, ◌<◌, T, eqb, length, replicate}
use Rattle.std.proofs.Common.{ap, ◌∙◌, le_refl, le_trans, arith, length-append, le-leb, lt-ltb}
use Rattle.std.proofs.Math.Option.{none}
use Rattle.std.proofs.lemmas.List.{length-map}
use Rattle.std.specs.Float.{binary64}
use Rattle.std.specs.Float.Ieee.Bits.{of_bits-fits}
use Rattle.numeric.specs.laws.WholeLaws.{whole_fits}
use Rattle.lent.specs.Bytes.{Each, none, more}
use Rattle.lent.specs.laws.Each.{each_append}
use Rattle.sifv.specs.Value.{Single, Num, Bl, Null, One, Arr, Tab}
use Rattle.sifv.specs.Slot.{singles_ok}
use Rattle.sifv.specs.laws.Layout.{and_both}
use Rattle.opc.specs.Op.{Lt, Jmpt, Jmpf}
use Rattle.opc.specs.Op.{Op, Binary, Unary, Ldc, Ldn, Ldas, Ldav, Upda, Stc, Stn, Str, JmpCnd, Jmpa, Incrr, Fn, Call, FnRet, FnStackPush, FnStackPop, Tbli, Nop, Instr, label, op}
use Rattle.opc.specs.Record.{items_of, reg_ok, text_ok, lbl_ok}
use Rattle.ast.specs.Tree.{Lit, Val, Text, Truth, Expr, Literal, Name, BinaryExpr, UnaryExpr, VarAssign, ArrayMut, FnCall, Rhs, Expression, Table, Array, ArrayAccess}
use Rattle.ast.specs.Tree.{Exprs, no_exprs, more_exprs, Items, no_items, more_items, Source, OverName, OverCall}
use Rattle.ast.specs.Flat.{flat_lits, flat_names, flat_expr, flat_rhs, flat_exprs, flat_items, flat_source, flat_stmt, flat_stmts, flat_rest, expr_count}
use Rattle.compiler.specs.Literals.{literal, bin_kind, un_kind}
use Rattle.ast.specs.Tree.{Stmt, Block, IfStmt, ForStmt, Return, ReturnExpr, ExprStmt, VarDecl, VarInit, FnDecl, Stmts, no_stmts, more_stmts, Rest, Else, Elif}
use Rattle.compiler.specs.Lower.{Place, Event, Reg, Push, Below, ask_below, prev, arg_regs, assign_regs, lit_regs, expr_regs, rhs_regs, param_regs, item_regs, source_regs, stmt_regs, stmts_regs, rest_regs}
use Rattle.compiler.specs.Lower.{else_labels, stmt_labels, stmts_labels, rest_labels, push, load, lower_lit, lower_arg, lower_assign, lower_fn_call, lower_expr, lower_rhs, lower_params, lower_items}
use Rattle.compiler.specs.Lower.{or_nop, lower_arm, lower_source, source_name, inner, lower_for, lower_pops, declaring, lower_stmt, lower_stmts, lower_rest}
use Rattle.compiler.specs.Within.{LitIn, ExprIn, RhsIn, ExprsIn, ItemsIn, SourceIn, StmtIn, StmtsIn, RestIn}
use Rattle.opc.specs.laws.RecordRange.{Any}
use Rattle.sifv.specs.Limits.{SingleFits}
use Rattle.opc.specs.Limits.{params_ok, op_ok, instr_ok, OpFits}
use Rattle.numeric.specs.Whole.{whole}
use Rattle.sifv.specs.laws.SlotLaws.{Stored}

-- ---- what events take and hold

abbrev pub regs_in : List Event → ℕ
regs_in [] = 0
regs_in (Reg ∷ es) = suc (regs_in es)
regs_in (Push w i ∷ es) = regs_in es
regs_in (Below ∷ es) = regs_in es

-- the sum of what f says of the instructions pushed
abbrev pub weigh : (Instr → ℕ) → List Event → ℕ
weigh f [] = 0
weigh f (Reg ∷ es) = weigh f es
weigh f (Push w i ∷ es) = f i + weigh f es
weigh f (Below ∷ es) = weigh f es

abbrev pub items_in : List Event → ℕ
items_in es = weigh (λ (i : Instr). length (items_of (op i))) es

abbrev pub pushes_in : List Event → ℕ
pushes_in es = weigh (λ (i : Instr). 1) es

-- an instruction in range
abbrev pub InRange : Instr → Type 0
InRange i = (instr_ok i ≡ true) × OpFits (op i)

abbrev pub EventOk : Event → Type 0
EventOk Reg = T true
EventOk (Push w i) = InRange i
EventOk Below = T true

pub regs_append : (es fs : List Event) → regs_in (es ++ fs) ≡ regs_in es + regs_in fs
regs_append [] fs = omega arith
regs_append (Reg ∷ es) fs = omega (arith, regs_append es fs)
regs_append (Push w i ∷ es) fs = regs_append es fs
regs_append (Below ∷ es) fs = regs_append es fs

weigh_append : (f : Instr → ℕ) (es fs : List Event) → weigh f (es ++ fs) ≡ weigh f es + weigh f fs
weigh_append f [] fs = omega arith
weigh_append f (Reg ∷ es) fs = weigh_append f es fs
weigh_append f (Push w i ∷ es) fs = omega (arith, weigh_append f es fs)
weigh_append f (Below ∷ es) fs = weigh_append f es fs

-- ---- labels from a on never decrease, none is past b, and each instruction is pushed at a place that satisfies Q

pub data Mono (Q : Place → Type 0) : ℕ → List Event → ℕ → Type 0 where
  end : {a b : ℕ} → a ≤ b → Mono Q a [] b
  took : {a b : ℕ} {es : List Event} → Mono Q a es b → Mono Q a (Reg ∷ es) b
  asked : {a b : ℕ} {es : List Event} → Mono Q a es b → Mono Q a (Below ∷ es) b
  then : {a b : ℕ} {w : Place} {i : Instr} {es : List Event} → Q w → a ≤ label i → Mono Q (label i) es b → Mono Q a (Push w i ∷ es) b

module _ {Q : Place → Type 0} where
  mono_from : {a b d : ℕ} {c : List Event} → a ≤ b → Mono Q b c d → Mono Q a c d
  mono_from l (end h) = end (le_trans l h)
  mono_from l (took m) = took (mono_from l m)
  mono_from l (asked m) = asked (mono_from l m)
  mono_from l (then s h m) = then s (le_trans l h) m

  mono_to : {a b d : ℕ} {c : List Event} → Mono Q a c b → b ≤ d → Mono Q a c d
  mono_to (end h) l = end (le_trans h l)
  mono_to (took m) l = took (mono_to m l)
  mono_to (asked m) l = asked (mono_to m l)
  mono_to (then s h m) l = then s h (mono_to m l)

  mono_append : {a b d : ℕ} {c e : List Event} → Mono Q a c b → Mono Q b e d → Mono Q a (c ++ e) d
  mono_append (end h) m = mono_from h m
  mono_append (took l) m = took (mono_append l m)
  mono_append (asked l) m = asked (mono_append l m)
  mono_append (then s h l) m = then s h (mono_append l m)

-- ---- what a tree emits

-- From label n to b: where r is the next register, the events take k registers and hold at most m items; where Z holds and registers suffice their
-- instructions are in range.
pub record Emits (Q : Place → Type 0) (Z : Type 0) (n b r k m : ℕ) (es : List Event) : Type 0 where
  pub regs : regs_in es ≡ k
  pub items : items_in es ≤ m
  pub mono : Mono Q n es b
  pub good : Z → r + k ≤ 96 → Each EventOk es

module _ {Q : Place → Type 0} {Z : Type 0} where
  -- one lot after the other
  join : {n b d r k m q j l : ℕ} {es fs : List Event} → Emits Q Z n b r k m es → Emits Q Z b d q j l fs → q ≡ r + k → Emits Q Z n d r (k + j) (m + l) (es ++ fs)
  join {es = es} {fs = fs} a b e = record {
    regs = omega (arith, regs_append es fs, a.regs, b.regs);
    items = omega (arith, weigh_append (λ (i : Instr). length (items_of (op i))) es fs, a.items, b.items);
    mono = mono_append a.mono b.mono;
    good = λ z h. each_append (a.good z (omega arith)) (b.good z (omega arith));
  }

  so : {n b r k m j l : ℕ} {es : List Event} → Emits Q Z n b r k m es → k ≡ j → m ≤ l → Emits Q Z n b r j l es
  so a e h = record { regs = a.regs ∙ e; items = omega (arith, a.items); mono = a.mono; good = λ z g. a.good z (omega arith) }

  -- between other labels
  labelled : {n b a d r k m : ℕ} {es : List Event} → Emits Q Z n b r k m es → a ≤ n → b ≤ d → Emits Q Z a d r k m es
  labelled a h g = record { regs = a.regs; items = a.items; mono = mono_from h (mono_to a.mono g); good = a.good }

  nothing : (n r : ℕ) → Emits Q Z n n r 0 0 []
  nothing n r = record { regs = refl; items = omega arith; mono = end (le_refl n); good = λ z h. none }

  a_reg : (n r : ℕ) → Emits Q Z n n r 1 0 (Reg ∷ [])
  a_reg n r = record { regs = refl; items = omega arith; mono = took (end (le_refl n)); good = λ z h. more tt none }

  pub a_below : (n r q : ℕ) → Emits Q Z n n r 0 0 (ask_below q)
  a_below n r q = by_test (eqb q 0)
    where
      by_test : (b : Bool) → Emits Q Z n n r 0 0 (cond b (Below ∷ []) [])
      by_test true = record { regs = refl; items = omega arith; mono = asked (end (le_refl n)); good = λ z h. more tt none }
      by_test false = nothing n r

-- ---- operands

reg_in : (x : ℕ) → x ≤ 95 → reg_ok x ≡ true
reg_in x h = le-leb x 95 h

text_in : (x : ℕ) → x < 64 → text_ok x ≡ true
text_in x h = le-leb x 63 (omega arith)

label_in : (x : ℕ) → x ≤ 1023 → lbl_ok x ≡ true
label_in x h = le-leb x 1023 h

stored_literal : (l : Lit) → LitIn l → Stored (literal l)
stored_literal (Val b) h = (refl, of_bits-fits binary64 b)
stored_literal (Text t) h = (lt-ltb t 64 h, tt)
stored_literal (Truth b) h = (refl, tt)

lits_ok : {ls : List Lit} → Each LitIn ls → singles_ok (map literal ls) ≡ true
lits_ok none = refl
lits_ok (more {a = l} p h) = and_both (stored_literal l p).0 (lits_ok h)

lits_fit : {ls : List Lit} → Each LitIn ls → Each SingleFits (map literal ls)
lits_fit none = none
lits_fit (more {a = l} p h) = more (stored_literal l p).1 (lits_fit h)

texts_in : {xs : List ℕ} → Each (λ (x : ℕ). x < 64) xs → params_ok xs ≡ true
texts_in none = refl
texts_in (more {a = x} p h) = and_both (text_in x p) (texts_in h)

-- each of them is a node
length_lits : (ls : List Lit) → length (flat_lits ls) ≡ length ls
length_lits [] = refl
length_lits (l ∷ ls) = ap suc (length_lits ls)

length_names : (xs : List ℕ) → length (flat_names xs) ≡ length xs
length_names [] = refl
length_names (x ∷ xs) = ap suc (length_names xs)

module _ {A : Type 0} {P : A → Type 0} {a : A} {l : List A} where
  first : Each P (a ∷ l) → P a
  first (more p h) = p

  others : Each P (a ∷ l) → Each P l
  others (more p h) = h

abbrev Fits : Op → Type 0
Fits o = (op_ok o ≡ true) × OpFits o

-- ---- at the place w, with label n

module _ {Q : Place → Type 0} {Z : Type 0} (w : Place) (hw : Q w) (n : ℕ) (hn : Z → n ≤ 1023) where
  an_op : (r : ℕ) (o : Op) → (Z → r ≤ 96 → Fits o) → Emits Q Z n n r 0 (length (items_of o)) (push w n o ∷ [])
  an_op r o f = record {
    regs = refl;
    items = omega arith;
    mono = then hw (le_refl n) (end (le_refl n));
    good = λ z g. more {a = push w n o} (and_both (label_in n (hn z)) (f z (omega arith)).0, (f z (omega arith)).1) none;
  }

  a_load : (r : ℕ) (o : Op) → (Z → r ≤ 95 → Fits o) → Emits Q Z n n r 1 (0 + length (items_of o)) (load w n o)
  a_load r o f = join (a_reg n r) (an_op (r + 1) o (λ z g. f z (omega arith))) refl

  a_literal : (l : Lit) → (Z → LitIn l) → (r : ℕ) → Emits Q Z n n r 1 0 (load w n (Ldc r (One (literal l))))
  a_literal l h r = a_load r (Ldc r (One (literal l))) (λ z g. (and_both (reg_in r g) (stored_literal l (h z)).0, (stored_literal l (h z)).1))

  lit_emits : (l : Lit) → (Z → LitIn l) → (r : ℕ) → Emits Q Z n n r (lit_regs l) 0 (lower_lit w n l r)
  lit_emits (Val b) h r = a_literal (Val b) h r
  lit_emits (Text t) h r = a_literal (Text t) h r
  lit_emits (Truth b) h r = nothing n r

  pub arg_emits : (e : Expr) {r k m : ℕ} {es : List Event} → Emits Q Z n n r k m es → Emits Q Z n n r (arg_regs e k) m (lower_arg w n e r es)
  arg_emits (Literal (Val b)) a = a
  arg_emits (Literal (Text t)) a = a
  arg_emits (Literal (Truth b)) {r = r} a = so (a_load r (Ldc r (One (Bl b))) (λ z g. (and_both (reg_in r g) refl, tt))) refl (omega arith)
  arg_emits (Name x) a = a
  arg_emits (BinaryExpr t x y) a = a
  arg_emits (UnaryExpr t x) a = a
  arg_emits (VarAssign x r) a = a
  arg_emits (ArrayMut x i v) a = a
  arg_emits (FnCall f ps) a = a

  -- the events of an expression, and then its register stored in x
  store_emits : (x : ℕ) → (Z → x < 64) → {r k m : ℕ} {es : List Event} (q : ℕ) → Emits Q Z n n r k m es → q ≡ r + k → Emits Q Z n n r k m (es ++ (push w n (Str (prev q) x) ∷ []))
  store_emits x h q a e = so (join a (an_op q (Str (prev q) x) (λ z g. (and_both (reg_in (prev q) (omega arith)) (text_in x (h z)), tt))) e) (omega arith) (omega arith)

  assign_emits : (e : Expr) → (Z → ExprIn e) → (x : ℕ) → (Z → x < 64) → {r k m : ℕ} {es : List Event} (q : ℕ) → Emits Q Z n n r k m es → q ≡ r + k
      → Emits Q Z n n r (assign_regs e k) m (lower_assign w n x e es q)
  assign_emits (Literal l) i x h {r = r} q a e =
      so (an_op r (Stc (One (literal l)) x) (λ z g. (and_both (text_in x (h z)) (stored_literal l (i z)).0, (stored_literal l (i z)).1))) refl (omega arith)
  assign_emits (Name y) i x h {r = r} q a e = so (an_op r (Stn y x) (λ z g. (and_both (text_in y (i z)) (text_in x (h z)), tt))) refl (omega arith)
  assign_emits (BinaryExpr t c d) i x h q a e = store_emits x h q a e
  assign_emits (UnaryExpr t c) i x h q a e = store_emits x h q a e
  assign_emits (VarAssign y c) i x h q a e = store_emits x h q a e
  assign_emits (ArrayMut y c d) i x h q a e = store_emits x h q a e
  assign_emits (FnCall f ps) i x h q a e = store_emits x h q a e

  call_emits : (f : ℕ) → (Z → f < 64) → (c : ℕ) → (Z → c ≤ 255) → {r k m : ℕ} {es : List Event} (q : ℕ) → Emits Q Z n n r k m es → q ≡ r + k
      → Emits Q Z n n r (k + 1) m (lower_fn_call w n f es c q)
  call_emits f h c l q a e =
      so (join a (join (an_op q (Call f c) (λ z g. (and_both (text_in f (h z)) (le-leb c 255 (l z)), tt))) (a_load q (FnStackPop q) (λ z g. (reg_in q g, tt))) (omega arith)) e)
      (omega arith) (omega arith)

  mutual
    pub expr_emits : (e : Expr) → (Z → ExprIn e) → (r : ℕ) → Emits Q Z n n r (expr_regs e) (length (flat_expr e)) (lower_expr e w n r)
    expr_emits (Literal l) h r = so (lit_emits l h r) refl (omega arith)
    expr_emits (Name x) h r = so (a_load r (Ldn r x) (λ z g. (and_both (reg_in r g) (text_in x (h z)), tt))) refl (omega arith)
    expr_emits (BinaryExpr t a b) h r =
        let q = r + arg_regs a (expr_regs a) in
        let p = q + arg_regs b (expr_regs b) in
        so (join (arg_emits a (expr_emits a (λ z. (h z).0) r)) (join (a_below n q q) (join (arg_emits b (expr_emits b (λ z. (h z).1) q)) (join (a_below n p p)
        (a_load p (Binary (bin_kind t) (prev q) (prev p) p) (λ z g. (and_both (reg_in (prev q) (omega arith)) (and_both (reg_in (prev p) (omega arith)) (reg_in p g)), tt)))
        (omega arith)) (omega arith)) (omega arith)) (omega arith))
        (omega arith) (simp length-append (omega arith))
    expr_emits (UnaryExpr t a) h r =
        let q = r + arg_regs a (expr_regs a) in
        so (join (arg_emits a (expr_emits a h r)) (join (a_below n q q)
        (a_load q (Unary (un_kind t) (prev q) q) (λ z g. (and_both (reg_in (prev q) (omega arith)) (reg_in q g), tt))) (omega arith)) (omega arith))
        (omega arith) (omega arith)
    expr_emits (VarAssign x k) h r = so (rhs_emits k (λ z. (h z).1) x (λ z. (h z).0) r) refl (omega arith)
    expr_emits (ArrayMut x i v) h r =
        let q = r + expr_regs v in
        let p = q + expr_regs i in
        so (join (expr_emits v (λ z. (h z).2) r) (join (a_below n q q) (join (expr_emits i (λ z. (h z).1) q)
        (an_op p (Upda x (prev p) (prev q)) (λ z g. (and_both (text_in x (h z).0) (and_both (reg_in (prev p) (omega arith)) (reg_in (prev q) (omega arith))), tt)))
        (omega arith)) (omega arith)) (omega arith))
        (omega arith) (simp length-append (omega arith))
    expr_emits (FnCall f ps) h r = so (call_emits f (λ z. (h z).0) (expr_count ps) (λ z. (h z).1) (r + param_regs ps) (params_emits ps (λ z. (h z).2) r) refl) refl (omega arith)

    rhs_emits : (k : Rhs) → (Z → RhsIn k) → (x : ℕ) → (Z → x < 64) → (r : ℕ) → Emits Q Z n n r (rhs_regs k) (length (flat_rhs k)) (lower_rhs k x w n r)
    rhs_emits (Expression e) h x g r = assign_emits e h x g (r + expr_regs e) (expr_emits e h r) refl
    rhs_emits (Table is) h x g r =
        so (join (an_op r (Stc (Tab []) x) (λ z o. (and_both (text_in x (g z)) refl, none))) (items_emits is h x g r) (omega arith)) (omega arith) (omega arith)
    rhs_emits (Array a ls) h x g r =
        so (an_op r (Stc (Arr (map literal ls)) a)
        (λ z o. (and_both (text_in a (h z).0) (and_both (le-leb (length (map literal ls)) 24 (rw (length-map ls literal) (h z).1)) (lits_ok (h z).2)), lits_fit (h z).2)))
        refl (omega (arith, length-map ls literal, length_lits ls))
    rhs_emits (ArrayAccess a i) h x g r =
        let q = r + expr_regs i in
        so (join (expr_emits i (λ z. (h z).1) r)
        (join (a_load q (Ldav a (prev q) q) (λ z o. (and_both (text_in a (h z).0) (and_both (reg_in (prev q) (omega arith)) (reg_in q o)), tt)))
        (an_op (q + 1) (Str q x) (λ z o. (and_both (reg_in q (omega arith)) (text_in x (g z)), tt))) refl) refl)
        (omega arith) (omega arith)

    pub params_emits : (ps : Exprs) → (Z → ExprsIn ps) → (r : ℕ) → Emits Q Z n n r (param_regs ps) (length (flat_exprs ps)) (lower_params ps w n r)
    params_emits no_exprs h r = nothing n r
    params_emits (more_exprs e ps) h r =
        let q = r + expr_regs e in
        so (join (expr_emits e (λ z. (h z).0) r) (join (an_op q (FnStackPush (prev q)) (λ z g. (reg_in (prev q) (omega arith), tt))) (params_emits ps (λ z. (h z).1) q) (omega arith)) refl)
        (omega arith) (simp length-append (omega arith))

    items_emits : (is : Items) → (Z → ItemsIn is) → (x : ℕ) → (Z → x < 64) → (r : ℕ) → Emits Q Z n n r (item_regs is) (length (flat_items is)) (lower_items is x w n r)
    items_emits no_items h x g r = nothing n r
    items_emits (more_items k e is) h x g r =
        let q = r + expr_regs e in
        so (join (expr_emits e (λ z. (h z).1) r) (join
        (an_op q (Tbli x k (prev q)) (λ z o. (and_both (text_in x (g z)) (and_both (text_in k (h z).0) (reg_in (prev q) (omega arith))), tt)))
        (items_emits is (λ z. (h z).2) x g q) (omega arith)) refl)
        (omega arith) (simp length-append (omega arith))

  pub source_emits : (s : Source) → (Z → SourceIn s) → (r : ℕ) → Emits Q Z n n r (source_regs s) (length (flat_source s)) (lower_source s w n r)
  source_emits (OverName a) h r = so (nothing n r) refl (omega arith)
  source_emits (OverCall f ps) h r =
      so (store_emits 0 (λ z. omega arith) (r + (param_regs ps + 1)) (call_emits f (λ z. (h z).0) (expr_count ps) (λ z. (h z).1) (r + param_regs ps) (params_emits ps (λ z. (h z).2) r) refl) refl)
      refl (omega arith)

  -- a Block, or the Nop of an empty one
  pub block_emits : (b : Stmts) {r m : ℕ} {es : List Event} → Emits Q Z n (n + stmts_labels b) r (stmts_regs b) m es → Emits Q Z n (n + stmts_labels b) r (stmts_regs b) m (or_nop b w n es)
  block_emits no_stmts {r = r} a = labelled (so (an_op r Nop (λ z g. (refl, tt))) refl (omega arith)) (le_refl n) (omega arith)
  block_emits (more_stmts s k) a = a

  -- q is the next register, and the pops use those before it
  pops_emits : (ps : List ℕ) → (Z → Each (λ (x : ℕ). x < 64) ps) → (r q : ℕ) → r + length ps ≤ q → Emits Q Z n n q 0 0 (lower_pops ps w n r)
  pops_emits [] e r q h = nothing n q
  pops_emits (x ∷ ps) e r q h =
      join (an_op q (FnStackPop r) (λ z g. (reg_in r (omega arith), tt)))
      (join (an_op q (Str r x) (λ z g. (and_both (reg_in r (omega arith)) (text_in x (first (e z))), tt))) (pops_emits ps (λ z. others (e z)) (suc r) q (omega arith)) (omega arith)) (omega arith)

  fn_emits : (f : ℕ) (ps : List ℕ) (r : ℕ) {d k m : ℕ} {b : List Event} → (Z → f < 64) → (Z → length ps ≤ 255) → (Z → Each (λ (x : ℕ). x < 64) ps)
      → Emits Q Z n d (r + length ps) k m b
      → Emits Q Z n d r (length ps + k) (length ps + m) (replicate (length ps) Reg ++ (push w n (Fn f ps) ∷ (lower_pops ps w n r ++ b)))
  fn_emits f ps r hf hl hp a =
      let q = r + length ps in
      so (join (some_regs (length ps) r)
      (join (an_op q (Fn f ps) (λ z g. (and_both (text_in f (hf z)) (and_both (texts_in (hp z)) (le-leb (length ps) 255 (hl z))), tt)))
      (join (pops_emits ps hp r q (omega arith)) a (omega arith)) (omega arith)) refl)
      (omega arith) (omega (arith, length-map ps Single.Str))
    where
      some_regs : (k r : ℕ) → Emits Q Z n n r k 0 (replicate k Reg)
      some_regs zero r = nothing n r
      some_regs (suc k) r = so (join (a_reg n r) (some_regs k (r + 1)) refl) (omega arith) (omega arith)

-- ---- statements

module _ {Q : Place → Type 0} {Z : Type 0} (w : Place) (hw : Q w) where
  -- a condition before a Block, from label n + 1 to m
  arm_emits : (n q m last : ℕ) {r k l j i : ℕ} {c b : List Event} → (Z → n ≤ 1023) → (Z → m + 1 ≤ 1023) → (Z → last ≤ 1023) → Emits Q Z n n r k l c → q ≡ r + k → Emits Q Z (n + 1) m q j i b
      → Emits Q Z n m r (k + j) (l + i) (lower_arm w n c q b m last)
  arm_emits n q m last {j = j} hn hm he a e d =
      so (join a (join (an_op w hw n hn q (JmpCnd Jmpf (prev q) (m + 1)) (λ z g. (and_both (reg_in (prev q) (omega arith)) (label_in (m + 1) (hm z)), tt)))
      (join (labelled d (omega arith) (le_refl m)) (an_op w hw m (λ z. omega (arith, hm z)) (q + j) (Jmpa last) (λ z g. (label_in last (he z), tt))) refl) (omega arith)) e)
      (omega arith) (omega arith)

  for_emits : Q (inner w) → (n i v a r q p m : ℕ) {k l j h : ℕ} {s b : List Event} → (Z → n + 1 ≤ 1023) → (Z → m ≤ 1023) → (Z → i < 64) → (Z → v < 64) → (Z → a < 64)
      → Emits Q Z n n (suc r) k l s → q ≡ suc r + k → Emits Q Z (n + 1) m (q + 2) j h b → p ≡ q + 2 + j → Emits Q Z n m r (k + (j + 4)) (l + h) (lower_for w n i v a r q p s b m)
  for_emits hi n i v a r q p m hn hm ti tv ta s eq b ep =
      so (join (a_reg n r) (join s
      (join (an_op w hw n (λ z. omega (arith, hn z)) q (Stc (One (Num (whole 0))) i) (λ z g. (and_both (text_in i (ti z)) refl, whole_fits 0)))
      (join (a_reg n q)
      (join (an_op w hw n (λ z. omega (arith, hn z)) (q + 1) (Ldas a q) (λ z g. (and_both (text_in a (ta z)) (reg_in q (omega arith)), tt)))
      (join (labelled (an_op (inner w) hi (n + 1) hn (q + 1) (Ldn r i) (λ z g. (and_both (reg_in r (omega arith)) (text_in i (ti z)), tt))) (omega arith) (le_refl (n + 1)))
      (join (a_reg (n + 1) (q + 1))
      (join (an_op (inner w) hi (n + 1) hn (q + 2) (Ldav a r (q + 1)) (λ z g. (and_both (text_in a (ta z)) (and_both (reg_in r (omega arith)) (reg_in (q + 1) (omega arith))), tt)))
      (join (an_op (inner w) hi (n + 1) hn (q + 2) (Str (q + 1) v) (λ z g. (and_both (reg_in (q + 1) (omega arith)) (text_in v (tv z)), tt)))
      (join b
      (join (an_op (inner w) hi m hm p (Incrr r) (λ z g. (reg_in r (omega arith), tt)))
      (join (an_op (inner w) hi m hm p (Str r i) (λ z g. (and_both (reg_in r (omega arith)) (text_in i (ti z)), tt)))
      (join (a_reg m p)
      (join (an_op (inner w) hi m hm (p + 1) (Binary Lt r q p) (λ z g. (and_both (reg_in r (omega arith)) (and_both (reg_in q (omega arith)) (reg_in p (omega arith))), tt)))
      (an_op (inner w) hi m hm (p + 1) (JmpCnd Jmpt p (n + 1)) (λ z g. (and_both (reg_in p (omega arith)) (label_in (n + 1) (hn z)), tt)))
      (omega arith)) (omega arith)) (omega arith)) (omega arith)) ep) (omega arith)) (omega arith)) (omega arith)) (omega arith)) (omega arith)) (omega arith)) (omega arith)) eq) (omega arith))
      (omega arith) (omega arith)

pub else_labels_lem : (k : Stmts) → stmts_labels k ≤ else_labels k (stmts_labels k)
else_labels_lem no_stmts = omega arith
else_labels_lem (more_stmts s k) = omega arith

source_name_lem : (s : Source) → SourceIn s → source_name s < 64
source_name_lem (OverName a) h = h
source_name_lem (OverCall f ps) h = omega arith

-- What is asked of the statements at a place, and that their parts have it too, at places that satisfy Q.
pub record Nests (Q : Place → Type 0) (H : Place → Stmt → Type 0) (Hs : Place → Stmts → Type 0) (Hr : Place → Rest → Type 0) : Type 0 where
  pub block : (w : Place) (b : Stmts) → H w (Block b) → Hs w b
  pub branches : (w : Place) (c : Expr) (b : Stmts) (k : Rest) → H w (IfStmt c b k) → Hs w b × Hr w k
  pub loop : (w : Place) (i v : ℕ) (s : Source) (b : Stmts) → H w (ForStmt i v s b) → Q (inner w) × Hs (inner w) b
  pub function : (w : Place) (f : ℕ) (ps : List ℕ) (b : Stmts) → H w (FnDecl f ps b) → Q (declaring w) × Hs (declaring w) b
  pub first : (w : Place) (s : Stmt) (k : Stmts) → Hs w (more_stmts s k) → H w s × Hs w k
  pub otherwise : (w : Place) (k : Stmts) → Hr w (Else k) → Hs w k
  pub elif : (w : Place) (c : Expr) (b : Stmts) (k : Rest) → Hr w (Elif c b k) → Hs w b × Hr w k

-- nothing is asked of places
pub anywhere : Nests Any (λ w s. T true) (λ w b. T true) (λ w k. T true)
anywhere = record {
  block = λ w b h. tt;
  branches = λ w c b k h. (tt, tt);
  loop = λ w i v s b h. (tt, tt);
  function = λ w f ps b h. (tt, tt);
  first = λ w s k h. (tt, tt);
  otherwise = λ w k h. tt;
  elif = λ w c b k h. (tt, tt);
}

module _ {Q : Place → Type 0} {Z : Type 0} {H : Place → Stmt → Type 0} {Hs : Place → Stmts → Type 0} {Hr : Place → Rest → Type 0} (c : Nests Q H Hs Hr) where
  mutual
    pub stmt_emits : (s : Stmt) → (Z → StmtIn s) → (w : Place) → Q w → H w s → (n r : ℕ) → (Z → n + stmt_labels s ≤ 1023)
        → Emits Q Z n (n + stmt_labels s) r (stmt_regs s) (length (flat_stmt s)) (lower_stmt s w n r)
    stmt_emits (Block b) h w hw hs n r l = so (block_emits w hw n (λ z. omega (arith, l z)) b (stmts_emits b h w hw (c.block w b hs) n r l)) refl (omega arith)
    stmt_emits (IfStmt e b k) h w hw hs n r l =
        let q = r + expr_regs e in
        let m = n + 1 + stmts_labels b in
        let last = m + 1 + rest_labels k in
        let i = c.branches w e b k hs in
        labelled (so (join (arm_emits w hw n q m last (λ z. omega (arith, l z)) (λ z. omega (arith, l z)) (λ z. omega (arith, l z)) (expr_emits w hw n (λ z. omega (arith, l z)) e (λ z. (h z).0) r) refl
        (block_emits w hw (n + 1) (λ z. omega (arith, l z)) b (stmts_emits b (λ z. (h z).1) w hw i.0 (n + 1) q (λ z. omega (arith, l z)))))
        (labelled (rest_emits k (λ z. (h z).2) w hw i.1 (m + 1) (q + stmts_regs b) last refl (λ z. omega (arith, l z))) (omega arith) (le_refl last)) (omega arith))
        (omega arith) (simp length-append (omega arith))) (le_refl n) (omega arith)
    stmt_emits (ForStmt i v s b) h w hw hs n r l =
        let q = suc r + source_regs s in
        let j = c.loop w i v s b hs in
        labelled (so (for_emits w hw j.0 n i v (source_name s) r q (q + 2 + stmts_regs b) (n + 1 + stmts_labels b) (λ z. omega (arith, l z)) (λ z. omega (arith, l z))
        (λ z. (h z).0) (λ z. (h z).1) (λ z. source_name_lem s (h z).2) (source_emits w hw n (λ z. omega (arith, l z)) s (λ z. (h z).2) (suc r)) refl
        (block_emits (inner w) j.0 (n + 1) (λ z. omega (arith, l z)) b (stmts_emits b (λ z. (h z).3) (inner w) j.0 j.1 (n + 1) (q + 2) (λ z. omega (arith, l z)))) refl)
        (omega arith) (simp length-append (omega arith))) (le_refl n) (omega arith)
    stmt_emits Return h w hw hs n r l = labelled (so (an_op w hw n (λ z. omega (arith, l z)) r FnRet (λ z g. (refl, tt))) refl (omega arith)) (le_refl n) (omega arith)
    stmt_emits (ReturnExpr e) h w hw hs n r l =
        let q = r + expr_regs e in
        let hn : Z → n ≤ 1023 = λ z. omega (arith, l z) in
        labelled (so (join (expr_emits w hw n hn e h r)
        (join (an_op w hw n hn q (FnStackPush (prev q)) (λ z g. (reg_in (prev q) (omega arith), tt))) (an_op w hw n hn q FnRet (λ z g. (refl, tt))) (omega arith)) refl)
        (omega arith) (omega arith)) (le_refl n) (omega arith)
    stmt_emits (ExprStmt e) h w hw hs n r l = labelled (so (expr_emits w hw n (λ z. omega (arith, l z)) e h r) refl (omega arith)) (le_refl n) (omega arith)
    stmt_emits (VarDecl x) h w hw hs n r l =
        labelled (so (an_op w hw n (λ z. omega (arith, l z)) r (Stc (One Null) x) (λ z g. (and_both (text_in x (h z)) refl, tt))) refl (omega arith)) (le_refl n) (omega arith)
    stmt_emits (VarInit x k) h w hw hs n r l =
        labelled (so (rhs_emits w hw n (λ z. omega (arith, l z)) k (λ z. (h z).1) x (λ z. (h z).0) r) refl (omega arith)) (le_refl n) (omega arith)
    stmt_emits (FnDecl f ps b) h w hw hs n r l =
        let j = c.function w f ps b hs in
        labelled (so (fn_emits (declaring w) j.0 n (λ z. omega (arith, l z)) f ps r (λ z. (h z).0) (λ z. (h z).1) (λ z. (h z).2)
        (block_emits (declaring w) j.0 n (λ z. omega (arith, l z)) b (stmts_emits b (λ z. (h z).3) (declaring w) j.0 j.1 n (r + length ps) (λ z. omega (arith, l z)))))
        refl (simp length-append (omega (arith, length_names ps)))) (le_refl n) (omega arith)

    pub stmts_emits : (b : Stmts) → (Z → StmtsIn b) → (w : Place) → Q w → Hs w b → (n r : ℕ) → (Z → n + stmts_labels b ≤ 1023)
        → Emits Q Z n (n + stmts_labels b) r (stmts_regs b) (length (flat_stmts b)) (lower_stmts b w n r)
    stmts_emits no_stmts h w hw hs n r l = labelled (nothing n r) (le_refl n) (omega arith)
    stmts_emits (more_stmts s k) h w hw hs n r l =
        let i = c.first w s k hs in
        labelled (so (join (stmt_emits s (λ z. (h z).0) w hw i.0 n r (λ z. omega (arith, l z)))
        (stmts_emits k (λ z. (h z).1) w hw i.1 (n + stmt_labels s) (r + stmt_regs s) (λ z. omega (arith, l z))) refl)
        refl (simp length-append (omega arith))) (le_refl n) (omega arith)

    -- the label of the end is the last
    pub rest_emits : (k : Rest) → (Z → RestIn k) → (w : Place) → Q w → Hr w k → (n r last : ℕ) → n + rest_labels k ≡ last → (Z → last ≤ 1023)
        → Emits Q Z n last r (rest_regs k) (length (flat_rest k)) (lower_rest k w n r last)
    rest_emits (Else k) h w hw hs n r last g l =
        so (join (stmts_emits k h w hw (c.otherwise w k hs) n r (λ z. omega (arith, l z, else_labels_lem k)))
        (labelled (an_op w hw last l (r + stmts_regs k) Nop (λ z g. (refl, tt))) (omega (arith, else_labels_lem k)) (le_refl last)) refl)
        (omega arith) (omega arith)
    rest_emits (Elif e b k) h w hw hs n r last g l =
        let q = r + expr_regs e in
        let m = n + 1 + stmts_labels b in
        let i = c.elif w e b k hs in
        so (join (arm_emits w hw n q m last (λ z. omega (arith, l z)) (λ z. omega (arith, l z)) l (expr_emits w hw n (λ z. omega (arith, l z)) e (λ z. (h z).0) r) refl
        (block_emits w hw (n + 1) (λ z. omega (arith, l z)) b (stmts_emits b (λ z. (h z).1) w hw i.0 (n + 1) q (λ z. omega (arith, l z)))))
        (labelled (rest_emits k (λ z. (h z).2) w hw i.1 (m + 1) (q + stmts_regs b) last (omega arith) l) (omega arith) (le_refl last)) (omega arith))
        (omega arith) (simp length-append (omega arith))
