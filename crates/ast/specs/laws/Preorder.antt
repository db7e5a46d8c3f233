-- A tree is plain where its entries in preorder are allowed (Under.antt): by induction over the tree.
use Rattle.std.specs.Prelude.{◌≡◌, refl, Bool, true, false, cond, ◌&&◌, List, [], ◌∷◌, ◌++◌, ℕ, zero, suc, ◌+◌, ◌-◌, leb, eqb}
use Rattle.std.proofs.Common.{sym, ap, ◌∙◌, append_assoc, append-nil, arith, ne_eqb}
use Rattle.std.proofs.Math.Bool.{and_assoc, and-true}
use Rattle.std.proofs.lemmas.Bool.{lt-leb}
use Rattle.ast.specs.Node.{number_of, Node, node}
use Rattle.ast.specs.Tree.{Lit, Val, Text, Truth, Expr, Literal, Name, BinaryExpr, UnaryExpr, VarAssign, ArrayMut, FnCall, Rhs, Expression, Table, Array, ArrayAccess}
use Rattle.ast.specs.Tree.{Items, no_items, more_items, OverName, OverCall}
use Rattle.ast.specs.Tree.{Stmt, Block, IfStmt, ForStmt, Return, ReturnExpr, ExprStmt, VarDecl, VarInit, FnDecl, Stmts, no_stmts, more_stmts, Rest, Else, Elif}
use Rattle.ast.specs.Plain.{or_truth, plain_expr, plain_items, plain_rhs, plain_own, plain_stmt, plain, plain_rest}
use Rattle.ast.specs.Flat.{flat_lits, flat_expr, flat_rhs, flat_items, block_node, flat_stmt, flat_stmts, flat_rest, flat, entry_bytes}
use Rattle.ast.specs.inner.Under.{holds_truth, allowed, waits, under, scan}

-- ---- nodes

abbrev pub nodes_scan : ℕ → ℕ → List Node → Bool
nodes_scan u w [] = true
nodes_scan u w (node k c b ∷ ns) = allowed u (number_of k) && nodes_scan (under (waits w (number_of k) c) (number_of k)) (waits w (number_of k) c) ns

scan_entries : (ns : List Node) (u w : ℕ) → scan u w (entry_bytes ns) ≡ nodes_scan u w ns
scan_entries [] u w = refl
scan_entries (node k c b ∷ ns) u w = ap (λ (t : Bool). allowed u (number_of k) && t) (scan_entries ns (under (waits w (number_of k) c) (number_of k)) (waits w (number_of k) c))

-- ---- subtrees left before the second child of a 14

abbrev after_node : ℕ → ℕ
after_node w = cond (eqb w 1) 14 17

more_waits : (w n : ℕ) → cond (leb (suc (suc w)) 1) 0 n ≡ n
more_waits w n = rw (lt-leb (suc (suc w)) 1 (omega arith))

leaf_waits : (w : ℕ) → cond (leb w 1) 0 ((w + 0) - 1) ≡ w - 1
leaf_waits zero = refl
leaf_waits (suc zero) = refl
leaf_waits (suc (suc w)) = omega (arith, more_waits w ((suc (suc w) + 0) - 1))

one_waits : (w : ℕ) → cond (leb w 1) 0 ((w + 1) - 1) - 1 ≡ w - 1
one_waits zero = refl
one_waits (suc zero) = refl
one_waits (suc (suc w)) = omega (arith, more_waits w ((suc (suc w) + 1) - 1))

two_waits : (w : ℕ) → (cond (leb w 1) 0 ((w + 2) - 1) - 1) - 1 ≡ w - 1
two_waits zero = refl
two_waits (suc zero) = refl
two_waits (suc (suc w)) = omega (arith, more_waits w ((suc (suc w) + 2) - 1))

operand : (w : ℕ) → after_node (cond (leb w 1) 0 ((w + 2) - 1) - 1) ≡ 17
operand zero = refl
operand (suc zero) = refl
operand (suc (suc w)) =
    let e : cond (leb (suc (suc w)) 1) 0 ((suc (suc w) + 2) - 1) - 1 ≡ suc (suc w) = omega (arith, more_waits w ((suc (suc w) + 2) - 1)) in
    ap (λ (x : ℕ). after_node x) e ∙ rw (ne_eqb (suc (suc w)) 1 (λ h. omega arith))

-- ---- expressions, but for 14 and 16 under 7

plainly : (h t y : Bool) {x : Bool} → x ≡ (t && y) → x ≡ (cond h t t && y)
plainly true t y e = e
plainly false t y e = e

truth : (h : Bool) {x y : Bool} → x ≡ y → (h && x) ≡ (cond h true false && y)
truth true e = e
truth false e = refl

barred : (t y : Bool) → t ≡ false → ((t && true) && y) ≡ false
barred t y e = rw e

leaf : (w : ℕ) (ms : List Node) → nodes_scan (after_node (cond (leb w 1) 0 ((w + 0) - 1))) (cond (leb w 1) 0 ((w + 0) - 1)) ms ≡ nodes_scan (after_node (w - 1)) (w - 1) ms
leaf w ms = ap (λ (x : ℕ). nodes_scan (after_node x) x ms) (leaf_waits w)

scan_expr : (e : Expr) (u w : ℕ) (ms : List Node) → eqb u 7 ≡ false
    → nodes_scan u w (flat_expr e ++ ms) ≡ (cond (holds_truth u) (or_truth e (plain_expr e)) (plain_expr e) && nodes_scan (after_node (w - 1)) (w - 1) ms)
scan_expr (Literal (Val b)) u w ms n = plainly (holds_truth u) true (nodes_scan (after_node (w - 1)) (w - 1) ms) (leaf w ms)
scan_expr (Literal (Text t)) u w ms n = plainly (holds_truth u) true (nodes_scan (after_node (w - 1)) (w - 1) ms) (leaf w ms)
scan_expr (Literal (Truth true)) u w ms n = truth (holds_truth u) (leaf w ms)
scan_expr (Literal (Truth false)) u w ms n = truth (holds_truth u) (leaf w ms)
scan_expr (Name x) u w ms n = plainly (holds_truth u) true (nodes_scan (after_node (w - 1)) (w - 1) ms) (leaf w ms)
scan_expr (BinaryExpr t a b) u w ms n =
    let v : ℕ = cond (leb w 1) 0 ((w + 2) - 1) in
    let p : Bool = or_truth a (plain_expr a) in
    let q : Bool = or_truth b (plain_expr b) in
    plainly (holds_truth u) (p && q) (nodes_scan (after_node (w - 1)) (w - 1) ms)
    (ap (λ (l : List Node). nodes_scan 17 v l) (append_assoc (flat_expr a) (flat_expr b) ms)
    ∙ scan_expr a 17 v (flat_expr b ++ ms) refl
    ∙ ap (λ (t : Bool). p && t) (ap (λ (x : ℕ). nodes_scan x (v - 1) (flat_expr b ++ ms)) (operand w) ∙ scan_expr b 17 (v - 1) ms refl ∙ ap (λ (x : ℕ). q && nodes_scan (after_node x) x ms) (two_waits w))
    ∙ sym (and_assoc p q (nodes_scan (after_node (w - 1)) (w - 1) ms)))
scan_expr (UnaryExpr t a) u w ms n =
    let p : Bool = or_truth a (plain_expr a) in
    plainly (holds_truth u) p (nodes_scan (after_node (w - 1)) (w - 1) ms) (scan_expr a 18 (cond (leb w 1) 0 ((w + 1) - 1)) ms refl ∙ ap (λ (x : ℕ). p && nodes_scan (after_node x) x ms) (one_waits w))
scan_expr (VarAssign x r) u w ms n = plainly (holds_truth u) false (nodes_scan (after_node (w - 1)) (w - 1) ms) (barred (eqb u 7) _ n)
scan_expr (ArrayMut x i v) u w ms n = plainly (holds_truth u) false (nodes_scan (after_node (w - 1)) (w - 1) ms) (barred (eqb u 7) _ n)
scan_expr (FnCall f ps) u w ms n = plainly (holds_truth u) false (nodes_scan (after_node (w - 1)) (w - 1) ms) refl

-- ---- whatever comes before: after a statement nothing depends on it

abbrev Any : List Node → Bool → Type 0
Any ms t = (u : ℕ) → nodes_scan u 0 ms ≡ t

-- a first child where no truth may stand
first : (e : Expr) (u : ℕ) (ns ms : List Node) (t : Bool) → eqb u 7 ≡ false → holds_truth u ≡ false → Any (ns ++ ms) t → nodes_scan u 0 ((flat_expr e ++ ns) ++ ms) ≡ (plain_expr e && t)
first e u ns ms t n b h = ap (λ (l : List Node). nodes_scan u 0 l) (append_assoc (flat_expr e) ns ms) ∙ scan_expr e u 0 (ns ++ ms) n ∙ rw (b, h 17)

scan_items : (is : Items) (ms : List Node) (t : Bool) → Any ms t → Any (flat_items is ++ ms) (plain_items is && t)
scan_items no_items ms t h u = h u
scan_items (more_items k e is) ms t h u = first e 11 (flat_items is) ms (plain_items is && t) refl refl (scan_items is ms t h) ∙ sym (and_assoc (plain_expr e) (plain_items is) t)

scan_lits : (ls : List Lit) (u : ℕ) (ms : List Node) (t : Bool) → holds_truth u ≡ true → Any ms t → nodes_scan u 0 (flat_lits ls ++ ms) ≡ t
scan_lits [] u ms t b h = h u
scan_lits (Val v ∷ ls) u ms t b h = scan_lits ls 17 ms t refl h
scan_lits (Text x ∷ ls) u ms t b h = scan_lits ls 17 ms t refl h
scan_lits (Truth true ∷ ls) u ms t b h = rw b (scan_lits ls 17 ms t refl h)
scan_lits (Truth false ∷ ls) u ms t b h = rw b (scan_lits ls 17 ms t refl h)

scan_rhs : (r : Rhs) (u : ℕ) (ms : List Node) (t : Bool) → eqb u 7 ≡ false → holds_truth u ≡ true → Any ms t → nodes_scan u 0 (flat_rhs r ++ ms) ≡ (plain_rhs r && t)
scan_rhs (Expression e) u ms t n b h = scan_expr e u 0 ms n ∙ rw (b, h 17)
scan_rhs (Table is) u ms t n b h = scan_items is ms t h 10
scan_rhs (Array a ls) u ms t n b h = scan_lits ls 12 ms t refl h
scan_rhs (ArrayAccess a i) u ms t n b h = scan_expr i 13 0 ms refl ∙ ap (λ (x : Bool). plain_expr i && x) (h 17)

-- the child of 7
scan_own : (e : Expr) (ms : List Node) (t : Bool) → Any ms t → nodes_scan 7 0 (flat_expr e ++ ms) ≡ (plain_own e && t)
scan_own (Literal (Val b)) ms t h = h 17
scan_own (Literal (Text x)) ms t h = h 17
scan_own (Literal (Truth true)) ms t h = refl
scan_own (Literal (Truth false)) ms t h = refl
scan_own (Name x) ms t h = h 17
scan_own (BinaryExpr o a b) ms t h = scan_expr (BinaryExpr o a b) 3 0 ms refl ∙ ap (λ (x : Bool). plain_expr (BinaryExpr o a b) && x) (h 17)
scan_own (UnaryExpr o a) ms t h = scan_expr (UnaryExpr o a) 3 0 ms refl ∙ ap (λ (x : Bool). plain_expr (UnaryExpr o a) && x) (h 17)
scan_own (VarAssign x r) ms t h = scan_rhs r 16 ms t refl refl h
scan_own (ArrayMut x i v) ms t h =
    ap (λ (l : List Node). nodes_scan 14 2 l) (append_assoc (flat_expr i) (flat_expr v) ms)
    ∙ scan_expr i 14 2 (flat_expr v ++ ms) refl
    ∙ ap (λ (x : Bool). plain_expr i && x) (scan_expr v 14 1 ms refl ∙ ap (λ (x : Bool). plain_expr v && x) (h 17))
    ∙ sym (and_assoc (plain_expr i) (plain_expr v) t)
scan_own (FnCall f ps) ms t h = refl

-- ---- statements

and_three : (a b c d : Bool) → (a && (b && (c && d))) ≡ ((a && (b && c)) && d)
and_three true true c d = refl
and_three true false c d = refl
and_three false b c d = refl

-- a condition, its Block, the rest
arm : (u : ℕ) (c : Expr) (b : Stmts) (k : Rest) (ms : List Node) (t : Bool) → eqb u 7 ≡ false → holds_truth u ≡ false
    → Any (flat_stmts b ++ (flat_rest k ++ ms)) (plain b && (plain_rest k && t))
    → nodes_scan u 0 ((flat_expr c ++ (block_node b ∷ (flat_stmts b ++ flat_rest k))) ++ ms) ≡ ((plain_expr c && (plain b && plain_rest k)) && t)
arm u c b k ms t n d h =
    first c u (block_node b ∷ (flat_stmts b ++ flat_rest k)) ms (plain b && (plain_rest k && t)) n d (λ v. ap (λ (l : List Node). nodes_scan 2 0 l) (append_assoc (flat_stmts b) (flat_rest k) ms) ∙ h 2)
    ∙ and_three (plain_expr c) (plain b) (plain_rest k) t

mutual
  scan_stmt : (s : Stmt) (ms : List Node) (t : Bool) → Any ms t → Any (flat_stmt s ++ ms) (plain_stmt s && t)
  scan_stmt (Block b) ms t h u = scan_stmts b ms t h 2
  scan_stmt (IfStmt c b k) ms t h u = arm 3 c b k ms t refl refl (λ v. scan_stmts b (flat_rest k ++ ms) (plain_rest k && t) (λ x. scan_rest k ms t h x) v)
  scan_stmt (ForStmt i v (OverName a) b) ms t h u = scan_stmts b ms t h 2
  scan_stmt (ForStmt i v (OverCall f ps) b) ms t h u = refl
  scan_stmt Return ms t h u = refl
  scan_stmt (ReturnExpr e) ms t h u = refl
  scan_stmt (ExprStmt e) ms t h u = scan_own e ms t h
  scan_stmt (VarDecl x) ms t h u = h 8
  scan_stmt (VarInit x r) ms t h u = scan_rhs r 8 ms t refl refl h
  scan_stmt (FnDecl f ps b) ms t h u = refl

  scan_stmts : (k : Stmts) (ms : List Node) (t : Bool) → Any ms t → Any (flat_stmts k ++ ms) (plain k && t)
  scan_stmts no_stmts ms t h u = h u
  scan_stmts (more_stmts s k) ms t h u =
      ap (λ (l : List Node). nodes_scan u 0 l) (append_assoc (flat_stmt s) (flat_stmts k) ms)
      ∙ scan_stmt s (flat_stmts k ++ ms) (plain k && t) (λ v. scan_stmts k ms t h v) u
      ∙ sym (and_assoc (plain_stmt s) (plain k) t)

  scan_rest : (k : Rest) (ms : List Node) (t : Bool) → Any ms t → Any (flat_rest k ++ ms) (plain_rest k && t)
  scan_rest (Else k) ms t h u = scan_stmts k ms t h u
  scan_rest (Elif c b k) ms t h u = arm 4 c b k ms t refl refl (λ v. scan_stmts b (flat_rest k ++ ms) (plain_rest k && t) (λ x. scan_rest k ms t h x) v)

-- ---- the whole tree

pub plain_scan : (t : Stmts) → scan 0 0 (entry_bytes (flat t)) ≡ plain t
plain_scan t =
    scan_entries (flat t) 0 0
    ∙ ap (λ (l : List Node). nodes_scan 1 0 l) (sym (append-nil (flat_stmts t)))
    ∙ scan_stmts t [] true (λ u. refl) 1
    ∙ and-true (plain t)

-- ---- 14 ArrayMut: its value 1 + True, and its value False after the index 1 + True

sample_operand : scan 0 0 (1 ∷ 1 ∷ 7 ∷ 1 ∷ 14 ∷ 2 ∷ 19 ∷ 0 ∷ 17 ∷ 2 ∷ 19 ∷ 0 ∷ 22 ∷ 0 ∷ []) ≡ true
sample_operand = refl

sample_value : scan 0 0 (1 ∷ 1 ∷ 7 ∷ 1 ∷ 14 ∷ 2 ∷ 17 ∷ 2 ∷ 19 ∷ 0 ∷ 22 ∷ 0 ∷ 23 ∷ 0 ∷ []) ≡ false
sample_value = refl
