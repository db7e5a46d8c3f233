-- The entries' weights of a plain tree sum up to its cost: by induction over the tree.
use Rattle.std.specs.Prelude.{◌≡◌, refl, Bool, true, false, cond, List, [], ◌∷◌, ◌++◌, ℕ, zero, suc, ◌+◌, ◌*◌, ◌-◌, ◌≤◌, T, eqb, length}
use Rattle.std.proofs.Common.{sym, ap, ◌∙◌, append_assoc, append-nil, arith, ne_eqb}
use Rattle.std.proofs.Math.Facts.{and_yes}
use Rattle.ast.specs.Node.{Kind, k_block, k_if, k_for, k_expr_stmt, k_var_decl, k_table, k_array, k_array_access, k_array_mut, k_assign, k_binary, k_unary, k_num, k_text, k_name, k_true, k_false}
use Rattle.ast.specs.Node.{k_program, k_elif, k_item, k_stmt, k_right, k_expr, number_of, Node, node}
use Rattle.ast.specs.Structure.{item_count}
use Rattle.ast.specs.Tree.{Lit, Val, Text, Truth, Expr, Literal, Name, BinaryExpr, UnaryExpr, VarAssign, ArrayMut, FnCall, Rhs, Expression, Table, Array, ArrayAccess}
use Rattle.ast.specs.Tree.{Items, no_items, more_items, OverName, OverCall}
use Rattle.ast.specs.Tree.{Stmt, Block, IfStmt, ForStmt, Return, ReturnExpr, ExprStmt, VarDecl, VarInit, FnDecl, Stmts, no_stmts, more_stmts, Rest, Else, Elif}
use Rattle.ast.specs.Plain.{or_truth, plain_expr, plain_items, plain_rhs, plain_own, plain_stmt, plain, plain_rest}
use Rattle.ast.specs.Flat.{flat_lit, flat_lits, flat_name, flat_expr, flat_rhs, flat_items, block_node, stmt_count, elif_count, else_count, flat_stmt, flat_stmts, flat_rest, flat, entry_bytes}
use Rattle.ast.specs.Limits.{depth_leaves, depth_expr, depth_rhs, depth_items, depth_stmt, depth_stmts, depth_rest, depth}
use Rattle.ast.specs.laws.Complete.{deep_expr, deep_stmt}
use Rattle.walk.specs.laws.Parts.{arm_plain}
use Rattle.walk.specs.Cost.{cost_expr, cost_assign, cost_items, cost_rhs, cost_own, or_one_cost, cost_stmt, cost_stmts, cost_rest}
use Rattle.bound.specs.inner.Weights as Rule
use Rattle.bound.specs.inner.Weights.{stores_one, silent, whole_weight, Forest, forest, cost_of, forest_times, subtree}
use Rattle.walk.proofs.laws.Bounded.Positive.{rest_positive}

-- ---- nodes at the front of the entries, whatever follows: one subtree under kind u, or n of them

record One (d l u : ℕ) (ns : List Node) (c : ℕ) : Type 0 where
  takes : (ms : List Node) → subtree d l u (entry_bytes (ns ++ ms)) ≡ forest c (entry_bytes ms)

record Many (d l u n : ℕ) (ns : List Node) (c : ℕ) : Type 0 where
  takes : (ms : List Node) → forest_times (λ es. subtree d l u es) n (entry_bytes (ns ++ ms)) ≡ forest c (entry_bytes ms)

module _ {d l u : ℕ} where
  one_is : {ns : List Node} {a b : ℕ} → a ≡ b → One d l u ns a → One d l u ns b
  one_is e h = rw e at h

  many_is : {n : ℕ} {ns : List Node} {a b : ℕ} → a ≡ b → Many d l u n ns a → Many d l u n ns b
  many_is e h = rw e at h

  many_count : {m n a : ℕ} {ns : List Node} → m ≡ n → Many d l u m ns a → Many d l u n ns a
  many_count e h = rw e at h

  none : Many d l u 0 [] 0
  none = record { takes = λ ms. refl }

  and_more : {n a b : ℕ} {ns ks : List Node} → One d l u ns a → Many d l u n ks b → Many d l u (suc n) (ns ++ ks) (a + b)
  and_more {n} {a} {b} {ns} {ks} h k = record { takes = λ ms. ap (λ (i : List Node). forest_times (λ es. subtree d l u es) (suc n) (entry_bytes i)) (append_assoc ns ks ms) ∙ rw (h.takes (ks ++ ms), k.takes ms) }

  just : {a : ℕ} {ns : List Node} → One d l u ns a → Many d l u 1 ns a
  just {a} {ns} h = record { takes = λ ms. rw (h.takes ms) (ap (λ (x : ℕ). forest x (entry_bytes ms)) (omega arith)) }

-- a node and its children
a_node : {d l u n x : ℕ} {ns : List Node} (k : Kind) (b : List ℕ) → Many d l (number_of k) n ns x → One (suc d) l u (node k n b ∷ ns) (whole_weight l u (number_of k) n x)
a_node {d} {l} {u} {n} k b h = record { takes = λ ms. ap (λ (r : Forest). Rule.node l u (number_of k) n r) (h.takes ms) }

-- ---- expressions, but for 14 and 16 under 7

same : (b : Bool) (n : ℕ) → n ≡ cond b n n
same true n = refl
same false n = refl

stored : (b : Bool) (x y : ℕ) → x + 1 ≡ y → cond b 2 1 + x ≡ cond b (y + 1) y
stored true x y e = omega arith
stored false x y e = omega arith

-- a leaf
heard : {d l u : ℕ} (k : Kind) (b : List ℕ) → whole_weight l u (number_of k) 0 0 ≡ 1 → One (suc d) l u (node k 0 b ∷ []) 1
heard k b e = one_is e (a_node k b none)

or_truth_lem : (e : Expr) → T (plain_expr e) → T (or_truth e (plain_expr e))
or_truth_lem (Literal c) p = tt
or_truth_lem (Name x) p = p
or_truth_lem (BinaryExpr t a b) p = p
or_truth_lem (UnaryExpr t a) p = p
or_truth_lem (VarAssign x r) p = p
or_truth_lem (ArrayMut x i v) p = p
or_truth_lem (FnCall f ps) p = p

leaves : (ls : List Lit) → depth_leaves ls ≤ 1
leaves [] = omega arith
leaves (c ∷ ls) = omega arith

module _ (l : ℕ) where
  n_lit : (c : Lit) (d u : ℕ) → silent u ≡ false → One (suc d) l u (flat_lit c ∷ []) 1
  n_lit (Val b) d u s = heard (k_expr k_num) _ (rw s)
  n_lit (Text t) d u s = heard (k_expr k_text) _ (rw s)
  n_lit (Truth true) d u s = heard (k_expr k_true) _ (rw s)
  n_lit (Truth false) d u s = heard (k_expr k_false) _ (rw s)

  n_expr : (e : Expr) (d u : ℕ) → silent u ≡ false → depth_expr e ≤ d → T (or_truth e (plain_expr e)) → One d l u (flat_expr e) (cond (stores_one u) (cost_assign e) (cost_expr e))
  n_expr e zero u s h p = absurd (omega (arith, deep_expr e))
  n_expr (Literal c) (suc d) u s h p = one_is (same (stores_one u) 1) (n_lit c d u s)
  n_expr (Name x) (suc d) u s h p = one_is (same (stores_one u) 1) (heard (k_expr k_name) _ (rw s))
  n_expr (BinaryExpr t a b) (suc d) u s h p =
      let y = and_yes (or_truth a (plain_expr a)) (or_truth b (plain_expr b)) p in
      one_is (stored (stores_one u) (cost_expr a + cost_expr b) (cost_expr a + (cost_expr b + 1)) (omega arith))
      (a_node (k_expr k_binary) _ (and_more (n_expr a d 17 refl (omega arith) y.0) (just (n_expr b d 17 refl (omega arith) y.1))))
  n_expr (UnaryExpr t a) (suc d) u s h p = one_is (stored (stores_one u) (cost_expr a) (cost_expr a + 1) refl) (a_node (k_expr k_unary) _ (just (n_expr a d 18 refl (omega arith) p)))
  n_expr (VarAssign x r) (suc d) u s h p = absurd p
  n_expr (ArrayMut x i v) (suc d) u s h p = absurd p
  n_expr (FnCall f ps) (suc d) u s h p = absurd p

  -- where nothing is stored
  n_plain : (e : Expr) (d u : ℕ) → silent u ≡ false → stores_one u ≡ false → depth_expr e ≤ d → T (plain_expr e) → One d l u (flat_expr e) (cost_expr e)
  n_plain e d u s q h p = rw q at (n_expr e d u s h (or_truth_lem e p))

  n_items : (is : Items) (d : ℕ) → depth_items is ≤ d → T (plain_items is) → Many d l 10 (item_count is) (flat_items is) (cost_items is)
  n_items no_items d h p = none
  n_items (more_items k e is) zero h p = absurd (omega arith)
  n_items (more_items k e is) (suc d) h p =
      let y = and_yes (plain_expr e) (plain_items is) p in
      many_is (omega arith) (and_more (a_node k_item _ (just (n_plain e d 11 refl refl (omega arith) y.0))) (n_items is (suc d) (omega arith) y.1))

  -- a leaf that has no instruction
  n_silent : (c : Lit) (d : ℕ) → One (suc d) l 12 (flat_lit c ∷ []) 0
  n_silent (Val b) d = a_node (k_expr k_num) _ none
  n_silent (Text t) d = a_node (k_expr k_text) _ none
  n_silent (Truth true) d = a_node (k_expr k_true) _ none
  n_silent (Truth false) d = a_node (k_expr k_false) _ none

  n_lits : (ls : List Lit) (d : ℕ) → depth_leaves ls ≤ d → Many d l 12 (length ls) (flat_lits ls) 0
  n_lits [] d h = none
  n_lits (c ∷ ls) zero h = absurd (omega arith)
  n_lits (c ∷ ls) (suc d) h = and_more (n_silent c d) (n_lits ls (suc d) (omega (arith, leaves ls)))

  n_rhs : (r : Rhs) (d u : ℕ) → silent u ≡ false → stores_one u ≡ true → depth_rhs r ≤ d → T (plain_rhs r) → One d l u (flat_rhs r) (cost_rhs r)
  n_rhs (Expression e) d u s q h p = rw q at (n_expr e d u s h p)
  n_rhs (Table is) zero u s q h p = absurd (omega arith)
  n_rhs (Table is) (suc d) u s q h p = a_node (k_right k_table) _ (n_items is d (omega arith) p)
  n_rhs (Array a ls) zero u s q h p = absurd (omega arith)
  n_rhs (Array a ls) (suc d) u s q h p = a_node (k_right k_array) _ (n_lits ls d (omega arith))
  n_rhs (ArrayAccess a i) zero u s q h p = absurd (omega arith)
  n_rhs (ArrayAccess a i) (suc d) u s q h p = one_is (omega arith) (a_node (k_right k_array_access) _ (just (n_plain i d 13 refl refl (omega arith) p)))

  -- the child of 7
  n_own : (e : Expr) (d : ℕ) → depth_expr e ≤ d → T (plain_own e) → One d l 7 (flat_expr e) (cost_own e)
  n_own (Literal c) d h p = n_plain (Literal c) d 7 refl refl h p
  n_own (Name x) d h p = n_plain (Name x) d 7 refl refl h p
  n_own (BinaryExpr t a b) d h p = n_plain (BinaryExpr t a b) d 7 refl refl h p
  n_own (UnaryExpr t a) d h p = n_plain (UnaryExpr t a) d 7 refl refl h p
  n_own (VarAssign x r) zero h p = absurd (omega arith)
  n_own (VarAssign x r) (suc d) h p = one_is (omega arith) (a_node (k_expr k_assign) _ (just (n_rhs r d 16 refl refl (omega arith) p)))
  n_own (ArrayMut x i v) zero h p = absurd (omega arith)
  n_own (ArrayMut x i v) (suc d) h p =
      let y = and_yes (plain_expr i) (plain_expr v) p in
      one_is (omega arith) (a_node (k_expr k_array_mut) _ (and_more (n_plain i d 14 refl refl (omega arith) y.0) (just (n_plain v d 14 refl refl (omega arith) y.1))))
  n_own (FnCall f ps) d h p = absurd p

  -- ---- statements

  -- a Block or a Program
  or_one_lem : (b : Stmts) → cond (eqb (stmt_count b) 0) 1 0 + cost_stmts l b ≡ or_one_cost b (cost_stmts l b)
  or_one_lem no_stmts = refl
  or_one_lem (more_stmts s k) = rw (ne_eqb (suc (stmt_count k)) 0 (λ h. omega arith)) (omega arith)

  n_block : (b : Stmts) (d u : ℕ) → suc (depth_stmts b) ≤ d → ((e : ℕ) → depth_stmts b ≤ e → Many e l 2 (stmt_count b) (flat_stmts b) (cost_stmts l b)) → One d l u (block_node b ∷ flat_stmts b) (or_one_cost b (cost_stmts l b))
  n_block b zero u h f = absurd (omega arith)
  n_block b (suc d) u h f = one_is (or_one_lem b) (a_node (k_stmt k_block) _ (f d (omega arith)))

  n_source : (a d : ℕ) → 1 ≤ d → One d l 5 (flat_name a ∷ []) 0
  n_source a zero h = absurd (omega arith)
  n_source a (suc d) h = a_node (k_expr k_name) _ none

  mutual
    n_stmt : (s : Stmt) (d u : ℕ) → depth_stmt s ≤ suc d → T (plain_stmt s) → One (suc d) l u (flat_stmt s) (cost_stmt l s)
    n_stmt (Block b) d u h p = n_block b (suc d) u h (λ e g. n_stmts b e 2 g p)
    n_stmt (IfStmt c b k) d u h p =
        let y = arm_plain c b k p in
        let m : suc (suc (elif_count k + else_count k)) ≡ 2 + elif_count k + else_count k = omega arith in
        let z = rest_positive l k in
        one_is (omega arith) (a_node (k_stmt k_if) _ (many_count m
        (and_more (n_plain c d 3 refl refl (omega arith) y.0) (and_more (n_block b d 3 (omega arith) (λ e g. n_stmts b e 2 g y.1)) (n_rest k d 3 (omega arith) y.2)))))
    n_stmt (ForStmt i v (OverName a) b) d u h p =
        one_is (ap (λ (x : ℕ). 2 + l * (7 + x)) (omega arith)) (a_node (k_stmt k_for) _ (and_more (n_source a d (omega arith)) (just (n_block b d 5 (omega arith) (λ e g. n_stmts b e 2 g p)))))
    n_stmt (ForStmt i v (OverCall f ps) b) d u h p = absurd p
    n_stmt Return d u h p = absurd p
    n_stmt (ReturnExpr e) d u h p = absurd p
    n_stmt (ExprStmt e) d u h p = one_is (omega arith) (a_node (k_stmt k_expr_stmt) _ (just (n_own e d (omega arith) p)))
    n_stmt (VarDecl x) d u h p = a_node (k_stmt k_var_decl) _ none
    n_stmt (VarInit x r) d u h p = one_is (omega arith) (a_node (k_stmt k_var_decl) _ (just (n_rhs r d 8 refl refl (omega arith) p)))
    n_stmt (FnDecl f ps b) d u h p = absurd p

    n_stmts : (k : Stmts) (d u : ℕ) → depth_stmts k ≤ d → T (plain k) → Many d l u (stmt_count k) (flat_stmts k) (cost_stmts l k)
    n_stmts no_stmts d u h p = none
    n_stmts (more_stmts s k) zero u h p = absurd (omega (arith, deep_stmt s))
    n_stmts (more_stmts s k) (suc d) u h p =
        let y = and_yes (plain_stmt s) (plain k) p in
        and_more (n_stmt s d u (omega arith) y.0) (n_stmts k (suc d) u (omega arith) y.1)

    n_rest : (k : Rest) (d u : ℕ) → depth_rest k ≤ d → T (plain_rest k) → Many d l u (elif_count k + else_count k) (flat_rest k) (cost_rest l k - 1)
    n_rest (Else k) d u h p = many_is (omega arith) (many_count (omega arith) (n_stmts k d u h p))
    n_rest (Elif c b k) zero u h p = absurd (omega arith)
    n_rest (Elif c b k) (suc d) u h p =
        let y = arm_plain c b k p in
        let z = rest_positive l k in
        let m : suc (elif_count k + else_count k) ≡ suc (elif_count k) + else_count k = omega arith in
        many_is (omega arith) (rw append_assoc at (many_count m
        (and_more (a_node k_elif [] (and_more (n_plain c d 4 refl refl (omega arith) y.0) (just (n_block b d 4 (omega arith) (λ e g. n_stmts b e 2 g y.1))))) (n_rest k (suc d) u (omega arith) y.2))))

-- ---- the whole tree

pub entries_cost : (l : ℕ) (t : Stmts) → depth t ≤ 32 → T (plain t) → cost_of (subtree 32 l 0 (entry_bytes (flat t))) ≡ or_one_cost t (cost_stmts l t)
entries_cost l t h p =
    let c = one_is (or_one_lem l t) (a_node {u = 0} k_program [] (n_stmts l t 31 1 (omega arith) p)) in
    ap (λ (ns : List Node). cost_of (subtree 32 l 0 (entry_bytes ns))) (sym (append-nil (flat t))) ∙ ap cost_of (c.takes [])
