-- The walk takes at most the cost, and less where it stops, as long as every array that a name holds has at most l items.
use Rattle.std.specs.Prelude.{ℕ, zero, suc, ◌+◌, ◌*◌, pred, ◌≤◌, ◌<◌, Bool, true, false, List, [], length}
use Rattle.std.proofs.Common.{le_refl, le_trans, mul-le-mul_right, arith}
use Rattle.std.proofs.Math.Option.{some}
use Rattle.std.proofs.lemmas.List.{length-map}
use Rattle.sifv.specs.Value.{Single, Num, Value, One, Tab}
use Rattle.ast.specs.Tree.{Expr, Literal, Name, BinaryExpr, UnaryExpr, VarAssign, ArrayMut, FnCall, Rhs, Expression, Table, Array, ArrayAccess}
use Rattle.ast.specs.Tree.{Items, no_items, more_items, Source, OverName, OverCall}
use Rattle.ast.specs.Tree.{Stmt, Block, IfStmt, ForStmt, Return, ReturnExpr, ExprStmt, VarDecl, VarInit, FnDecl, Stmts, no_stmts, more_stmts, Rest, Else, Elif}
use Rattle.compiler.specs.Literals.{bin_kind, un_kind}
use Rattle.vm.specs.RuntimeErr.{RuntimeErr}
use Rattle.vm.specs.Operation.{Got, Ok, Err, Names, empty, put, truth}
use Rattle.walk.specs.Walk.{Walked, Fine, Halt, counting, ◌>>=◌, steps, gets, makes, walk_expr, walk_assign, walk_items, walk_rhs, walk_own, or_one, choose, pass, passes, sized, walk_for, walk_stmt, walk_stmts, walk_rest}
use Rattle.walk.specs.Bound.{longest_expr, longest_rhs, longest_stmt, longest, longest_rest}
use Rattle.walk.specs.laws.Small.{SmallValue, single, items, entries, unset, Smalls, Good, ok, stop, small_put, small_null, good_binary, good_unary, good_read, good_item, good_items, good_update, good_tabled}
use Rattle.walk.specs.Cost.{cost_expr, cost_assign, cost_items, cost_rhs, cost_own, or_one_cost, cost_for, cost_stmt, cost_stmts, cost_rest}
use Rattle.walk.proofs.laws.Bounded.Positive.{rest_positive}
use Rattle.numeric.specs.Whole.{whole}

-- ---- a walk within b steps: at most b where it ends, its names small and its result as `post` says; less than b where it stops

pub data Within {A : Type 0} (l : ℕ) (post : A → Type 0) (b : ℕ) : Walked A → Type 0 where
  ends : {n : ℕ} {e : Names} {a : A} → n ≤ b → Smalls l e → post a → Within l post b (Fine n e a)
  stops : {n : ℕ} {e : Names} {r : RuntimeErr} → n < b → Within l post b (Halt n e r)

abbrev pub Any : Unit {0} → Type 0
Any u = Unit {0}

module _ {l : ℕ} where
  w_halt : {A : Type 0} {post : A → Type 0} {n b : ℕ} {e : Names} {r : RuntimeErr} → n < b → Within l post b (Halt n e r)
  w_halt h = stops h

  w_steps : {n : ℕ} {e : Names} → Smalls l e → Within l Any n (steps n e)
  w_steps {n} s = ends (le_refl n) s tt

  w_more : {A : Type 0} {post : A → Type 0} {b b' : ℕ} {o : Walked A} → b ≤ b' → Within l post b o → Within l post b' o
  w_more h (ends k s p) = ends (le_trans k h) s p
  w_more h (stops k) = stops (le_trans k h)

  w_after : {A : Type 0} {post : A → Type 0} {b : ℕ} {o : Walked A} (n : ℕ) → Within l post b o → Within l post (n + b) (counting n o)
  w_after {b} n (ends {n = m} k s p) = let h : n + m ≤ n + b = omega arith in ends h s p
  w_after {b} n (stops {n = m} k) = w_halt (omega arith)

  w_bind : {A B : Type 0} {post : A → Type 0} {post' : B → Type 0} {b b' : ℕ} {o : Walked A} {f : Names → A → Walked B}
      → Within l post b o → ((e : Names) (a : A) → Smalls l e → post a → Within l post' b' (f e a)) → Within l post' (b + b') (o >>= f)
  w_bind {b} {b'} (ends {n} {e} {a} k s p) g = w_more (omega arith) (w_after n (g e a s p))
  w_bind {b} {b'} (stops {n} k) g = w_halt (omega arith)

  w_gets : {fine : Value → Type 0} {g : Got Value} (e : Names) → Smalls l e → Good fine g → Within l fine 1 (gets e g)
  w_gets e s (ok h) = ends (le_refl 1) s h
  w_gets e s (stop r) = w_halt (omega arith)

  w_makes : {g : Got Names} (e : Names) → Good (Smalls l) g → Within l Any 1 (makes e g)
  w_makes e (ok s) = w_steps s
  w_makes e (stop r) = w_halt (omega arith)

module _ (l : ℕ) where
  -- ---- expressions and right sides

  w_expr : (t : Expr) (e : Names) → Smalls l e → Within l (SmallValue l) (cost_expr t) (walk_expr t e)
  w_expr (Literal c) e s = w_gets e s (ok single)
  w_expr (Name x) e s = w_gets e s (good_read x s)
  w_expr (BinaryExpr t a b) e s = w_bind (w_expr a e s) λ e₁ v s₁ h. w_bind (w_expr b e₁ s₁) λ e₂ w s₂ k. w_gets e₂ s₂ (good_binary (bin_kind t) v w)
  w_expr (UnaryExpr t a) e s = w_bind (w_expr a e s) λ e₁ v s₁ h. w_gets e₁ s₁ (good_unary (un_kind t) v)
  w_expr (VarAssign x r) e s = ends (le_refl 0) s single
  w_expr (ArrayMut x i v) e s = ends (le_refl 0) s single
  w_expr (FnCall f ps) e s = ends (le_refl 0) s single

  -- an expression whose value is dropped
  w_drop : (t : Expr) (e : Names) → Smalls l e → Within l Any (cost_expr t) (walk_expr t e >>= λ e₁ v. steps 0 e₁)
  w_drop t e s = w_more (omega arith) (w_bind (w_expr t e s) λ e₁ v s₁ h. w_steps s₁)

  -- a walk of at most b steps
  pub record Takes (b : ℕ) (w : Names → Walked (Unit {0})) : Type 0 where
    pub takes : (e : Names) → Smalls l e → Within l Any b (w e)

  w_assign : (x : ℕ) (t : Expr) (e : Names) → Smalls l e → Within l Any (cost_assign t) (walk_assign x t (walk_expr t e) e)
  w_assign x (Literal c) e s = w_steps (small_put x s single)
  w_assign x (Name y) e s = w_steps (small_put x s (small_null (s.small y)))
  w_assign x (BinaryExpr t a b) e s = w_bind (w_expr (BinaryExpr t a b) e s) λ e₁ v s₁ h. w_steps (small_put x s₁ h)
  w_assign x (UnaryExpr t a) e s = w_bind (w_expr (UnaryExpr t a) e s) λ e₁ v s₁ h. w_steps (small_put x s₁ h)
  w_assign x (VarAssign y r) e s = w_steps s
  w_assign x (ArrayMut y i v) e s = w_steps s
  w_assign x (FnCall f ps) e s = w_steps s

  w_items : (is : Items) (x : ℕ) (e : Names) → Smalls l e → Within l Any (cost_items is) (walk_items is x e)
  w_items no_items x e s = w_steps s
  w_items (more_items k t is) x e s = w_more (omega arith) (w_bind (w_expr t e s) λ e₁ v s₁ h. w_bind (w_makes e₁ (good_tabled x k v s₁)) λ e₂ u s₂ y. w_items is x e₂ s₂)

  w_rhs : (r : Rhs) (x : ℕ) → longest_rhs r ≤ l → Takes (cost_rhs r) (walk_rhs r x)
  w_rhs (Expression t) x h = record { takes = λ e s. w_assign x t e s }
  w_rhs (Table is) x h = record { takes = λ e s. w_after 1 (w_items is x (put e x (some (Tab []))) (small_put x s entries)) }
  w_rhs (Array a ls) x h = record { takes = λ e s. w_steps (small_put a s (items (rw length-map h))) }
  w_rhs (ArrayAccess a i) x h = record {
    takes = λ e s. w_more (omega arith) (w_bind (w_expr i e s) λ e₁ v s₁ k.
        w_bind (w_gets e₁ s₁ (good_item a v s₁)) λ e₂ w s₂ m. w_steps (small_put x s₂ m));
  }

  w_own : (t : Expr) → longest_expr t ≤ l → Takes (cost_own t) (walk_own t)
  w_own (Literal c) h = record { takes = w_drop (Literal c) }
  w_own (Name x) h = record { takes = w_drop (Name x) }
  w_own (BinaryExpr t a b) h = record { takes = w_drop (BinaryExpr t a b) }
  w_own (UnaryExpr t a) h = record { takes = w_drop (UnaryExpr t a) }
  w_own (VarAssign x r) h = record { takes = (w_rhs r x h).takes }
  w_own (ArrayMut x i v) h = record { takes = λ e s. w_bind (w_expr v e s) λ e₁ w s₁ k. w_bind (w_expr i e₁ s₁) λ e₂ j s₂ m. w_makes e₂ (good_update x j w s₂) }
  w_own (FnCall f ps) h = record { takes = λ e s. w_steps s }

  -- ---- statements

  w_block : (b : Stmts) (c : ℕ) (w : Names → Walked (Unit {0})) → Takes c w → Takes (or_one_cost b c) (λ e. or_one b e (w e))
  w_block no_stmts c w h = record { takes = λ e s. w_steps s }
  w_block (more_stmts s k) c w h = h

  w_choose : (g : Got Bool) (e : Names) {a b n : ℕ} {A B : Walked (Unit {0})} → 1 + a ≤ n → 1 + b ≤ n → Within l Any a A → Within l Any b B → Within l Any n (choose g e A B)
  w_choose (Ok true) e h k s t = w_more h (w_after 1 s)
  w_choose (Ok false) e h k s t = w_more k (w_after 1 t)
  w_choose (Err r) e {a} {b} {n} h k s t = w_halt (omega arith)

  -- a condition with its Block, and what follows where it does not hold
  w_arm : (c : Expr) (b m : ℕ) (w v : Names → Walked (Unit {0})) → 1 ≤ m → Takes b w → Takes m v
      → Takes (cost_expr c + (1 + (b + (1 + m)))) (λ e. walk_expr c e >>= λ e₁ x. choose (truth x) e₁ (w e₁ >>= λ e₂ u. steps 2 e₂) (v e₁))
  w_arm c b m w v z h k = record {
    takes = λ e s. w_bind (w_expr c e s) λ e₁ x s₁ y.
        w_choose (truth x) e₁ (omega arith) (omega arith) (w_bind (h.takes e₁ s₁) λ e₂ u s₂ j. w_steps s₂) (k.takes e₁ s₁);
  }

  w_pass : (c : ℕ) (w : Names → Walked (Unit {0})) (i v a k : ℕ) → Takes c w → (e : Names) → Smalls l e → Within l Any (7 + c) (pass w i v a k e)
  w_pass c w i v a k h e s = w_more (omega arith) (w_after 1 (w_bind (w_gets e s (good_item a (One (Num (whole k))) s)) λ e₁ x s₁ z.
      w_after 1 (w_bind (h.takes (put e₁ v (some x)) (small_put v s₁ z)) λ e₂ u s₂ y. w_steps (small_put i s₂ single))))

  w_passes : (c : ℕ) (w : Names → Walked (Unit {0})) (i v a : ℕ) → Takes c w → (more k : ℕ) → (e : Names) → Smalls l e → Within l Any (suc more * (7 + c)) (passes w i v a more k e)
  w_passes c w i v a h zero k e s = w_more (omega arith) (w_pass c w i v a k h e s)
  w_passes c w i v a h (suc more) k e s = w_more (omega arith) (w_bind (w_pass c w i v a k h e s) λ e₁ u s₁ y. w_passes c w i v a h more (suc k) e₁ s₁)

  w_sized : (e : Names) {g : Got (List Single)} (b : ℕ) (f : ℕ → Walked (Unit {0})) → Good (λ a. length a ≤ l) g → ((n : ℕ) → n ≤ l → Within l Any b (f n)) → Within l Any (1 + b) (sized e g f)
  w_sized e b f (ok {a} h) k = w_after 1 (k (length a) h)
  w_sized e b f (stop r) k = w_halt (omega arith)

  -- an array has at most l items, and a For takes a pass for each, or one where there is none
  w_for : 1 ≤ l → (c : ℕ) (w : Names → Walked (Unit {0})) (i v : ℕ) (t : Source) → Takes c w → Takes (cost_for l t c) (walk_for w i v t)
  w_for z c w i v (OverName a) h = record {
    takes = λ e s.
        let e₀ = put e i (some (One (Num (whole 0)))) in
        let s₀ : Smalls l e₀ = small_put i s single in
        w_more (omega arith) (w_after 1 (w_sized e₀ (l * (7 + c)) _ (good_items a s₀) λ n k.
        w_more (mul-le-mul_right (7 + c) (omega arith)) (w_passes c w i v a h (pred n) 0 e₀ s₀)));
  }
  w_for z c w i v (OverCall f ps) h = record { takes = λ e s. w_steps s }

  mutual
    w_stmt : 1 ≤ l → (t : Stmt) → longest_stmt t ≤ l → Takes (cost_stmt l t) (walk_stmt t)
    w_stmt z (Block b) h = w_block b (cost_stmts l b) (walk_stmts b) (w_stmts z b h)
    w_stmt z (IfStmt c b k) h = w_arm c (or_one_cost b (cost_stmts l b)) (cost_rest l k) (λ e. or_one b e (walk_stmts b e)) (walk_rest k) (rest_positive l k)
        (w_block b (cost_stmts l b) (walk_stmts b) (w_stmts z b (omega arith))) (w_rest z k (omega arith))
    w_stmt z (ForStmt i v t b) h = w_for z (or_one_cost b (cost_stmts l b)) (λ e. or_one b e (walk_stmts b e)) i v t (w_block b (cost_stmts l b) (walk_stmts b) (w_stmts z b (omega arith)))
    w_stmt z Return h = record { takes = λ e s. w_steps s }
    w_stmt z (ReturnExpr t) h = record { takes = λ e s. w_steps s }
    w_stmt z (ExprStmt t) h = w_own t h
    w_stmt z (VarDecl x) h = record { takes = λ e s. w_steps (small_put x s single) }
    w_stmt z (VarInit x r) h = w_rhs r x h
    w_stmt z (FnDecl f ps b) h = record { takes = λ e s. w_steps s }

    w_stmts : 1 ≤ l → (k : Stmts) → longest k ≤ l → Takes (cost_stmts l k) (walk_stmts k)
    w_stmts z no_stmts h = record { takes = λ e s. w_steps s }
    w_stmts z (more_stmts t k) h = record { takes = λ e s. w_bind ((w_stmt z t (omega arith)).takes e s) λ e₁ u s₁ y. (w_stmts z k (omega arith)).takes e₁ s₁ }

    w_rest : 1 ≤ l → (k : Rest) → longest_rest k ≤ l → Takes (cost_rest l k) (walk_rest k)
    w_rest z (Else k) h = record { takes = λ e s. w_bind ((w_stmts z k h).takes e s) λ e₁ u s₁ y. w_steps s₁ }
    w_rest z (Elif c b k) h = w_arm c (or_one_cost b (cost_stmts l b)) (cost_rest l k) (λ e. or_one b e (walk_stmts b e)) (walk_rest k) (rest_positive l k)
        (w_block b (cost_stmts l b) (walk_stmts b) (w_stmts z b (omega arith))) (w_rest z k (omega arith))

  -- a whole script, from no names
  pub script_takes : 1 ≤ l → (t : Stmts) → longest t ≤ l → Within l Any (or_one_cost t (cost_stmts l t)) (or_one t empty (walk_stmts t empty))
  script_takes z t h = (w_block t (cost_stmts l t) (walk_stmts t) (w_stmts z t h)).takes empty (record { small = λ x. unset })
