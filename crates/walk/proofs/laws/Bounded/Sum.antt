-- What the lowering of a plain tree pushes: instructions whose sum of L to the power of the loops around each is the tree's cost, multiplied by L for
-- each For around it. Each part begins with an instruction of its label.
use Rattle.std.specs.Prelude.{ℕ, suc, ◌+◌, ◌*◌, ◌^◌, ◌≡◌, refl, Bool, true, false, List, [], ◌∷◌, ◌++◌, T}
use Rattle.std.proofs.Common.{pow-suc, arith, ◌∙◌}
use Rattle.std.proofs.Math.Facts.{and_yes}
use Rattle.opc.specs.Op.{Op, Nop, instr}
use Rattle.ast.specs.Tree.{Lit, Val, Text, Truth, Expr, Literal, Name, BinaryExpr, UnaryExpr, VarAssign, ArrayMut, FnCall, Rhs, Expression, Table, Array, ArrayAccess}
use Rattle.ast.specs.Tree.{Items, no_items, more_items, OverName, OverCall}
use Rattle.ast.specs.Tree.{Stmt, Block, IfStmt, ForStmt, Return, ReturnExpr, ExprStmt, VarDecl, VarInit, FnDecl, Stmts, no_stmts, more_stmts, Rest, Else, Elif}
use Rattle.ast.specs.Plain.{plain_lit, or_truth, plain_expr, plain_items, plain_rhs, plain_own, plain_stmt, plain, plain_rest}
use Rattle.compiler.specs.Lower.{Main, Place, Event, Reg, Push, Below, ask_below, push, load, arg_regs, expr_regs, stmt_regs, stmts_regs, else_labels, stmt_labels, stmts_labels, rest_labels, lower_lit, lower_arg, lower_assign, lower_expr, lower_rhs, lower_items, or_nop, lower_arm, lower_for, lower_stmt, lower_stmts, lower_rest, lower_tree}
use Rattle.walk.specs.laws.Parts.{arm_plain, operand, nothing_pushed}
use Rattle.walk.specs.Bound.{total}
use Rattle.walk.specs.Cost.{cost_expr, cost_assign, cost_items, cost_rhs, cost_own, or_one_cost, cost_stmt, cost_stmts, cost_rest}

total_append : (l : ℕ) (s t : List Event) → total l (s ++ t) ≡ total l s + total l t
total_append l [] t = omega arith
total_append l (Reg ∷ s) t = total_append l s t
total_append l (Push w i ∷ s) t = omega (arith, total_append l s t)
total_append l (Below ∷ s) t = total_append l s t

-- in the code, d For nodes around
abbrev pub main : ℕ → Place
main d = record { section = Main; loops = d }

-- events that begin with an instruction of label n
pub data Opens (n : ℕ) : List Event → Type 0 where
  past : {es : List Event} → Opens n es → Opens n (Reg ∷ es)
  at : {w : Place} {o : Op} {es : List Event} → Opens n (Push w (instr n o) ∷ es)

opens_append : {n : ℕ} {s : List Event} → Opens n s → (t : List Event) → Opens n (s ++ t)
opens_append (past h) t = past (opens_append h t)
opens_append at t = at

-- events that stand d For nodes deep and add up to the cost c; they begin with label n, where f is true
pub record Adds (f : Bool) (l d n : ℕ) (es : List Event) (c : ℕ) : Type 0 where
  pub sum : total l es ≡ c * l ^ d
  pub opens : T f → Opens n es

-- statements have instructions, if there are any
abbrev any : Stmts → Bool
any no_stmts = false
any (more_stmts s k) = true

module _ {l : ℕ} where
  a_none : {d : ℕ} (n : ℕ) → Adds false l d n [] 0
  a_none n = record { sum = omega arith; opens = λ z. absurd z }

  a_push : {f : Bool} {d m : ℕ} {es : List Event} {c : ℕ} (n : ℕ) (o : Op) → Adds f l d m es c → Adds true l d n (push (main d) n o ∷ es) (1 + c)
  a_push n o h = record { sum = omega (arith, h.sum); opens = λ z. at }

  a_reg : {f : Bool} {d n : ℕ} {es : List Event} {c : ℕ} → Adds f l d n es c → Adds f l d n (Reg ∷ es) c
  a_reg h = record { sum = h.sum; opens = λ z. past (h.opens z) }

  a_append : {f g : Bool} {d n m : ℕ} {s t : List Event} {a b : ℕ} → Adds f l d n s a → Adds g l d m t b → Adds f l d n (s ++ t) (a + b)
  a_append {s} {t} h k = record { sum = total_append l s t ∙ omega (arith, h.sum, k.sum); opens = λ z. opens_append (h.opens z) t }

  a_is : {f : Bool} {d n : ℕ} {es : List Event} {a b : ℕ} → a ≡ b → Adds f l d n es a → Adds f l d n es b
  a_is e h = rw e at h

  a_one : {d : ℕ} (n : ℕ) (o : Op) → Adds true l d n (push (main d) n o ∷ []) 1
  a_one n o = a_push n o (a_none n)

  a_load : {d : ℕ} (n : ℕ) (o : Op) → Adds true l d n (load (main d) n o) 1
  a_load n o = a_reg (a_one n o)

  a_before : {f : Bool} {d n : ℕ} {es : List Event} {c : ℕ} (r : ℕ) → Adds f l d n es c → Adds false l d n (ask_below r ++ es) c
  a_before {d} {es} {c} r h = record { sum = nothing_pushed (λ x. total l (x ++ es) ≡ c * l ^ d) r h.sum h.sum; opens = λ z. absurd z }

  a_loose : {f : Bool} {d n : ℕ} {es : List Event} {c : ℕ} → Adds f l d n es c → Adds false l d n es c
  a_loose h = record { sum = h.sum; opens = λ z. absurd z }

  -- a For's inside, seen from outside
  a_inner : {f : Bool} {d n : ℕ} {es : List Event} {c : ℕ} → Adds f l (suc d) n es c → Adds f l d n es (l * c)
  a_inner h = record { sum = h.sum ∙ rw pow-suc (omega arith); opens = h.opens }

  -- ---- expressions and right sides

  a_lit : {d : ℕ} (n r : ℕ) (c : Lit) → T (plain_lit c) → Adds true l d n (lower_lit (main d) n c r) 1
  a_lit n r (Val b) h = a_load n _
  a_lit n r (Text t) h = a_load n _
  a_lit n r (Truth b) h = absurd h

  a_arg : {d : ℕ} {es : List Event} (n r : ℕ) (a : Expr) → T (or_truth a (plain_expr a)) → (T (plain_expr a) → Adds true l d n es (cost_expr a)) → Adds true l d n (lower_arg (main d) n a r es) (cost_expr a)
  a_arg {d} {es} n r a h k = operand (λ b q c. Adds true l d n c (cost_expr b)) (main d) n r a 0 es h (λ b. a_load n _) k

  a_expr : {d : ℕ} (e : Expr) (n r : ℕ) → T (plain_expr e) → Adds true l d n (lower_expr e (main d) n r) (cost_expr e)
  a_expr (Literal c) n r h = a_lit n r c h
  a_expr (Name x) n r h = a_load n _
  a_expr (BinaryExpr t a b) n r h =
      let q = r + arg_regs a (expr_regs a) in
      let p = q + arg_regs b (expr_regs b) in
      let y = and_yes (or_truth a (plain_expr a)) (or_truth b (plain_expr b)) h in
      a_append (a_arg n r a y.0 (a_expr a n r)) (a_before q (a_append (a_arg n q b y.1 (a_expr b n q)) (a_before p (a_load n _))))
  a_expr (UnaryExpr t a) n r h = a_append (a_arg n r a h (a_expr a n r)) (a_before (r + arg_regs a (expr_regs a)) (a_load n _))
  a_expr (VarAssign x k) n r h = absurd h
  a_expr (ArrayMut x i v) n r h = absurd h
  a_expr (FnCall f ps) n r h = absurd h

  a_assign : {d : ℕ} (e : Expr) (x n r q : ℕ) → T (or_truth e (plain_expr e)) → Adds true l d n (lower_assign (main d) n x e (lower_expr e (main d) n r) q) (cost_assign e)
  a_assign (Literal c) x n r q h = a_one n _
  a_assign (Name y) x n r q h = a_one n _
  a_assign (BinaryExpr t a b) x n r q h = a_append (a_expr (BinaryExpr t a b) n r h) (a_one n _)
  a_assign (UnaryExpr t a) x n r q h = a_append (a_expr (UnaryExpr t a) n r h) (a_one n _)
  a_assign (VarAssign y k) x n r q h = absurd h
  a_assign (ArrayMut y i v) x n r q h = absurd h
  a_assign (FnCall f ps) x n r q h = absurd h

  a_items : {d : ℕ} (is : Items) (x n r : ℕ) → T (plain_items is) → Adds false l d n (lower_items is x (main d) n r) (cost_items is)
  a_items no_items x n r h = a_none n
  a_items (more_items k e is) x n r h =
      let y = and_yes (plain_expr e) (plain_items is) h in
      a_loose (a_append (a_expr e n r y.0) (a_push n _ (a_items is x n (r + expr_regs e) y.1)))

  a_rhs : {d : ℕ} (k : Rhs) (x n r : ℕ) → T (plain_rhs k) → Adds true l d n (lower_rhs k x (main d) n r) (cost_rhs k)
  a_rhs (Expression e) x n r h = a_assign e x n r _ h
  a_rhs (Table is) x n r h = a_push n _ (a_items is x n r h)
  a_rhs (Array a ls) x n r h = a_one n _
  a_rhs (ArrayAccess a i) x n r h = a_append (a_expr i n r h) (a_append (a_load n _) (a_one n _))

  a_own : {d : ℕ} (e : Expr) (n r : ℕ) → T (plain_own e) → Adds true l d n (lower_expr e (main d) n r) (cost_own e)
  a_own (Literal c) n r h = a_expr (Literal c) n r h
  a_own (Name x) n r h = a_expr (Name x) n r h
  a_own (BinaryExpr t a b) n r h = a_expr (BinaryExpr t a b) n r h
  a_own (UnaryExpr t a) n r h = a_expr (UnaryExpr t a) n r h
  a_own (VarAssign x k) n r h = a_rhs k x n r h
  a_own (ArrayMut x i v) n r h =
      let q = r + expr_regs v in
      let y = and_yes (plain_expr i) (plain_expr v) h in
      a_append (a_expr v n r y.1) (a_before q (a_append (a_expr i n q y.0) (a_one n _)))
  a_own (FnCall f ps) n r h = absurd h

  -- ---- statements

  a_block : {d : ℕ} {es : List Event} {c : ℕ} (b : Stmts) (n : ℕ) → Adds (any b) l d n es c → Adds true l d n (or_nop b (main d) n es) (or_one_cost b c)
  a_block no_stmts n h = a_one n _
  a_block (more_stmts s k) n h = h

  a_arm : {d u v : ℕ} {c b k : List Event} {x y z : ℕ} (n q m end : ℕ) → Adds true l d n c x → Adds true l d u b y → Adds true l d v k z → Adds true l d n (lower_arm (main d) n c q b m end ++ k) (x + (1 + (y + (1 + z))))
  a_arm n q m end h i j = a_is (omega arith) (a_append (a_append h (a_push n _ (a_append i (a_one m _)))) j)

  a_for : {d k : ℕ} {es : List Event} {c : ℕ} (i v a n r q p m : ℕ) → Adds true l (suc d) k es c → Adds true l d n (lower_for (main d) n i v a r q p [] es m) (2 + l * (7 + c))
  a_for i v a n r q p m h =
      a_is (omega arith) (a_reg (a_push n _ (a_reg (a_push n _ (a_inner (a_push (n + 1) _ (a_reg (a_push (n + 1) _ (a_push (n + 1) _ (a_append h
      (a_push m _ (a_push m _ (a_reg (a_push m _ (a_one m _)))))))))))))))

  a_else : {d : ℕ} (k : Stmts) (n r end : ℕ) → n + else_labels k (stmts_labels k) ≡ end → Adds (any k) l d n (lower_stmts k (main d) n r) (cost_stmts l k)
      → Adds true l d n (lower_stmts k (main d) n r ++ (push (main d) end Nop ∷ [])) (cost_stmts l k + 1)
  a_else no_stmts n r end g h = let z : n ≡ end = omega arith in rw (← z) (a_one n _)
  a_else (more_stmts s k) n r end g h = a_append h (a_one end _)

  mutual
    pub a_stmt : {d : ℕ} (s : Stmt) (n r : ℕ) → T (plain_stmt s) → Adds true l d n (lower_stmt s (main d) n r) (cost_stmt l s)
    a_stmt (Block b) n r h = a_block b n (a_stmts b n r h)
    a_stmt (IfStmt c b k) n r h =
        let q = r + expr_regs c in
        let m = n + 1 + stmts_labels b in
        let y = arm_plain c b k h in
        a_arm n q m (m + 1 + rest_labels k) (a_expr c n r y.0) (a_block b (n + 1) (a_stmts b (n + 1) q y.1)) (a_rest k (m + 1) (q + stmts_regs b) (m + 1 + rest_labels k) refl y.2)
    a_stmt (ForStmt i v (OverName a) b) n r h = a_for i v a n r _ _ _ (a_block b (n + 1) (a_stmts b (n + 1) (suc r + 0 + 2) h))
    a_stmt (ForStmt i v (OverCall f ps) b) n r h = absurd h
    a_stmt Return n r h = absurd h
    a_stmt (ReturnExpr e) n r h = absurd h
    a_stmt (ExprStmt e) n r h = a_own e n r h
    a_stmt (VarDecl x) n r h = a_one n _
    a_stmt (VarInit x k) n r h = a_rhs k x n r h
    a_stmt (FnDecl f ps b) n r h = absurd h

    a_stmts : {d : ℕ} (k : Stmts) (n r : ℕ) → T (plain k) → Adds (any k) l d n (lower_stmts k (main d) n r) (cost_stmts l k)
    a_stmts no_stmts n r h = a_none n
    a_stmts (more_stmts s k) n r h =
        let y = and_yes (plain_stmt s) (plain k) h in
        a_append (a_stmt s n r y.0) (a_stmts k (n + stmt_labels s) (r + stmt_regs s) y.1)

    pub a_rest : {d : ℕ} (k : Rest) (n r end : ℕ) → n + rest_labels k ≡ end → T (plain_rest k) → Adds true l d n (lower_rest k (main d) n r end) (cost_rest l k)
    a_rest (Else k) n r end g h = a_else k n r end g (a_stmts k n r h)
    a_rest (Elif c b k) n r end g h =
        let q = r + expr_regs c in
        let m = n + 1 + stmts_labels b in
        let y = arm_plain c b k h in
        a_arm n q m end (a_expr c n r y.0) (a_block b (n + 1) (a_stmts b (n + 1) q y.1)) (a_rest k (m + 1) (q + stmts_regs b) end (omega arith) y.2)

  pub a_script : {d : ℕ} (b : Stmts) (n r : ℕ) → T (plain b) → Adds true l d n (or_nop b (main d) n (lower_stmts b (main d) n r)) (or_one_cost b (cost_stmts l b))
  a_script b n r h = a_block b n (a_stmts b n r h)

  pub a_tree : (t : Stmts) → T (plain t) → Adds true l 0 0 (lower_tree t) (or_one_cost t (cost_stmts l t))
  a_tree t h = a_script t 0 0 h
