-- The lowered code of an expression does what the walk does.
use Rattle.std.specs.Prelude.{ℕ, ◌+◌, ◌<◌, ◌≡◌, refl, List, T}
use Rattle.std.proofs.Common.{le_refl, arith, ◌∙◌}
use Rattle.std.proofs.Math.Option.{some}
use Rattle.std.proofs.Math.Facts.{and_yes}
use Rattle.sifv.specs.Value.{Value, One}
use Rattle.opc.specs.Op.{Op, Ldc}
use Rattle.tables.specs.Tables.{Program}
use Rattle.ast.specs.Tree.{Lit, Val, Text, Truth, Expr, Literal, Name, BinaryExpr, UnaryExpr, VarAssign, ArrayMut, FnCall}
use Rattle.ast.specs.Plain.{or_truth, plain_expr}
use Rattle.compiler.specs.Literals.{literal, bin_kind, un_kind}
use Rattle.compiler.specs.Lower.{Place, Event, prev, arg_regs, expr_regs, load, lower_arg, lower_expr}
use Rattle.vm.specs.Operation.{Got, Ok, Names, binary, unary, read}
use Rattle.vm.specs.Machine.{loads, execute}
use Rattle.walk.specs.Walk.{Walked, gets, walk_expr}
use Rattle.walk.specs.laws.Small.{single, Good, ok, good_binary, good_unary, good_read}
use Rattle.walk.specs.laws.Parts.{operand}
use Rattle.walk.proofs.laws.Simulation.Logic.{Exact, ExactValue, Regs, keep_trans, mk, At, split, past, Sim, Holds, sim_bind, sim_weaken, sim_load}

-- code from register r on that leaves the value of f in the register before t, the next that is free
pub record Gives (P : Program) (r t : ℕ) (es : List Event) (f : Names → Walked Value) : Type 0 where
  pub less : r < t
  pub gives : {p a q b : ℕ} → At P p a es q b → (e : Names) (rs : Regs) → Exact e → Sim P (mk P p e rs) q (Holds (prev t) r rs) (f e)

module _ {P : Program} where
  -- one load of what a read of the names gives
  gives_one : {w : Place} {n : ℕ} {o : Op} (r : ℕ) (g : Names → Got Value) → ((e : Names) → Exact e → Good ExactValue (g e))
      → ((p : ℕ) (e : Names) (rs : Regs) → execute P (mk P p e rs) o ≡ loads (mk P p e rs) r (g e)) → Gives P r (r + 1) (load w n o) (λ e. gets e (g e))
  gives_one r g i k = record { less = omega arith; gives = λ {p} h e rs s. sim_load r (prev (r + 1)) r rs (g e) h (le_refl r) (omega arith) s (i e s) (k p e rs) }

  gives_value : {w : Place} {n : ℕ} (r : ℕ) (l : Lit) → Gives P r (r + 1) (load w n (Ldc r (One (literal l)))) (walk_expr (Literal l))
  gives_value r l = gives_one r (λ e. Ok (One (literal l))) (λ e s. ok single) (λ p e rs. refl)

  module _ (w : Place) (n : ℕ) where
    gives_arg : (a : Expr) (r : ℕ) → T (or_truth a (plain_expr a)) → (T (plain_expr a) → Gives P r (r + expr_regs a) (lower_expr a w n r) (walk_expr a))
        → Gives P r (r + arg_regs a (expr_regs a)) (lower_arg w n a r (lower_expr a w n r)) (walk_expr a)
    gives_arg a r t f = operand (λ b k es. Gives P r (r + k) es (walk_expr b)) w n r a (expr_regs a) (lower_expr a w n r) t (λ b. gives_value r (Truth b)) f

    pub gives_expr : (x : Expr) (r : ℕ) → T (plain_expr x) → Gives P r (r + expr_regs x) (lower_expr x w n r) (walk_expr x)
    gives_expr (Literal (Val b)) r t = gives_value r (Val b)
    gives_expr (Literal (Text b)) r t = gives_value r (Text b)
    gives_expr (Literal (Truth b)) r t = absurd t
    gives_expr (Name x) r t = gives_one r (λ e. read e x) (λ e s. good_read x s) (λ p e rs. refl)
    gives_expr (BinaryExpr o a b) r t =
        let z = and_yes (or_truth a (plain_expr a)) (or_truth b (plain_expr b)) t in
        let q = r + arg_regs a (expr_regs a) in
        let p = q + arg_regs b (expr_regs b) in
        let x = gives_arg a r z.0 (gives_expr a r) in
        let y = gives_arg b q z.1 (gives_expr b q) in
        record {
          less = omega (arith, x.less, y.less);
          gives = λ h e rs s.
              let i = split (lower_arg w n a r (lower_expr a w n r)) h in
              let j = split (lower_arg w n b q (lower_expr b w n q)) (past q i.right) in
              sim_bind (x.gives i.left e rs s) λ e₁ v rs₁ c.
              sim_bind (y.gives j.left e₁ rs₁ c.smalls) λ e₂ u rs₂ d.
              let k : rs₂ (prev q) ≡ some v = d.keep (prev q) (omega (arith, x.less)) ∙ c.value in
              sim_weaken (sim_load p (prev (r + expr_regs (BinaryExpr o a b))) p rs₂ (binary (bin_kind o) v u) (past p j.right) (le_refl p) (omega arith) d.smalls (good_binary (bin_kind o) v u) (rw (k, d.value)))
              λ e₃ v₃ rs₃ f. record {
                smalls = f.smalls;
                small = f.small;
                value = f.value;
                keep = keep_trans c.keep (omega (arith, x.less)) (keep_trans d.keep (omega (arith, y.less)) f.keep);
              };
        }
    gives_expr (UnaryExpr o a) r t =
        let q = r + arg_regs a (expr_regs a) in
        let x = gives_arg a r t (gives_expr a r) in
        record {
          less = omega (arith, x.less);
          gives = λ h e rs s.
              let i = split (lower_arg w n a r (lower_expr a w n r)) h in
              sim_bind (x.gives i.left e rs s) λ e₁ v rs₁ c.
              sim_weaken (sim_load q (prev (r + expr_regs (UnaryExpr o a))) q rs₁ (unary (un_kind o) v) (past q i.right) (le_refl q) (omega arith) c.smalls (good_unary (un_kind o) v) (rw c.value))
              λ e₂ v₂ rs₂ f. record { smalls = f.smalls; small = f.small; value = f.value; keep = keep_trans c.keep (omega (arith, x.less)) f.keep };
        }
    gives_expr (VarAssign x k) r t = absurd t
    gives_expr (ArrayMut x i v) r t = absurd t
    gives_expr (FnCall f ps) r t = absurd t
