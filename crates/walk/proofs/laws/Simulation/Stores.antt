-- The lowered code of a right side, and of an expression that is a statement, does what the walk does.
use Rattle.std.specs.Prelude.{ℕ, ◌+◌, ◌^◌, ◌≤◌, ◌≡◌, refl, List, [], ◌∷◌, ◌++◌, map, T}
use Rattle.std.proofs.Common.{le_refl, arith, ◌∙◌}
use Rattle.std.proofs.Math.Option.{some}
use Rattle.std.proofs.lemmas.List.{length-map}
use Rattle.std.proofs.Math.Facts.{and_yes}
use Rattle.sifv.specs.Value.{Value, One, Arr, Tab}
use Rattle.opc.specs.Op.{Op, Ldav, Stc, Str, Tbli}
use Rattle.tables.specs.Tables.{Program}
use Rattle.ast.specs.Tree.{Expr, Literal, Name, BinaryExpr, UnaryExpr, VarAssign, ArrayMut, FnCall, Rhs, Expression, Table, Array, ArrayAccess, Items, no_items, more_items}
use Rattle.ast.specs.Plain.{plain_expr, plain_items, plain_rhs, plain_own}
use Rattle.compiler.specs.Literals.{literal}
use Rattle.compiler.specs.Lower.{Place, Event, prev, expr_regs, push, load, lower_expr, lower_rhs, lower_items}
use Rattle.vm.specs.Operation.{Got, Ok, Names, put, or_null, array_item, update, tabled}
use Rattle.vm.specs.Machine.{stores, execute}
use Rattle.walk.specs.Walk.{Walked, ◌>>=◌, steps, makes, walk_items, walk_rhs, walk_own}
use Rattle.walk.specs.Bound.{longest_expr, longest_rhs}
use Rattle.walk.specs.laws.Small.{single, items, entries, small_put, small_null, Good, ok, good_item, good_update, good_tabled}
use Rattle.walk.proofs.laws.Simulation.Logic.{Exact, ExactValue, Regs, keep_trans, mk, stay, At, here, split, past, Sim, done, Kept, kept_after, sim_bind, sim_weaken, sim_load, sim_store}
use Rattle.walk.proofs.laws.Simulation.Exprs.{Gives, gives_expr}

-- code from register r on that does what f does
pub record Stores (P : Program) (r : ℕ) (es : List Event) (f : Names → Walked (Unit {0})) : Type 0 where
  pub does : {p a q b : ℕ} → At P p a es q b → (e : Names) (rs : Regs) → Exact e → Sim P (mk P p e rs) q (Kept r rs) (f e)

module _ {P : Program} where
  sim_nil : {p a q b r : ℕ} → At P p a [] q b → (e : Names) (rs : Regs) → Exact e → Sim P (mk P p e rs) q (Kept r rs) (steps 0 e)
  sim_nil here e rs s = done stay (record { smalls = s; keep = λ k l. refl })

  pub does_nil : {r : ℕ} → Stores P r [] (λ e. steps 0 e)
  does_nil = record { does = λ h e rs s. sim_nil h e rs s }

  -- one instruction that makes new names of the names
  pub does_one : {w : Place} {r n : ℕ} {o : Op} (g : Names → Got Names) → ((e : Names) → Exact e → Good Exact (g e))
      → ((p : ℕ) (e : Names) (rs : Regs) → execute P (mk P p e rs) o ≡ stores (mk P p e rs) (g e)) → Stores P r (push w n o ∷ []) (λ e. makes e (g e))
  does_one {r} g i k = record { does = λ {p} h e rs s. sim_store r e rs (g e) h (i e s) (k p e rs) }

  -- the value v to the name x
  pub does_constant : {w : Place} {r n : ℕ} (v : Value) (x : ℕ) → ExactValue v → Stores P r (push w n (Stc v x) ∷ []) (λ e. steps 1 (put e x (some v)))
  does_constant v x i = does_one (λ e. Ok (put e x (some v))) (λ e s. ok (small_put x s i)) (λ p e rs. refl)

  does_seq : {r t : ℕ} {c d : List Event} {f g : Names → Walked (Unit {0})} → Stores P r c f → r ≤ t → Stores P t d g → Stores P r (c ++ d) (λ e. f e >>= λ e₁ u. g e₁)
  does_seq {c} x l y = record {
    does = λ h e rs s.
        let i = split c h in
        sim_bind (x.does i.left e rs s) λ e₁ u rs₁ a. sim_weaken (y.does i.right e₁ rs₁ a.smalls) (kept_after a.keep l);
  }

  -- a value that is left where it is
  does_drop : {r t : ℕ} {es : List Event} {f : Names → Walked Value} → Gives P r t es f → Stores P r es (λ e. f e >>= λ e₁ v. steps 0 e₁)
  does_drop x = record { does = λ h e rs s. sim_bind (x.gives h e rs s) λ e₁ v rs₁ c. done stay (record { smalls = c.smalls; keep = c.keep }) }

  module _ (w : Place) (n : ℕ) where
    -- a value to the name x
    does_store : {r t : ℕ} {es : List Event} {f : Names → Walked Value} (x : ℕ) → Gives P r t es f → Stores P r (es ++ (push w n (Str (prev t) x) ∷ [])) (λ e. f e >>= λ e₁ v. steps 1 (put e₁ x (some v)))
    does_store {r} {es} x y = record {
      does = λ h e rs s.
          let j = split es h in
          sim_bind (y.gives j.left e rs s) λ e₁ v rs₁ c.
          sim_weaken (sim_store r e₁ rs₁ (Ok (put e₁ x (some v))) j.right (ok (small_put x c.smalls c.small)) (rw c.value)) (kept_after c.keep (le_refl r));
    }

    does_items : (is : Items) (x r : ℕ) → T (plain_items is) → Stores P r (lower_items is x w n r) (walk_items is x)
    does_items no_items x r t = does_nil
    does_items (more_items k y is) x r t =
        let z = and_yes (plain_expr y) (plain_items is) t in
        let q = r + expr_regs y in
        let g = gives_expr w n y r z.0 in
        let d = does_items is x q z.1 in
        record {
          does = λ h e rs s.
              let i = split (lower_expr y w n r) h in
              let j = split (push w n (Tbli x k (prev q)) ∷ []) i.right in
              sim_bind (g.gives i.left e rs s) λ e₁ v rs₁ c.
              sim_bind (sim_store q e₁ rs₁ (tabled e₁ x k (some v)) j.left (good_tabled x k v c.smalls) (rw c.value)) λ e₂ u rs₂ a.
              sim_weaken (d.does j.right e₂ rs₂ a.smalls) (kept_after (keep_trans c.keep (omega (arith, g.less)) a.keep) (omega (arith, g.less)));
        }

    pub does_rhs : (k : Rhs) (x r : ℕ) → T (plain_rhs k) → longest_rhs k ≤ 2 ^ 53 → Stores P r (lower_rhs k x w n r) (walk_rhs k x)
    does_rhs (Expression (Literal l)) x r t z = does_constant (One (literal l)) x single
    does_rhs (Expression (Name y)) x r t z = does_one (λ e. Ok (put e x (or_null (e y)))) (λ e s. ok (small_put x s (small_null (s.small y)))) (λ p e rs. refl)
    does_rhs (Expression (BinaryExpr o a b)) x r t z = does_store x (gives_expr w n (BinaryExpr o a b) r t)
    does_rhs (Expression (UnaryExpr o a)) x r t z = does_store x (gives_expr w n (UnaryExpr o a) r t)
    does_rhs (Expression (VarAssign y k)) x r t z = absurd t
    does_rhs (Expression (ArrayMut y i v)) x r t z = absurd t
    does_rhs (Expression (FnCall f ps)) x r t z = absurd t
    does_rhs (Table is) x r t z = does_seq (does_constant (Tab []) x entries) (le_refl r) (does_items is x r t)
    does_rhs (Array a ls) x r t z = does_constant (Arr (map literal ls)) a (items (rw length-map z))
    does_rhs (ArrayAccess a i) x r t z =
        let q = r + expr_regs i in
        let g = gives_expr {P = P} w n i r t in
        let l : r ≤ q = omega (arith, g.less) in
        record {
          does = λ h e rs s.
              let j = split (lower_expr i w n r) h in
              let k = split (load w n (Ldav a (prev q) q)) j.right in
              sim_bind (g.gives j.left e rs s) λ e₁ v rs₁ c.
              sim_bind (sim_load q q q rs₁ (array_item e₁ a v) k.left (le_refl q) refl c.smalls (good_item a v c.smalls) (rw c.value)) λ e₂ v₂ rs₂ d.
              sim_weaken (sim_store q e₂ rs₂ (Ok (put e₂ x (some v₂))) k.right (ok (small_put x d.smalls d.small)) (rw d.value))
              (kept_after (keep_trans c.keep l d.keep) l);
        }

    pub does_own : (y : Expr) (r : ℕ) → T (plain_own y) → longest_expr y ≤ 2 ^ 53 → Stores P r (lower_expr y w n r) (walk_own y)
    does_own (Literal l) r t z = does_drop (gives_expr w n (Literal l) r t)
    does_own (Name x) r t z = does_drop (gives_expr w n (Name x) r t)
    does_own (BinaryExpr o a b) r t z = does_drop (gives_expr w n (BinaryExpr o a b) r t)
    does_own (UnaryExpr o a) r t z = does_drop (gives_expr w n (UnaryExpr o a) r t)
    does_own (VarAssign x k) r t z = does_rhs k x r t z
    does_own (ArrayMut x i v) r t z =
        let y = and_yes (plain_expr i) (plain_expr v) t in
        let q = r + expr_regs v in
        let g = gives_expr w n v r y.1 in
        let d = gives_expr w n i q y.0 in
        record {
          does = λ h e rs s.
              let j = split (lower_expr v w n r) h in
              let k = split (lower_expr i w n q) (past q j.right) in
              sim_bind (g.gives j.left e rs s) λ e₁ u rs₁ c.
              sim_bind (d.gives k.left e₁ rs₁ c.smalls) λ e₂ m rs₂ a.
              let b : rs₂ (prev q) ≡ some u = a.keep (prev q) (omega (arith, g.less)) ∙ c.value in
              sim_weaken (sim_store q e₂ rs₂ (update e₂ x m u) k.right (good_update x m u a.smalls) (rw (a.value, b)))
              (kept_after (keep_trans c.keep (omega (arith, g.less)) a.keep) (omega (arith, g.less)));
        }
    does_own (FnCall f ps) r t z = absurd t
