-- The lowered code of statements in order, of a Block and of an If does what the walk does.
use Rattle.std.specs.Prelude.{ℕ, suc, ◌+◌, ◌≤◌, ◌<◌, ◌≡◌, refl, Bool, true, false, List, [], ◌∷◌, ◌++◌, T}
use Rattle.std.proofs.Common.{le_refl, arith, ap, ◌∙◌}
use Rattle.std.proofs.Math.Option.{some}
use Rattle.std.proofs.Math.ListN.{get_elem?}
use Rattle.sifv.specs.Value.{Value}
use Rattle.opc.specs.Op.{JmpCnd, Jmpf, Jmpa, Nop, Instr, instr, label}
use Rattle.tables.specs.Tables.{Program, label_at}
use Rattle.ast.specs.Tree.{Stmts, no_stmts, more_stmts}
use Rattle.ast.specs.Plain.{plain}
use Rattle.compiler.specs.Lower.{Place, Event, Push, prev, else_labels, stmts_labels, push, or_nop, lower_arm, lower_stmts}
use Rattle.vm.specs.Operation.{Got, Ok, Err, Names, truth}
use Rattle.vm.specs.Machine.{jump, branch, step}
use Rattle.walk.specs.Walk.{Walked, ◌>>=◌, steps, or_one, choose}
use Rattle.walk.specs.laws.Small.{ok}
use Rattle.walk.proofs.laws.Simulation.Logic.{Exact, Regs, mk, Run, stay, move, At, here, more, split, Sim, done, halt, Kept, kept_after, sim_after, sim_bind, sim_weaken, step_at}
use Rattle.walk.proofs.laws.Simulation.Labels.{InMain, Mono, last_le, mono_stmts, Lays, at_head}
use Rattle.walk.proofs.laws.Simulation.Exprs.{Gives}
use Rattle.walk.proofs.laws.Simulation.Stores.{Stores, does_one}

-- code from register r and label n on that does what f does
pub record Does (P : Program) (r n : ℕ) (es : List Event) (f : Names → Walked (Unit {0})) : Type 0 where
  pub does : {p a q b : ℕ} → At P p a es q b → a ≤ n → (e : Names) (rs : Regs) → Exact e → Sim P (mk P p e rs) q (Kept r rs) (f e)

-- the end of an If before place q: a jump to label l, and one step
pub record Exit (P : Program) (l q : ℕ) : Type 0 where
  pub place : ℕ
  pub found : label_at P.code l ≡ some place
  pub over : (e : Names) (rs : Regs) → Run P 1 (mk P place e rs) (mk P q e rs)

-- what follows an If's Block, from label n on, with the end at label `last`
pub record Closes (P : Program) (r n last : ℕ) (es : List Event) (f : Names → Walked (Unit {0})) : Type 0 where
  pub lays : Lays n es last
  pub does : Does P r n es f
  pub exit : {p a q b : ℕ} → At P p a es q b → a < n → Exit P last q

-- a condition, its jump, its Block, the jump to the end, and the rest
record Arm (P : Program) (p a : ℕ) (n : ℕ) (c : List Event) (q : ℕ) (b : List Event) (m last : ℕ) (k : List Event) (y z : ℕ) : Type 0 where
  test : ℕ
  was : ℕ
  leave : ℕ
  inside : ℕ
  condition : At P p a c test was
  tests : get_elem? P.code test ≡ some (instr n (JmpCnd Jmpf (prev q) (m + 1)))
  block : At P (suc test) n b leave inside
  leaves : get_elem? P.code leave ≡ some (instr m (Jmpa last))
  rest : At P (suc leave) m k y z

module _ {P : Program} where
  pub does_stores : {r n : ℕ} {es : List Event} {f : Names → Walked (Unit {0})} → Stores P r es f → Does P r n es f
  does_stores x = record { does = λ h l e rs s. x.does h e rs s }

  pub does_seq : {r n r' n' : ℕ} {c d : List Event} {f g : Names → Walked (Unit {0})} → Does P r n c f → Mono n c n' → r ≤ r' → Does P r' n' d g → Does P r n (c ++ d) (λ e. f e >>= λ e₁ u. g e₁)
  does_seq {c} x m l y = record {
    does = λ h k e rs s.
        let i = split c h in
        sim_bind (x.does i.left k e rs s) λ e₁ u rs₁ a. sim_weaken (y.does i.right (last_le i.left m k) e₁ rs₁ a.smalls) (kept_after a.keep l);
  }

  -- a Nop
  pub does_nop : {w : Place} {r n : ℕ} → Stores P r (push w n Nop ∷ []) (λ e. steps 1 e)
  does_nop = does_one (λ e. Ok e) (λ e s. ok s) (λ p e rs. refl)

  pub does_block : (w : Place) {r n : ℕ} {es : List Event} {f : Names → Walked (Unit {0})} (b : Stmts) → Does P r n es f → Does P r n (or_nop b w n es) (λ e. or_one b e (f e))
  does_block w no_stmts x = does_stores does_nop
  does_block w (more_stmts s k) x = x

  -- ---- If

  sim_choose : {p q y : ℕ} {e : Names} {rs : Regs} {post : Names → Unit {0} → Regs → Type 0} {A B : Walked (Unit {0})} (g : Got Bool) → step P (mk P p e rs) ≡ branch (mk P p e rs) Jmpf g (some y)
      → Sim P (mk P (suc p) e rs) q post A → Sim P (mk P y e rs) q post B → Sim P (mk P p e rs) q post (choose g e A B)
  sim_choose (Ok true) h s t = sim_after (move h stay) s
  sim_choose (Ok false) h s t = sim_after (move h stay) t
  sim_choose (Err r) h s t = halt stay h

  first : {p a q b : ℕ} {w : Place} {i : Instr} {es : List Event} → At P p a (Push w i ∷ es) q b → get_elem? P.code p ≡ some i
  first (more f g h) = f

  behind : {p a q b : ℕ} {w : Place} {i : Instr} {es : List Event} → At P p a (Push w i ∷ es) q b → At P (suc p) (label i) es q b
  behind (more f g h) = h

  after_one : {p a q b y z : ℕ} {w : Place} {i : Instr} {es : List Event} → At P p a (Push w i ∷ []) q b → At P q b es y z → At P (suc p) (label i) es y z
  after_one (more f g here) k = k

  module _ (w : Place) (n q m last : ℕ) (c b k : List Event) where
    arm : {p a y z : ℕ} → At P p a (lower_arm w n c q b m last ++ k) y z → Arm P p a n c q b m last k y z
    arm h =
        let s = split (lower_arm w n c q b m last) h in
        let t = split c s.left in
        let u = split b (behind t.right) in
        record { test = t.mid; was = t.was; leave = u.mid; inside = u.was; condition = t.left; tests = first t.right; block = u.left; leaves = first u.right; rest = after_one u.right s.right }

    -- an If or Elif from its condition on: the rest has its own end
    pub does_arm : {r t : ℕ} {f : Names → Walked Value} {g o : Names → Walked (Unit {0})} → Gives P r q c f → Does P q (n + 1) b g → q ≤ t → Closes P t (m + 1) last k o
        → Does P r n (lower_arm w n c q b m last ++ k) (λ e. f e >>= λ e₁ v. choose (truth v) e₁ (g e₁ >>= λ e₂ u. steps 2 e₂) (o e₁))
    does_arm x y l z = record {
      does = λ h d e rs s.
          let i = arm h in
          let j = z.exit i.rest (omega arith) in
          let a = at_head i.rest z.lays (omega arith) in
          sim_bind (x.gives i.condition e rs s) λ e₁ v rs₁ u.
          sim_weaken (sim_choose (truth v) (step_at P i.test e₁ rs₁ i.tests ∙ rw (u.value, a))
          (sim_bind (y.does i.block (omega arith) e₁ rs₁ u.smalls) λ e₂ v₂ rs₂ a₂.
          done (move (step_at P i.leave e₂ rs₂ i.leaves ∙ ap (jump (mk P i.leave e₂ rs₂)) j.found) (j.over e₂ rs₂)) a₂)
          (sim_weaken (z.does.does i.rest (omega arith) e₁ rs₁ u.smalls) (kept_after (λ k₁ l₁. refl) l)))
          (kept_after u.keep (omega (arith, x.less)));
    }

    pub exit_arm : {t : ℕ} {o : Names → Walked (Unit {0})} → Closes P t (m + 1) last k o → {p a y z : ℕ} → At P p a (lower_arm w n c q b m last ++ k) y z → Exit P last y
    exit_arm z h = z.exit (arm h).rest (omega arith)

  -- ---- the else and the end

  end_nop : {w : Place} {p a q b n : ℕ} → At P p a (push w n Nop ∷ []) q b → a < n → Exit P n q
  end_nop {p} (more f g here) l = record { place = p; found = g (omega arith); over = λ e rs. move (step_at P p e rs f) stay }

  -- the end's label is past all before it
  at_end : {w : Place} → InMain w → (k : Stmts) (n r last : ℕ) {p a q b : ℕ} → At P p a (lower_stmts k w n r) q b → T (plain k) → n + else_labels k (stmts_labels k) ≡ last → a < n → b < last
  at_end h no_stmts n r last here t g l = omega arith
  at_end h (more_stmts s k) n r last i t g l = omega (arith, last_le i (mono_stmts (more_stmts s k) h n r t) (omega arith))

  pub closes_else : {w : Place} → InMain w → (k : Stmts) (n r last : ℕ) {f : Names → Walked (Unit {0})} → T (plain k) → n + else_labels k (stmts_labels k) ≡ last
      → Lays n (lower_stmts k w n r ++ (push w last Nop ∷ [])) last → Does P r n (lower_stmts k w n r) f
      → Closes P r n last (lower_stmts k w n r ++ (push w last Nop ∷ [])) (λ e. f e >>= λ e₁ u. steps 1 e₁)
  closes_else {w} h k n r last t g l x = record {
    lays = l;
    does = does_seq x (mono_stmts k h n r t) (le_refl r) (does_stores does_nop);
    exit = λ i z. let s = split (lower_stmts k w n r) i in end_nop s.right (at_end h k n r last s.left t g z);
  }
