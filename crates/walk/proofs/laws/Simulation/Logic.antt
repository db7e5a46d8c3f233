-- The logic of the simulation: steps of a program, lowered code that stands in it, and what comes of a tree as a condition on the machine.
use Rattle.std.specs.Prelude.{ℕ, suc, ◌+◌, ◌^◌, ◌≤◌, ◌<◌, ◌≡◌, refl, ◌≢◌, Bool, true, false, List, [], ◌∷◌, ◌++◌, eqb, T}
use Rattle.std.proofs.Common.{zero-add, suc-add, arith, ap, ◌∙◌, eqb→eq}
use Rattle.std.proofs.Math.Option.{Option, some}
use Rattle.std.proofs.Math.Dec.{eqb_refl}
use Rattle.std.proofs.Math.ListN.{get_elem?}
use Rattle.sifv.specs.Value.{Value}
use Rattle.opc.specs.Op.{Op, Instr, instr, label}
use Rattle.tables.specs.Tables.{Program, label_at, function_at}
use Rattle.compiler.specs.Lower.{Place, Event, Reg, Push, Below, ask_below, push, load}
use Rattle.vm.specs.RuntimeErr.{RuntimeErr}
use Rattle.vm.specs.Operation.{Got, Ok, Err, Slots, Names, put}
use Rattle.vm.specs.Machine.{Machine, Goes, Stops, loads, stores, execute, perform, step}
use Rattle.walk.specs.Walk.{Walked, Fine, Halt, counting, ◌>>=◌, gets, makes}
use Rattle.walk.specs.laws.Parts.{nothing_pushed}
use Rattle.walk.specs.laws.Small.{SmallValue, Smalls, Good, ok}

abbrev pub Regs : Type 0
Regs = Slots Value

-- arrays whose sizes and indexes are exact as floats
abbrev pub ExactValue : Value → Type 0
ExactValue v = SmallValue (2 ^ 53) v

abbrev pub Exact : Names → Type 0
Exact e = Smalls (2 ^ 53) e

-- ---- what is put is read back, and the rest is as it was

pub eq_true : (b : Bool) → T b → b ≡ true
eq_true true t = refl
eq_true false t = absurd t

pub eq_false : (b : Bool) → ¬ T b → b ≡ false
eq_false true t = absurd (t tt)
eq_false false t = refl

pub eqb_same : (n : ℕ) → eqb n n ≡ true
eqb_same n = eq_true (eqb n n) (eqb_refl n)

pub eqb_other : (m n : ℕ) → m ≢ n → eqb m n ≡ false
eqb_other m n h = eq_false (eqb m n) (λ t. h (eqb→eq m n t))

pub put_same : (s : Regs) (x : ℕ) (v : Option Value) → put s x v x ≡ v
put_same s x v = rw eqb_same

pub put_other : (s : Regs) (x : ℕ) (v : Option Value) (k : ℕ) → k ≢ x → put s x v k ≡ s k
put_other s x v k h = rw (eqb_other k x h)

-- the registers below r are as they were
abbrev pub Keep : ℕ → Regs → Regs → Type 0
Keep r rs rs₁ = (k : ℕ) → k < r → rs₁ k ≡ rs k

pub keep_trans : {r s : ℕ} {rs rs₁ rs₂ : Regs} → Keep r rs rs₁ → r ≤ s → Keep s rs₁ rs₂ → Keep r rs rs₂
keep_trans i l j k h = j k (omega arith) ∙ i k h

-- ---- the machine at place q: plain code leaves stacks and functions as they are at the start

abbrev pub mk : Program → ℕ → Names → Regs → Machine
mk P q e rs = record { regs = rs; names = e; stack = []; calls = []; fns = function_at P.code; pos = q }

-- n steps of a program
pub data Run (P : Program) : ℕ → Machine → Machine → Type 0 where
  stay : {m : Machine} → Run P 0 m m
  move : {n : ℕ} {m m₁ m₂ : Machine} → step P m ≡ Goes m₁ → Run P n m₁ m₂ → Run P (suc n) m m₂

pub run_append : {P : Program} {n k : ℕ} {m m₁ m₂ : Machine} → Run P n m m₁ → Run P k m₁ m₂ → Run P (n + k) m m₂
run_append stay s = rw zero-add s
run_append (move h r) s = rw suc-add (move h (run_append r s))

-- Lowered code that stands in a program from place p to place q, the labels before these being a and b. A place whose label is not the one before it is
-- where the label's jumps go.
pub data At (P : Program) : ℕ → ℕ → List Event → ℕ → ℕ → Type 0 where
  here : {p a : ℕ} → At P p a [] p a
  reg : {p a q b : ℕ} {es : List Event} → At P p a es q b → At P p a (Reg ∷ es) q b
  below : {p a q b : ℕ} {es : List Event} → At P p a es q b → At P p a (Below ∷ es) q b
  more : {p a q b : ℕ} {w : Place} {i : Instr} {es : List Event} → get_elem? P.code p ≡ some i → (label i ≢ a → label_at P.code (label i) ≡ some p)
      → At P (suc p) (label i) es q b → At P p a (Push w i ∷ es) q b

pub record Split (P : Program) (p a : ℕ) (c d : List Event) (q b : ℕ) : Type 0 where
  pub mid : ℕ
  pub was : ℕ
  pub left : At P p a c mid was
  pub right : At P mid was d q b

pub split : {P : Program} {p a q b : ℕ} (c : List Event) {d : List Event} → At P p a (c ++ d) q b → Split P p a c d q b
split [] h = record { mid = _; was = _; left = here; right = h }
split (Reg ∷ c) (reg h) = let s = split c h in record { mid = s.mid; was = s.was; left = reg s.left; right = s.right }
split (Below ∷ c) (below h) = let s = split c h in record { mid = s.mid; was = s.was; left = below s.left; right = s.right }
split (Push w i ∷ c) (more f g h) = let s = split c h in record { mid = s.mid; was = s.was; left = more f g s.left; right = s.right }

unasked : {P : Program} {p a q b : ℕ} {es : List Event} → At P p a (Below ∷ es) q b → At P p a es q b
unasked (below h) = h

pub past : {P : Program} {p a q b : ℕ} (r : ℕ) {es : List Event} → At P p a (ask_below r ++ es) q b → At P p a es q b
past {P} {p} {a} {q} {b} r {es} h = nothing_pushed (λ c. At P p a (c ++ es) q b → At P p a es q b) r (λ g. unasked g) (λ g. g) h

-- ---- what comes of a tree, as a condition on the machine: after the steps it is at place q with the names, and `post` holds of names, value and
-- registers; or after the steps the next one stops, with the names as they are

pub data Sim {A : Type 0} (P : Program) (m : Machine) (q : ℕ) (post : Names → A → Regs → Type 0) : Walked A → Type 0 where
  done : {n : ℕ} {e : Names} {a : A} {rs : Regs} → Run P n m (mk P q e rs) → post e a rs → Sim P m q post (Fine n e a)
  halt : {n p : ℕ} {e : Names} {r : RuntimeErr} {rs : Regs} → Run P n m (mk P p e rs) → step P (mk P p e rs) ≡ Stops r → Sim P m q post (Halt n e r)

-- after an expression: register s holds the value, those below r are as they were
pub record Holds (s r : ℕ) (rs : Regs) (e : Names) (v : Value) (rs₁ : Regs) : Type 0 where
  pub smalls : Exact e
  pub small : ExactValue v
  pub value : rs₁ s ≡ some v
  pub keep : Keep r rs rs₁

-- after a statement
pub record Kept (r : ℕ) (rs : Regs) (e : Names) (u : Unit {0}) (rs₁ : Regs) : Type 0 where
  pub smalls : Exact e
  pub keep : Keep r rs rs₁

pub kept_after : {r s : ℕ} {rs rs₁ : Regs} → Keep r rs rs₁ → r ≤ s → (e : Names) (u : Unit {0}) (rs₂ : Regs) → Kept s rs₁ e u rs₂ → Kept r rs e u rs₂
kept_after i l e u rs₂ j = record { smalls = j.smalls; keep = keep_trans i l j.keep }

-- the step at an instruction that stands in the program
pub step_at : (P : Program) (p : ℕ) {l : ℕ} {o : Op} (e : Names) (rs : Regs) → get_elem? P.code p ≡ some (instr l o) → step P (mk P p e rs) ≡ execute P (mk P p e rs) o
step_at P p e rs h = ap (λ i. perform P (mk P p e rs) i) h

module _ {P : Program} where
  pub sim_after : {A : Type 0} {n q : ℕ} {m m₁ : Machine} {post : Names → A → Regs → Type 0} {o : Walked A} → Run P n m m₁ → Sim P m₁ q post o → Sim P m q post (counting n o)
  sim_after r (done s h) = done (run_append r s) h
  sim_after r (halt s h) = halt (run_append r s) h

  pub sim_bind : {A B : Type 0} {q q' : ℕ} {m : Machine} {post : Names → A → Regs → Type 0} {post' : Names → B → Regs → Type 0} {o : Walked A} {f : Names → A → Walked B}
      → Sim P m q post o → ((e : Names) (a : A) (rs : Regs) → post e a rs → Sim P (mk P q e rs) q' post' (f e a)) → Sim P m q' post' (o >>= f)
  sim_bind (done {e} {a} {rs} s h) k = sim_after s (k e a rs h)
  sim_bind (halt s h) k = halt s h

  pub sim_weaken : {A : Type 0} {q : ℕ} {m : Machine} {post post' : Names → A → Regs → Type 0} {o : Walked A}
      → Sim P m q post o → ((e : Names) (a : A) (rs : Regs) → post e a rs → post' e a rs) → Sim P m q post' o
  sim_weaken (done {e} {a} {rs} s h) k = done s (k e a rs h)
  sim_weaken (halt s h) k = halt s h

  -- an instruction that loads register s, also called t
  pub sim_load : {p a q b n : ℕ} {w : Place} {o : Op} (s t r : ℕ) {e : Names} (rs : Regs) (g : Got Value) → At P p a (load w n o) q b → r ≤ s → t ≡ s → Exact e → Good ExactValue g
      → execute P (mk P p e rs) o ≡ loads (mk P p e rs) s g → Sim P (mk P p e rs) q (Holds t r rs) (gets e g)
  sim_load {p} s t r {e} rs (Ok v) (reg (more f _ here)) l z h (ok i) k = done (move (step_at P p e rs f ∙ k) stay)
      (record { smalls = h; small = i; value = ap (put rs s (some v)) z ∙ put_same rs s (some v); keep = λ j z. put_other rs s (some v) j (omega arith) })
  sim_load {p} s t r {e} rs (Err d) (reg (more f _ here)) l z h i k = halt stay (step_at P p e rs f ∙ k)

  -- an instruction that makes new names
  pub sim_store : {p a q b n : ℕ} {w : Place} {o : Op} (r : ℕ) (e : Names) (rs : Regs) (g : Got Names) → At P p a (push w n o ∷ []) q b → Good Exact g
      → execute P (mk P p e rs) o ≡ stores (mk P p e rs) g → Sim P (mk P p e rs) q (Kept r rs) (makes e g)
  sim_store {p} r e rs (Ok e₁) (more f _ here) (ok i) k = done (move (step_at P p e rs f ∙ k) stay) (record { smalls = i; keep = λ j z. refl })
  sim_store {p} r e rs (Err d) (more f _ here) i k = halt stay (step_at P p e rs f ∙ k)
