-- Runs in turns are one run of their sum, and a run goes where the steps of a walk lead.
use Rattle.std.specs.Prelude.{ℕ, zero, suc, ◌+◌, ◌≤◌, ◌≡◌, refl, List, [], ◌∷◌}
use Rattle.std.proofs.Common.{le_refl, add-zero, zero-add, add-suc, suc-add, arith, sym, ap, ◌∙◌}
use Rattle.std.proofs.Math.Option.{none, some}
use Rattle.std.proofs.Math.ListN.{get_elem?}
use Rattle.tables.specs.Tables.{Program}
use Rattle.vm.specs.Machine.{Machine, Step, Goes, Stops, Ends, perform, step, initial, State, started, Ran, follow, run}
use Rattle.walk.specs.Walk.{Walked, Fine, Halt, walk_count, walk_names, walk_end}
use Rattle.walk.specs.Runs.{next_step, needed, Runs, newer, runs_from}
use Rattle.walk.proofs.laws.Simulation.Logic.{mk, Run, stay, move}
use Rattle.walk.proofs.laws.Simulation.Sound.{Final, finished, stopped}
use Rattle.lent.specs.Lists.{sum}

-- where the steps of a walk lead from m
pub record Reach (P : Program) (m : Machine) (o : Walked (Unit {0})) : Type 0 where
  pub machine : Machine
  pub path : Run P (walk_count o) m machine
  pub names : machine.names ≡ walk_names o
  pub next : step P machine ≡ next_step o

pub reach : {P : Program} {m : Machine} {o : Walked (Unit {0})} → Final P m o → Reach P m o
reach {P} (finished {q} {e} {rs} r h) = record { machine = mk P q e rs; path = r; names = refl; next = ap (perform P (mk P q e rs)) h }
reach {P} (stopped {p} {e} {rs} r h) = record { machine = mk P p e rs; path = r; names = refl; next = h }

-- a walk asks for a step where the program is not over at once
pub needed_some : {P : Program} {m : Machine} {o : Walked (Unit {0})} → Final P m o → (get_elem? P.code m.pos ≡ none → ⊥) → 1 ≤ needed o
needed_some (finished stay h) f = absurd (f h)
needed_some (finished (move e r) h) f = omega arith
needed_some (stopped r h) f = omega arith

pub needed_least : (o : Walked (Unit {0})) → walk_count o ≤ needed o
needed_least (Fine n e u) = le_refl n
needed_least (Halt n e r) = omega arith

-- a machine and the count of its steps
abbrev pub at : Machine → ℕ → State
at m k = record { machine = m; count = k }

module _ (P : Program) where
  -- a run in two parts, the second of which may step
  run_add : (a b : ℕ) (s : State) → run P (a + suc b) s ≡ run P (suc b) (run P a s).state
  run_add zero b s = rw zero-add
  run_add (suc a) b s = rw suc-add (go (step P s.machine) refl (run_add a b))
    where
      go : (x : Step) → step P s.machine ≡ x → ((t : State) → run P (a + suc b) t ≡ run P (suc b) (run P a t).state)
          → follow x s (λ t. run P (a + suc b) t) ≡ run P (suc b) (follow x s (λ t. run P a t)).state
      go (Goes m) e h = h (at m (suc s.count))
      go (Stops r) e h = sym (ap (λ x. follow x s (λ t. run P b t)) e)
      go Ends e h = sym (ap (λ x. follow x s (λ t. run P b t)) e)

  -- what n steps in one run come to
  abbrev pub once : ℕ → Runs → Runs
  once zero r = r
  once (suc n) r = record { state = (run P (suc n) r.state).state; last = some (run P (suc n) r.state).answer }

  once_add : (n t : ℕ) (r : Runs) → once t (record { state = (run P n r.state).state; last = newer n (run P n r.state).answer r.last }) ≡ once (n + t) r
  once_add zero t r = rw zero-add
  once_add (suc n) zero r = rw add-zero
  once_add (suc n) (suc t) r =
      ap (λ g. record { state = g.state; last = some g.answer }) (sym (run_add (suc n) t r.state) ∙ ap (λ x. run P x r.state) (suc-add n (suc t))) ∙ ap (λ x. once x r) (sym (suc-add n (suc t)))

  pub runs_once : (ns : List ℕ) (r : Runs) → runs_from P ns r ≡ once (sum ns) r
  runs_once [] r = refl
  runs_once (n ∷ ns) r = runs_once ns (record { state = (run P n r.state).state; last = newer n (run P n r.state).answer r.last }) ∙ once_add n (sum ns) r

  -- a run goes through what `Run` says
  run_through : {n : ℕ} {m m₁ : Machine} (t k : ℕ) → Run P n m m₁ → run P (n + t) (at m k) ≡ run P t (at m₁ (k + n))
  run_through t k stay = rw (zero-add, add-zero)
  run_through t k (move {n} {m₁} {m₂} e r) = rw (suc-add, e) (run_through t (suc k) r ∙ ap (λ x. run P t (at m₂ x)) (suc-add k n ∙ sym (add-suc k n)))

  -- where a walk has ended nothing changes any more, and a run answers as the walk ended
  pub still : (o : Walked (Unit {0})) (m : Machine) (t k : ℕ) → step P m ≡ next_step o → (run P t (at m k)).state ≡ at m k
  still o m zero k h = refl
  still (Fine n e u) m (suc t) k h = rw h
  still (Halt n e r) m (suc t) k h = rw h

  pub answers : (o : Walked (Unit {0})) (m : Machine) (t k : ℕ) → step P m ≡ next_step o → needed o ≤ walk_count o + t → (run P t (at m k)).answer ≡ walk_end o
  answers (Fine n e u) m zero k h l = rw h
  answers (Fine n e u) m (suc t) k h l = rw h
  answers (Halt n e r) m zero k h l = absurd (omega arith)
  answers (Halt n e r) m (suc t) k h l = rw h

  -- no run passes the last machine
  pub run_count : {n : ℕ} {m m₁ : Machine} (t k : ℕ) → Run P n m m₁ → ((t k : ℕ) → (run P t (at m₁ k)).state ≡ at m₁ k) → (run P t (at m k)).state.count ≤ k + n
  run_count t k stay over = rw (over t k) (omega arith)
  run_count zero k (move e r) over = omega arith
  run_count (suc t) k (move {n} e r) over = rw e (omega (arith, run_count t (suc k) r over))

module _ {P : Program} {o : Walked (Unit {0})} (r : Reach P (initial P) o) where
  -- t steps, and the walk's before them
  pub beyond : (t : ℕ) → run P (walk_count o + t) (started P) ≡ run P t (at r.machine (walk_count o))
  beyond t = run_through P t 0 r.path ∙ ap (λ k. run P t (at r.machine k)) (zero-add (walk_count o))

  pub reached : (run P (walk_count o) (started P)).state ≡ at r.machine (walk_count o)
  reached = ap (λ k. (run P k (started P)).state) (sym (add-zero (walk_count o))) ∙ ap (λ (x : Ran). x.state) (beyond 0)
