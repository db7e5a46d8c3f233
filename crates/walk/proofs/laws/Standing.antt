-- Where a list of calls stands: some number of steps from start, whatever way it came there, and then runs. It is what demand 3 needs of every call.
use Rattle.std.specs.Prelude.{ℕ, zero, suc, ◌+◌, ◌≤◌, ◌≡◌, refl, List, [], ◌∷◌, ◌++◌}
use Rattle.std.proofs.Common.{arith, sym, ap, ◌∙◌, subst}
use Rattle.std.proofs.Math.Option.{none}
use Rattle.lent.specs.Lists.{sum}
use Rattle.tables.specs.Tables.{Program}
use Rattle.ast.specs.Tree.{Stmts}
use Rattle.vm.specs.Machine.{started, run}
use Rattle.walk.specs.Walk.{walk}
use Rattle.walk.specs.Runs.{needed, Runs, newer, runs_from}
use Rattle.walk.specs.Statements.{Lowers, Served}
use Rattle.walk.proofs.laws.Simulation.Portions.{once, runs_once}
use Rattle.walk.specs.Bound.{bound}
use Rattle.walk.proofs.laws.Theorems.{any_runs, bounds, enough}

-- the state that c steps from start leave, with no steps given since
abbrev pub base : Program → ℕ → Runs
base p c = record { state = (run p c (started p)).state; last = none }

-- what was given since, and what it came to
pub record Standing (p : Program) (given : ℕ) (u : Runs) : Type 0 where
  pub from : ℕ
  pub ns : List ℕ
  pub is : u ≡ runs_from p ns (base p from)
  pub gave : given ≡ sum ns

-- start
pub stands_started : (p : Program) → Standing p 0 (record { state = started p; last = none })
stands_started p = record { from = 0; ns = []; is = refl; gave = refl }

runs_end : (p : Program) (ns : List ℕ) (n : ℕ) (r : Runs) → runs_from p (ns ++ (n ∷ [])) r ≡ runs_from p (n ∷ []) (runs_from p ns r)
runs_end p [] n r = refl
runs_end p (m ∷ ns) n r = runs_end p ns n (record { state = (run p m r.state).state; last = newer m (run p m r.state).answer r.last })

sum_end : (ns : List ℕ) (n : ℕ) → sum (ns ++ (n ∷ [])) ≡ sum ns + n
sum_end [] n = omega arith
sum_end (m ∷ ns) n = omega (arith, sum_end ns n)

-- a call that gives n steps; one that gives none leaves all as it is
pub stands_given : {p : Program} {g : ℕ} {u : Runs} → Standing p g u → (n : ℕ) → Standing p (g + n) (record { state = (run p n u.state).state; last = newer n (run p n u.state).answer u.last })
stands_given {p} {g} {u} s n = record {
  from = s.from;
  ns = s.ns ++ (n ∷ []);
  is = ap (λ (v : Runs). runs_from p (n ∷ []) v) s.is ∙ sym (runs_end p s.ns n (base p s.from));
  gave = omega (arith, s.gave, sum_end s.ns n);
}

-- ---- demand 3, wherever a list stands

some_asked : {t : Stmts} {p : Program} → Lowers t p → 1 ≤ needed (walk t)
some_asked {t} {p} l = by_needed (needed (walk t)) refl
  where
    by_needed : (k : ℕ) → needed (walk t) ≡ k → 1 ≤ k
    by_needed zero e = let s = any_runs l 0 (omega arith) [] in let h = s.answer (omega arith) in let z : ◌≡◌ {A = ℕ} 0 1 = cc in absurd (omega arith)
    by_needed (suc k) e = omega arith

pub stands_served : {t : Stmts} {p : Program} → Lowers t p → (b : ℕ) → needed (walk t) ≤ b → {g : ℕ} {u : Runs} → Standing p g u → Served (walk t) b g u
stands_served {t} {p} l b h {g} {u} s = subst (λ (v : Runs). Served (walk t) b g v) (sym (s.is ∙ runs_once p s.ns (base p s.from))) (rw s.gave (by_given (sum s.ns)))
  where
    c : ℕ
    c = s.from

    by_given : (n : ℕ) → Served (walk t) b n (once p n (base p c))
    by_given zero =
        let q = any_runs l b h (c ∷ []) in
        let o = some_asked l in
        record { always = q.always; within = q.within; count = λ k. absurd (omega arith); names = λ k. absurd (omega arith); answer = λ k. absurd (omega arith) }
    by_given (suc n) =
        let q = any_runs l b h (c ∷ (suc n ∷ [])) in
        record { always = q.always; within = q.within; count = λ k. q.count (omega arith); names = λ k. q.names (omega arith); answer = λ k. q.answer (omega arith) }

-- with the bound's steps
pub plain_stands : {t : Stmts} {p : Program} → Lowers t p → {g : ℕ} {u : Runs} → Standing p g u → Served (walk t) (bound t) g u
plain_stands {t} l s = let b = bounds l in stands_served l (bound t) (enough (walk t) (bound t) b.most b.fewer) s
