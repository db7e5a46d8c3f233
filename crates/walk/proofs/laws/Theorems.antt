-- What is proved of plain scripts that lower: the started program does what the walk of the tree says, in one run or in any list of runs. The lemmas are in
-- Simulation.
use Rattle.std.specs.Prelude.{ℕ, zero, suc, ◌+◌, ◌-◌, ◌≤◌, ◌<◌, ◌≡◌, refl, List}
use Rattle.std.proofs.Common.{le_trans, zero-add, arith, sym, ap, ◌∙◌, subst}
use Rattle.std.proofs.Math.Option.{none, some}
use Rattle.tables.specs.Tables.{Program}
use Rattle.ast.specs.Tree.{Stmts}
use Rattle.vm.specs.RuntimeErr.{RuntimeErr}
use Rattle.vm.specs.Machine.{step, initial, State, started, Stopped, Ran, run}
use Rattle.walk.specs.Walk.{Walked, Fine, Halt, walk, walk_count, walk_names, walk_end}
use Rattle.walk.specs.Bound.{bound}
use Rattle.walk.proofs.laws.Bounded.{walk_within, walk_stops_within, plain_code}
use Rattle.walk.specs.Runs.{needed, runs}
use Rattle.walk.proofs.laws.Simulation.Sound.{program_is, script}
use Rattle.walk.proofs.laws.Simulation.Portions.{Reach, reach, needed_some, needed_least, once, runs_once, beyond, reached, still, answers, run_count}
use Rattle.lent.specs.Lists.{sum}
use Rattle.walk.specs.Statements.{Bounds, Simulates, Lowers, Served}

-- A run ended as a walk did.
record Ended (o : Walked (Unit {0})) (r : Ran) : Type 0 where
  answer : r.answer ≡ walk_end o
  count : r.state.count ≡ walk_count o
  names : r.state.machine.names ≡ walk_names o

-- ---- the simulation

-- where the walk's steps lead, and that they are some
record Leads (t : Stmts) (p : Program) : Type 0 where
  there : Reach p (initial p) (walk t)
  some_needed : 1 ≤ needed (walk t)

leads : {t : Stmts} {p : Program} → Lowers t p → Leads t p
leads {t} {p} l = subst (λ x. Leads t x) (program_is t l.lowers) (let w = script t l.is_plain l.short in record { there = reach w.does; some_needed = needed_some w.does w.begins })

ended : {p : Program} {o : Walked (Unit {0})} → Reach p (initial p) o → (n : ℕ) → needed o ≤ n → Ended o (run p n (started p))
ended {p} {o} r n h =
    let t = n - walk_count o in
    let z : walk_count o + t ≡ n = omega (arith, needed_least o) in
    let s = still p o r.machine t (walk_count o) r.next in
    subst (λ k. Ended o (run p k (started p))) z (rw (beyond r t) (record {
      answer = answers p o r.machine t (walk_count o) r.next (omega arith);
      count = ap (λ (x : State). x.count) s;
      names = ap (λ (x : State). x.machine.names) s ∙ r.names;
    }))

pub simulation : {t : Stmts} {p : Program} → Lowers t p → Simulates p (walk t)
simulation {t} {p} l =
    let r = (leads l).there in
    let s = reached r in
    record { count = ap (λ (x : State). x.count) s; names = ap (λ (x : State). x.machine.names) s ∙ r.names; next = ap (λ (x : State). step p x.machine) s ∙ r.next }

-- ---- the bound

pub bounds : {t : Stmts} {p : Program} → Lowers t p → Bounds t p
bounds {t} l = record {
  most = walk_within t l.is_plain;
  fewer = λ r. walk_stops_within t r l.is_plain;
  sum_over = refl;
  program = sym (plain_code t l.is_plain) ∙ ap (λ (x : Program). x.code) (program_is t l.lowers);
}

-- ---- any list of runs

served : {p : Program} {o : Walked (Unit {0})} → Reach p (initial p) o → 1 ≤ needed o → (b n : ℕ) → needed o ≤ b → Served o b n (once p n (record { state = started p; last = none }))
served r l b zero h = record { always = omega arith; within = omega arith; count = λ g. absurd (omega arith); names = λ g. absurd (omega arith); answer = λ g. absurd (omega arith) }
served {p} {o} r l b (suc n) h =
    let e : b ≤ suc n → Ended o (run p (suc n) (started p)) = λ g. ended r (suc n) (le_trans h g) in
    let c : (run p (suc n) (started p)).state.count ≤ walk_count o = rw zero-add at (run_count p (suc n) 0 r.path (λ t k. still p o r.machine t k r.next)) in
    record {
      always = c;
      within = omega (arith, needed_least o);
      count = λ g. (e g).count;
      names = λ g. (e g).names;
      answer = λ g. ap some (e g).answer;
    }

-- Runs of 0 steps may be among them. A walk of a plain script asks for a step, so runs that were given b steps were given at least one, and there is a last answer.
pub any_runs : {t : Stmts} {p : Program} → Lowers t p → (b : ℕ) → needed (walk t) ≤ b → (ns : List ℕ) → Served (walk t) b (sum ns) (runs p ns)
any_runs {t} {p} l b h ns = let x = leads l in rw (runs_once p ns (record { state = started p; last = none })) (served x.there x.some_needed b (sum ns) h)

-- A bound on the walk's count, strict where the walk stops, is enough steps.
pub enough : (o : Walked (Unit {0})) (b : ℕ) → walk_count o ≤ b → ((r : RuntimeErr) → walk_end o ≡ Stopped r → walk_count o < b) → needed o ≤ b
enough (Fine n e u) b h g = h
enough (Halt n e r) b h g = g r refl

-- Demand 3 for the calls of run: after every list of them the count is at most the bound; where they were given at least the bound as steps, in whatever
-- portions, names, values, count and the last answer are the walk's.
pub plain_runs : {t : Stmts} {p : Program} → Lowers t p → (ns : List ℕ) → Served (walk t) (bound t) (sum ns) (runs p ns)
plain_runs {t} l ns = let b = bounds l in any_runs l (bound t) (enough (walk t) (bound t) b.most b.fewer) ns
