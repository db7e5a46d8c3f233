-- A list of calls, carried out one by one.
use mathlib.Core.Path.{◌≡◌, refl, sym, ap, ◌∙◌, subst}
use mathlib.Core.Bool.{Bool, true, false, cond}
use Rattle.std.specs.Prelude.{None}
use mathlib.Core.List.{List}
use mathlib.Core.Option.{Option, none, some}
use Prim.Native.Nat.{ℕ, zero, suc, ◌+◌, ◌*◌, ◌-◌, ◌/◌, ◌≤◌, ◌<◌, min}
use native.Mathlib.Omega.{arith}
use lib.Dec.{eqb}
use lib.ListN.{length, get_or, take, drop, replicate}
use lib.Seq.{drop-drop}
use borrow.Author.Tests.{eq-eqb, ne_eqb}
use Rattle.lent.specs.Bytes.{be_value, part, more}
use Rattle.lent.specs.laws.Guarded.{Passed, all_passed, long_enough}
use Rattle.lent.specs.laws.Parts.{part_part, get_d_part, part_replicate}
use Rattle.boundary.specs.LowerCall.{lower_call}
use Rattle.lent.specs.Answered.{RunAnswered}
use Rattle.boundary.specs.RunCall.{run_checks, run_refused, run_deed, run_call}
use Rattle.boundary.specs.ReadCall.{read_call}
use Rattle.boundary.specs.StartCall.{start_call}
use Rattle.tables.specs.ProgramBytes.{program_in}
use Rattle.demand3.specs.CallList.{Call, Run, ReadName, Ending, ending_in, latest, AfterCalls, NoEffect, with_effect, outcome, call_all, fresh}
use Rattle.demand3.specs.Demand3 as claimed
use Rattle.demand3.proofs.laws.Demand3Proof as demand
use Rattle.call_list.specs.CallBytes.{lent_out, call_by, call_of, and_calls, calls_from, calls_in, Last, last_of}
use Rattle.call_list.specs.CarriedOut.{Leaves, after_entry, OneCall, CarriedOut}
use Rattle.lent.specs.Lists.{zeros}

-- ---- one call

module _ (q b : List ℕ) (n : ℕ) (out : List ℕ) (last : Last) {k : ℕ} {b' out' : List ℕ} (e : run_call q b n out ≡ record { result = k; state = b'; report = out' }) where
  here : (l : AfterCalls) → Leaves l b last → outcome q l.state (Run n out) ≡ record { result = k; state = b'; report = out' }
  here l h = ap (λ (s : List ℕ). run_call q s n out) (sym h.bytes) ∙ e

  pub run_refused_lem : (k ≡ 0 → ⊥) → OneCall q (some (Run n out)) b last b' last
  run_refused_lem z = record { follows = λ l h. rw (here l h, ne_eqb k 0 z) (record { bytes = refl; last = h.last }) }

  pub run_none : k ≡ 0 → n ≡ 0 → OneCall q (some (Run n out)) b last b' last
  run_none z y = record { follows = λ l h. rw (here l h, eq-eqb k 0 z) (record { bytes = refl; last = h.last ∙ ap (λ (m : ℕ). latest m (ending_in out') l.last) (sym y) }) }

  pub run_some : k ≡ 0 → (n ≡ 0 → ⊥) → {r : Last} → last_of r ≡ some (ending_in out') → OneCall q (some (Run n out)) b last b' r
  run_some z y {r} w = record { follows = λ l h. rw (here l h, eq-eqb k 0 z) (record { bytes = refl; last = w ∙ some_given n y (ending_in out') l.last }) }
    where
      some_given : (m : ℕ) → (m ≡ 0 → ⊥) → (x : Ending) (o : Option Ending) → some x ≡ latest m x o
      some_given zero g x o = absurd (g refl)
      some_given (suc m) g x o = refl

-- reading a name changes neither
pub read_follows : (q b : List ℕ) (x : ℕ) (out : List ℕ) (last : Last) → OneCall q (some (ReadName x out)) b last b last
read_follows q b x out last = record { follows = λ l h. either l h (eqb (read_call l.state x out).result 0) }
  where
    either : (l : AfterCalls) → Leaves l b last → (t : Bool) → Leaves (with_effect (cond t NoEffect NoEffect) l.state l) b last
    either l h true = record { bytes = h.bytes; last = h.last }
    either l h false = record { bytes = h.bytes; last = h.last }

-- nor does what is no call
pub none_follows : (q b : List ℕ) (last : Last) → OneCall q none b last b last
none_follows q b last = record { follows = λ l h. h }

-- a run that is accepted was lent a whole report
pub run_reported : (q b : List ℕ) (n : ℕ) (out : List ℕ) {k : ℕ} {b' out' : List ℕ} → run_call q b n out ≡ record { result = k; state = b'; report = out' } → k ≡ 0 → 48 ≤ length out
unfolding run_call
run_reported q b n out e z =
    room (all_passed (λ k. run_refused k b out) (run_deed (program_in q) b n out) (λ a. a.result) (λ k. refl) (run_checks q b n out) (ap (λ (a : RunAnswered). a.result) e ∙ z))
  where
    room : Passed (run_checks q b n out) → 48 ≤ length out
    room (more x (more y (more t h))) = long_enough 48 out t

-- ---- the list

-- i of n calls are carried out
pub record Going (q calls state₀ : List ℕ) (n i : ℕ) (state : List ℕ) (last : Last) : Type 0 where
  pub left : AfterCalls
  pub leaves : Leaves left state last
  pub few : i ≤ n
  pub rest : call_all q (calls_from n calls) (fresh state₀) ≡ call_all q (calls_from (n - i) (drop (16 * i) calls)) left

pub going_start : (q calls state : List ℕ) (n : ℕ) → Going q calls state n 0 state None
going_start q calls state n = record { left = fresh state; leaves = record { bytes = refl; last = refl }; few = omega arith; rest = let z : n ≡ n - 0 = omega arith in ap (λ (k : ℕ). call_all q (calls_from k calls) (fresh state)) z }

and_calls_lem : (q : List ℕ) (o : Option Call) (cs : List Call) (l : AfterCalls) → call_all q (and_calls o cs) l ≡ call_all q cs (after_entry q o l)
and_calls_lem q none cs l = refl
and_calls_lem q (some c) cs l = refl

pub going_next : (q calls state₀ : List ℕ) (n i : ℕ) (state : List ℕ) (last : Last) {state' : List ℕ} {r : Last} → Going q calls state₀ n i state last → i < n
    → OneCall q (call_of (part calls (16 * i) 16)) state last state' r → Going q calls state₀ n (i + 1) state' r
going_next q calls state₀ n i state last {state'} {r} g h f =
    let l = g.left in
    let e : n - i ≡ suc (n - (i + 1)) = omega arith in
    let d : drop 16 (drop (16 * i) calls) ≡ drop (16 * (i + 1)) calls = let z : 16 * i + 16 ≡ 16 * (i + 1) = omega arith in drop-drop 16 (16 * i) calls ∙ ap (λ (k : ℕ). drop k calls) z in
    record {
      left = after_entry q (call_of (part calls (16 * i) 16)) l;
      leaves = f.follows l g.leaves;
      few = omega arith;
      rest = g.rest ∙ ap (λ (k : ℕ). call_all q (calls_from k (drop (16 * i) calls)) l) e
          ∙ and_calls_lem q (call_of (part calls (16 * i) 16)) (calls_from (n - (i + 1)) (drop 16 (drop (16 * i) calls))) l
          ∙ ap (λ (y : List ℕ). call_all q (calls_from (n - (i + 1)) y) (after_entry q (call_of (part calls (16 * i) 16)) l)) d;
    }

pub going_end : (q calls state₀ : List ℕ) (n i : ℕ) (state : List ℕ) (last : Last) → n ≡ length calls / 16 → Going q calls state₀ n i state last → n ≤ i → CarriedOut q calls state₀ state last
going_end q calls state₀ n i state last e g h =
    let z : n - i ≡ 0 = omega arith in
    let w : call_all q (calls_in calls) (fresh state₀) ≡ g.left =
    ap (λ (k : ℕ). call_all q (calls_from k calls) (fresh state₀)) (sym e) ∙ g.rest ∙ ap (λ (k : ℕ). call_all q (calls_from k (drop (16 * i) calls)) g.left) z in
    record {
      left = subst (λ (l : AfterCalls). Leaves l state last) (sym w) g.leaves;
      demand3 = λ t file lent buffer s eq es.
          subst (λ (x : List ℕ). claimed.Demand3 t x (call_all x (calls_in calls) (fresh state₀))) (sym eq)
          (subst (λ (x : List ℕ). claimed.Demand3 t (lower_call file lent).buffer (call_all (lower_call file lent).buffer (calls_in calls) (fresh x)))
          (sym (es ∙ ap (λ (x : List ℕ). (start_call x buffer).buffer) eq)) (demand.demand3 t file lent buffer s (calls_in calls)));
    }

-- ---- a call's bytes

-- what stands at byte `at` of a list, by its kind
pub call_at : (b : List ℕ) (at : ℕ) {q s : List ℕ} {last : Last} {s' : List ℕ} {r : Last} {k : ℕ} {out : List ℕ} {c : Option Call} → at + 16 ≤ length b
    → k ≡ be_value (part b (at + 8) 8) → out ≡ zeros (min (be_value (part b (at + 6) 2)) 256) → call_by (get_or b at 0) k out ≡ c → OneCall q c s last s' r → OneCall q (call_of (part b at 16)) s last s' r
call_at b at {q} {s} {last} {s'} {r} {k} {out} {c} h ek eo ec f =
    subst (λ (o : Option Call). OneCall q o s last s' r) (sym (same ∙ ec)) f
  where
    kind : get_or (part b at 16) 0 0 ≡ get_or b at 0
    kind = let y : at + 0 ≡ at = omega arith in get_d_part b at 16 0 0 (omega arith) ∙ ap (λ (i : ℕ). get_or b i 0) y

    number : be_value (part (part b at 16) 8 8) ≡ k
    number = ap be_value (part_part b at 16 8 8 (omega arith)) ∙ sym ek

    buffer : lent_out (part b at 16) ≡ out
    buffer = ap (λ (x : List ℕ). zeros (min (be_value x) 256)) (part_part b at 16 6 2 (omega arith)) ∙ sym eo

    same : call_of (part b at 16) ≡ call_by (get_or b at 0) k out
    same = λ i. call_by (kind i) (number i) (buffer i)

pub kind_run : (kind k : ℕ) (out : List ℕ) → kind ≡ 0 → call_by kind k out ≡ some (Run k out)
kind_run kind k out e = rw (eq-eqb kind 0 e)

pub kind_read : (kind k : ℕ) (out : List ℕ) → kind ≡ 1 → call_by kind k out ≡ some (ReadName k out)
kind_read kind k out e = rw e

pub kind_none : (kind k : ℕ) (out : List ℕ) → (kind ≡ 0 → ⊥) → (kind ≡ 1 → ⊥) → call_by kind k out ≡ none
kind_none kind k out h g = rw (ne_eqb kind 0 h, ne_eqb kind 1 g)

pub lent_out_lem : (n m : ℕ) → n ≡ min m 256 → take (n - 0) (replicate 256 0) ≡ zeros (min m 256)
lent_out_lem n m e =
    let z : n - 0 ≤ 256 = omega arith in
    let y : n - 0 ≡ min m 256 = omega arith in
    part_replicate 256 0 0 (n - 0) (omega arith) ∙ ap zeros y
