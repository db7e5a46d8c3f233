-- The listing by the calls that make it: a refused file's number, or what lower, start and a run of 100,000 steps leave.
use mathlib.Core.Path.{◌≡◌, refl, sym, ap, ◌∙◌, subst}
use mathlib.Core.List.{List, ◌++◌}
use mathlib.Core.Option.{some}
use Prim.Native.Nat.{ℕ, ◌-◌, ◌^◌, ◌≤◌, ◌<◌}
use native.Mathlib.Omega.{arith}
use lib.ListN.{length, drop}
use borrow.Author.Tests.{le-leb}
use Rattle.lent.specs.Bytes.{AreBytes}
use Rattle.ast.specs.Tree.{Stmts}
use Rattle.ast.specs.Plain.{plain}
use Rattle.ast.specs.File.{Read, Refused, Tree, read_tree}
use Rattle.tables.specs.Tables.{Program}
use Rattle.tables.specs.ProgramBytes.{program_size, decode_program, or_empty, program_in}
use Rattle.compiler.specs.Lower.{Lowered, refused, lowered, lower}
use Rattle.vm.specs.Machine.{started, run}
use Rattle.stored.specs.StateBytes.{state_size, encode_state}
use Rattle.vm_laws.specs.laws.Kept.{started_storable}
use Rattle.walk.specs.Bound.{bound}
use Rattle.vm.specs.Report.{report_size, report}
use Rattle.lent.specs.Answered.{over, Answered, answered, RunAnswered}
use Rattle.boundary.specs.LowerCall.{lower_made, lower_read, lower_call}
use Rattle.boundary.specs.StartCall.{start_call}
use Rattle.boundary.specs.RunCall.{ran_out, run_call}
use Rattle.demand3.specs.laws.Accepting.{accepts}
use Rattle.demand3.proofs.laws.ListLaws.{Holds, holds_over, run_answers}
use Rattle.text.specs.declared.Writer.{Writer}
use Rattle.text.specs.inner.Appended.{Appended}
use Rattle.text.specs.laws.Writing.{appended_as}
use Rattle.text.specs.laws.Joined.{appended_three}
use Rattle.listing_text.specs.ProgramText.{program_text}
use Rattle.listing_text.specs.Ending.{ran_text}
use Rattle.ending.specs.laws.Left.{RunLeft}
use Rattle.ending.specs.inner.EndBytes.{ran_in}
use Rattle.ending.specs.laws.LeftLaws.{left_text, run_left}
use Rattle.listing_text.specs.Listing.{bound_line, refused_text, lowered_text, read_text, listing}

-- ---- a refused file

by_lowered : (t : Stmts) (l : Lowered) (b : List ℕ) → ((lower_made l b).result ≡ 0 → ⊥) → lowered_text t l ≡ refused_text (lower_made l b).result
by_lowered t (refused n) b h = refl
by_lowered t (lowered p) b h = absurd (h refl)

by_read : (r : Read) (b : List ℕ) → ((lower_read r b).result ≡ 0 → ⊥) → read_text r ≡ refused_text (lower_read r b).result
by_read (Refused n) b h = refl
by_read (Tree t) b h = by_lowered t (lower t) b h

pub listing_refused : (file program : List ℕ) {n : ℕ} {b : List ℕ} → program_size ≤ length program → answered n b ≡ lower_call file program → (n ≡ 0 → ⊥) → listing file ≡ refused_text n
unfolding lower_call listing
listing_refused file program {n} {b} h e z =
    let g : lower_call file program ≡ lower_read (read_tree file) program = rw (le-leb program_size (length program) h) in
    let k : n ≡ (lower_read (read_tree file) program).result = ap (λ (a : Answered). a.result) (e ∙ g) in
    by_read (read_tree file) program (λ w. z (k ∙ w)) ∙ ap refused_text (sym k)

-- ---- an accepted one: the program, the state and the report that the calls leave

pub record Made (file program state told : List ℕ) : Type 0 where
  pub tree : Stmts
  pub made : Program
  pub reads : read_tree file ≡ Tree tree
  pub lowers : lower tree ≡ lowered made
  pub size : program_size ≤ length program
  pub back : decode_program program ≡ some made
  pub left : RunLeft made (run made 100000 (started made)) state told

few : 100000 < 2 ^ 64
few = omega arith

less_none : (n : ℕ) → n - 0 ≡ n
less_none n = omega arith

pub calls_made : (file program state out : List ℕ) {n : ℕ} {q : List ℕ} {a : ℕ} {s : List ℕ} {b : ℕ} {s' out' : List ℕ} → AreBytes file
    → program_size ≤ length program → state_size ≤ length state → report_size ≤ length out
    → answered n q ≡ lower_call file program → n ≡ 0 → start_call q state ≡ answered a s → run_call q s 100000 out ≡ record { result = b; state = s'; report = out' }
    → Made file q s' out'
calls_made file program state out {n} {q} {a} {s} {b} {s'} {out'} ab hp hs hr e z f g =
    let k = accepts file program ab (ap (λ (x : Answered). x.result) (sym e) ∙ z) in
    let p = k.made in
    let eq : q ≡ (lower_call file program).buffer = ap (λ (x : Answered). x.buffer) e in
    let r = run p 100000 (started p) in
    let es : s ≡ over (encode_state (started p)) state = ap (λ (x : Answered). x.buffer) (sym f ∙ ap (λ (y : List ℕ). start_call y state) eq ∙ k.starts state hs) in
    let st = started_storable p k.within in
    let h : Holds (length p.code) s (started p) = subst (λ (x : List ℕ). Holds (length p.code) x (started p)) (sym es) (holds_over state (started p) hs st) in
    let sz : program_size ≤ length q = subst (λ (x : List ℕ). program_size ≤ length x) (sym eq) k.size in
    let bk : decode_program q ≡ some p = ap decode_program eq ∙ k.back in
    let ra : run_call q s 100000 out ≡ ran_out p r 0 s out = run_answers q p sz bk k.within k.numbers h 100000 out hr few in
    let w = sym g ∙ ra in
    let all = less_none r.state.count in
    record {
      tree = k.tree;
      made = p;
      reads = k.reads;
      lowers = k.lowers;
      size = sz;
      back = bk;
      left =
          subst (λ (x : List ℕ). RunLeft p r x out') (sym (ap (λ (x : RunAnswered). x.state) w))
          (subst (λ (x : List ℕ). RunLeft p r (over (encode_state r.state) s) x) (sym (ap (λ (x : RunAnswered). x.report) w ∙ ap (λ (c : ℕ). over (report p r.answer r.state c) out) all))
          (run_left p 100000 (drop (length (encode_state r.state)) s) (drop (length (report p r.answer r.state r.state.count)) out) k.within k.numbers few));
    }

pub listing_made : {file program state out : List ℕ} (m : Made file program state out)
    → listing file ≡ program_text m.made ++ (bound_line (plain m.tree) (bound m.tree) ++ ran_text m.made (run m.made 100000 (started m.made)))
unfolding listing
listing_made m = ap read_text m.reads ∙ ap (lowered_text m.tree) m.lowers

pub program_of_lem : {file program state out : List ℕ} (m : Made file program state out) → program_in program ≡ m.made
program_of_lem m = ap or_empty m.back

-- the three texts, one after the other
module _ {file program state told : List ℕ} (m : Made file program state told) {v w x y : Writer} (a : Appended v (program_text (program_in program)) w)
    (b : (t : Stmts) (p : Program) → read_tree file ≡ Tree t → lower t ≡ lowered p → Appended w (bound_line (plain t) (bound t)) x) where
  pub listed : Appended x (ran_in state told) y → Appended v (listing file) y
  listed c =
      appended_as (listing_made m)
      (appended_three (appended_as (ap program_text (sym (program_of_lem m))) a) (b m.tree m.made m.reads m.lowers) (appended_as (sym (left_text m.left)) c))
