-- Demand 3 on bytes, over the definitions of the four calls: one claim about every list of calls of run and reading a name, refused ones too, that follow
-- lower and start of a plain script.
use Rattle.std.specs.Prelude.{◌≡◌, refl, List, ℕ, ◌≤◌, T, length}
use Rattle.std.proofs.Common.{sym, ap, ◌∙◌, arith}
use Rattle.std.proofs.Math.Option.{none}
use Rattle.lent.specs.Bytes.{AreBytes, none, more}
use Rattle.lent.specs.laws.Guarded.{Passed, all_passed, long_enough}
use Rattle.sifv.specs.Slot.{encode_slot}
use Rattle.ast.specs.Tree.{Stmts}
use Rattle.ast.specs.Plain.{plain}
use Rattle.ast.specs.File.{read_tree, Tree}
use Rattle.ast.specs.laws.Reading.{read_ok}
use Rattle.tables.specs.Tables.{Program}
use Rattle.tables.specs.ProgramBytes.{program_size, program_in}
use Rattle.compiler.specs.Lower.{lower, lowered}
use Rattle.compiler.specs.laws.ReadWithin.{read_within}
use Rattle.vm.specs.Machine.{started}
use Rattle.stored.specs.StateBytes.{state_size}
use Rattle.vm_laws.specs.laws.Kept.{started_storable}
use Rattle.walk.specs.Walk.{walk}
use Rattle.walk.specs.Bound.{bound}
use Rattle.walk.proofs.laws.BoundSize.{bound_small}
use Rattle.walk.proofs.laws.Standing.{stands_started}
use Rattle.lent.specs.Answered.{over, Answered, answered}
use Rattle.boundary.specs.LowerCall.{lower_call}
use Rattle.boundary.specs.StartCall.{start_checks, start_deed, start_call}
use Rattle.demand3.specs.laws.CallLaws.{lowers}
use Rattle.demand3.specs.laws.Scripts.{script_stands}
use Rattle.demand3.specs.laws.Accepting.{Accepts, accepts, start_accepts}
use Rattle.demand3.specs.CallList.{Call, call_all, fresh}
use Rattle.demand3.proofs.laws.ListLaws.{decodes, holds_over, reads, ended, Stands, run_accepted, list_stands}
use Rattle.demand3.specs.Demand3.{Demand3, Starts}
use Rattle.walk.specs.Statements.{Served}

-- every plain script that is lowered starts so, in buffers that are long enough
pub script_starts : {t : Stmts} {p : Program} (file program state : List ℕ) → AreBytes file → read_tree file ≡ Tree t → T (plain t) → lower t ≡ lowered p
    → program_size ≤ length program → state_size ≤ length state → Starts t file program state
script_starts {t} {p} file program state a er ep el hp hs =
    let w = read_within a er in
    let e = ap (λ (x : Answered). x.result) (lowers file program t p er el w.0 w.1 hp) in
    record { bytes = a; read = er; is_plain = ep; lowers = e; starts = start_accepts file program a e state hs }

-- ---- the proof

-- start answers 0 only on a state buffer that is long enough
start_room : (program state : List ℕ) → (start_call program state).result ≡ 0 → state_size ≤ length state
unfolding start_call
start_room program state e = room (all_passed (λ n. answered n state) (start_deed (program_in program) state) (λ a. a.result) (λ n. refl) (start_checks program state) e)
  where
    room : Passed (start_checks program state) → state_size ≤ length state
    room (more a (more b c)) = long_enough state_size state b

module _ {t : Stmts} {file program state : List ℕ} (h : Starts t file program state) where
  -- the program buffer as lower left it
  abbrev lower_left : List ℕ
  lower_left = (lower_call file program).buffer

  made : Accepts file program
  made = accepts file program h.bytes h.lowers

  lowers_to : lower t ≡ lowered made.made
  lowers_to = let e : Tree t ≡ Tree made.tree = sym h.read ∙ made.reads in let z : t ≡ made.tree = cc in ap lower z ∙ made.lowers

  begins : Stands lower_left made.made made.size made.back made.within made.numbers (fresh (start_call lower_left state).buffer)
  begins =
      let room = start_room lower_left state h.starts in
      rw (ap (λ (a : Answered). a.buffer) (made.starts state room)) (record {
        left = record { state = started made.made; last = none };
        holds = holds_over state (started made.made) room (started_storable made.made made.within);
        taken = refl;
        last = refl;
        stands = stands_started made.made;
      })

  follows : (cs : List Call) → Demand3 t lower_left (call_all lower_left cs (fresh (start_call lower_left state).buffer))
  follows cs =
      let p = made.made in
      let l = call_all lower_left cs (fresh (start_call lower_left state).buffer) in
      let f = list_stands lower_left p made.size made.back made.within made.numbers cs begins in
      let s : Served (walk t) (bound t) l.given f.left = script_stands file h.read h.is_plain lowers_to f.stands in
      let b = f.holds in
      let c = ap (λ z. z.count) (decodes b) in
      let small = bound_small t p (read_ok file h.read) lowers_to in
      let on = run_accepted lower_left p made.size made.back made.within made.numbers b in
      record {
        bounded = omega (arith, c, s.within);
        told = f.taken ∙ sym c;
        runs_on = λ n out k m. on n out k (omega (arith, c));
        reads_on = λ x out i k. ap (λ a. a.result) (reads b x out i k);
        gives = λ n out k m. rw (on n out k (omega (arith, c))) refl;
        granted = λ out k. on (bound t) out k (omega (arith, s.within));
        names = λ g x out i k. reads b x out i k ∙ ap (λ e. answered 0 (over (encode_slot (e x)) out)) (s.names g);
        count = λ g. c ∙ s.count g;
        ended = λ g. f.last ∙ ap (λ o. ended o) (s.answer g);
      }

-- ---- the theorem

pub demand3 : (t : Stmts) (file program state : List ℕ) → Starts t file program state → (cs : List Call)
    → let lent = (lower_call file program).buffer in Demand3 t lent (call_all lent cs (fresh (start_call lent state).buffer))
demand3 t file program state h cs = follows h cs
