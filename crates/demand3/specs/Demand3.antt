-- Demand 3 on bytes, over the definitions of the four calls: what is asked of a script that starts, and what is claimed of every list of calls after that.
-- The theorem and its proof: laws/Demand3Proof. Definitions only.
use Rattle.std.specs.Prelude.{◌≡◌, List, ℕ, ◌+◌, ◌^◌, ◌≤◌, ◌<◌, T, length}
use Rattle.lent.specs.Bytes.{AreBytes}
use Rattle.ast.specs.Tree.{Stmts}
use Rattle.ast.specs.Plain.{plain}
use Rattle.ast.specs.File.{read_tree, Tree}
use Rattle.boundary.specs.LowerCall.{lower_call}
use Rattle.lent.specs.Answered.{over, answered}
use Rattle.boundary.specs.StartCall.{start_call}
use Rattle.boundary.specs.RunCall.{run_call}
use Rattle.boundary.specs.ReadCall.{read_call}
use Rattle.std.proofs.Math.Option.{some}
use Rattle.sifv.specs.Slot.{encode_slot}
use Rattle.stored.specs.StateBytes.{decode_state}
use Rattle.walk.specs.Walk.{walk, walk_count, walk_names, walk_end}
use Rattle.walk.specs.Bound.{bound}
use Rattle.vm.specs.Report.{report_size}
use Rattle.demand3.specs.CallList.{Run, ending_of, AfterCalls, after_call}

-- A file that is read as the plain script t; lower accepted it into the buffer `program`, and start accepted what lower left, into the buffer `state`.
pub record Starts (t : Stmts) (file program state : List ℕ) : Type 0 where
  pub bytes : AreBytes file
  pub read : read_tree file ≡ Tree t
  pub is_plain : T (plain t)
  pub lowers : (lower_call file program).result ≡ 0
  pub starts : (start_call (lower_call file program).buffer state).result ≡ 0

-- What demand 3 claims of the script t where calls, lent `program`, have left l.
pub record Demand3 (t : Stmts) (program : List ℕ) (l : AfterCalls) : Type 0 where
  -- "the step count after it is at most the sum, over the script's instructions, of L to the power of the loops around each"
  pub bounded : (decode_state l.state).count ≤ bound t
  -- what the reports told as taken adds up to it
  pub told : l.taken ≡ (decode_state l.state).count
  -- "a state so lent is 10 there only for the count": a further call is refused for nothing else but a short buffer or a text over 63
  pub runs_on : (n : ℕ) (out : List ℕ) → report_size ≤ length out → (decode_state l.state).count + n < 2 ^ 64 → (run_call program l.state n out).result ≡ 0
  pub reads_on : (x : ℕ) (out : List ℕ) → x < 64 → 256 ≤ length out → (read_call l.state x out).result ≡ 0
  -- so a further run of n steps gives n,
  pub gives : (n : ℕ) (out : List ℕ) → report_size ≤ length out → (decode_state l.state).count + n < 2 ^ 64 → (after_call program (Run n out) l).given ≡ l.given + n
  -- and the sum itself can always be given
  pub granted : (out : List ℕ) → report_size ≤ length out → (run_call program l.state (bound t) out).result ≡ 0
  -- "whenever the list was given at least that sum as steps, in whatever portions", all is as the walk says: "the names and values as read",
  pub names : bound t ≤ l.given → (x : ℕ) (out : List ℕ) → x < 64 → 256 ≤ length out → read_call l.state x out ≡ answered 0 (over (encode_slot (walk_names (walk t) x)) out)
  -- "the step count",
  pub count : bound t ≤ l.given → (decode_state l.state).count ≡ walk_count (walk t)
  -- "and how the last steps given, if any, ended (done, or which stop with which details)"
  pub ended : bound t ≤ l.given → l.last ≡ some (ending_of (walk_end (walk t)))
