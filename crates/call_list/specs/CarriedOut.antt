-- What carrying out calls leaves in the state and answers. Definitions only.
use Rattle.std.specs.Prelude.{ℕ, ◌≡◌, List}
use Rattle.std.proofs.Math.Option.{Option, none, some}
use Rattle.ast.specs.Tree.{Stmts}
use Rattle.boundary.specs.LowerCall.{lower_call}
use Rattle.boundary.specs.StartCall.{start_call}
use Rattle.demand3.specs.CallList.{Call, AfterCalls, after_call, call_all, fresh}
use Rattle.call_list.specs.CallBytes.{Last, last_of, calls_in}
use Rattle.demand3.specs.Demand3.{Starts, Demand3}

-- the state and the last ending of what calls have left
pub record Leaves (l : AfterCalls) (state : List ℕ) (r : Last) : Type 0 where
  pub bytes : state ≡ l.state
  pub last : last_of r ≡ l.last

-- one entry of a list after others: its call, where it has one
abbrev pub after_entry : List ℕ → Option Call → AfterCalls → AfterCalls
after_entry program none l = l
after_entry program (some c) l = after_call program c l

pub record OneCall (program : List ℕ) (c : Option Call) (state : List ℕ) (last : Last) (state' : List ℕ) (r : Last) : Type 0 where
  pub follows : (l : AfterCalls) → Leaves l state last → Leaves (after_entry program c l) state' r

-- Every call of the list, from a state on: the bytes and the answer are those of `call_all`. Where the state is a started script's, that is demand 3.
pub record CarriedOut (program calls state state' : List ℕ) (r : Last) : Type 0 where
  pub left : Leaves (call_all program (calls_in calls) (fresh state)) state' r
  pub demand3 : (t : Stmts) (file lent buffer : List ℕ) → Starts t file lent buffer → program ≡ (lower_call file lent).buffer → state ≡ (start_call program buffer).buffer
      → Demand3 t program (call_all program (calls_in calls) (fresh state))
