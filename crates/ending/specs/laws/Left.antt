-- What a run of an accepted program leaves in the lent buffers. Definitions only.
use Rattle.std.specs.Prelude.{ℕ, ◌≡◌, true, List, ◌++◌, length}
use Rattle.tables.specs.Tables.{Program}
use Rattle.vm.specs.RuntimeErr.{RuntimeErr}
use Rattle.vm.specs.Machine.{Stopped, Ran}
use Rattle.stored.specs.StateBytes.{encode_state}
use Rattle.vm.specs.Report.{report}
use Rattle.tables.specs.Limits.{program_ok}
use Rattle.stored.specs.Storable.{Storable, WholeDetails}

-- the run r from start on, its state and its report, whatever lies behind them
pub record RunLeft (p : Program) (r : Ran) (state told : List ℕ) : Type 0 where
  pub within : program_ok p ≡ true
  pub storable : Storable (length p.code) r.state
  pub whole : (e : RuntimeErr) → r.answer ≡ Stopped e → WholeDetails e
  pub behind_state : List ℕ
  pub behind_report : List ℕ
  pub state_is : state ≡ encode_state r.state ++ behind_state
  pub report_is : told ≡ report p r.answer r.state r.state.count ++ behind_report
