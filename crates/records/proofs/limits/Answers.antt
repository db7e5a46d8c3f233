use Rattle.std.proofs.Common.{ap}
use Rattle.opc.proofs.Laws.{none_picked}
use Rattle.opc.specs.laws.Fetched.{misses}
use Rattle.records.specs.inner.Fits.{no_kind, limit_table}
use Rattle.records.specs.inner.Lanes.{limit_words}
use Rattle.records.proofs.limits.Goals as goal

-- no operation has another number
pub returns-in_default : goal.returns-in_default
returns-in_default c = ap limit_words (none_picked no_kind limit_table _ (misses limit_table 1 _ c.in_default.in_default-own.rest))
