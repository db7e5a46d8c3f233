use Rattle.std.proofs.Common.{◌≡◌, ◌-◌, ◌&&◌}
use Rattle.records.specs.inner.Fits.{all_from, record_ok}
use Rattle.records.proofs.records_ok.Given as goal

abbrev pub invariant-loop-i : goal.invariant-loop-i
invariant-loop-i l = all_from l.n 0 (record_ok l.program) ≡ (l.ok && all_from (l.n - l.i) l.i (record_ok l.program))
