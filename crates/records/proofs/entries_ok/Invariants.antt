use Rattle.std.proofs.Common.{◌≡◌, ◌+◌, ◌-◌, ◌&&◌}
use Rattle.records.specs.inner.Fits.{all_from, entry_ok}
use Rattle.records.proofs.entries_ok.Given as goal

abbrev pub invariant-loop-k : goal.invariant-loop-k
invariant-loop-k l = all_from l.n l.from (entry_ok l.least l.most l.program) ≡ (l.ok && all_from (l.from + l.n - l.k) l.k (entry_ok l.least l.most l.program))
