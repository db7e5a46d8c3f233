use Rattle.std.proofs.Common.{◌≡◌, ◌-◌, ◌&&◌}
use Rattle.records.specs.inner.Fits.{all_from}
use Rattle.program.specs.inner.Marked.{few_label}
use Rattle.program.proofs.has_few.Given as goal

abbrev pub invariant-loop-i : goal.invariant-loop-i
invariant-loop-i l = all_from l.n 0 (few_label l.program) ≡ (l.ok && all_from (l.n - l.i) l.i (few_label l.program))
