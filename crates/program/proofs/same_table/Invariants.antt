use Rattle.std.proofs.Common.{◌≡◌, ◌+◌, ◌*◌, ◌-◌, ◌&&◌, eqb, length, get_or}
use Rattle.lent.specs.Bytes.{be_value, part}
use Rattle.records.specs.inner.Fits.{all_from}
use Rattle.program.proofs.same_table.Given as goal

abbrev pub invariant-loop-l : goal.invariant-loop-l
invariant-loop-l l = all_from (length l.t) 0 (λ j. eqb (be_value (part l.program (l.at + 2 * j) 2) + 1) (get_or l.t j 0)) ≡ (l.ok && all_from (length l.t - l.l) l.l (λ j. eqb (be_value (part l.program (l.at + 2 * j) 2) + 1) (get_or l.t j 0)))
