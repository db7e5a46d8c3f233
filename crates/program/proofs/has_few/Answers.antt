use Rattle.std.proofs.Common.{ℕ, ltb, ap}
use Rattle.records.proofs.Scan.{scan_turn}
use Rattle.program.specs.inner.Marked.{few_label}
use Rattle.program.proofs.has_few.Goals as goal

pub loop-i-preserved : goal.loop-i-preserved
loop-i-preserved c = let l = c.loop-i in scan_turn (few_label c.args.program.now) c.args.n l.i l.ok _ c.loop-i-test.true l.invariant (ap (λ (x : ℕ). ltb x 128) c.label.ensures)
