use Rattle.records.specs.inner.Fits.{entry_ok}
use Rattle.records.proofs.Scan.{scan_turn}
use Rattle.records.proofs.entries_ok.Goals as goal

pub loop-k-preserved : goal.loop-k-preserved
loop-k-preserved c = let a = c.args in let l = c.loop-k in scan_turn (entry_ok a.least a.most a.program.now) _ l.k l.ok c.entry_ok-ok.result c.loop-k-test.true l.invariant c.entry_ok-ok.ensures
