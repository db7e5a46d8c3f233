use Rattle.records.specs.inner.Fits.{record_ok}
use Rattle.records.proofs.Scan.{scan_turn}
use Rattle.records.proofs.records_ok.Goals as goal

pub loop-i-preserved : goal.loop-i-preserved
loop-i-preserved c = let a = c.args in let l = c.loop-i in scan_turn (record_ok a.program.now) a.n l.i l.ok c.record_ok-ok.result c.loop-i-test.true l.invariant c.record_ok-ok.ensures
