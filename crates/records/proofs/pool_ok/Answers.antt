use Rattle.records.proofs.PoolSteps.{fits_further}
use Rattle.records.proofs.pool_ok.Goals as goal
use Rattle.records.proofs.pool_ok.Goals.{in-Some, in_default}

pub loop-i-preserved : goal.loop-i-preserved
loop-i-preserved c =
    let a = c.args in
    let l = c.loop-i in
    elim c.match-next.branch [
      | in-Some w ↦ let v = rw w.in-Some.is at l.invariant in rw w.next-is (fits_further a.program.now a.n l.i w.in-Some.from c.loop-i-test.true v.0 v.1 w.pooled-next.ensures)
      | in_default w ↦ let v = rw w.in_default.is at l.invariant in rw w.next-is (rw w.in_default.is v)
    ]
