use Rattle.std.proofs.Common.{◌≡◌, ◌-◌}
use Rattle.records.specs.inner.Fits.{pool_fits}
use Rattle.records.proofs.PoolSteps.{inside, fits_left}
use Rattle.records.proofs.pool_ok.Given as goal

abbrev pub invariant-loop-i : goal.invariant-loop-i
invariant-loop-i l = inside l.next × (pool_fits l.n 0 0 l.program ≡ fits_left l.program (l.n - l.i) l.i l.next)
