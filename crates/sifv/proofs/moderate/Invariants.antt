-- `sifv::moderate` meets its contract.
use mathlib.Core.Path.{◌≡◌}
use Rattle.lent.specs.Bytes.{part}
use Rattle.sifv.specs.inner.Tests.{moderate_test}
use Rattle.lent.specs.Lists.{upto}
use Rattle.sifv.proofs.moderate.Given as goal

abbrev pub invariant-loop-i : goal.invariant-loop-i
invariant-loop-i l = l.ok ≡ upto l.i (moderate_test (part l.s l.at 256))
