-- `sifv::each_ok` meets its contract.
use mathlib.Core.Path.{◌≡◌}
use Rattle.lent.specs.Bytes.{part}
use Rattle.sifv.specs.inner.Tests.{item_test}
use Rattle.lent.specs.Lists.{upto}
use Rattle.sifv.proofs.each_ok.Given as goal

abbrev pub invariant-loop-i : goal.invariant-loop-i
invariant-loop-i l = l.ok ≡ upto l.i (item_test (part l.s l.at 256))
