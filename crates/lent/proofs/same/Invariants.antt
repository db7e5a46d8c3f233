use mathlib.Core.Path.{◌≡◌}
use mathlib.Core.Bool.{◌&&◌}
use lib.ListN.{drop}
use Rattle.lent.specs.Bytes.{part, same_bytes}
use Rattle.lent.proofs.same.Given as goal

abbrev pub invariant-loop-i : goal.invariant-loop-i
invariant-loop-i l = same_bytes (part l.a l.at l.n) (part l.b l.bt l.n) ≡ (l.ok && same_bytes (drop l.i (part l.a l.at l.n)) (drop l.i (part l.b l.bt l.n)))
