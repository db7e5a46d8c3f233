use mathlib.Core.Path.{◌≡◌}
use mathlib.Core.Bool.{◌&&◌}
use lib.ListN.{drop, replicate}
use Rattle.lent.specs.Bytes.{part, same_bytes}
use Rattle.lent.proofs.each_zero.Given as goal

abbrev pub invariant-loop-i : goal.invariant-loop-i
invariant-loop-i l = same_bytes (part l.s l.at l.n) (replicate l.n 0) ≡ (l.ok && same_bytes (drop l.i (part l.s l.at l.n)) (drop l.i (replicate l.n 0)))
