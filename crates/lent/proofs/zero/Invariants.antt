use mathlib.Core.Path.{◌≡◌}
use Prim.Native.Nat.{◌+◌}
use lib.ListN.{drop, replicate}
use Rattle.lent.specs.Bytes.{splice}
use Rattle.lent.proofs.zero.Given as goal

abbrev pub invariant-loop-i : goal.invariant-loop-i
invariant-loop-i l = splice l.d (l.at + l.i) (drop l.i (replicate l.n 0)) ≡ splice l.initial.d l.at (replicate l.n 0)
