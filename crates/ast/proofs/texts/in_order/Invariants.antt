use Rattle.std.proofs.Common.{◌≡◌, ◌&&◌, ◌≤◌, length, ◌+◌, ◌-◌, ◌∷◌, take, drop}
use Rattle.ast.specs.File.{cut, ascending}
use Rattle.lent.specs.Lists.{sum}
use Rattle.ast.proofs.texts.in_order.Given as goal

abbrev pub invariant-loop-n : goal.invariant-loop-n
invariant-loop-n l =
    (l.from ≤ l.at) × (l.at + sum (drop l.n-index l.later) ≤ length l.texts)
    × (ascending (cut l.lengths l.texts) ≡ (l.ok && ascending (take (l.at - l.from) (drop l.from l.texts) ∷ cut (drop l.n-index l.later) (drop l.at l.texts))))
