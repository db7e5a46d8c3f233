use Rattle.std.proofs.Common.{◌≡◌, ◌+◌, ◌*◌, ◌≤◌, drop}
use Rattle.lent.specs.Lists.{sum}
use Rattle.ast.proofs.bodies.text_bytes.Given as goal

abbrev pub invariant-loop-n : goal.invariant-loop-n
invariant-loop-n l = (l.total ≤ 255 * l.n-index) × (sum l.lengths ≡ l.total + sum (drop l.n-index l.lengths))
