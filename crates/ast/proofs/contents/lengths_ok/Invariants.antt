use Rattle.std.proofs.Common.{◌≡◌, ◌&&◌, leb, drop, ℕ}
use Rattle.lent.specs.Lists.{all}
use Rattle.ast.proofs.contents.lengths_ok.Given as goal

abbrev pub invariant-loop-n : goal.invariant-loop-n
invariant-loop-n l = all (λ (n : ℕ). leb n 40) l.lengths ≡ (l.ok && all (λ (n : ℕ). leb n 40) (drop l.n-index l.lengths))
