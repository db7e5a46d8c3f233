use Rattle.std.proofs.Common.{◌≡◌, not, ◌&&◌, ◌≤◌, length, ℕ, List, ◌+◌, drop}
use Rattle.lent.specs.Bytes.{same_bytes}
use Rattle.ast.specs.File.{cut, fortmp}
use Rattle.lent.specs.Lists.{sum, all}
use Rattle.ast.proofs.texts.none_fortmp.Given as goal

abbrev pub invariant-loop-n : goal.invariant-loop-n
invariant-loop-n l =
    (l.at + sum (drop l.n-index l.lengths) ≤ length l.texts)
    × (all (λ (s : List ℕ). not (same_bytes s fortmp)) (cut l.lengths l.texts) ≡ (l.ok && all (λ (s : List ℕ). not (same_bytes s fortmp)) (cut (drop l.n-index l.lengths) (drop l.at l.texts))))
