use Rattle.ast.specs.File.{firsts}
use Rattle.ast.specs.Node.{kind_of, body, body_size}
use lib.ListN.{drop}
use Prim.Native.Nat.{ℕ, ◌+◌, ◌*◌, ◌≤◌}
use mathlib.Core.List.{map}
use mathlib.Core.Path.{◌≡◌}
use Rattle.lent.specs.Lists.{sum}
use Rattle.ast.proofs.bodies.node_bytes.Given as goal

abbrev pub invariant-loop-i : goal.invariant-loop-i
invariant-loop-i l = (l.i ≤ 2049) × (l.total ≤ 8 * l.i) × (sum (map (λ (k : ℕ). body_size (body (kind_of k))) (firsts l.entries)) ≡ l.total + sum (map (λ (k : ℕ). body_size (body (kind_of k))) (firsts (drop l.i l.entries))))
