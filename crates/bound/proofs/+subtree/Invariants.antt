use Rattle.std.proofs.Common.{◌+◌, ◌-◌, ◌*◌}
use Rattle.bound.specs.inner.Weights as Rule
use Rattle.bound.proofs.Steps.{Going}
use Rattle.bound.proofs.+subtree.Given as goal

abbrev pub decreases-children : goal.decreases-children
decreases-children l = 2 * l.depth + 1

abbrev pub invariant-children-loop : goal.invariant-children-loop
invariant-children-loop l = Going (Rule.forest_times (λ es. Rule.subtree l.depth l.l l.under es) l.count l.entries) (Rule.forest_times (λ es. Rule.subtree l.depth l.l l.under es) (l.count - l.counter) l.rest) l.cost

abbrev pub decreases-subtree : goal.decreases-subtree
decreases-subtree l = 2 * l.depth
