use Rattle.std.proofs.Common.{◌≡◌, ◌*◌, ◌<◌, max, drop}
use Rattle.bound.specs.inner.Weights as Rule
use Rattle.bound.proofs.longest.Given as goal

abbrev pub invariant-loop-i : goal.invariant-loop-i
invariant-loop-i l = (l.most < 256) × (Rule.longest_entry l.entries ≡ max l.most (Rule.longest_entry (drop (2 * l.i) l.entries)))
