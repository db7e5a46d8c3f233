-- `numeric::reduced` meets its contract. The invariant: what is left to do gives the remainder asked for. The measure is what is left of the exponent.
use Rattle.std.proofs.Common.{◌≡◌, ◌*◌, ◌%◌, ◌^◌, ◌<◌}
use Rattle.numeric.proofs.reduced.Given as goal

abbrev pub invariant-loop-left : goal.invariant-loop-left
invariant-loop-left l = (l.r * 2 ^ l.left % l.n ≡ l.m * 2 ^ l.s % l.n) × (l.r < 2 ^ 53)

abbrev pub decreases-loop-left : goal.decreases-loop-left
decreases-loop-left l = l.left
