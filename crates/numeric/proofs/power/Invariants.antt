-- `numeric::power` meets its contract. The invariant: after as many turns as the counter tells, 2^c is squared that often.
use Rattle.std.proofs.Common.{◌≡◌, ◌*◌, ◌%◌, ◌^◌, ◌<◌}
use Rattle.numeric.proofs.power.Given as goal

abbrev pub invariant-loop : goal.invariant-loop
invariant-loop l = (l.x % l.n ≡ 2 ^ (l.c * 2 ^ l.counter) % l.n) × (l.x < 2 ^ 56)
