-- A reciprocal of a significand, by which the functions behind the remainder divide. Definition only.
use Rattle.std.specs.Prelude.{ℕ, ◌+◌, ◌*◌, ◌^◌, ◌<◌, ◌≤◌}
use Rattle.numeric.specs.inner.Fields.{leading}

-- v is 2^84 / n, or less by so little that v * n lacks at most 2^54 of 2^84; n has a leading digit
pub record Reciprocal (n v : ℕ) : Type 0 where
  pub leads : leading ≤ n
  pub few : n < 2 ^ 53
  pub under : v * n ≤ 2 ^ 84
  pub near : 2 ^ 84 ≤ v * n + 2 ^ 54
