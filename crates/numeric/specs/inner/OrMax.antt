-- An index as one number of 64 bits, and whether there is one. Definitions only.
use Rattle.std.specs.Prelude.{ℕ, Bool, true, false}
use Rattle.std.proofs.Math.Option.{Option, none, some}

-- the index, or 2^64 - 1 where there is none; no number of the engine has that index (`index_largest`)
abbrev pub or_max : Option ℕ → ℕ
or_max none = 18446744073709551615
or_max (some n) = n

abbrev pub has_index : Option ℕ → Bool
has_index none = false
has_index (some n) = true
