-- A literal's node: how long its body is and which value it has, by its kind. Definitions only.
use Rattle.std.specs.Prelude.{ℕ, cond, List, eqb, get_or}
use Rattle.std.specs.Float.Ieee.{of_bits}
use Rattle.std.specs.Float.{binary64}
use Rattle.lent.specs.Bytes.{be_value, part}
use Rattle.sifv.specs.Value.{Single, Num, Str, Bl}

-- the bytes of a literal's body, by its kind
abbrev pub lit_size : ℕ → ℕ
lit_size k = cond (eqb k 19) 8 (cond (eqb k 20) 1 0)

-- the value of a literal, by its kind and its body at `at`
abbrev pub value_at : ℕ → List ℕ → ℕ → Single
value_at k b at = cond (eqb k 19) (Num (of_bits binary64 (be_value (part b at 8)))) (cond (eqb k 20) (Str (get_or b at 0)) (Bl (eqb k 22)))
