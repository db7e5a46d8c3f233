-- Four and eight bytes read as one number, the lowest first. Definitions only.
use Rattle.std.specs.Prelude.{ℕ, ◌+◌, ◌*◌, List, [], ◌∷◌, get_or}

-- the number that bytes spell, the lowest first
abbrev pub le_value : List ℕ → ℕ
le_value [] = 0
le_value (x ∷ l) = le_value l * 256 + x

-- the bytes from at on
abbrev pub four : List ℕ → ℕ → List ℕ
four b at = get_or b at 0 ∷ get_or b (at + 1) 0 ∷ get_or b (at + 2) 0 ∷ get_or b (at + 3) 0 ∷ []

abbrev pub eight : List ℕ → ℕ → List ℕ
eight b at =
    get_or b at 0 ∷ get_or b (at + 1) 0 ∷ get_or b (at + 2) 0 ∷ get_or b (at + 3) 0 ∷ get_or b (at + 4) 0 ∷ get_or b (at + 5) 0 ∷ get_or b (at + 6) 0 ∷ get_or b (at + 7) 0 ∷ []
