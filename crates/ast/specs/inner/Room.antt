-- Entries whose kinds are known and whose bodies are all there: what the checks before 5 give the later ones.
use Rattle.std.specs.Prelude.{ℕ, ◌≤◌, ◌<◌, List, [], ◌∷◌, length, drop}
use Rattle.ast.specs.Node.{kind_of, body, body_size}

pub data Room : List ℕ → List ℕ → Type 0 where
  none : {b : List ℕ} → Room [] b
  one : {k n : ℕ} {c b : List ℕ} → 1 ≤ k → k < 24 → body_size (body (kind_of k)) ≤ length b → Room c (drop (body_size (body (kind_of k))) b) → Room (k ∷ (n ∷ c)) b
