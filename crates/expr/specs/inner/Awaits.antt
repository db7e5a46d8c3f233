-- Nodes that still belong to a tree: how many trees are awaited before each. Definitions only.
use Rattle.std.specs.Prelude.{ℕ, suc, ◌+◌, ◌≡◌, cond, List, [], ◌∷◌, ltb, eqb, length}
use Rattle.ast.specs.Node.{Kind, number_of, Node, node}

-- the bytes of the body of an expression's node
abbrev pub body_length : ℕ → ℕ
body_length k = cond (eqb k 19) 8 (cond (eqb k 10) 0 (cond (ltb 21 k) 0 1))

-- the nodes of m trees
pub data Awaits : ℕ → List Node → Type 0 where
  done : Awaits 0 []
  next : {k : Kind} {n m q : ℕ} {d : List ℕ} {ns : List Node} → length d ≡ body_length (number_of k) → Awaits q ns → q ≡ n + m → Awaits (suc m) (node k n d ∷ ns)
