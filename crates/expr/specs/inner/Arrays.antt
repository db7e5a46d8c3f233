-- What the functions of arrays ensure. Definitions only.
use Rattle.std.specs.Prelude.{ℕ, ◌^◌, ◌≤◌, ◌≡◌, true, List, map, T, ltb, length, drop}
use Rattle.lent.specs.Bytes.{concat}
use Rattle.opc.specs.Record.{item_bytes}
use Rattle.ast.specs.Tree.{Lit}
use Rattle.ast.specs.Flat.{flat_lits}
use Rattle.ast.specs.Limits.{every_lits}
use Rattle.compiler.specs.Literals.{literal}
use Rattle.emit.specs.inner.Made.{Spells}

-- the items' bytes of the pool
abbrev pub items_bytes : List Lit → List ℕ
items_bytes ls = concat (map item_bytes (map literal ls))

-- n literals behind the first node, whose body has one byte
pub record Lits (n : ℕ) (ls : List Lit) (c b : List ℕ) : Type 0 where
  pub spells : Spells (flat_lits ls) (drop 2 c) (drop 1 b)
  pub count : n ≡ length ls
  pub fits : T (every_lits (λ x. true) (λ v. ltb v (2 ^ 64)) ls)
  pub head : 2 ≤ length c
  pub some : 1 ≤ length b
