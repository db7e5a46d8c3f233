-- The places of document 01, "The tree file", with their kinds.
use mathlib.Core.Path.{◌≡◌, refl}
use mathlib.Core.List.{List, [], ◌∷◌}
use Prim.Native.Nat.{ℕ, ◌+◌, ◌^◌}
use Rattle.ast.specs.inner.Pass as places

ones : List ℕ → ℕ
ones [] = 0
ones (k ∷ ks) = 2 ^ k + ones ks

-- "Statements: 2, 3, 5 to 9. Expressions: 14 to 23. A right side may also be 10, 12, 13. Program is node 0 only."
statements : places.statement ≡ ones (2 ∷ 3 ∷ 5 ∷ 6 ∷ 7 ∷ 8 ∷ 9 ∷ [])
unfolding ones
statements = refl

expressions : places.expression ≡ ones (14 ∷ 15 ∷ 16 ∷ 17 ∷ 18 ∷ 19 ∷ 20 ∷ 21 ∷ 22 ∷ 23 ∷ [])
unfolding ones
expressions = refl

right_sides : places.right_side ≡ ones (10 ∷ 12 ∷ 13 ∷ []) + places.expression
unfolding ones
right_sides = refl

program : places.program ≡ ones (1 ∷ [])
unfolding ones
program = refl

-- "Name or Call; Block", "Names, then Block", "Elifs", "Items", "kinds 19, 20, 22, 23"
sources : places.name_or_call ≡ ones (21 ∷ 15 ∷ [])
unfolding ones
sources = refl

names : places.name ≡ ones (21 ∷ [])
unfolding ones
names = refl

blocks : places.block ≡ ones (2 ∷ [])
unfolding ones
blocks = refl

elifs : places.elif_bits ≡ ones (4 ∷ [])
unfolding ones
elifs = refl

items : places.item_bits ≡ ones (11 ∷ [])
unfolding ones
items = refl

literals : places.literal_bits ≡ ones (19 ∷ 20 ∷ 22 ∷ 23 ∷ [])
unfolding ones
literals = refl
