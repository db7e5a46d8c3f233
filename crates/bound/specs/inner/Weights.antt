-- Demand 3's bound of a plain script by the entries alone, in preorder: the instructions that each node is lowered to, whatever its bodies say. Preorder.antt
-- has the law that ties it to the tree's cost. Definitions only.
use Rattle.std.specs.Prelude.{ℕ, zero, suc, ◌+◌, ◌*◌, ◌%◌, max, ◌≡◌, Bool, cond, ◌&&◌, ◌||◌, List, [], ◌∷◌, leb, eqb}
use Rattle.bound.specs.declared.Part.{Part}

-- ---- one node of kind k with c children, under kind u

-- 8 VarDecl and 16 Assign store what a 17 or 18 computes by one instruction more
abbrev pub stores_one : ℕ → Bool
stores_one u = eqb u 8 || eqb u 16

-- the source of a 5 For and the items of a 12 Array have no instruction of their own
abbrev pub silent : ℕ → Bool
silent u = eqb u 5 || eqb u 12

abbrev pub weight : ℕ → ℕ → ℕ → ℕ
weight u k c =
    -- 19 to 23: literals and names
    cond (leb 19 k) (cond (silent u) 0 1)
    -- Binary, Unary
    (cond (eqb k 17 || eqb k 18) (cond (stores_one u) 2 1)
    -- Program and Block with no statement; VarDecl with no right side
    (cond (eqb k 1 || (eqb k 2 || eqb k 8)) (cond (eqb c 0) 1 0)
    -- If: JmpCnd, Jmpa and the Nop at its end
    (cond (eqb k 3) 3
    -- Elif: JmpCnd, Jmpa
    (cond (eqb k 4) 2
    -- ArrayAccess: Ldav and Str
    (cond (eqb k 13) 2
    -- Table, Item, Array, ArrayMut; ExprStmt and Assign have none, and a plain script has no 6, 9 or 15
    (cond (leb 10 k && leb k 14) 1 0))))))

-- with its children's sum n; the longest array literal has l items, at least 1. For: "a loop's first Stc and its Ldas stand outside that loop, its Ldn to its
-- JmpCnd inside"
abbrev pub whole_weight : ℕ → ℕ → ℕ → ℕ → ℕ → ℕ
whole_weight l u k c n = cond (eqb k 5) (2 + l * (7 + n)) (weight u k c + n)

-- ---- subtrees one after the other: their sum, and the entries behind them

pub data Forest : Type 0 where
  forest : ℕ → List ℕ → Forest

abbrev pub cost_of : Forest → ℕ
cost_of (forest n es) = n

abbrev pub behind : Forest → List ℕ
behind (forest n es) = es

abbrev pub more : ℕ → Forest → Forest
more n (forest m es) = forest (n + m) es

abbrev pub then_forest : Forest → (List ℕ → Forest) → Forest
then_forest (forest n es) f = more n (f es)

abbrev pub forest_times : (List ℕ → Forest) → ℕ → List ℕ → Forest
forest_times f zero es = forest 0 es
forest_times f (suc n) es = then_forest (f es) (λ ms. forest_times f n ms)

abbrev pub node : ℕ → ℕ → ℕ → ℕ → Forest → Forest
node l u k c (forest n es) = forest (whole_weight l u k c n) es

-- d levels are left
abbrev pub subtree : ℕ → ℕ → ℕ → List ℕ → Forest
subtree zero l u es = forest 0 es
subtree (suc d) l u [] = forest 0 []
subtree (suc d) l u (k ∷ []) = forest 0 (k ∷ [])
subtree (suc d) l u (k ∷ (c ∷ es)) = node l u k c (forest_times (λ ms. subtree d l k ms) c es)

-- ---- the longest array literal

abbrev pub items_of_entry : ℕ → ℕ → ℕ
items_of_entry k c = cond (eqb k 12) c 0

abbrev pub longest_entry : List ℕ → ℕ
longest_entry [] = 0
longest_entry (k ∷ []) = 0
longest_entry (k ∷ (c ∷ es)) = max (items_of_entry k c) (longest_entry es)

-- ---- all entries: Program's depth is 1 of 32

abbrev pub of_entries : List ℕ → ℕ
of_entries es = cost_of (subtree 32 (max 1 (longest_entry es)) 0 es)

-- ---- the code's answers: sums modulo 2 to the power of 48, and the entries behind

abbrev pub limit : ℕ
limit = 281474976710656

pub data Counts : Forest → Part → Type 0 where
  counts : {n : ℕ} {p : Part} → p.cost ≡ n % limit → Counts (forest n p.rest.now) p
