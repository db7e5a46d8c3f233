-- Plain scripts by the entries alone, in preorder: document 01, "The tree file": "A plain script has no 6, 9 or 15; 14 and 16 stand only under 7; 22 and 23
-- only under 8, 12, 16, 17, 18." specs/laws/Preorder.antt has the law that ties it to Plain.antt. Definitions only.
use Rattle.std.specs.Prelude.{ℕ, ◌+◌, ◌-◌, Bool, true, false, cond, not, ◌&&◌, ◌||◌, List, [], ◌∷◌, leb, ltb, eqb}
use Rattle.ast.specs.Plain.{plain}
use Rattle.ast.specs.File.{Read, Refused, Tree}

-- whether a file holds a plain script; a refused one does not
abbrev pub plain_of : Read → Bool
plain_of (Refused n) = false
plain_of (Tree t) = plain t

-- "no 6, 9 or 15"
abbrev pub absent : ℕ → Bool
absent k = eqb k 6 || (eqb k 9 || eqb k 15)

-- "under 8, 12, 16, 17, 18"
abbrev pub holds_truth : ℕ → Bool
holds_truth u = eqb u 8 || (eqb u 12 || (eqb u 16 || (eqb u 17 || eqb u 18)))

-- kind k under kind u
abbrev pub allowed : ℕ → ℕ → Bool
allowed u k = not (absent k) && ((not (eqb k 14 || eqb k 16) || eqb u 7) && (not (eqb k 22 || eqb k 23) || holds_truth u))

-- after a node of kind k with c children: 0, or one more than the subtrees that are left before the second child of a 14; so it is 1 at that child
abbrev pub waits : ℕ → ℕ → ℕ → ℕ
waits w k c = cond (eqb k 14) 2 (cond (leb w 1) 0 ((w + c) - 1))

-- what the next node stands under, as far as its test asks: after a kind below 19 that kind, whose first child it is, if it is no statement; after a leaf
-- 14 where its second child begins, else 17, for a second operand or a later item of an Array
abbrev pub under : ℕ → ℕ → ℕ
under w k = cond (ltb k 19) k (cond (eqb w 1) 14 17)

-- the entries from one on
abbrev pub scan : ℕ → ℕ → List ℕ → Bool
scan u w [] = true
scan u w (k ∷ []) = true
scan u w (k ∷ (c ∷ es)) = allowed u k && scan (under (waits w k c) k) (waits w k c) es
