-- Code whose labels never decrease, as a plain script's: a label's first instruction. Definitions only.
use Rattle.std.specs.Prelude.{Bool, true, ◌&&◌, cond, [], ◌∷◌, ℕ, suc, leb, eqb}
use Rattle.opc.specs.Op.{label, Code}
use Rattle.std.proofs.Math.Option.{Option, none, some}

-- the labels never decrease, from n on
abbrev pub labels_ascend : ℕ → Code → Bool
labels_ascend n [] = true
labels_ascend n (c ∷ cs) = leb n (label c) && labels_ascend (label c) cs

-- the first instruction that carries label l, counted from i
abbrev pub first_at : Code → ℕ → ℕ → Option ℕ
first_at [] l i = none
first_at (c ∷ cs) l i = cond (eqb (label c) l) (some i) (first_at cs l (suc i))
