-- `numeric::pattern_of` meets its contract.
use Rattle.std.proofs.Common.{ℕ, ◌*◌, ◌^◌, sym, ap, ◌∙◌, zero-mul, arith, lit<}
use lib.Count.{count_leading_zeros}
use Rattle.numeric.proofs.Units.{Moved, moved, units_low, normal_pattern, low_pattern}
use Rattle.numeric.proofs.pattern_of.Goals as goal
use Rattle.numeric.proofs.pattern_of.Goals.{Else-q-eq0}

-- where the leading digit of q goes
found : (c : Else-q-eq0) → Moved c.args.q (count_leading_zeros 64 c.args.q)
found c = moved c.args.q (omega arith) c.requires.0

pub returns-then-q-eq0 : goal.returns-then-q-eq0
returns-then-q-eq0 c =
    let k = c.args.k in
    (units_low 0 (lit< tt) ∙ sym (ap (λ (x : ℕ). x * 2 ^ k) c.if-q-eq0.true ∙ zero-mul (2 ^ k)), lit< tt)

pub overflow_cast-z : goal.overflow_cast-z
overflow_cast-z c = let m = found (goal.at.overflow_cast-z c).Else-q-eq0 in omega arith

pub overflow_sub-z : goal.overflow_sub-z
overflow_sub-z c = (found (goal.at.overflow_sub-z c).Else-q-eq0).zeros

pub overflow_shl-result : goal.overflow_shl-result
overflow_shl-result c = let m = found (goal.at.overflow_shl-result c).Else-q-eq0 in omega arith

pub overflow_add-result : goal.overflow_add-result
overflow_add-result c =
    let r = normal_pattern _ _ _ (found (goal.at.overflow_add-result c).Else-q-eq0) c.requires.1 c.if-z-k.true in
    let s = r.1 in
    omega arith

pub returns-then-z-k : goal.returns-then-z-k
returns-then-z-k c = normal_pattern _ _ _ (found (goal.at.returns-then-z-k c).Else-q-eq0) c.requires.1 c.if-z-k.true

pub overflow_shl-result-2 : goal.overflow_shl-result-2
overflow_shl-result-2 c = let m = found (goal.at.overflow_shl-result-2 c).Else-q-eq0 in omega arith

pub returns : goal.returns
returns c = low_pattern _ _ _ (found (goal.at.returns c).Else-q-eq0) c.if-z-k.false
