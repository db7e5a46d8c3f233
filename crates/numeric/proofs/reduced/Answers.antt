use Rattle.std.proofs.Common.{ℕ, ◌*◌, ◌%◌, refl, ap, ◌∙◌, mod-lt, arith, shl_exact}
use Rattle.numeric.proofs.Units.{turn}
use Rattle.numeric.proofs.reduced.Goals as goal
use Rattle.numeric.proofs.reduced.Goals.{Start}

pub loop-left-init : goal.loop-left-init
loop-left-init c = (refl, c.requires.0)

pub nonzero_rem-r : goal.nonzero_rem-r
nonzero_rem-r c = c.requires.1

pub loop-left-preserved : goal.loop-left-preserved
loop-left-preserved c =
    let l = c.loop-left in
    let start = (goal.at.loop-left-preserved c).Start in
    (turn l.r start.args.n l.left (omega arith) ∙ l.invariant.0, omega (arith, mod-lt (l.r * 2048) start.requires.1))

pub nonzero_rem-result : goal.nonzero_rem-result
nonzero_rem-result c = c.requires.1

pub returns : goal.returns
returns c =
    let l = c.loop-left in
    let n = c.args.n in
    ap (λ (z : ℕ). z % n) (shl_exact 53 l.left 64 (omega arith) (omega arith)) ∙ l.invariant.0
