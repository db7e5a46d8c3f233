use mathlib.Core.Path.{sym, ◌∙◌}
use native.Mathlib.Omega.{arith}
use lib.ListN.{replicate, length-replicate, get_or-replicate}
use Rattle.lent.proofs.Loops.{write_turn}
use Rattle.lent.proofs.zero.Goals as goal

pub loop-i-preserved : goal.loop-i-preserved
loop-i-preserved c =
    let l = c.loop-i in
    let a = c.args in
    write_turn l.d a.at l.i (replicate a.n 0) 0 (omega arith) (rw length-replicate (omega arith)) (sym (get_or-replicate a.n l.i 0 0 (omega arith)))
    ∙ l.invariant
