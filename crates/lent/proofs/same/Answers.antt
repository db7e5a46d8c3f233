use mathlib.Core.Path.{sym}
use native.Mathlib.Omega.{arith}
use Rattle.lent.specs.Bytes.{part}
use Rattle.lent.specs.laws.Parts.{length_part, get_d_part}
use Rattle.lent.proofs.Loops.{same_turn}
use Rattle.lent.proofs.same.Goals as goal

pub loop-i-preserved : goal.loop-i-preserved
loop-i-preserved c =
    let l = c.loop-i in
    let r = c.args in
    let a = part r.a.now r.at r.n in
    let b = part r.b.now r.bt r.n in
    let la = length_part r.a.now r.at r.n c.requires.0 in
    let lb = length_part r.b.now r.bt r.n c.requires.1 in
    let ea = sym (get_d_part r.a.now r.at r.n l.i 0 (omega arith)) in
    let eb = sym (get_d_part r.b.now r.bt r.n l.i 0 (omega arith)) in
    same_turn a b l.i _ _ l.ok (omega arith) (omega arith) ea eb l.invariant
