use mathlib.Core.Path.{sym}
use Prim.Native.Nat.{ℕ}
use native.Mathlib.Omega.{arith}
use lib.ListN.{replicate, length-replicate, get_or-replicate}
use Rattle.lent.specs.Bytes.{part}
use Rattle.lent.specs.laws.Parts.{length_part, get_d_part}
use Rattle.lent.proofs.Loops.{same_turn}
use Rattle.lent.proofs.each_zero.Goals as goal

pub loop-i-preserved : goal.loop-i-preserved
loop-i-preserved c =
    let l = c.loop-i in
    let r = c.args in
    let a = part r.s.now r.at r.n in
    let la = length_part r.s.now r.at r.n c.requires in
    let lb = length-replicate {A = ℕ} r.n 0 in
    let ea = sym (get_d_part r.s.now r.at r.n l.i 0 (omega arith)) in
    let eb = sym (get_or-replicate {A = ℕ} r.n l.i 0 0 (omega arith)) in
    same_turn a (replicate r.n 0) l.i _ 0 l.ok (omega arith) (omega arith) ea eb l.invariant
