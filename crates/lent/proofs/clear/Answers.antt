use mathlib.Core.Path.{◌≡◌}
use Prim.Native.Nat.{ℕ, ◌+◌, ◌-◌}
use native.Mathlib.Omega.{arith}
use lib.ListN.{take, replicate, length-replicate}
use Rattle.lent.specs.Bytes.{splice}
use Rattle.lent.proofs.Loops.{zeros_fewer, clear_turn, clear_end}
use Rattle.lent.proofs.clear.Goals as goal
use Rattle.lent.proofs.clear.Goals.{else-loop-i-test, then-loop-i-test+else-last-i-gt128}

pub loop-i-preserved : goal.loop-i-preserved
loop-i-preserved c =
    let a = c.args in
    let l = c.loop-i in
    let z = length-replicate {A = ℕ} 136 0 in
    let t = clear_turn a.d.now l.d a.n l.i l.invariant.1 l.invariant.2 (omega arith) l.i 136 (omega arith) (omega arith) (l.i + 128) (omega arith) c.zero.ensures in
    (omega arith, t.0, t.1)

pub returns : goal.returns
returns c =
    let a = c.args in
    let l = c.loop-i in
    let j = c.loop-i-test in
    let z = length-replicate {A = ℕ} 136 0 in
    let u : (take (a.n - 136) j.d ≡ replicate (a.n - 136) 0) × (splice j.d 0 (replicate a.n 0) ≡ splice a.d.now 0 (replicate a.n 0)) = elim j.branch [
      | else-loop-i-test w ↦ rw w.d-is (zeros_fewer l.d l.i (a.n - 136) w.loop-i-test.false l.invariant.1, l.invariant.2)
      | then-loop-i-test+else-last-i-gt128 w ↦ rw w.d-is (clear_turn a.d.now l.d a.n l.i l.invariant.1 l.invariant.2 (omega arith) l.i 136 (omega arith) (omega arith) (a.n - 136) (omega arith) w.zero.ensures)
    ] in
    let t = clear_turn a.d.now j.d a.n (a.n - 136) u.0 u.1 (omega arith) (a.n - 136) 136 (omega arith) (omega arith) a.n (omega arith) c.zero-2.ensures in
    clear_end a.d.now _ a.n (omega arith) t.0 t.1
