use mathlib.Core.Path.{◌≡◌, sym, ap, ap₂, ◌∙◌}
use mathlib.Core.Bool.{Bool, ◌&&◌}
use Prim.Native.Nat.{ℕ, ◌+◌, ◌*◌, ◌≤◌}
use native.Mathlib.Omega.{arith}
use lib.Dec.{eqb}
use lib.ListN.{length}
use Rattle.lent.specs.Bytes.{part, same_bytes}
use Rattle.lent.specs.Lists.{zeros}
use Rattle.lent.specs.laws.Zeros.{zero_or, zero_eight, zero_run}
use Rattle.lent.proofs.bits.Goals as goal

pub loop-i-preserved : goal.loop-i-preserved
loop-i-preserved c =
    let l = c.loop-i in
    let a = c.args in
    let s = a.s.now in
    let h : a.at + (l.i * 8 + 8) ≤ length s = omega arith in
    let e : (l.i + 1) * 8 ≡ l.i * 8 + 8 = omega arith in
    zero_or l.seen c.low8-seen.result
    ∙ ap₂ (λ (x y : Bool). x && y) l.invariant (ap (λ (x : ℕ). eqb x 0) c.low8-seen.ensures ∙ zero_eight s (a.at + l.i * 8) (omega arith))
    ∙ sym (zero_run s a.at (l.i * 8) 8 h)
    ∙ ap (λ (x : ℕ). same_bytes (part s a.at x) (zeros x)) (sym e)
