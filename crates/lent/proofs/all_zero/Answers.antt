use mathlib.Core.Path.{◌≡◌, sym, ap, ap₂, ◌∙◌}
use mathlib.Core.Bool.{Bool, ◌&&◌}
use Prim.Native.Nat.{ℕ, ◌+◌, ◌*◌, ◌/◌, ◌%◌, ◌≤◌}
use native.Mathlib.Omega.{arith}
use lib.ListN.{length}
use Rattle.lent.specs.Bytes.{part, same_bytes}
use Rattle.lent.specs.Lists.{zeros}
use Rattle.lent.specs.laws.Zeros.{zero_run}
use Rattle.lent.proofs.all_zero.Goals as goal

pub returns : goal.returns
returns c =
    let a = c.args in
    let s = a.s.now in
    let w = a.n / 8 * 8 in
    let e : w + a.n % 8 ≡ a.n = omega arith in
    let h : a.at + (w + a.n % 8) ≤ length s = omega arith in
    ap₂ (λ (x y : Bool). x && y) c.bits.ensures c.each_zero.ensures
    ∙ sym (zero_run s a.at w (a.n % 8) h)
    ∙ ap (λ (x : ℕ). same_bytes (part s a.at x) (zeros x)) e
