use mathlib.Core.Path.{◌≡◌, ap, ◌∙◌}
use Prim.Native.Nat.{ℕ}
use native.Mathlib.Omega.{arith}
use Rattle.lent.specs.Bytes.{part, splice}
use Rattle.sifv.specs.laws.Formed.{move_turn}
use Rattle.sifv.proofs.move_whole.Goals as goal

pub loop-i-preserved : goal.loop-i-preserved
loop-i-preserved c =
    let l = c.loop-i in
    let t = move_turn c.args.s.now c.args.from c.args.to l.i c.requires.0 c.requires.1 c.requires.2 (omega arith) l.invariant.2 c.move_u64.ensures in
    (omega arith, omega arith, t.0)

pub returns : goal.returns
returns c =
    let l = c.loop-i in
    let e : l.i ≡ 256 = omega arith in
    l.invariant.2 ∙ ap (λ (i : ℕ). splice c.args.s.now c.args.to (part c.args.s.now c.args.from i)) e
