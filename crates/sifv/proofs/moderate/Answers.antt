use mathlib.Core.Path.{refl, sym, ap}
use Prim.Native.Nat.{ℕ, ◌+◌, ◌*◌, ◌%◌}
use native.Mathlib.Omega.{arith}
use lib.Dec.{ltb}
use Rattle.lent.specs.Bytes.{part}
use Rattle.lent.specs.laws.Parts.{get_d_part}
use Rattle.sifv.specs.inner.Tests.{moderate_test}
use Rattle.sifv.specs.laws.Direct.{upto_turn}
use Rattle.sifv.proofs.moderate.Goals as goal

pub loop-i-preserved : goal.loop-i-preserved
loop-i-preserved c =
    let s = c.args in
    let l = c.loop-i in
    upto_turn (moderate_test (part s.s.now s.at 256)) l.i l.invariant (ap (λ (k : ℕ). ltb (k % 128) 127) (sym (get_d_part s.s.now s.at 256 (40 + l.i * 8) 0 (omega arith)))) refl
