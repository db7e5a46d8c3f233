use mathlib.Core.Path.{refl, sym, ap, ap₂, ◌∙◌}
use Prim.Native.Nat.{◌+◌, ◌*◌}
use native.Mathlib.Omega.{arith}
use Rattle.lent.specs.Bytes.{be_value, part}
use Rattle.lent.specs.laws.Parts.{get_d_part, part_part}
use Rattle.sifv.specs.inner.Tests.{item_ok, item_test}
use Rattle.sifv.specs.laws.Direct.{upto_turn}
use Rattle.sifv.proofs.each_ok.Goals as goal

pub loop-i-preserved : goal.loop-i-preserved
loop-i-preserved c =
    let s_args = c.args in
    let l = c.loop-i in
    let k = c.wide.ensures.0 ∙ sym (get_d_part s_args.s.now s_args.at 256 (16 + l.i) 0 (omega arith)) in
    let w = c.get_u64.ensures ∙ ap be_value (sym (part_part s_args.s.now s_args.at 256 (40 + l.i * 8) 8 (omega arith))) in
    upto_turn (item_test (part s_args.s.now s_args.at 256)) l.i l.invariant (c.item_ok-ok.ensures ∙ ap₂ item_ok k w) refl
