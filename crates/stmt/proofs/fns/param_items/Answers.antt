use native.Mathlib.Omega.{arith}
use mathlib.Core.Path.{refl, sym, ◌∙◌}
use Prim.Native.Nat.{◌+◌}
use Rattle.stmt.specs.laws.Fns.{items_start, item_length_lem, items_turn, items_end}
use Rattle.sifv.specs.Value.{Str}
use Rattle.stmt.proofs.fns.param_items.Goals as goal

pub loop-i-init : goal.loop-i-init
loop-i-init c =
    (refl, items_start c.args.out.now c.args.k c.args.names.now)

pub loop-i-preserved : goal.loop-i-preserved
loop-i-preserved c =
    let l = c.loop-i in
    let a = c.args in
    let x = c.wide in
    let e = c.put_item.ensures.0 in (
      item_length_lem l.out (a.k + l.i) (Str x.result) (omega arith) e ∙ l.invariant.0,
      items_turn l.out a.k l.i a.names.now (omega arith) (omega arith) x.ensures.0 e ∙ l.invariant.1,
    )

pub shape_of-out : goal.shape_of-out
shape_of-out c = c.loop-i.invariant.0

pub returns : goal.returns
returns c =
    let l = c.loop-i in
    sym (items_end l.out c.args.k l.i c.args.names.now c.loop-i-test.false) ∙ l.invariant.1
