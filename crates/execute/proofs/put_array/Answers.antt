use mathlib.Core.Path.{refl, ◌∙◌}
use Prim.Native.Nat.{◌+◌, ◌*◌}
use native.Mathlib.Omega.{arith}
use lib.ListN.{drop, set, length-set}
use Rattle.opc.specs.Record.{item_list}
use Rattle.execute.specs.inner.View.{pool_of, or_none}
use Rattle.execute.specs.laws.Literals.{pool_entry, items_length, fill_start, fill_turn, fill_end}
use Rattle.execute.proofs.put_array.Goals as goal

pub zero-requires : goal.zero-requires
zero-requires c = c.requires.1

pub bounds-state-at : goal.bounds-state-at
bounds-state-at c =
    omega (arith, c.zero.auto.d, c.requires.1)

pub overflow_cast-state : goal.overflow_cast-state
overflow_cast-state c =
    omega (arith, c.requires.2.few)

pub bounds-state-at-2 : goal.bounds-state-at-2
bounds-state-at-2 c =
    simp length-set (omega (arith, c.zero.auto.d, c.requires.1))

pub loop-i-init : goal.loop-i-init
loop-i-init c =
    ((fill_start c.args.state.now c.args.at 5 c.args.len c.requires.1 c.zero.ensures refl refl).same, refl)

pub overflow_add-start : goal.overflow_add-start
overflow_add-start c =
    omega (arith, c.requires.2.ends, c.loop-i-test.true)

pub put_item-requires : goal.put_item-requires
put_item-requires c =
    let f = fill_start c.args.state.now c.args.at 5 c.args.len c.requires.1 c.zero.ensures refl refl in (c.requires.0, omega (arith, c.requires.1, c.loop-i.invariant.1, f.long), omega (arith, c.requires.2.few, c.loop-i-test.true), omega (arith, c.requires.2.ends, c.loop-i-test.true), (pool_entry c.args.program.now c.args.len c.args.first c.loop-i.i c.requires.2 c.loop-i-test.true).0)

pub loop-i-preserved : goal.loop-i-preserved
loop-i-preserved c =
    let f = fill_start c.args.state.now c.args.at 5 c.args.len c.requires.1 c.zero.ensures refl refl in
    let m = items_length c.requires.2 in
    let t = fill_turn (set (set c.zero.new.d c.args.at 5) (c.args.at + 1) c.args.len) c.args.at 5 c.args.len c.loop-i.i (or_none (item_list c.args.len (drop (c.args.first * 16) (pool_of c.args.program.now)))) (omega (arith, c.requires.1, f.long)) (omega (arith, m, c.loop-i-test.true)) (omega (arith, c.requires.2.few, c.loop-i-test.true)) c.loop-i.invariant.0 (pool_entry c.args.program.now c.args.len c.args.first c.loop-i.i c.requires.2 c.loop-i-test.true).1 c.put_item.ensures in
    (t.0, t.1)

pub shape_of-state : goal.shape_of-state
shape_of-state c =
    let f = fill_start c.args.state.now c.args.at 5 c.args.len c.requires.1 c.zero.ensures refl refl in c.loop-i.invariant.1 ∙ f.long

pub returns : goal.returns
returns c =
    fill_end c.args.state.now c.args.at c.args.len c.loop-i.i (or_none (item_list c.args.len (drop (c.args.first * 16) (pool_of c.args.program.now)))) c.requires.1 c.requires.2.few (items_length c.requires.2) (omega (arith, c.loop-i-test.false)) (fill_start c.args.state.now c.args.at 5 c.args.len c.requires.1 c.zero.ensures refl refl) c.loop-i.invariant.0
