use Rattle.std.proofs.Common.{◌≡◌, ◌+◌, ◌-◌, ◌*◌, ◌≤◌, Bool, true, false, cond, not, eqb, get_or, refl, arith}
use mir.Val.{bool_byte}
use Rattle.state.specs.laws.Marks.{marking_room, marking_turn, marking_end}
use Rattle.state.proofs.mark_of.Goals as goal

held_bit : (t : Bool) → bool_byte (not t) ≡ cond t 0 1
held_bit true = refl
held_bit false = refl

held_small : (t : Bool) → bool_byte t ≤ 1
held_small true = omega arith
held_small false = omega arith

pub overflow_mul-m : goal.overflow_mul-m
overflow_mul-m c = omega (arith, marking_room c.args.state.now c.loop-x.m c.loop-x.x c.loop-x-test.true c.loop-x.invariant)

pub overflow_add-m : goal.overflow_add-m
overflow_add-m c =
    let at = 24576 + (c.loop-x.x - 1) * 256 in
    omega (arith, marking_room c.args.state.now c.loop-x.m c.loop-x.x c.loop-x-test.true c.loop-x.invariant, held_small (not (eqb (get_or c.args.state.now at 0) 0)))

pub loop-x-preserved : goal.loop-x-preserved
loop-x-preserved c = marking_turn c.args.state.now c.loop-x.m c.loop-x.x _ c.loop-x-test.true c.loop-x.invariant (held_bit _) (held_small _)

pub returns : goal.returns
returns c = marking_end c.args.state.now c.loop-x.m c.loop-x.x c.loop-x-test.false c.loop-x.invariant
