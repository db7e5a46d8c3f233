use Rattle.std.proofs.Common.{arith}
use Rattle.lent.specs.Bytes.{part}
use Rattle.values.specs.laws.SlotTextLaws.{items_turn}
use Rattle.values.proofs.put_items.Goals as goal

pub loop-i-preserved : goal.loop-i-preserved
loop-i-preserved c =
    items_turn (part c.args.state.now c.args.from 256) c.loop-i.i (omega arith) c.loop-i.invariant c.put_gap.ensures c.get_item.ensures c.put_single.ensures
