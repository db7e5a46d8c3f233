use Rattle.std.proofs.Common.{◌+◌, ◌*◌}
use Rattle.lent.specs.Bytes.{part}
use Rattle.sifv.specs.Slot.{decode_slot}
use Rattle.ending.specs.laws.EndLaws.{name_put}
use Rattle.ending.proofs.put_name.Goals as goal

pub returns : goal.returns
returns c =
    name_put c.args.x (decode_slot (part c.args.state.now (24576 + c.args.x * 256) 256)) c.get.ensures c.in_default.not-Empty
    c.put_words.ensures c.put_all.ensures c.put_value.ensures c.put_all-2.ensures
