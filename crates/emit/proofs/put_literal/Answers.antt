use Rattle.std.proofs.Common.{refl}
use Rattle.emit.specs.laws.Leaves.{stored, literal_stored}
use Rattle.emit.proofs.put_literal.Goals as goal

pub returns : goal.returns
returns c w e = rw (← c.literal_size.ensures) (stored w _ _ c.start-p.ensures c.push_at.ensures refl (literal_stored c.literal_value-v.result c.literal_value-v.ensures c.item_kind.ensures c.word_of.ensures.0 c.fields_of-f.ensures) e)
