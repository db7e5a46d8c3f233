use Rattle.std.proofs.Common.{refl}
use Rattle.emit.specs.laws.Leaves.{loaded, literal_bytes}
use Rattle.emit.proofs.load_literal.Goals as goal

pub returns : goal.returns
returns c w e = rw (← c.literal_size.ensures) (loaded w _ _ c.start-p.ensures c.load_at.ensures refl (literal_bytes c.literal_value-v.result c.literal_value-v.ensures c.item_kind.ensures c.word_of.ensures.0 c.fields_of-f.ensures) e)
