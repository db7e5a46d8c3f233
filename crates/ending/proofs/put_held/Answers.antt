use Rattle.ending.specs.laws.LeftLaws.{ones_in_lem}
use Rattle.ending.proofs.put_held.Goals as goal

pub returns : goal.returns
returns c = rw (← c.get_u64-mark.ensures, ← ones_in_lem 64 _ c.get_u64-mark.type_inv) c.put_line.ensures
