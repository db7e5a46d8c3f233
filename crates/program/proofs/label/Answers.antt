use mathlib.Core.Path.{◌∙◌}
use Prim.Native.Nat.{◌*◌}
use native.Mathlib.Omega.{arith}
use Rattle.records.proofs.Places.{word_of}
use Rattle.program.proofs.label.Goals as goal

pub returns : goal.returns
returns c = let a = c.args in c.get_u16.ensures.0 ∙ word_of a.program.now (16 * a.i) 2 2 (omega arith)
