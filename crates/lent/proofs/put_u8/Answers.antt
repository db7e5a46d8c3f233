use mathlib.Core.Path.{sym, ap, ◌∙◌}
use native.Mathlib.Omega.{arith}
use lib.ListN.{set}
use Rattle.lent.specs.laws.Numbers.{splice_byte}
use Rattle.lent.proofs.put_u8.Goals as goal

pub returns : goal.returns
returns c =
    let a = c.args in
    ap (set a.d.now a.at) c.low.ensures ∙ sym (splice_byte a.d.now a.at a.v (omega arith))
