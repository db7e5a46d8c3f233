use mathlib.Core.Path.{◌≡◌}
use mathlib.Core.Bool.{true, false}
use Rattle.stmt.specs.inner.Parts.{written}
use Rattle.stmt.proofs.jumps.waiting.Goals as goal

pub returns-then-keep-low : goal.returns-then-keep-low
returns-then-keep-low c =
    let z : written c.args.keep c.args.low ≡ true = c.if-keep-low.true in rw z

pub returns-else-keep-low : goal.returns-else-keep-low
returns-else-keep-low c =
    let z : written c.args.keep c.args.low ≡ false = c.if-keep-low.false in rw z
