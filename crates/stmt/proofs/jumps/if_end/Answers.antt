use mathlib.Core.Path.{ap}
use Rattle.emit.specs.declared.Done.{Done}
use Rattle.stmt.specs.laws.Leaves.{label_first}
use Rattle.stmt.proofs.jumps.if_end.Goals as goal

pub nop-requires : goal.nop-requires
nop-requires c = rw c.ended-e.ensures c.requires.0

pub returns : goal.returns
returns c =
    let e = c.ended-e.ensures in
    rw (ap (λ (d : Done). d.lbl) e) at (label_first {p = c.args.p} e c.nop.ensures)
