use Rattle.ast.proofs.Scan.{sizes_next, sizes_end}
use Rattle.std.proofs.Common.{◌+◌, arith}
use Rattle.ast.proofs.bodies.node_bytes.Goals as goal

pub loop-i-preserved : goal.loop-i-preserved
loop-i-preserved c =
    (omega arith, omega arith, omega (arith, c.size-total.ensures.0, sizes_next c.args.entries.now c.loop-i.i (omega arith)))

pub returns : goal.returns
returns c = (omega (arith, sizes_end c.args.entries.now c.loop-i.i (omega arith)), omega arith)

pub returns-2 : goal.returns-2
returns-2 c =
    let es = c.args.entries.now in
    (omega (arith, c.size-total.ensures.0, sizes_next es c.loop-i.i (omega arith), sizes_end es (c.loop-i.i + 2) (omega arith)), omega arith)
