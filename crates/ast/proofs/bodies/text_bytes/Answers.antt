use Rattle.std.proofs.Common.{arith}
use Rattle.ast.proofs.Scan.{sum_next, sum_end}
use Rattle.ast.proofs.bodies.text_bytes.Goals as goal

pub loop-n-preserved : goal.loop-n-preserved
loop-n-preserved c = (omega (arith, c.type_inv.lengths c.loop-n.n-index), omega (arith, sum_next c.args.lengths.now c.loop-n.n-index (omega arith)))

pub returns : goal.returns
returns c = (omega (arith, sum_end c.args.lengths.now c.loop-n.n-index (omega arith)), omega arith)
