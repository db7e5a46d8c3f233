use Rattle.ast.proofs.Scan.{turn, done, all_next, all_end}
use Rattle.ast.specs.File.{between}
use Rattle.std.proofs.Common.{arith}
use Rattle.ast.proofs.texts.printable.Goals as goal

pub loop-byte-preserved : goal.loop-byte-preserved
loop-byte-preserved c =
    rw (c.within-ok.ensures, c.wide.ensures.0) (turn c.loop-byte.ok _ _ c.loop-byte.invariant (all_next (between 32 126) c.args.texts.now c.loop-byte.byte-index (omega arith)))

pub returns : goal.returns
returns c = done c.loop-byte.ok c.loop-byte.invariant (all_end (between 32 126) c.args.texts.now c.loop-byte.byte-index (omega arith))
