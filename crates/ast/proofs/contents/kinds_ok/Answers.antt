use Rattle.std.proofs.Common.{ap, arith, ◌+◌}
use Rattle.ast.proofs.Scan.{turn, done, firsts_next, firsts_end}
use Rattle.ast.specs.File.{between}
use Rattle.lent.specs.Lists.{all}
use Rattle.ast.proofs.contents.kinds_ok.Goals as goal

pub loop-i-preserved : goal.loop-i-preserved
loop-i-preserved c =
    rw (c.within-ok.ensures, c.wide.ensures.0) (turn c.loop-i.ok _ _ c.loop-i.invariant (ap (all (between 1 23)) (firsts_next c.args.entries.now c.loop-i.i (omega arith))))

pub returns : goal.returns
returns c = done c.loop-i.ok c.loop-i.invariant (ap (all (between 1 23)) (firsts_end c.args.entries.now c.loop-i.i (omega arith)))

pub returns-2 : goal.returns-2
returns-2 c =
    done _ (rw (c.within-ok.ensures, c.wide.ensures.0) (turn c.loop-i.ok _ _ c.loop-i.invariant (ap (all (between 1 23)) (firsts_next c.args.entries.now c.loop-i.i (omega arith)))))
    (ap (all (between 1 23)) (firsts_end c.args.entries.now (c.loop-i.i + 2) (omega arith)))
