use Rattle.ast.proofs.Cuts.{ascending_next, part_end, cut_first, sum_first}
use Rattle.ast.proofs.Scan.{turn, sum_next}
use Rattle.ast.proofs.Rooms.{to_end}
use Rattle.ast.specs.File.{ascending}
use Rattle.std.proofs.Common.{ap, arith}
use Rattle.std.proofs.Math.Nat.{sub-zero}
use Rattle.ast.proofs.texts.in_order.Goals as goal

pub loop-n-init : goal.loop-n-init
loop-n-init c =
    let a = c.args in
    rw (to_end 1 a.lengths.now, sub-zero) (omega arith, omega (arith, sum_first a.lengths.now (omega arith)), ap ascending (cut_first a.lengths.now a.texts.now (omega arith)))

pub loop-n-preserved : goal.loop-n-preserved
loop-n-preserved c =
    let l = c.loop-n in (
      omega arith,
      omega (arith, sum_next _ l.n-index c.loop-n-test.true),
      rw (c.precedes-ok.ensures, part_end l.at)
          (turn l.ok _ _ l.invariant.2 (ascending_next _ _ c.args.texts.now l.n-index l.at c.loop-n-test.true)),
    )
