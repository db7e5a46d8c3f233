use Rattle.std.proofs.Common.{ℕ, List, not, ap, arith}
use Rattle.ast.proofs.Cuts.{cut_next, cut_end, part_end}
use Rattle.ast.proofs.Scan.{turn, done, sum_next}
use Rattle.ast.specs.File.{fortmp}
use Rattle.lent.specs.Bytes.{same_bytes}
use Rattle.lent.specs.Lists.{all}
use Rattle.ast.proofs.texts.none_fortmp.Goals as goal

pub loop-n-preserved : goal.loop-n-preserved
loop-n-preserved c =
    let l = c.loop-n in
    let a = c.args in (
      omega (arith, sum_next a.lengths.now l.n-index (omega arith)),
      rw (c.is_fortmp.ensures, part_end l.at)
          (turn l.ok _ _ l.invariant.1 (ap (all (λ (c : List ℕ). not (same_bytes c fortmp))) (cut_next a.lengths.now a.texts.now l.n-index l.at (omega arith)))),
    )

pub returns : goal.returns
returns c = done c.loop-n.ok c.loop-n.invariant.1 (ap (all (λ (s : List ℕ). not (same_bytes s fortmp))) (cut_end c.args.lengths.now c.args.texts.now c.loop-n.n-index c.loop-n.at (omega arith)))
