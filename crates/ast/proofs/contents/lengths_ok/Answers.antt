use Rattle.ast.proofs.Scan.{turn, done, all_next, all_end}
use Rattle.std.proofs.Common.{leb, ℕ, arith}
use Rattle.ast.proofs.contents.lengths_ok.Goals as goal

pub loop-n-preserved : goal.loop-n-preserved
loop-n-preserved c =
    turn c.loop-n.ok _ _ c.loop-n.invariant (all_next (λ (n : ℕ). leb n 40) c.args.lengths.now c.loop-n.n-index (omega arith))

pub returns : goal.returns
returns c = done c.loop-n.ok c.loop-n.invariant (all_end (λ (n : ℕ). leb n 40) c.args.lengths.now c.loop-n.n-index (omega arith))
