use Rattle.std.proofs.Common.{sym}
use Rattle.text.specs.laws.Digits.{decimal_small, decimal_more}
use Rattle.text.specs.laws.Writing.{appended_as, appended_then}
use Rattle.text.proofs.Writer.+put_decimal.Goals as goal
use Rattle.text.proofs.Writer.+put_decimal.Goals.{then-n-ge10, else-n-ge10}

pub returns : goal.returns
returns t c =
    elim c.if-n-ge10.branch [
      | then-n-ge10 w ↦ appended_as (sym (decimal_more c.args.n c.ranges.n.fits w.if-n-ge10.true)) (appended_then (rw w.self-is w.put_decimal.ensures) c.put.ensures)
      | else-n-ge10 w ↦ appended_as (sym (decimal_small c.args.n w.if-n-ge10.false)) (rw w.self-is at c.put.ensures)
    ]
