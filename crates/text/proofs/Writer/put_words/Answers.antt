use Rattle.std.proofs.Common.{[], take_all, arith}
use Rattle.text.specs.laws.Joined.{appended_number, appended_fields}
use Rattle.text.proofs.Writer.put_words.Goals as goal

pub loop-n-preserved : goal.loop-n-preserved
loop-n-preserved c = appended_number c.args.numbers.now c.loop-n.n-index c.loop-n-test.true c.loop-n.invariant c.put_field.ensures

pub returns : goal.returns
returns c =
    appended_fields c.args.name.now [] c.args.numbers.now c.put_all.ensures (rw (take_all c.loop-n.n-index c.args.numbers.now (omega arith)) at c.loop-n.invariant)
