use Rattle.text.specs.laws.Writing.{appended_next}
use Rattle.text.proofs.Writer.put_all.Goals as goal

pub loop-x-preserved : goal.loop-x-preserved
loop-x-preserved c = appended_next c.args.s.now c.loop-x.x-index c.loop-x-test.true c.loop-x.invariant c.put.ensures
