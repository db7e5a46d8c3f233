use Rattle.std.proofs.Common.{◌≡◌, arith}
use Rattle.ending.specs.laws.EndLaws.{names_turn}
use Rattle.ending.proofs.put_names.Goals as goal

pub loop-x-preserved : goal.loop-x-preserved
loop-x-preserved c = names_turn c.args.state.now c.loop-x.x c.loop-x-test.true c.loop-x.invariant c.put_name.ensures

pub returns : goal.returns
returns c = let e : c.loop-x.x ≡ 64 = omega arith in rw e at c.loop-x.invariant
