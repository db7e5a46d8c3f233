use borrow.Author.Tests.{lt-ltb, le-ltb}
use Rattle.stmt.proofs.jumps.update_op_at.Goals as goal

pub returns-then-a-b : goal.returns-then-a-b
returns-then-a-b c =
    rw (lt-ltb c.args.a.recs c.args.b.recs c.if-a-b.true) c.put_u64.ensures

pub returns : goal.returns
returns c =
    rw (le-ltb c.args.a.recs c.args.b.recs c.if-a-b.false)
