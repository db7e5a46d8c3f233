use Rattle.ending.specs.laws.EndLaws.{stop_put}
use Rattle.ending.proofs.put_stop.Goals as goal

pub returns : goal.returns
returns c =
    stop_put c.args.report.now c.args.count c.put_words.ensures (rw (← c.get_u64.ensures) c.put_signed.ensures) c.put_details.ensures c.put_all.ensures
