use Rattle.std.proofs.Common.{sym, ap}
use Rattle.text.specs.laws.Writing.{appended_as}
use Rattle.text.specs.laws.Joined.{appended_three}
use Rattle.ending.specs.inner.EndBytes.{end_in, ran_in}
use Rattle.ending.proofs.put_ran.Goals as goal

pub returns : goal.returns
unfolding ran_in
returns c =
    appended_three (appended_as (ap (end_in c.args.report.now) (sym c.get_u64.ensures)) c.put_end.ensures) c.put_held.ensures c.put_names.ensures
