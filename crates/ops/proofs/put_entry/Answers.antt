use Rattle.text.specs.laws.Writing.{appended_as}
use Rattle.ops.specs.laws.TextLaws.{entry_some}
use Rattle.ops.proofs.put_entry.Goals as goal

pub returns-then-entry-gt0 : goal.returns-then-entry-gt0
returns-then-entry-gt0 c = appended_as (entry_some c.args.name.now c.args.i c.args.entry c.if-entry-gt0.true) c.put_line.ensures
