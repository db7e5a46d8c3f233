use Rattle.std.proofs.Common.{◌+◌, sym}
use Rattle.lent.specs.Lists.{tabulate}
use Rattle.text.specs.Text.{ascii, single_text}
use Rattle.text.specs.laws.Joined.{appended_element}
use Rattle.ops.specs.inner.Told.{item_told}
use Rattle.ops.specs.laws.ToldLaws.{length_tabulate}
use Rattle.ops.specs.laws.TextLaws.{tabulate_end}
use Rattle.ops.proofs.put_items.Goals as goal

pub loop-i-preserved : goal.loop-i-preserved
loop-i-preserved c =
    let f = item_told c.args.program.now in
    let i = c.loop-i.i in
    appended_element single_text (ascii ",") (tabulate c.args.first i f) _ (f (c.args.first + i)) (sym (length_tabulate c.args.first i f)) (tabulate_end c.args.first i f)
    c.loop-i.invariant c.put_gap.ensures c.put_item.ensures
