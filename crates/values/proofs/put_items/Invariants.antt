use Rattle.std.proofs.Common.{map}
use Rattle.lent.specs.Bytes.{part}
use Rattle.sifv.specs.Slot.{contents}
use Rattle.text.specs.Text.{ascii, joined, single_text}
use Rattle.text.specs.inner.Appended.{Appended}
use Rattle.values.proofs.put_items.Given as goal

abbrev pub invariant-loop-i : goal.invariant-loop-i
invariant-loop-i l = Appended l.initial.w (joined (ascii ",") (map single_text (contents l.i (part l.state l.from 256)))) l.w
