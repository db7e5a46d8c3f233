use Rattle.std.proofs.Common.{map}
use Rattle.lent.specs.Bytes.{part}
use Rattle.sifv.specs.inner.Seen.{entries_in}
use Rattle.text.specs.Text.{ascii, joined, entry_text}
use Rattle.text.specs.inner.Appended.{Appended}
use Rattle.values.proofs.put_entries.Given as goal

abbrev pub invariant-loop-i : goal.invariant-loop-i
invariant-loop-i l = Appended l.initial.w (joined (ascii ",") (map entry_text (entries_in l.i (part l.state l.from 256)))) l.w
