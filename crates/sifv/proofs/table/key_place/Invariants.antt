-- `sifv::table::key_place` meets its contract. The loop's invariant: the key's place is i and the place among the rest.
use mathlib.Core.Path.{◌≡◌}
use Prim.Native.Nat.{◌+◌}
use lib.ListN.{drop}
use Rattle.lent.specs.Bytes.{part}
use Rattle.sifv.specs.inner.Seen.{entries_in}
use Rattle.sifv.specs.inner.Forms.{place}
use Rattle.sifv.proofs.table.key_place.Given as goal

abbrev pub invariant-loop-i : goal.invariant-loop-i
invariant-loop-i l = place (entries_in l.n (part l.s l.at 256)) l.key ≡ l.i + place (drop l.i (entries_in l.n (part l.s l.at 256))) l.key
