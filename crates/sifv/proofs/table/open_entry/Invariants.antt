-- `sifv::table::open_entry` meets its contract. The loop's invariant: the entries from j on are moved.
use mathlib.Core.Path.{◌≡◌}
use Prim.Native.Nat.{◌≤◌}
use Rattle.lent.specs.Bytes.{part, splice}
use Rattle.sifv.specs.inner.Forms.{opened}
use Rattle.sifv.proofs.table.open_entry.Given as goal

abbrev pub invariant-loop-j : goal.invariant-loop-j
invariant-loop-j l = (l.i ≤ l.j) × (l.s ≡ splice l.initial.s l.at (opened (part l.initial.s l.at 256) l.j l.n))
