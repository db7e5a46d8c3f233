-- `execute::put_array` meets its contract.
use mathlib.Core.Path.{◌≡◌}
use mathlib.Core.List.{[]}
use Prim.Native.Nat.{◌*◌}
use lib.ListN.{length, take, drop}
use Rattle.lent.specs.Bytes.{splice}
use Rattle.sifv.specs.inner.Seen.{box_bytes}
use Rattle.opc.specs.Record.{item_list}
use Rattle.execute.specs.inner.View.{pool_of, or_none}
use Rattle.execute.proofs.put_array.Given as goal

abbrev pub invariant-loop-i : goal.invariant-loop-i
invariant-loop-i l = (l.state ≡ splice l.initial.state l.at (box_bytes 5 l.len (take l.i (or_none (item_list l.len (drop (l.first * 16) (pool_of l.program))))) [])) × (length l.state ≡ length l.initial.state)
