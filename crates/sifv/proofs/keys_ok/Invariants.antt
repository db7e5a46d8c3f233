use mathlib.Core.Path.{◌≡◌}
use Prim.Native.Nat.{◌+◌, ◌≤◌}
use mathlib.Core.Bool.{◌&&◌}
use lib.ListN.{drop}
use Rattle.lent.specs.Bytes.{part}
use Rattle.sifv.specs.inner.Seen.{keys_ok}
use Rattle.sifv.proofs.keys_ok.Given as goal

abbrev pub invariant-loop-i : goal.invariant-loop-i
invariant-loop-i l = (l.next ≤ 256) × (keys_ok 0 (part l.s (l.at + 232) l.n) ≡ (l.ok && keys_ok l.next (drop l.i (part l.s (l.at + 232) l.n))))
