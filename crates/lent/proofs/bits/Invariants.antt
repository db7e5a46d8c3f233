use mathlib.Core.Path.{◌≡◌}
use Prim.Native.Nat.{◌*◌}
use lib.Dec.{eqb}
use lib.ListN.{replicate}
use Rattle.lent.specs.Bytes.{part, same_bytes}
use Rattle.lent.proofs.bits.Given as goal

abbrev pub invariant-loop-i : goal.invariant-loop-i
invariant-loop-i l = eqb l.seen 0 ≡ same_bytes (part l.s l.at (l.i * 8)) (replicate (l.i * 8) 0)
