-- `sifv::move_whole` meets its contract.
use mathlib.Core.Path.{◌≡◌}
use Prim.Native.Nat.{◌%◌, ◌≤◌}
use Rattle.lent.specs.Bytes.{part, splice}
use Rattle.sifv.proofs.move_whole.Given as goal

abbrev pub invariant-loop-i : goal.invariant-loop-i
invariant-loop-i l = (l.i ≤ 256) × (l.i % 8 ≡ 0) × (l.s ≡ splice l.initial.s l.to (part l.initial.s l.from l.i))
