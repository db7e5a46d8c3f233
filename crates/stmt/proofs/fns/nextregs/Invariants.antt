use Prim.Native.Nat.{◌-◌, ◌≤◌}
use mathlib.Core.Path.{◌≡◌}
use lib.ListN.{replicate}
use Rattle.compiler.specs.Lower.{Reg}
use Rattle.emit.specs.inner.Run.{after_events}
use Rattle.stmt.proofs.fns.nextregs.Given as goal

abbrev pub invariant-loop : goal.invariant-loop
invariant-loop l = (l.q.reg ≤ 96) × (after_events (replicate (l.n - l.counter) Reg) l.q ≡ after_events (replicate l.n Reg) l.initial.q)
