use Prim.Native.Nat.{ℕ}
use mathlib.Core.Path.{◌≡◌}
use mathlib.Core.Option.{Option}
use Rattle.opc.specs.Op.{Code}
use Rattle.tables.specs.Tables.{entered}
use Rattle.tables.specs.inner.Entries.{Begun}
use Rattle.tables.specs.laws.EntryLaws.{Turned, labels_go}
use Rattle.tables.proofs.labels.Given as goal

abbrev pub invariant-loop-i : goal.invariant-loop-i
invariant-loop-i l =
    (cs : Code) (f : ℕ → Option ℕ) → Begun 32768 1024 cs f l.n l.initial.program → Turned 32768 1024 (labels_go l.was l.i) (λ k. entered cs k l.first 0 (f k)) l.n l.i l.initial.program l.program
