use mathlib.Core.Path.{◌≡◌}
use mathlib.Core.Option.{none}
use Rattle.opc.specs.Op.{Code}
use Rattle.tables.specs.Tables.{function_at}
use Rattle.tables.specs.inner.Entries.{Begun}
use Rattle.tables.specs.laws.EntryLaws.{Turned, functions_go}
use Rattle.tables.proofs.functions.Given as goal

abbrev pub invariant-loop-i : goal.invariant-loop-i
invariant-loop-i l =
    (cs : Code) → Begun 34816 64 cs (λ x. none) l.n l.initial.program → Turned 34816 64 (functions_go l.i) (function_at cs) l.n l.i l.initial.program l.program
