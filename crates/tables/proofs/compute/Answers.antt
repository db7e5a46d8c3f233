use mathlib.Core.Path.{ap, ◌∙◌}
use mathlib.Core.List.{List}
use Prim.Native.Nat.{ℕ}
use native.Mathlib.Omega.{arith}
use Rattle.lent.specs.Bytes.{splice}
use Rattle.tables.specs.ProgramBytes.{function_bytes}
use Rattle.tables.specs.laws.EntryLaws.{functions_begun, labels_length, labels_records, labels_behind}
use Rattle.tables.proofs.compute.Goals as goal

pub label_table-requires-clause-in_bounds : goal.label_table-requires-clause-in_bounds
label_table-requires-clause-in_bounds c = let h = c.requires.in_bounds in (h.0, h.1, h.2)

pub functions-requires : goal.functions-requires
functions-requires c =
    let h = c.requires in
    let cs = h.records.0 in
    let b = c.args.program.now in
    let e = c.label_table.ensures cs h.records.1 in record {
      in_bounds = (omega (arith, labels_length cs c.args.n b _ h.in_bounds.0 e, h.in_bounds.0), h.in_bounds.1);
      begun = (
        cs,
        functions_begun cs c.args.n _ (labels_records cs c.args.n b _ h.in_bounds.0 e h.in_bounds.1 h.records.1) (labels_behind cs c.args.n b _ h.in_bounds.0 e ∙ h.in_bounds.3),
      );
    }

pub returns : goal.returns
returns c cs r =
    let h = c.requires in
    let b = c.args.program.now in
    let e = c.label_table.ensures cs r in
    c.functions.ensures cs
    (functions_begun cs c.args.n _ (labels_records cs c.args.n b _ h.in_bounds.0 e h.in_bounds.1 r) (labels_behind cs c.args.n b _ h.in_bounds.0 e ∙ h.in_bounds.3))
    ∙ ap (λ (d : List ℕ). splice d 34816 (function_bytes cs)) e
