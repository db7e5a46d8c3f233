use mathlib.Core.Path.{ap, ◌∙◌}
use Prim.Native.Nat.{ℕ}
use Rattle.lent.specs.Bytes.{splice}
use Rattle.opc.specs.Record.{field_bytes}
use Rattle.opc.specs.inner.Fetch.{fields_told}
use Rattle.opc.proofs.Laws.{record_law}
use Rattle.opc.proofs.put_record.Goals as goal

pub returns : goal.returns
returns c =
    let f = c.args.f in
    let at = c.place in
    record_law c.args.program.now at.result f.code f.kind f.lbl f.a f.b f.c f.len f.word c.put_u16.ensures c.put_u64.ensures c.copy.ensures ∙ ap (λ (x : ℕ). splice c.args.program.now x (field_bytes (fields_told f))) at.ensures
