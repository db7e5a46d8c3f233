use mathlib.Core.Path.{ap, ◌∙◌}
use Prim.Native.Nat.{ℕ}
use Rattle.lent.specs.Bytes.{part}
use Rattle.opc.specs.Record.{fields_of}
use Rattle.opc.proofs.Laws.{fields_read}
use Rattle.opc.proofs.fetch_fields.Goals as goal

pub returns : goal.returns
returns c =
    let at = c.place-at in
    fields_read c.args.program.now at.result c.get_u16.ensures.0 c.get_u64.ensures ∙ ap (λ (x : ℕ). fields_of (part c.args.program.now x 16)) at.ensures
