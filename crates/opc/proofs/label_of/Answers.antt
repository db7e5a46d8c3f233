-- `opc::label_of` meets its contract.
use mathlib.Core.Path.{ap, ◌∙◌}
use Prim.Native.Nat.{ℕ, ◌%◌}
use native.Mathlib.Omega.{arith}
use Rattle.lent.specs.Bytes.{part}
use Rattle.opc.specs.Record.{fields_of}
use Rattle.opc.proofs.Laws.{label_read}
use Rattle.opc.proofs.label_of.Goals as goal

pub returns : goal.returns
returns c =
    let at = c.place in
    label_read c.args.program.now at.result (omega arith) c.get_u16.ensures.0 c.get_u16.ensures.1 ∙ ap (λ (x : ℕ). (fields_of (part c.args.program.now x 16)).word % 65536) at.ensures
