-- `opc::word_of` meets its contract.
use mathlib.Core.Path.{sym, ap, ◌∙◌}
use Prim.Native.Nat.{ℕ}
use native.Mathlib.Omega.{arith}
use Rattle.lent.specs.Bytes.{be_value, part}
use Rattle.lent.specs.laws.Parts.{part_part}
use Rattle.opc.specs.Record.{fields_of}
use Rattle.opc.proofs.word_of.Goals as goal

pub returns : goal.returns
returns c =
    let at = c.place in
    c.get_u64.ensures ∙ sym (ap be_value (part_part c.args.program.now at.result 16 8 8 (omega arith))) ∙ ap (λ (x : ℕ). (fields_of (part c.args.program.now x 16)).word) at.ensures
