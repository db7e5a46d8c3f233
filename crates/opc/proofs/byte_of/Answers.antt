-- `opc::byte_of` meets its contract.
use mathlib.Core.Path.{sym, ap, ◌∙◌}
use Prim.Native.Nat.{ℕ}
use lib.ListN.{get_or}
use Rattle.lent.specs.Bytes.{part}
use Rattle.lent.specs.laws.Parts.{get_d_part}
use Rattle.opc.proofs.byte_of.Goals as goal

pub returns : goal.returns
returns c =
    let at = c.place in
    sym (get_d_part c.args.program.now at.result 16 c.args.k 0 c.requires.1) ∙ ap (λ (x : ℕ). get_or (part c.args.program.now x 16) c.args.k 0) at.ensures
