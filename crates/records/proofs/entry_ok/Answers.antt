use Rattle.std.proofs.Common.{refl, ◌+◌, ◌*◌, arith}
use Rattle.records.proofs.Whole.{entry_read}
use Rattle.records.proofs.entry_ok.Goals as goal

pub returns : goal.returns
returns c =
    let a = c.args in
    entry_read a.program.now (λ i. omega (arith, c.type_inv.program i)) (16384 + 16 * a.k) (omega arith) a.least a.most c.eight_at.ensures refl c.single_mask.ensures
