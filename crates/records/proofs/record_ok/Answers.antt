use Rattle.std.proofs.Common.{refl, ◌*◌, arith}
use Rattle.records.proofs.Whole.{record_fits_lem}
use Rattle.records.proofs.record_ok.Goals as goal

pub returns : goal.returns
returns c =
    let a = c.args in
    record_fits_lem a.program.now (λ i. omega (arith, c.type_inv.program i)) (16 * a.i) (omega arith) c.limits-m.ensures c.eight_at-h.ensures c.eight_at-w.ensures refl c.literal_ok.ensures
