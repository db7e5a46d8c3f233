use Rattle.std.proofs.Common.{◌≡◌, true, leb, sym, ◌∙◌, arith}
use Rattle.lent.specs.laws.Each.{bytes_of}
use Rattle.sifv.specs.laws.Layout.{and_right}
use Rattle.records.specs.inner.Fits.{all_from, record_ok}
use Rattle.records.proofs.Scan.{scan_at}
use Rattle.program.specs.inner.Marked.{few_label}
use Rattle.program.proofs.Marks.{label_small}
use Rattle.program.proofs.Stored.{few_small, few_table}
use Rattle.program.proofs.labels_ok.Goals as goal
use Rattle.program.proofs.labels_ok.Goals.{Then-has_few}

few : (s : Then-has_few) → all_from s.args.n 0 (few_label s.args.program.now) ≡ true
few s = and_right (leb s.args.n 128) (all_from s.args.n 0 (few_label s.args.program.now)) (sym s.has_few.ensures ∙ s.if-has_few.true)

pub labels_agree-requires : goal.labels_agree-requires
labels_agree-requires c = (omega arith, omega arith, λ i h. few_small c.args.program.now c.args.n (few (goal.at.labels_agree-requires c).Then-has_few) i h, omega arith, omega arith)

pub returns-then-has_few : goal.returns-then-has_few
returns-then-has_few c =
    let a = c.args in
    let b = a.program.now in
    few_table b a.n (few (goal.at.returns-then-has_few c).Then-has_few) (bytes_of b (λ i. omega (arith, c.type_inv.program i))) c.requires.0 c.labels_agree.ensures c.all_zero.ensures

pub labels_agree-requires-2 : goal.labels_agree-requires-2
labels_agree-requires-2 c =
    let b = c.args.program.now in
    (omega arith, omega arith, λ i h. omega (arith, label_small b i (scan_at (record_ok b) c.args.n 0 c.requires.2 i (omega arith) (omega arith))), omega arith, omega arith)
