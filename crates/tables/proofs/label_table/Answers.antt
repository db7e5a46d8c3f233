use native.Mathlib.Omega.{arith}
use Rattle.tables.specs.laws.EntryLaws.{first, first_length, labels_begun, labels_whole, labels_none}
use Rattle.tables.proofs.label_table.Goals as goal
use Rattle.tables.proofs.label_table.Goals.{Start}

pub labels-requires : goal.labels-requires
labels-requires c =
    let e = c.put_u16.ensures in
    let b = c.args.program.now in
    let h = c.requires in record { in_bounds = (omega (arith, first_length b _ h.in_bounds.0 e, h.in_bounds.0), h.in_bounds.1); by_index = (h.records.0, first, labels_begun b _ h.in_bounds.0 e h.records.0 c.args.n h.in_bounds.1 h.in_bounds.2 h.records.1) }

pub returns-then-n-gt0 : goal.returns-then-n-gt0
returns-then-n-gt0 c cs r =
    let e = c.put_u16.ensures in
    let b = c.args.program.now in
    let h = c.requires in
    labels_whole b _ h.in_bounds.0 e cs c.args.n c.get_u16-first.result _ c.if-n-gt0.true r c.get_u16-first.ensures.0
    (c.labels.ensures cs first (labels_begun b _ h.in_bounds.0 e cs c.args.n h.in_bounds.1 h.in_bounds.2 r))

pub returns : goal.returns
returns c cs r =
    let s = (goal.at.returns c).Start in
    labels_none cs s.args.n s.args.program.now (omega (arith, c.if-n-gt0.false)) s.requires.in_bounds.0 s.requires.in_bounds.2 r
