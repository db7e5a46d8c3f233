use Rattle.std.proofs.Common.{◌≡◌, ◌+◌, ◌*◌, get_or, sym, ◌∙◌, arith}
use Rattle.records.specs.inner.Fits.{span_fits}
use Rattle.records.proofs.Places.{byte_of, word_of}
use Rattle.opc.specs.inner.Fetch.{record_at}
use Rattle.records.proofs.entries.Goals as goal
use Rattle.records.proofs.entries.Goals.{After-span_ok, Start, else-span_ok-via-then-span_ok+else-entries_ok, else-span_ok-via-else-span_ok}

-- how many entries the record has
len : (s : Start) → let a = s.args in get_or a.program.now (16 * a.i + 7) 0 ≡ (record_at a.program.now a.i).len
len s = byte_of s.args.program.now (16 * s.args.i) 7 (omega arith)

-- whether they may stand there
span : (k : After-span_ok) → let a = k.args in let f = record_at a.program.now a.i in span_fits a.most f.len f.word a.next ≡ k.span_ok.result
span k = let a = k.args in rw (← byte_of a.program.now (16 * a.i) 7 (omega arith), ← (k.get_u64-start.ensures ∙ word_of a.program.now (16 * a.i) 8 8 (omega arith))) (sym k.span_ok.ensures)

pub returns-then-entries_ok : goal.returns-then-entries_ok
returns-then-entries_ok c =
    let k = goal.at.returns-then-entries_ok c in
    rw (span k.After-span_ok ∙ c.if-span_ok.true, ← len k.Start, ← c.entries_ok.ensures, c.if-entries_ok.true)

pub returns : goal.returns
returns c =
    let k = goal.at.returns c in
    elim c.else-span_ok.branch [
      | else-span_ok-via-then-span_ok+else-entries_ok w ↦ rw (span k.After-span_ok ∙ w.if-span_ok.true, ← len k.Start, ← w.entries_ok.ensures, w.if-entries_ok.false)
      | else-span_ok-via-else-span_ok w ↦ rw (span k.After-span_ok ∙ w.if-span_ok.false)
    ]
