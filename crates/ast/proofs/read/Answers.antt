use mathlib.Core.Path.{ap}
use mathlib.Core.Bool.{not}
use Rattle.ast.proofs.Order.{counts, too_short, wrong_counts, cut_off, slices, lengths_size, entries_size}
use native.Mathlib.Omega.{arith}
use borrow.Author.Tests.{not-true, not-false}
use mathlib.Core.Path.{sym, ◌∙◌}
use Rattle.ast.proofs.read.Goals as goal

pub returns-then-file-lt-FILE_LENGTHS : goal.returns-then-file-lt-FILE_LENGTHS
returns-then-file-lt-FILE_LENGTHS c = too_short c.args.file.now c.if-file-lt-FILE_LENGTHS.true

pub returns-then-not-counts_ok : goal.returns-then-not-counts_ok
returns-then-not-counts_ok c = wrong_counts c.args.file.now c.if-file-lt-FILE_LENGTHS.false (sym c.counts_ok.ensures ∙ not-true c.counts_ok.result (ap not c.if-not-counts_ok.true))

pub returns-then-file-size : goal.returns-then-file-size
returns-then-file-size c =
    cut_off c.args.file.now c.if-file-lt-FILE_LENGTHS.false (sym c.counts_ok.ensures ∙ not-false c.counts_ok.result (ap not c.if-not-counts_ok.false))
    (rw (c.text_count-count.ensures.0, c.node_count-nodes.ensures.0) at c.if-file-size.true)

pub read_parts-requires : goal.read_parts-requires
read_parts-requires c =
    let k = counts c.args.file.now (sym c.counts_ok.ensures ∙ not-false c.counts_ok.result (ap not c.if-not-counts_ok.false)) in
    let t = c.text_count-count.ensures.0 in
    let n = c.node_count-nodes.ensures.0 in
    let x = lengths_size c.args.file.now t n c.if-file-size.false in
    let y = entries_size c.args.file.now t n c.if-file-size.false in
    (omega (arith, k.few_texts), omega (arith, k.some_texts), omega (arith, k.few_texts), omega (arith, k.few_nodes), y)

pub returns : goal.returns
returns c =
    slices c.args.file.now c.text_count-count.ensures.0 c.node_count-nodes.ensures.0 c.if-file-size.false c.if-file-lt-FILE_LENGTHS.false
    (sym c.counts_ok.ensures ∙ not-false c.counts_ok.result (ap not c.if-not-counts_ok.false)) c.read_parts.ensures
