use Rattle.ast.proofs.contents.counts_ok.Goals as goal

pub returns : goal.returns
returns c = rw (c.within-2.ensures, c.within.ensures, c.node_count.ensures.0, c.text_count.ensures.0)
