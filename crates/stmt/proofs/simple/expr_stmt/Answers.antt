use Rattle.stmt.specs.laws.Simple.{expr_stmt_reads, expr_stmt_front}
use Rattle.stmt.proofs.simple.expr_stmt.Goals as goal

pub expr_at-requires : goal.expr_at-requires
expr_at-requires c =
    expr_stmt_reads c.args.lbl c.start-p.ensures c.requires.contents_value c.requires.reads

pub returns : goal.returns
returns c =
    expr_stmt_front c.args.lbl c.start-p.ensures c.requires.contents_value c.expr_at.ensures
