use Rattle.ast.proofs.plain.allowed.Goals as goal

pub returns : goal.returns
returns c = rw (c.absent.ensures, c.holds_truth.ensures)
