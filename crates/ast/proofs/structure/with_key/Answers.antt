use Rattle.ast.proofs.structure.with_key.Goals as goal

pub returns : goal.returns
returns c = rw c.bit.ensures
