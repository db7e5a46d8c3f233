use Rattle.ast.proofs.structure.if_plan.Goals as goal

pub returns : goal.returns
returns c = rw c.saturating_sub-rest.ensures
