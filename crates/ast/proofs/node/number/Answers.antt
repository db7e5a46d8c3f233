use Rattle.ast.proofs.node.number.Goals as goal

pub returns : goal.returns
returns c = rw (← c.get_u64.ensures) c.from_bits.ensures
