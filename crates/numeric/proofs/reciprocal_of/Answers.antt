-- `numeric::reciprocal_of` meets its contract.
use Rattle.numeric.proofs.Products.{reciprocal}
use Rattle.numeric.proofs.reciprocal_of.Goals as goal

pub returns : goal.returns
returns c = reciprocal c.args.n c.requires.0 c.requires.1
