use mathlib.Core.Path.{sym, ◌∙◌}
use Rattle.program.proofs.Programs.{counted}
use Rattle.program.proofs.start_of.Goals as goal

pub returns : goal.returns
returns c = λ p e. c.get_u16.ensures.0 ∙ sym (counted c.args.program.now p e).1
