use Rattle.ast.proofs.Agree.{no_first}
use native.Mathlib.Omega.{arith}
use Rattle.ast.proofs.structure.first_byte.Goals as goal

pub returns-then-bodies-eq0 : goal.returns-then-bodies-eq0
returns-then-bodies-eq0 c = (no_first c.args.bodies.now c.if-bodies-eq0.true, omega arith)
