use Rattle.ast.proofs.Table.{sized, unknown_size}
use native.Mathlib.Omega.{arith}
use mathlib.Core.Path.{sym}
use Rattle.ast.proofs.bodies.size.Goals as goal

pub returns-then-k-ge24 : goal.returns-then-k-ge24
returns-then-k-ge24 c = (sym (unknown_size c.args.kind c.if-k-ge24.true), omega arith)

pub overflow_cast-result : goal.overflow_cast-result
overflow_cast-result c = omega (arith, (sized c.args.kind (omega arith)).1)

pub returns : goal.returns
returns c = sized c.args.kind (omega arith)
