use Rattle.std.proofs.Common.{◌≡◌, drop}
use Rattle.ast.specs.File.{precedes}
use Rattle.ast.proofs.texts.precedes.Given as goal

abbrev pub invariant-loop-i : goal.invariant-loop-i
invariant-loop-i l = precedes l.a l.b ≡ precedes (drop l.i l.a) (drop l.i l.b)
