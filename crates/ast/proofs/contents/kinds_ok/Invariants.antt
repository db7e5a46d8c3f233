use Rattle.std.proofs.Common.{◌≡◌, ◌&&◌, drop}
use Rattle.ast.specs.File.{between, firsts}
use Rattle.lent.specs.Lists.{all}
use Rattle.ast.proofs.contents.kinds_ok.Given as goal

abbrev pub invariant-loop-i : goal.invariant-loop-i
invariant-loop-i l = all (between 1 23) (firsts l.entries) ≡ (l.ok && all (between 1 23) (firsts (drop l.i l.entries)))
