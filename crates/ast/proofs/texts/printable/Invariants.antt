use Rattle.std.proofs.Common.{◌≡◌, ◌&&◌, drop}
use Rattle.ast.specs.File.{between}
use Rattle.lent.specs.Lists.{all}
use Rattle.ast.proofs.texts.printable.Given as goal

abbrev pub invariant-loop-byte : goal.invariant-loop-byte
invariant-loop-byte l = all (between 32 126) l.texts ≡ (l.ok && all (between 32 126) (drop l.byte-index l.texts))
