-- Demand 3's bound of a file: of the plain script that it holds. Definitions only.
use Rattle.std.specs.Prelude.{ℕ, cond}
use Rattle.ast.specs.Plain.{plain}
use Rattle.ast.specs.File.{Read, Refused, Tree}
use Rattle.walk.specs.Bound.{bound}

-- 0 where the file is refused or its script is not plain
abbrev pub bound_of : Read → ℕ
bound_of (Refused n) = 0
bound_of (Tree t) = cond (plain t) (bound t) 0
