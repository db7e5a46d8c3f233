-- What is proved of a file that is read as a plain script and lowers: the theorems of walk, from the file's bytes on.
use Rattle.std.specs.Prelude.{ℕ, ◌≤◌, ◌≡◌, false, List, T}
use Rattle.std.proofs.Common.{arith}
use Rattle.tables.specs.Tables.{Program}
use Rattle.ast.specs.Tree.{Stmts}
use Rattle.ast.specs.Plain.{plain}
use Rattle.ast.specs.File.{read_tree, Tree}
use Rattle.ast.specs.laws.Reading.{read_ok}
use Rattle.compiler.specs.Lower.{lower, lowered}
use Rattle.walk.specs.Walk.{walk}
use Rattle.walk.specs.Bound.{longest, bound}
use Rattle.walk.specs.Runs.{Runs, runs}
use Rattle.walk.proofs.laws.ShortArrays.{ok_longest}
use Rattle.walk.proofs.laws.Standing.{Standing, plain_stands}
use Rattle.walk.proofs.laws.Theorems.{plain_runs}
use Rattle.lent.specs.Lists.{sum}
use Rattle.walk.specs.Statements.{Lowers, Served}

module _ (f : List ℕ) {t : Stmts} {p : Program} (read : read_tree f ≡ Tree t) (is_plain : T (plain t)) (lowers : lower t ≡ lowered p) where
  -- a file's array literals have at most 24 items
  pub script_lowers : Lowers t p
  script_lowers = let h : longest t ≤ 24 = ok_longest t 8 false (rw (read_ok f read) tt) in record { is_plain = is_plain; short = omega arith; lowers = lowers }

  -- `plain_stands` of walk: wherever a list of calls stands, the count is at most the bound; where it was given at least the bound as steps, in whatever
  -- portions, names, values, count and the last answer are the walk's
  pub script_stands : {g : ℕ} {u : Runs} → Standing p g u → Served (walk t) (bound t) g u
  script_stands s = plain_stands script_lowers s

  -- `plain_runs` of walk: the same after every list of runs
  pub script_runs : (ns : List ℕ) → Served (walk t) (bound t) (sum ns) (runs p ns)
  script_runs ns = plain_runs script_lowers ns
