-- `compile`: what it asks of a tree and of a buffer, and what it gives. Definitions only.
use Rattle.std.specs.Prelude.{ℕ, ◌≤◌, ◌≡◌, true, false, List, ◌++◌, T, length, drop}
use Rattle.lent.specs.Bytes.{be_bytes, splice}
use Rattle.opc.specs.Op.{Code}
use Rattle.ast.specs.Tree.{Stmts}
use Rattle.ast.specs.Flat.{flat, entry_bytes, body_bytes}
use Rattle.ast.specs.Limits.{numbers_fit}
use Rattle.tables.specs.ProgramBytes.{label_bytes, function_bytes, encode_program}
use Rattle.compiler.specs.Lower.{lower_tree, refusal, program_of}
use Rattle.compiler.specs.Within.{StmtsIn}
use Rattle.emit.specs.declared.Low.{Low}
use Rattle.lent.specs.Lists.{zeros}

-- the entries and the bodies are those of the tree t
pub record Spelt (t : Stmts) (entries bodies : List ℕ) : Type 0 where
  pub within : StmtsIn t
  pub few : length (flat t) ≤ 1024
  pub contents : entries ≡ entry_bytes (flat t)
  pub parts : bodies ≡ body_bytes (flat t)
  pub numbers : T (numbers_fit t)

-- a buffer of zeros, and what lies behind
pub record Cleared (rest b : List ℕ) : Type 0 where
  pub zero : b ≡ zeros 40960 ++ rest

-- the number of the refusal, or 0 and the program; what lies behind is untouched
pub record Compiled (t : Stmts) (rest : List ℕ) (r : ℕ) (b : List ℕ) : Type 0 where
  pub number : r ≡ refusal (lower_tree t) 0 0
  pub made : r ≡ 0 → b ≡ encode_program (program_of (lower_tree t)) ++ rest
  pub behind : drop 40960 b ≡ rest
  pub long : 40960 ≤ length b

-- the states that the passes start from: the second behind the records and items of the first
abbrev pub first_pass : Low
first_pass = record { reg = 0; count = 0; recs = 0; items = 0; refused = 0; decls = true }

abbrev pub second_pass : Low → Low
second_pass d = record { reg = 0; count = 0; recs = d.recs; items = d.items; refused = 0; decls = false }

-- and of the pass that writes the code alone
abbrev pub one_pass : Low
one_pass = record { reg = 0; count = 0; recs = 0; items = 0; refused = 0; decls = false }

-- the tables of the code c, its count n and the code start s, written to b
abbrev pub finished : Code → ℕ → ℕ → List ℕ → List ℕ
finished c n s b = splice (splice (splice (splice b 32768 (label_bytes c)) 34816 (function_bytes c)) 34944 (be_bytes 2 n)) 34946 (be_bytes 2 s)
