-- The listing: document 01, "The listing program". From a file's bytes to the text's bytes; a program's lines are in ProgramText, the end of a run
-- and its names in Ending. Definitions only.
use Rattle.std.specs.Prelude.{ℕ, Bool, true, false, List, [], ◌∷◌, ◌++◌}
use Rattle.ast.specs.Tree.{Stmts}
use Rattle.ast.specs.Plain.{plain}
use Rattle.ast.specs.File.{read_tree, Read, Refused, Tree}
use Rattle.compiler.specs.Lower.{lower, Lowered, refused, lowered}
use Rattle.vm.specs.Machine.{started, run}
use Rattle.walk.specs.Bound.{bound}
use Rattle.text.specs.Text.{ascii, words, line_of}
use Rattle.listing_text.specs.ProgramText.{program_text}
use Rattle.listing_text.specs.Ending.{ran_text}

-- "demand 3's bound, or `none` if not plain"
abbrev pub bound_line : Bool → ℕ → List ℕ
bound_line true n = line_of (words "bound" (n ∷ []))
bound_line false n = line_of (ascii "bound" ∷ (ascii "none" ∷ []))

-- "a refused file prints `refused n` alone"
abbrev pub refused_text : ℕ → List ℕ
refused_text n = line_of (words "refused" (n ∷ []))

abbrev pub lowered_text : Stmts → Lowered → List ℕ
lowered_text t (refused n) = refused_text n
lowered_text t (lowered p) = program_text p ++ (bound_line (plain t) (bound t) ++ ran_text p (run p 100000 (started p)))

abbrev pub read_text : Read → List ℕ
read_text (Refused n) = refused_text n
read_text (Tree t) = lowered_text t (lower t)

-- "It reads a tree file from standard input, runs 100,000 steps, and prints."
unfoldable pub listing : List ℕ → List ℕ
listing f = read_text (read_tree f)
