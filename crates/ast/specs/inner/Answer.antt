-- The number that a file is answered with: document 01, "Numbers given for the input", and document 02, M-104; or 0 where it holds a tree. Definitions only.
use Rattle.std.specs.Prelude.{ℕ, ◌+◌, Bool, true, false, ◌&&◌, List, [], ◌∷◌, map, leb, eqb, length, drop}
use Rattle.ast.specs.Node.{kind_of, body, body_size, Node}
use Rattle.ast.specs.Tree.{Stmts}
use Rattle.ast.specs.Structure.{Parsed, Fails, Takes, parse}
use Rattle.ast.specs.File.{Read, Refused, Tree, between, firsts, cut, ordered, nodes_from, node_ok, node_finite}
use Rattle.ast.specs.inner.Pass.{Remaining, wrong, left}
use Rattle.lent.specs.Lists.{sum, all}

abbrev pub answer_of : Read → ℕ
answer_of (Refused n) = n
answer_of (Tree t) = 0

-- whether there is a tree
abbrev pub parsed : Parsed Stmts → Bool
parsed Fails = false
parsed (Takes t ns) = true

-- whether all nodes are used
abbrev pub all_used_up : Remaining → Bool
all_used_up wrong = false
all_used_up (left []) = true
all_used_up (left (n ∷ ns)) = false

-- ---- the checks after the contents, over the parts of the file: text count, text lengths, entries, bodies

abbrev pub or_else : Bool → ℕ → ℕ → ℕ
or_else true n r = r
or_else false n r = n

-- the first fault of the nodes' bodies in node order, 5 before 39 at one node, or r
abbrev pub fault_or : ℕ → List Node → ℕ → ℕ
fault_or t [] r = r
fault_or t (n ∷ ns) r = or_else (node_ok t n) 5 (or_else (node_finite n) 39 (fault_or t ns r))

abbrev pub bodies_answer : ℕ → List ℕ → List ℕ → List ℕ → ℕ
bodies_answer t ls es bs =
    or_else (all (all (between 32 126)) (cut ls bs) && ordered (cut ls bs)) 3
    (fault_or t (nodes_from es (drop (sum ls) bs))
    (or_else (parsed (parse (nodes_from es (drop (sum ls) bs)))) 4
    0))

abbrev pub parts_answer : ℕ → List ℕ → List ℕ → List ℕ → ℕ
parts_answer t ls es bs =
    or_else (all (between 1 23) (firsts es)) 4
    (or_else (all (λ n. leb n 40) ls) 3
    (or_else (eqb (sum ls + sum (map (λ k. body_size (body (kind_of k))) (firsts es))) (length bs)) 1
    (bodies_answer t ls es bs)))
