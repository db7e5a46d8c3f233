-- The file of a tree: document 01, "The tree file", its first paragraph and the table's columns "Kind" and "Body". Texts and a tree as bytes, the other
-- direction of `read_tree` (File.antt), and the limits within which there is such a file. Definitions only.
use Rattle.std.specs.Prelude.{ℕ, ◌≤◌, ◌≡◌, Bool, false, true, List, ◌∷◌, ◌++◌, map, T, leb, ltb, length}
use Rattle.lent.specs.Bytes.{be_bytes, concat}
use Rattle.ast.specs.Node.{Node, node}
use Rattle.ast.specs.Tree.{Stmts}
use Rattle.ast.specs.Structure.{stmts_ok}
use Rattle.ast.specs.File.{between, ordered}
use Rattle.ast.specs.Flat.{flat, entry_bytes, body_bytes}
use Rattle.ast.specs.Limits.{depth, texts_below, numbers_fit, numbers_finite}
use Rattle.lent.specs.Lists.{all}

-- "2 bytes node count, 1 byte text count, a length byte per text, then kind byte and child-count byte per node, in preorder. Then the bodies: texts, then nodes."
abbrev pub file_of : List (List ℕ) → Stmts → List ℕ
file_of texts t =
    be_bytes 2 (length (flat t)) ++ (length texts ∷
    (map length texts ++
    (entry_bytes (flat t) ++
    (concat texts ++
    body_bytes (flat t)))))

-- texts that a file may have; at least one, since text 0 is `fortmp` (`ordered`)
pub record TextsFit (texts : List (List ℕ)) : Type 0 where
  pub few : length texts ≤ 64
  pub short : T (all (λ s. leb (length s) 40) texts)
  pub printable : T (all (all (between 32 126)) texts)
  pub in_order : T (ordered texts)

-- a child count is one byte
abbrev pub children_byte : Node → Bool
children_byte (node k c b) = ltb c 256

-- a tree that a file of n texts may have
pub record TreeFits (n : ℕ) (t : Stmts) : Type 0 where
  pub nodes : length (flat t) ≤ 1024
  pub levels : depth t ≤ 32
  pub structure : stmts_ok t 8 false ≡ true
  pub names : T (texts_below n t)
  pub numbers : T (numbers_fit t)
  pub finite : T (numbers_finite t)
  pub children : T (all children_byte (flat t))
