-- The tree file: document 01, "The tree file", and the refusals 1 to 5 in the order of "Lowering checks in this order", with document 02's 39 (M-104).
-- Definitions only.
use Rattle.std.specs.Prelude.{ℕ, ◌+◌, ◌*◌, Bool, true, false, not, ◌&&◌, ◌||◌, List, [], ◌∷◌, map, leb, ltb, eqb, length, get_or, take, drop}
use Rattle.lent.specs.Bytes.{be_value, part, same_bytes}
use Rattle.ast.specs.Tree.{Stmts}
use Rattle.ast.specs.Node.{kind_of, Body, nothing, elifs, texts, operator, number64, body, body_size, finite_number, Node, node}
use Rattle.ast.specs.Structure.{Parsed, Fails, Takes, parse}
use Rattle.lent.specs.Lists.{all, sum}
use Rattle.lent.specs.Refusals.{file_cut, file_counts, file_texts, file_structure, file_numbers, number_not_finite}

-- ---- the contents: node count, text count, a length per text, kind and child count per node

abbrev pub node_count : List ℕ → ℕ
node_count f = be_value (part f 0 2)

abbrev pub text_count : List ℕ → ℕ
text_count f = get_or f 2 0

abbrev pub contents_size : List ℕ → ℕ
contents_size f = 3 + text_count f + 2 * node_count f

abbrev pub lengths : List ℕ → List ℕ
lengths f = part f 3 (text_count f)

abbrev pub entries : List ℕ → List ℕ
entries f = part f (3 + text_count f) (2 * node_count f)

-- every other byte: the kinds, where they come first
abbrev pub firsts : List ℕ → List ℕ
firsts [] = []
firsts (k ∷ []) = k ∷ []
firsts (k ∷ (c ∷ es)) = k ∷ firsts es

-- ---- the bodies: the texts', then the nodes'

abbrev pub node_bodies : List ℕ → List ℕ
node_bodies f = drop (contents_size f + sum (lengths f)) f

abbrev pub bodies_size : List ℕ → ℕ
bodies_size f = sum (lengths f) + sum (map (λ k. body_size (body (kind_of k))) (firsts (entries f)))

-- lists of the lengths ns, cut from bytes
abbrev pub cut : List ℕ → List ℕ → List (List ℕ)
cut [] bs = []
cut (n ∷ ns) bs = take n bs ∷ cut ns (drop n bs)

abbrev pub text_list : List ℕ → List (List ℕ)
text_list f = cut (lengths f) (drop (contents_size f) f)

-- entries with their bodies
abbrev pub nodes_from : List ℕ → List ℕ → List Node
nodes_from [] bs = []
nodes_from (k ∷ []) bs = []
nodes_from (k ∷ (c ∷ es)) bs = node (kind_of k) c (take (body_size (body (kind_of k))) bs) ∷ nodes_from es (drop (body_size (body (kind_of k))) bs)

abbrev pub nodes : List ℕ → List Node
nodes f = nodes_from (entries f) (node_bodies f)

-- ---- tests

abbrev pub between : ℕ → ℕ → ℕ → Bool
between a b n = leb a n && leb n b

-- 2: "node count outside 1 to 1,024 or text count outside 1 to 64"
abbrev pub counts_ok : List ℕ → Bool
counts_ok f = between 1 1024 (node_count f) && between 1 64 (text_count f)

-- 4: "unknown kind"
abbrev pub kinds_ok : List ℕ → Bool
kinds_ok f = all (between 1 23) (firsts (entries f))

-- 3: "a text over 40 bytes"
abbrev pub lengths_ok : List ℕ → Bool
lengths_ok f = all (λ n. leb n 40) (lengths f)

-- 3: "with a byte outside 32 to 126, out of order, text 0 not `fortmp`, or a later text equal to it"
abbrev pub fortmp : List ℕ
fortmp = 102 ∷ (111 ∷ (114 ∷ (116 ∷ (109 ∷ (112 ∷ [])))))

-- "ascend strictly by bytes"
abbrev pub precedes : List ℕ → List ℕ → Bool
precedes [] [] = false
precedes [] (y ∷ b) = true
precedes (x ∷ a) [] = false
precedes (x ∷ a) (y ∷ b) = ltb x y || (eqb x y && precedes a b)

abbrev pub ascending : List (List ℕ) → Bool
ascending [] = true
ascending (a ∷ []) = true
ascending (a ∷ (b ∷ l)) = precedes a b && ascending (b ∷ l)

abbrev pub ordered : List (List ℕ) → Bool
ordered [] = false
ordered (t ∷ ts) = same_bytes t fortmp && (all (λ s. not (same_bytes s fortmp)) ts && ascending ts)

abbrev pub texts_ok : List ℕ → Bool
texts_ok f = all (all (between 32 126)) (text_list f) && ordered (text_list f)

-- 5: "a text number not below the text count, or an unknown operator", t the text count
abbrev pub field_ok : ℕ → Body → List ℕ → Bool
field_ok t nothing b = true
field_ok t elifs b = true
field_ok t (texts n) b = all (λ x. ltb x t) b
field_ok t (operator n) b = all (between 1 n) b
field_ok t number64 b = true

abbrev pub node_ok : ℕ → Node → Bool
node_ok t (node k c b) = field_ok t (body k) b

-- 39: document 02, M-104, "A Num body that is NaN or infinite"
abbrev pub body_finite : Body → List ℕ → Bool
body_finite nothing b = true
body_finite elifs b = true
body_finite (texts n) b = true
body_finite (operator n) b = true
body_finite number64 b = finite_number (be_value b)

abbrev pub node_finite : Node → Bool
node_finite (node k c b) = body_finite (body k) b

-- ---- reading

pub data Read : Type 0 where
  Refused : ℕ → Read
  Tree : Stmts → Read

abbrev pub require : Bool → ℕ → Read → Read
require true n r = r
require false n r = Refused n

-- 5 and 39, node by node: document 02, M-104, "39, checked with 5, in node order, the lower number first at one node"; t is the text count, r what the checks
-- behind them give
abbrev pub check_nodes : ℕ → List Node → Read → Read
check_nodes t [] r = r
check_nodes t (n ∷ ns) r = require (node_ok t n) file_numbers (require (node_finite n) number_not_finite (check_nodes t ns r))

abbrev pub structured : Parsed Stmts → Read
structured Fails = Refused file_structure
structured (Takes t ns) = Tree t

-- "1 (under 3 bytes); 2; 1 (contents); 4 (unknown kind); 3 (length); 1 (bodies); 3; 5; 4", 39 with 5
unfoldable pub read_tree : List ℕ → Read
read_tree f =
    require (leb 3 (length f)) file_cut
    (require (counts_ok f) file_counts
    (require (leb (contents_size f) (length f)) file_cut
    (require (kinds_ok f) file_structure
    (require (lengths_ok f) file_texts
    (require (eqb (contents_size f + bodies_size f) (length f)) file_cut
    (require (texts_ok f) file_texts
    (check_nodes (text_count f) (nodes f)
    (structured (parse (nodes f))))))))))
