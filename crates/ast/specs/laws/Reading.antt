-- A file that is read: its entries and its nodes' bodies are those of the tree, and the tree is within the limits, its numbers finite.
use Rattle.std.specs.Prelude.{◌≡◌, refl, Bool, true, false, List, [], ◌∷◌, ℕ, ◌+◌, ◌*◌, ◌-◌, ◌^◌, ◌≤◌, ◌<◌, T, leb, ltb, eqb, length}
use Rattle.std.proofs.Common.{sym, ap, ◌∙◌, arith, leb→le, lt→ltb, eqb→eq, length-drop, take_all}
use Rattle.lent.specs.Bytes.{Each, AreBytes}
use Rattle.lent.specs.laws.Each.{each_drop}
use Rattle.lent.specs.laws.Parts.{length_part}
use Rattle.ast.specs.Node.{k_program, finite_number, Node, node}
use Rattle.ast.specs.Tree.{Stmts, no_stmts, more_stmts}
use Rattle.ast.specs.Structure.{Parsed, Fails, Takes, ◌>>=◌, many, no_rule, parsers, stmts_ok, all_used, program_rule, parse}
use Rattle.ast.specs.File.{node_count, text_count, contents_size, lengths, entries, node_bodies, bodies_size, nodes, between, counts_ok, kinds_ok, lengths_ok, texts_ok, node_ok, node_finite}
use Rattle.ast.specs.File.{Read, Refused, Tree, require, check_nodes, structured, read_tree}
use Rattle.ast.specs.Flat.{flat, entry_bytes, body_bytes}
use Rattle.ast.specs.Limits.{depth, every, texts_below, numbers_fit, numbers_finite}
use Rattle.ast.specs.laws.Kinds.{by_kind}
use Rattle.ast.specs.laws.Tests.{T-left, T-right, T-both, between_le}
use Rattle.ast.specs.laws.Sound.{Gives, fails, takes, guarded, Good, parse_whole}
use Rattle.ast.specs.laws.Entries.{bodies_of, entries_nodes, bodies_nodes, length_entry_bytes, good_nodes}
use Rattle.lent.specs.Lists.{sum, all}

-- ---- what holds of a tree that is read; the number of a refusal is not 0

pub data Has (P : Stmts → Type 0) : Read → Type 0 where
  refused : {n : ℕ} → 1 ≤ n → Has P (Refused n)
  tree : {t : Stmts} → P t → Has P (Tree t)

had : {P : Stmts → Type 0} {t : Stmts} → Has P (Tree t) → P t
had (tree h) = h

requires : {P : Stmts → Type 0} {r : Read} (b : Bool) (n : ℕ) → 1 ≤ n → (T b → Has P r) → Has P (require b n r)
requires true n h k = k tt
requires false n h k = refused h

nodes_checked : {P : Stmts → Type 0} {r : Read} (t : ℕ) (ns : List Node) → (T (all (node_ok t) ns) → T (all node_finite ns) → Has P r) → Has P (check_nodes t ns r)
nodes_checked t [] k = k tt tt
nodes_checked t (n ∷ ns) k =
    requires (node_ok t n) 5 (omega arith) λ h.
    requires (node_finite n) 39 (omega arith) λ g.
    nodes_checked t ns λ hs gs. k (T-both (node_ok t n) (all (node_ok t) ns) h hs) (T-both (node_finite n) (all node_finite ns) g gs)

has_structured : {P : Stmts → Type 0} {Q : Stmts → List Node → Type 0} {o : Parsed Stmts} → Gives Q o → ((t : Stmts) (ns : List Node) → Q t ns → P t) → Has P (structured o)
has_structured fails k = refused {n = 4} (omega arith)
has_structured (takes {a = t} {ms = ns} h) k = tree (k t ns h)

-- ---- the checks before the structure

pub record Passed (f : List ℕ) : Type 0 where
  pub long : T (leb 3 (length f))
  pub counts : T (counts_ok f)
  pub inside : T (leb (contents_size f) (length f))
  pub kinds : T (kinds_ok f)
  pub short : T (lengths_ok f)
  pub whole : T (eqb (contents_size f + bodies_size f) (length f))
  pub texts : T (texts_ok f)
  pub fields : T (all (node_ok (text_count f)) (nodes f))
  pub numbers : T (all node_finite (nodes f))

read_checked : {P : Stmts → Type 0} (f : List ℕ) → (Passed f → Has P (structured (parse (nodes f)))) → Has P (read_tree f)
unfolding read_tree
read_checked f k =
    requires (leb 3 (length f)) 1 (omega arith) λ h₁.
    requires (counts_ok f) 2 (omega arith) λ h₂.
    requires (leb (contents_size f) (length f)) 1 (omega arith) λ h₃.
    requires (kinds_ok f) 4 (omega arith) λ h₄.
    requires (lengths_ok f) 3 (omega arith) λ h₅.
    requires (eqb (contents_size f + bodies_size f) (length f)) 1 (omega arith) λ h₆.
    requires (texts_ok f) 3 (omega arith) λ h₇.
    nodes_checked (text_count f) (nodes f) λ h₈ h₉.
    k (record { long = h₁; counts = h₂; inside = h₃; kinds = h₄; short = h₅; whole = h₆; texts = h₇; fields = h₈; numbers = h₉ })

structured_has : {P : Stmts → Type 0} (o : Parsed Stmts) → ((t : Stmts) → P t) → Has P (structured o)
structured_has Fails k = refused {n = 4} (omega arith)
structured_has (Takes t ns) k = tree (k t)

pub read_has : (f : List ℕ) → Has (λ t. Passed f) (read_tree f)
read_has f = read_checked f λ c. structured_has (parse (nodes f)) λ t. c

pub read_passed : (f : List ℕ) {t : Stmts} → read_tree f ≡ Tree t → Passed f
read_passed f e = had (rw e at (read_has f))

required : (b : Bool) (n : ℕ) (r : Read) → T b → require b n r ≡ r
required true n r h = refl
required false n r h = absurd h

nodes_pass : (t : ℕ) (ns : List Node) (r : Read) → T (all (node_ok t) ns) → T (all node_finite ns) → check_nodes t ns r ≡ r
nodes_pass t [] r h g = refl
nodes_pass t (n ∷ ns) r h g =
    required (node_ok t n) 5 _ (T-left (node_ok t n) (all (node_ok t) ns) h)
    ∙ required (node_finite n) 39 _ (T-left (node_finite n) (all node_finite ns) g)
    ∙ nodes_pass t ns r (T-right (node_ok t n) (all (node_ok t) ns) h) (T-right (node_finite n) (all node_finite ns) g)

pub passed_read : {f : List ℕ} {t : Stmts} {ns : List Node} → Passed f → parse (nodes f) ≡ Takes t ns → read_tree f ≡ Tree t
unfolding read_tree
passed_read {f} c e =
    required (leb 3 (length f)) 1 _ c.long
    ∙ required (counts_ok f) 2 _ c.counts
    ∙ required (leb (contents_size f) (length f)) 1 _ c.inside
    ∙ required (kinds_ok f) 4 _ c.kinds
    ∙ required (lengths_ok f) 3 _ c.short
    ∙ required (eqb (contents_size f + bodies_size f) (length f)) 1 _ c.whole
    ∙ required (texts_ok f) 3 _ c.texts
    ∙ nodes_pass (text_count f) (nodes f) _ c.fields c.numbers
    ∙ ap structured e

pub record Counts (f : List ℕ) : Type 0 where
  pub some_nodes : 1 ≤ node_count f
  pub few_nodes : node_count f ≤ 1024
  pub some_texts : 1 ≤ text_count f
  pub few_texts : text_count f ≤ 64

pub counted : (f : List ℕ) → T (counts_ok f) → Counts f
counted f h =
    let n = between_le 1 1024 (node_count f) (T-left (between 1 1024 (node_count f)) (between 1 64 (text_count f)) h) in
    let t = between_le 1 64 (text_count f) (T-right (between 1 1024 (node_count f)) (between 1 64 (text_count f)) h) in
    record { some_nodes = n.0; few_nodes = n.1; some_texts = t.0; few_texts = t.1 }

-- ---- the structure's limits

allowed : (o : Parsed Stmts) → Gives (λ t ns. stmts_ok t 8 false ≡ true) (o >>= all_used)
allowed Fails = fails
allowed (Takes t []) = guarded (stmts_ok t 8 false) λ h. takes h
allowed (Takes t (n ∷ ns)) = fails

parse_ok : (ns : List Node) → Gives (λ t ms. stmts_ok t 8 false ≡ true) (parse ns)
parse_ok [] = fails
parse_ok (node k c b ∷ ns) =
    by_kind (λ i o. Gives (λ t ms. stmts_ok t 8 false ≡ true) o) k_program program_rule no_rule k c b ns (allowed (many more_stmts no_stmts (parsers 31).stmt c ns)) (λ e. fails)

-- whatever the file's bytes are
pub read_ok : (f : List ℕ) {t : Stmts} → read_tree f ≡ Tree t → stmts_ok t 8 false ≡ true
read_ok f e = had (rw e at (read_checked f λ c. has_structured (parse_ok (nodes f)) λ t ns h. h))

-- ---- entries, bodies, texts and numbers

pub record Known (p q : ℕ → Bool) (f : List ℕ) (t : Stmts) : Type 0 where
  pub contents : entries f ≡ entry_bytes (flat t)
  pub bodies : node_bodies f ≡ body_bytes (flat t)
  pub count : length (flat t) ≡ node_count f
  pub few : length (flat t) ≤ 1024
  pub within : depth t ≤ 32
  pub holds : T (every p q t)

module _ (p q : ℕ → Bool) (f : List ℕ) (ps : (x : ℕ) → x < text_count f → x < 64 → T (p x)) (qs : (v : ℕ) → v < 2 ^ 64 → T (finite_number v) → T (q v)) (a : AreBytes f) where
  known : Passed f → Has (Known p q f) (structured (parse (nodes f)))
  known x =
      let l : contents_size f ≤ length f = leb→le (contents_size f) (length f) x.inside in
      let w : contents_size f + bodies_size f ≡ length f = eqb→eq (contents_size f + bodies_size f) (length f) x.whole in
      let n = counted f x.counts in
      let m : length (entries f) ≡ 2 * node_count f = length_part f (3 + text_count f) (2 * node_count f) l in
      let b : length (node_bodies f) ≡ length f - (contents_size f + sum (lengths f)) = length-drop (contents_size f + sum (lengths f)) f in
      let g : Each (Good p q) (nodes f) = good_nodes p q (text_count f) (λ x h. ps x h (omega arith)) qs (entries f) (node_bodies f) (each_drop (contents_size f + sum (lengths f)) a) (omega arith) x.fields x.numbers in
      has_structured (parse_whole p q (nodes f) g) λ t ns h.
      let c : entries f ≡ entry_bytes (flat t) = sym (entries_nodes (node_count f) (entries f) (node_bodies f) m x.kinds) ∙ ap entry_bytes h.spelt in
      let k = length_entry_bytes (flat t) in
      let i = ap length c in
      record {
        contents = c;
        bodies = sym (bodies_nodes (node_count f) (entries f) (node_bodies f) m ∙ take_all (bodies_of (entries f)) (node_bodies f) (omega arith)) ∙ ap body_bytes h.spelt;
        count = omega arith;
        few = omega arith;
        within = h.within;
        holds = h.holds;
      }

  pub read_known : {t : Stmts} → read_tree f ≡ Tree t → Known p q f t
  read_known e = had (rw e at (read_checked f known))

-- ---- the laws

module _ {f : List ℕ} {t : Stmts} (a : AreBytes f) (e : read_tree f ≡ Tree t) where
  known_texts : (n : ℕ) → ((x : ℕ) → x < text_count f → x < 64 → x < n) → Known (λ x. ltb x n) (λ v. true) f t
  known_texts n h = read_known (λ x. ltb x n) (λ v. true) f (λ x i j. lt→ltb x n (h x i j)) (λ v i j. tt) a e

  -- the contents' entries and the nodes' bodies are the tree's
  pub read_flat : (entries f ≡ entry_bytes (flat t)) × (node_bodies f ≡ body_bytes (flat t))
  read_flat = let k = known_texts 64 (λ x i j. j) in (k.contents, k.bodies)

  -- every text number is below the text count, and below 64
  pub read_texts : T (texts_below (text_count f) t)
  read_texts = (known_texts (text_count f) (λ x i j. i)).holds

  pub read_names : T (texts_below 64 t)
  read_names = (known_texts 64 (λ x i j. j)).holds

  -- every number has 8 bytes
  pub read_numbers : T (numbers_fit t)
  read_numbers = (read_known (λ x. true) (λ v. ltb v (2 ^ 64)) f (λ x i j. tt) (λ v i j. lt→ltb v (2 ^ 64) i) a e).holds

  -- and is finite: document 02, M-104
  pub read_finite : T (numbers_finite t)
  read_finite = (read_known (λ x. true) finite_number f (λ x i j. tt) (λ v i j. j) a e).holds

  pub read_limits : (length (flat t) ≤ 1024) × (depth t ≤ 32) × (stmts_ok t 8 false ≡ true)
  read_limits = let k = known_texts 64 (λ x i j. j) in (k.few, k.within, read_ok f e)
