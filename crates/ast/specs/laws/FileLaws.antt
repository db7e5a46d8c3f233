-- Files and trees: texts and a tree within the limits have a file that is read as that tree, and a file of bytes that is read is the one of its texts and
-- its tree. So reading and writing are inverse.
use Rattle.std.specs.Prelude.{◌≡◌, refl, Bool, true, false, List, [], ◌∷◌, ◌++◌, map, ℕ, zero, suc, ◌+◌, ◌*◌, ◌%◌, ◌^◌, ◌≤◌, ◌<◌, T, leb, ltb, length, take, drop}
use Rattle.std.proofs.Common.{sym, ap, ap₂, ◌∙◌, subst, append_assoc, append-nil, arith, leb→le, le→leb, ltb→lt, lt→ltb, eqb→eq, take-append-drop, length-append, length-drop, take_at, drop_at, take-add, drop-drop, drop-cons, length-take-le}
use Rattle.std.proofs.Math.Dec.{eqb_refl}
use Rattle.std.specs.Float.Ieee.{of_bits}
use Rattle.std.proofs.Math.Pow.{mod-mod-pow}
use Rattle.std.proofs.lemmas.List.{length-map}
use Rattle.lent.specs.Bytes.{be_value, be_bytes, part, concat, Each, none, more, AreBytes}
use Rattle.lent.specs.laws.Each.{each_append, each_part}
use Rattle.lent.specs.laws.Numbers.{be_bytes_bytes, be_value_be_bytes, be_value_be_bytes_mod, be_bytes_be_value}
use Rattle.lent.specs.laws.Parts.{length_part}
use Rattle.numeric.specs.laws.PatternLaws.{finite_pattern}
use Rattle.ast.specs.Node.{number_of, Body, body, finite_number, Node, node}
use Rattle.ast.specs.Tree.{Plus, Val, Literal, Name, BinaryExpr, Expression, VarInit, Stmts, no_stmts, more_stmts}
use Rattle.ast.specs.Structure.{parse}
use Rattle.ast.specs.File.{node_count, text_count, contents_size, lengths, entries, node_bodies, bodies_size, cut, text_list, nodes, between, fortmp, ordered, field_ok, node_ok, body_finite, node_finite, Tree, read_tree}
use Rattle.ast.specs.Flat.{flat, entry_bytes, body_bytes}
use Rattle.ast.specs.Limits.{depth, texts_below, numbers_fit, numbers_finite}
use Rattle.ast.specs.TreeFile.{file_of, TextsFit, children_byte, TreeFits}
use Rattle.ast.specs.laws.Kinds.{kind_number}
use Rattle.ast.specs.laws.Tests.{T-left, T-right, T-both, between_le, le_between, all_each, all_map}
use Rattle.ast.specs.laws.Sound.{Texts, done, text}
use Rattle.ast.specs.laws.Complete.{flat_parse}
use Rattle.ast.specs.laws.Entries.{Made, made_nothing, made_elifs, made_texts, made_operator, made_number, MadeNode, flat_made, nodes_bytes, length_body_bytes, length_entry_bytes, kinds_entry_bytes}
use Rattle.ast.specs.laws.Reading.{Passed, read_passed, passed_read, counted, read_ok, Known, read_known, read_texts, read_numbers, read_finite}
use Rattle.lent.specs.Lists.{sum, all}

-- ---- texts: cut from their bytes, and joined again

pub cut_concat : (texts : List (List ℕ)) (rest : List ℕ) → cut (map length texts) (concat texts ++ rest) ≡ texts
cut_concat [] rest = refl
cut_concat (s ∷ l) rest =
    rw (append_assoc s (concat l) rest, take_at s (concat l ++ rest) (length s) refl, drop_at s (concat l ++ rest) (length s) refl, cut_concat l rest)

pub concat_cut : (ns bs : List ℕ) → concat (cut ns bs) ≡ take (sum ns) bs
concat_cut [] bs = refl
concat_cut (n ∷ ns) bs = ap (λ (l : List ℕ). take n bs ++ l) (concat_cut ns (drop n bs)) ∙ sym (take-add n (sum ns) bs)

pub lengths_cut : (ns bs : List ℕ) → sum ns ≤ length bs → map length (cut ns bs) ≡ ns
lengths_cut [] bs h = refl
lengths_cut (n ∷ ns) bs h = ap₂ (λ (x : ℕ) (l : List ℕ). x ∷ l) (length-take-le n bs (omega arith)) (lengths_cut ns (drop n bs) (simp length-drop (omega arith)))

length_concat : (texts : List (List ℕ)) → sum (map length texts) ≡ length (concat texts)
length_concat [] = refl
length_concat (s ∷ l) = let e = length_concat l in simp length-append (omega arith)

-- ---- the parts of a file that is put together in document 01's order

abbrev file_bytes : (n k : ℕ) → (ls es ts bs : List ℕ) → List ℕ
file_bytes n k ls es ts bs = be_bytes 2 n ++ (k ∷ (ls ++ (es ++ (ts ++ bs))))

file_same : {n n' k k' : ℕ} {ls ls' es es' ts ts' bs bs' : List ℕ} → n ≡ n' → k ≡ k' → ls ≡ ls' → es ≡ es' → ts ≡ ts' → bs ≡ bs' → file_bytes n k ls es ts bs ≡ file_bytes n' k' ls' es' ts' bs'
file_same a b c d e g = rw (a, b, c, d, e, g)

record Parts (n : ℕ) (ls es bs : List ℕ) (f rest : List ℕ) : Type 0 where
  pub count : node_count f ≡ n
  pub texts : lengths f ≡ ls
  pub contents : entries f ≡ es
  pub behind : drop (contents_size f) f ≡ rest
  pub bodies : node_bodies f ≡ bs
  pub size : length f ≡ contents_size f + (sum ls + length bs)

parts : (n k : ℕ) (ls es ts bs : List ℕ) → n < 65536 → length ls ≡ k → length es ≡ 2 * n → sum ls ≡ length ts → Parts n ls es bs (file_bytes n k ls es ts bs) (ts ++ bs)
parts n k ls es ts bs small h i j =
    let f = file_bytes n k ls es ts bs in
    let c : node_count f ≡ n = be_value_be_bytes 2 n small in
    let l : lengths f ≡ ls = take_at ls (es ++ (ts ++ bs)) k h in
    let d : drop (3 + k) f ≡ es ++ (ts ++ bs) = sym (drop-drop k 3 f) ∙ drop_at ls (es ++ (ts ++ bs)) k h in
    let e : drop (contents_size f) f ≡ ts ++ bs = rw (c, ← drop-drop (2 * n) (3 + k) f, d, drop_at es (ts ++ bs) (2 * n) i) in
    record {
      count = c;
      texts = l;
      contents = rw (c, d, take_at es (ts ++ bs) (2 * n) i);
      behind = e;
      bodies = rw (l, ← drop-drop (sum ls) (contents_size f) f, e, drop_at ts bs (sum ls) (sym j));
      size = rw c (simp length-append (omega arith));
    }

-- a file of bytes is put together so
split : (f : List ℕ) → AreBytes f → contents_size f ≤ length f → 3 ≤ length f
    → f ≡ file_bytes (node_count f) (text_count f) (lengths f) (entries f) (take (sum (lengths f)) (drop (contents_size f) f)) (node_bodies f)
split f a l h =
    let m : length (part f 0 2) ≡ 2 = length_part f 0 2 (omega arith) in
    let n : be_bytes 2 (node_count f) ≡ take 2 f = rw m at (be_bytes_be_value (each_part 0 2 a)) in
    let c = 3 + text_count f in
    sym (take-append-drop 2 f)
    ∙ ap₂ (λ (x y : List ℕ). x ++ y) (sym n) (drop-cons f 2 0 (omega arith)
    ∙ ap (λ (r : List ℕ). text_count f ∷ r) (sym (take-append-drop (text_count f) (drop 3 f))
    ∙ ap (λ (r : List ℕ). lengths f ++ r) (drop-drop (text_count f) 3 f
    ∙ sym (take-append-drop (2 * node_count f) (drop c f))
    ∙ ap (λ (r : List ℕ). entries f ++ r) (drop-drop (2 * node_count f) c f
    ∙ sym (take-append-drop (sum (lengths f)) (drop (contents_size f) f))
    ∙ ap (λ (r : List ℕ). take (sum (lengths f)) (drop (contents_size f) f) ++ r) (drop-drop (sum (lengths f)) (contents_size f) f)))))

-- ---- a tree's nodes pass the tests of their bodies; nodes and texts are bytes

-- 8 bytes hold a number but for what lies above them, which its being finite does not rest on
finite_bytes : (v : ℕ) → finite_number (be_value (be_bytes 8 v)) ≡ finite_number v
finite_bytes v =
    finite_pattern (be_value (be_bytes 8 v))
    ∙ ap (λ (w : ℕ). ltb (w % 2 ^ 63) 0x7ff0_0000_0000_0000) (be_value_be_bytes_mod 8 v)
    ∙ ap (λ (w : ℕ). ltb w 0x7ff0_0000_0000_0000) (mod-mod-pow v 1 63)
    ∙ sym (finite_pattern v)

finite_pass : {p : ℕ → Bool} {B : Body} {c : ℕ} {b : List ℕ} → Made p finite_number B c b → T (body_finite B b)
finite_pass made_nothing = tt
finite_pass (made_elifs h) = tt
finite_pass (made_texts h) = tt
finite_pass (made_operator l h) = tt
finite_pass (made_number v h) = subst T (sym (finite_bytes v)) h

finite_nodes : {p : ℕ → Bool} (ns : List Node) → Each (MadeNode p finite_number) ns → T (all node_finite ns)
finite_nodes [] none = tt
finite_nodes (node k c b ∷ ns) (more h g) = T-both (body_finite (body k) b) (all node_finite ns) (finite_pass h) (finite_nodes ns g)

module _ (n : ℕ) where
  texts_pass : {m : ℕ} {b : List ℕ} → Texts (λ x. ltb x n) m b → T (all (λ x. ltb x n) b)
  texts_pass done = tt
  texts_pass (text {x = x} {b = b} h k) = T-both (ltb x n) (all (λ x. ltb x n) b) h (texts_pass k)

  field_pass : {q : ℕ → Bool} {B : Body} {c : ℕ} {b : List ℕ} → Made (λ x. ltb x n) q B c b → T (field_ok n B b)
  field_pass made_nothing = tt
  field_pass (made_elifs h) = tt
  field_pass (made_texts h) = texts_pass h
  field_pass (made_operator {n = m} {o = o} l h) = T-both (between 1 m o) true h tt
  field_pass (made_number v h) = tt

  fields_pass : (q : ℕ → Bool) (ns : List Node) → Each (MadeNode (λ x. ltb x n) q) ns → T (all (node_ok n) ns)
  fields_pass q [] none = tt
  fields_pass q (node k c b ∷ ns) (more h g) = T-both (field_ok n (body k) b) (all (node_ok n) ns) (field_pass h) (fields_pass q ns g)

  texts_bytes : {m : ℕ} {b : List ℕ} → n ≤ 64 → Texts (λ x. ltb x n) m b → AreBytes b
  texts_bytes few done = none
  texts_bytes few (text {x = x} h k) = let l = ltb→lt x n h in more {a = x} (omega arith) (texts_bytes few k)

  field_bytes_lem : {q : ℕ → Bool} {B : Body} {c : ℕ} {b : List ℕ} → n ≤ 64 → c < 256 → Made (λ x. ltb x n) q B c b → AreBytes b
  field_bytes_lem few l made_nothing = none
  field_bytes_lem few l (made_elifs {n = e} h) = more {a = e} (omega arith) none
  field_bytes_lem few l (made_texts h) = texts_bytes few h
  field_bytes_lem few l (made_operator {n = m} {o = o} i h) = let u = between_le 1 m o h in more {a = o} (omega arith) none
  field_bytes_lem few l (made_number v h) = be_bytes_bytes 8 v

  bodies_bytes : (q : ℕ → Bool) (ns : List Node) → n ≤ 64 → T (all children_byte ns) → Each (MadeNode (λ x. ltb x n) q) ns → AreBytes (body_bytes ns)
  bodies_bytes q [] few h none = none
  bodies_bytes q (node k c b ∷ ns) few h (more m g) =
      each_append (field_bytes_lem few (ltb→lt c 256 (T-left (ltb c 256) (all children_byte ns) h)) m) (bodies_bytes q ns few (T-right (ltb c 256) (all children_byte ns) h) g)

entries_bytes : (ns : List Node) → T (all children_byte ns) → AreBytes (entry_bytes ns)
entries_bytes [] h = none
entries_bytes (node k c b ∷ ns) h =
    let l = between_le 1 23 (number_of k) (kind_number k).1 in
    more {a = number_of k} (omega arith) (more (ltb→lt c 256 (T-left (ltb c 256) (all children_byte ns) h)) (entries_bytes ns (T-right (ltb c 256) (all children_byte ns) h)))

bytes_entries : (ns : List Node) → AreBytes (entry_bytes ns) → T (all children_byte ns)
bytes_entries [] none = tt
bytes_entries (node k c b ∷ ns) (more i (more j a)) = T-both (ltb c 256) (all children_byte ns) (lt→ltb c 256 j) (bytes_entries ns a)

text_bytes : (l : List (List ℕ)) → T (all (all (between 32 126)) l) → AreBytes (concat l)
text_bytes [] h = none
text_bytes (s ∷ l) h =
    each_append (all_each (between 32 126) (λ i u. let w = between_le 32 126 i u in omega arith) s (T-left (all (between 32 126) s) (all (all (between 32 126)) l) h))
    (text_bytes l (T-right (all (between 32 126) s) (all (all (between 32 126)) l) h))

length_bytes : (l : List (List ℕ)) → T (all (λ s. leb (length s) 40) l) → AreBytes (map length l)
length_bytes [] h = none
length_bytes (s ∷ l) h =
    let u = leb→le (length s) 40 (T-left (leb (length s) 40) (all (λ s. leb (length s) 40) l) h) in
    more {a = length s} (omega arith) (length_bytes l (T-right (leb (length s) 40) (all (λ s. leb (length s) 40) l) h))

some_texts_lem : (l : List (List ℕ)) → T (ordered l) → 1 ≤ length l
some_texts_lem [] h = absurd h
some_texts_lem (s ∷ l) h = omega arith

-- ---- from a tree to its file

module _ (texts : List (List ℕ)) (t : Stmts) (x : TextsFit texts) (y : TreeFits (length texts) t) where
  abbrev bytes : List ℕ
  bytes = file_of texts t

  abbrev ns : List Node
  ns = flat t

  made : Each (MadeNode (λ i. ltb i (length texts)) (λ v. true)) ns
  made = flat_made (λ i. ltb i (length texts)) (λ v. true) t y.names

  cuts : Parts (length ns) (map length texts) (entry_bytes ns) (body_bytes ns) bytes (concat texts ++ body_bytes ns)
  cuts =
      let h = y.nodes in
      parts (length ns) (length texts) (map length texts) (entry_bytes ns) (concat texts) (body_bytes ns) (omega arith) (length-map texts length) (length_entry_bytes ns) (length_concat texts)

  -- the file has these texts
  pub file_texts_lem : text_list (file_of texts t) ≡ texts
  file_texts_lem = rw (cuts.texts, cuts.behind) (cut_concat texts (body_bytes ns))

  file_nodes : nodes bytes ≡ ns
  file_nodes = rw (cuts.contents, cuts.bodies, ← append-nil (body_bytes ns)) (nodes_bytes ns made [])

  file_size : length bytes ≡ contents_size bytes + bodies_size bytes
  file_size = cuts.size ∙ rw (cuts.texts, cuts.contents, length_body_bytes ns made)

  passed : Passed bytes
  passed =
      let s = file_size in
      let c = cuts.count in
      let m = y.nodes in
      let l = x.few in
      let k = some_texts_lem texts x.in_order in
      record {
        long = le→leb 3 (length bytes) (omega arith);
        counts = T-both (between 1 1024 (node_count bytes)) (between 1 64 (text_count bytes)) (rw c (le_between 1 1024 (length ns) (omega arith) m)) (le_between 1 64 (length texts) k l);
        inside = le→leb (contents_size bytes) (length bytes) (omega arith);
        kinds = rw cuts.contents (kinds_entry_bytes ns);
        short = rw (cuts.texts, all_map (λ n. leb n 40) length texts) x.short;
        whole = rw s (eqb_refl (contents_size bytes + bodies_size bytes));
        texts = rw file_texts_lem (T-both (all (all (between 32 126)) texts) (ordered texts) x.printable x.in_order);
        fields = rw file_nodes (fields_pass (length texts) (λ v. true) ns made);
        numbers = rw file_nodes (finite_nodes ns (flat_made (λ i. true) finite_number t y.finite));
      }

  -- and it is read as this tree
  pub read_file : read_tree (file_of texts t) ≡ Tree t
  read_file = passed_read passed (ap parse file_nodes ∙ flat_parse t y.levels y.structure y.numbers)

  pub file_bytes_lem : AreBytes (file_of texts t)
  file_bytes_lem =
      let l = x.few in
      each_append (be_bytes_bytes 2 (length ns)) (more {a = length texts} (omega arith)
      (each_append (length_bytes texts x.short)
      (each_append (entries_bytes ns y.children)
      (each_append (text_bytes texts x.printable)
      (bodies_bytes (length texts) (λ v. true) ns l y.children made)))))

-- ---- from a file to its tree

module _ (f : List ℕ) (t : Stmts) (a : AreBytes f) (e : read_tree f ≡ Tree t) where
  known : Known (λ x. true) (λ v. true) f t
  known = read_known (λ x. true) (λ v. true) f (λ x i j. tt) (λ v i j. tt) a e

  checks : Passed f
  checks = read_passed f e

  inside : contents_size f + sum (lengths f) ≤ length f
  inside = let w = eqb→eq (contents_size f + bodies_size f) (length f) checks.whole in omega arith

  lengths_read : map length (text_list f) ≡ lengths f
  lengths_read = let h = inside in lengths_cut (lengths f) (drop (contents_size f) f) (simp length-drop (omega arith))

  count_read : length (text_list f) ≡ text_count f
  count_read = let h = inside in sym (length-map (text_list f) length) ∙ ap length lengths_read ∙ length_part f 3 (text_count f) (omega arith)

  -- a file of bytes that is read is the one of its texts and its tree
  pub file_read : file_of (text_list f) t ≡ f
  file_read =
      let h = inside in
      let u = split f a (omega arith) (leb→le 3 (length f) checks.long) in
      file_same known.count count_read lengths_read (sym known.contents) (concat_cut (lengths f) (drop (contents_size f) f)) (sym known.bodies) ∙ sym u

  pub texts_read : TextsFit (text_list f)
  texts_read =
      let n = counted f checks.counts in
      let c = count_read in
      record {
        few = omega arith;
        short = rw (← all_map (λ n. leb n 40) length (text_list f), lengths_read) checks.short;
        printable = T-left (all (all (between 32 126)) (text_list f)) (ordered (text_list f)) checks.texts;
        in_order = T-right (all (all (between 32 126)) (text_list f)) (ordered (text_list f)) checks.texts;
      }

  pub tree_read : TreeFits (length (text_list f)) t
  tree_read = record {
    nodes = known.few;
    levels = known.within;
    structure = read_ok f e;
    names = rw count_read (read_texts a e);
    numbers = read_numbers a e;
    finite = read_finite a e;
    children = bytes_entries (flat t) (rw known.contents at (each_part (3 + text_count f) (2 * node_count f) a));
  }

-- ---- every tree within the limits has a file: text 0 and 63 texts of one byte, from 32 on

singles : ℕ → ℕ → List (List ℕ)
singles from zero = []
singles from (suc n) = (from ∷ []) ∷ singles (suc from) n

abbrev all_texts : List (List ℕ)
all_texts = fortmp ∷ singles 32 63

all_fit : TextsFit all_texts
unfolding singles
all_fit = record { few = omega arith; short = tt; printable = tt; in_order = tt }

pub some_file : (t : Stmts) → TreeFits 64 t → (f : List ℕ) × AreBytes f × (read_tree f ≡ Tree t)
unfolding singles
some_file t y = (file_of all_texts t, file_bytes_lem all_texts t all_fit y, read_file all_texts t all_fit y)

-- ---- a script: x = 1 + x

abbrev sample : List ℕ
sample =
    0 ∷ 5 ∷ 2 ∷ 6 ∷ 1 ∷
    1 ∷ 1 ∷ 8 ∷ 1 ∷ 17 ∷ 2 ∷ 19 ∷ 0 ∷ 21 ∷ 0 ∷
    102 ∷ 111 ∷ 114 ∷ 116 ∷ 109 ∷ 112 ∷ 120 ∷
    1 ∷ 1 ∷ 63 ∷ 240 ∷ 0 ∷ 0 ∷ 0 ∷ 0 ∷ 0 ∷ 0 ∷ 1 ∷ []

abbrev sample_tree : Stmts
sample_tree = more_stmts (VarInit 1 (Expression (BinaryExpr Plus (Literal (Val 0x3ff0000000000000)) (Name 1)))) no_stmts

sample_read : read_tree sample ≡ Tree sample_tree
unfolding read_tree of_bits
sample_read = refl

sample_file : file_of (fortmp ∷ (120 ∷ []) ∷ []) sample_tree ≡ sample
sample_file = refl

sample_limits : (depth sample_tree ≡ 4) × (texts_below 2 sample_tree ≡ true) × (texts_below 1 sample_tree ≡ false) × (numbers_fit sample_tree ≡ true)
sample_limits = (refl, refl, refl, refl)

-- with an infinity in place of 1 it is outside the limits
abbrev infinite_tree : Stmts
infinite_tree = more_stmts (VarInit 1 (Expression (BinaryExpr Plus (Literal (Val 0x7ff0000000000000)) (Name 1)))) no_stmts

sample_finite : (numbers_finite sample_tree ≡ true) × (numbers_finite infinite_tree ≡ false)
unfolding of_bits
sample_finite = (refl, refl)
