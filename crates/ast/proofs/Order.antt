-- The order of the checks, and the parts of the file.
use mathlib.Core.Path.{◌≡◌, refl, sym, ap, ◌∙◌}
use mathlib.Core.Bool.{Bool, true, false}
use mathlib.Core.List.{List, [], ◌∷◌}
use Prim.Native.Nat.{ℕ, ◌+◌, ◌*◌, ◌≤◌, ◌<◌, ◌-◌}
use native.Mathlib.Omega.{arith}
use lib.Dec.{eqb}
use lib.ListN.{length, take, drop, length-drop}
use lib.Seq.{drop-drop}
use borrow.Author.Tests.{le-leb, lt-leb, eq-eqb, ne_eqb, eqb-true, eqb-false}
use Rattle.lent.specs.laws.Parts.{length_part}
use Rattle.ast.specs.Tree.{Stmts}
use Rattle.ast.specs.Node.{Node}
use Rattle.ast.specs.Structure.{Parsed, Fails, Takes, parse}
use Rattle.ast.specs.File.{node_count, text_count, contents_size, lengths, entries, bodies_size, nodes, nodes_from, node_ok, node_finite, counts_ok, kinds_ok, lengths_ok, texts_ok, Read, require, check_nodes, structured, read_tree}
use Rattle.ast.specs.inner.Answer.{answer_of, parsed, or_else, fault_or, parts_answer}
use Rattle.ast.specs.laws.Reading.{Counts, counted}
use Rattle.ast.specs.laws.PlainFile.{entries_slice}
use Rattle.ast.proofs.Rooms.{to_end}
use Rattle.ast.proofs.Cuts.{part_end}
use Rattle.lent.specs.Lists.{sum}

-- one check
pub refuses : (t : Bool) (n r : ℕ) → t ≡ false → n ≡ or_else t n r
refuses t n r e = rw e

pub passes : (t : Bool) (n r : ℕ) {x : ℕ} → t ≡ true → x ≡ r → x ≡ or_else t n r
passes t n r e h = rw e h

answer_require : (t : Bool) (n : ℕ) (r : Read) → answer_of (require t n r) ≡ or_else t n (answer_of r)
answer_require true n r = refl
answer_require false n r = refl

answer_nodes : (t : ℕ) (ns : List Node) (r : Read) → answer_of (check_nodes t ns r) ≡ fault_or t ns (answer_of r)
answer_nodes t [] r = refl
answer_nodes t (n ∷ ns) r =
    answer_require (node_ok t n) 5 _
    ∙ ap (or_else (node_ok t n) 5) (answer_require (node_finite n) 39 (check_nodes t ns r)
    ∙ ap (or_else (node_finite n) 39) (answer_nodes t ns r))

answer_parse : (p : Parsed Stmts) → answer_of (structured p) ≡ or_else (parsed p) 4 0
answer_parse Fails = refl
answer_parse (Takes t ns) = refl

-- ---- the counts

pub counts : (f : List ℕ) → counts_ok f ≡ true → Counts f
counts f e = counted f (rw e tt)

-- ---- the file

-- the bodies end where the file ends
ends : (s b n : ℕ) → s ≤ n → eqb (s + b) n ≡ eqb b (n - s)
ends s b n h = by_test (eqb b (n - s)) refl
  where
    by_test : (t : Bool) → eqb b (n - s) ≡ t → eqb (s + b) n ≡ eqb b (n - s)
    by_test true e = eq-eqb (s + b) n (omega (arith, eqb-true b (n - s) e)) ∙ sym e
    by_test false e = ne_eqb (s + b) n (λ q. eqb-false b (n - s) e (omega arith)) ∙ sym e

after_contents : List ℕ → ℕ
after_contents f = parts_answer (text_count f) (lengths f) (entries f) (drop (contents_size f) f)

inner : (f : List ℕ) → contents_size f ≤ length f
    → answer_of (require (kinds_ok f) 4 (require (lengths_ok f) 3 (require (eqb (contents_size f + bodies_size f) (length f)) 1 (require (texts_ok f) 3 (check_nodes (text_count f) (nodes f) (structured (parse (nodes f))))))))
    ≡ after_contents f
unfolding after_contents
inner f h =
    let s = contents_size f in
    let t = sum (lengths f) in
    let d : drop (s + t) f ≡ drop t (drop s f) = sym (drop-drop t s f) in
    let e : eqb (s + bodies_size f) (length f) ≡ eqb (bodies_size f) (length (drop s f)) = ends s (bodies_size f) (length f) h ∙ ap (eqb (bodies_size f)) (sym (length-drop s f)) in
    let r₅ : Read = structured (parse (nodes f)) in
    let r₄ : Read = check_nodes (text_count f) (nodes f) r₅ in
    let r₃ : Read = require (texts_ok f) 3 r₄ in
    let r₂ : Read = require (eqb (s + bodies_size f) (length f)) 1 r₃ in
    let r₁ : Read = require (lengths_ok f) 3 r₂ in
    answer_require (kinds_ok f) 4 r₁
    ∙ ap (or_else (kinds_ok f) 4) (answer_require (lengths_ok f) 3 r₂
    ∙ ap (or_else (lengths_ok f) 3) (answer_require (eqb (s + bodies_size f) (length f)) 1 r₃
    ∙ ap (λ (u : Bool). or_else u 1 (answer_of r₃)) e
    ∙ ap (or_else (eqb (bodies_size f) (length (drop s f))) 1) (answer_require (texts_ok f) 3 r₄
    ∙ ap (or_else (texts_ok f) 3) (answer_nodes (text_count f) (nodes f) r₅
    ∙ ap (fault_or (text_count f) (nodes f)) (answer_parse (parse (nodes f)))
    ∙ ap (λ (b : List ℕ). fault_or (text_count f) (nodes_from (entries f) b) (or_else (parsed (parse (nodes_from (entries f) b))) 4 0)) d))))

module _ (f : List ℕ) where
  pub too_short : length f < 3 → 1 ≡ answer_of (read_tree f)
  unfolding read_tree
  too_short h = rw (lt-leb 3 (length f) h)

  pub wrong_counts : 3 ≤ length f → counts_ok f ≡ false → 2 ≡ answer_of (read_tree f)
  unfolding read_tree
  wrong_counts h e = rw (le-leb 3 (length f) h, e)

  pub cut_off : 3 ≤ length f → counts_ok f ≡ true → length f < contents_size f → 1 ≡ answer_of (read_tree f)
  unfolding read_tree
  cut_off h e l = rw (le-leb 3 (length f) h, e, lt-leb (contents_size f) (length f) l)

  pub goes_on : 3 ≤ length f → counts_ok f ≡ true → contents_size f ≤ length f → answer_of (read_tree f) ≡ parts_answer (text_count f) (lengths f) (entries f) (drop (contents_size f) f)
  unfolding read_tree after_contents
  goes_on h e l = rw (le-leb 3 (length f) h, e, le-leb (contents_size f) (length f) l) (inner f l)

  -- the parts as slices of the file
  module _ {count nodes : ℕ} (ec : count ≡ text_count f) (en : nodes ≡ node_count f) (l : 3 + count + 2 * nodes ≤ length f) where
    lengths_slice : take ((3 + count) - 3) (drop 3 f) ≡ lengths f
    lengths_slice = rw (part_end 3 count, ec)

    bodies_slice : take (length f - (3 + count + 2 * nodes)) (drop (3 + count + 2 * nodes) f) ≡ drop (contents_size f) f
    bodies_slice = rw (to_end (3 + count + 2 * nodes) f, ec, en)

    pub slices : 3 ≤ length f → counts_ok f ≡ true → {r : ℕ}
        → r ≡ parts_answer count (take ((3 + count) - 3) (drop 3 f)) (take ((3 + count + 2 * nodes) - (3 + count)) (drop (3 + count) f)) (take (length f - (3 + count + 2 * nodes)) (drop (3 + count + 2 * nodes) f))
        → r ≡ answer_of (read_tree f)
    slices h e {r} q =
        let z : contents_size f ≤ length f = rw (ec, en) at l in
        sym (goes_on h e z ∙ sym (rw (lengths_slice, entries_slice f ec en, bodies_slice, ec) at q))

    pub lengths_size : length (take ((3 + count) - 3) (drop 3 f)) ≡ count
    lengths_size = rw (part_end 3 count) (length_part f 3 count (omega arith))

    pub entries_size : length (take ((3 + count + 2 * nodes) - (3 + count)) (drop (3 + count) f)) ≡ 2 * nodes
    entries_size = rw (part_end (3 + count) (2 * nodes)) (length_part f (3 + count) (2 * nodes) l)
