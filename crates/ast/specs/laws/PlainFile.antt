-- Plain scripts in files: a file that is read is plain where its entries are allowed (Under.antt); a refused one is not plain.
use Rattle.std.specs.Prelude.{◌≡◌, refl, Bool, false, List, ℕ, ◌+◌, ◌*◌, ◌-◌, ◌≤◌, length, take, drop}
use Rattle.std.proofs.Common.{ap, ◌∙◌, arith, leb→le, eqb→eq}
use Rattle.lent.specs.Bytes.{AreBytes}
use Rattle.lent.specs.laws.Parts.{part_lent}
use Rattle.ast.specs.Tree.{Stmts}
use Rattle.ast.specs.File.{node_count, text_count, contents_size, entries, bodies_size}
use Rattle.ast.specs.File.{Read, Refused, Tree, read_tree}
use Rattle.ast.specs.inner.Answer.{answer_of}
use Rattle.ast.specs.laws.Reading.{Has, refused, tree, read_has, read_passed, counted, read_flat}
use Rattle.ast.specs.inner.Under.{plain_of, scan}
use Rattle.ast.specs.laws.Preorder.{plain_scan}

-- ---- a file that is read: its counts, and its contents' place

pub record Accepted (f : List ℕ) : Type 0 where
  pub long : 3 ≤ length f
  pub few_nodes : node_count f ≤ 1024
  pub few_texts : text_count f ≤ 64
  pub inside : contents_size f ≤ length f
  pub whole : contents_size f + bodies_size f ≡ length f

tree_of : {P : Stmts → Type 0} {r : Read} → Has P r → answer_of r ≡ 0 → (t : Stmts) × (r ≡ Tree t)
tree_of (refused h) e = absurd (omega arith)
tree_of (tree {t = t} h) e = (t, refl)

-- and its tree
pub accepted_tree : (f : List ℕ) → answer_of (read_tree f) ≡ 0 → (t : Stmts) × (read_tree f ≡ Tree t)
accepted_tree f e = tree_of (read_has f) e

pub accepted : (f : List ℕ) → answer_of (read_tree f) ≡ 0 → Accepted f
accepted f e =
    let x = read_passed f (accepted_tree f e).1 in
    let n = counted f x.counts in
    record {
      long = leb→le 3 (length f) x.long;
      few_nodes = n.few_nodes;
      few_texts = n.few_texts;
      inside = leb→le (contents_size f) (length f) x.inside;
      whole = eqb→eq (contents_size f + bodies_size f) (length f) x.whole;
    }

-- its entries as a slice of it
pub entries_slice : (f : List ℕ) {count nodes : ℕ} → count ≡ text_count f → nodes ≡ node_count f → take ((3 + count + 2 * nodes) - (3 + count)) (drop (3 + count) f) ≡ entries f
entries_slice f {count} {nodes} ec en = part_lent f (3 + count) (2 * nodes) ∙ rw (ec, en)

-- ---- the laws

by_tree : {P : Stmts → Type 0} {r : Read} (x : Bool) → Has P r → answer_of r ≡ 0 → ((t : Stmts) → r ≡ Tree t → x ≡ plain_of (Tree t)) → x ≡ plain_of r
by_tree x (refused h) e k = absurd (omega arith)
by_tree x (tree {t = t} h) e k = k t refl

pub plain_file : (f : List ℕ) → AreBytes f → answer_of (read_tree f) ≡ 0 → scan 0 0 (entries f) ≡ plain_of (read_tree f)
plain_file f a e = by_tree (scan 0 0 (entries f)) (read_has f) e λ t h. ap (scan 0 0) (read_flat a h).0 ∙ plain_scan t

not_plain_lem : (r : Read) → (answer_of r ≡ 0 → ⊥) → false ≡ plain_of r
not_plain_lem (Refused n) h = refl
not_plain_lem (Tree t) h = absurd (h refl)

pub plain_refused : (f : List ℕ) → (answer_of (read_tree f) ≡ 0 → ⊥) → false ≡ plain_of (read_tree f)
plain_refused f h = not_plain_lem (read_tree f) h
