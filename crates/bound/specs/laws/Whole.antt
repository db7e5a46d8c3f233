-- From entries and files to the bound of the script that they hold, and where the number is the bound itself.
use Rattle.std.specs.Prelude.{◌≡◌, refl, Bool, true, false, cond, List, [], ◌∷◌, ℕ, ◌%◌, ◌≤◌, ◌<◌, max, T, ltb}
use Rattle.std.proofs.Common.{sym, ap, ◌∙◌, mod-eq_of_lt, arith, lt-ltb}
use Rattle.lent.specs.Bytes.{AreBytes}
use Rattle.ast.specs.Tree.{Stmts}
use Rattle.ast.specs.Plain.{plain}
use Rattle.ast.specs.Flat.{flat, entry_bytes}
use Rattle.ast.specs.Limits.{depth}
use Rattle.ast.specs.File.{entries, Read, Refused, Tree, read_tree}
use Rattle.ast.specs.inner.Answer.{answer_of}
use Rattle.ast.specs.laws.Reading.{read_flat, read_limits, read_ok}
use Rattle.ast.specs.inner.Under.{plain_of}
use Rattle.tables.specs.Tables.{Program}
use Rattle.compiler.specs.Lower.{lowered, lower}
use Rattle.walk.specs.Bound as Bound
use Rattle.walk.specs.Bound.{bound}
use Rattle.walk.proofs.laws.BoundSize.{bound_small}
use Rattle.walk.proofs.laws.Bounded.{bound_positive}
use Rattle.walk.proofs.laws.BoundByNodes.{bound_by_nodes}
use Rattle.bound.specs.inner.Weights.{cost_of, subtree, of_entries, limit}
use Rattle.bound.specs.inner.BoundOf.{bound_of}
use Rattle.bound.specs.laws.Preorder.{entries_cost}
use Rattle.bound.specs.laws.Longest.{entries_longest}

-- the entries of a plain tree
entries_bound : (t : Stmts) → depth t ≤ 32 → T (plain t) → of_entries (entry_bytes (flat t)) ≡ bound t
entries_bound t h p =
    ap (λ (l : ℕ). cost_of (subtree 32 (max 1 l) 0 (entry_bytes (flat t)))) (entries_longest t) ∙ entries_cost (max 1 (Bound.longest t)) t h p ∙ sym (bound_by_nodes t p)

-- ---- files

by_read : (r : Read) (n : ℕ) → plain_of r ≡ true → ((t : Stmts) → r ≡ Tree t → T (plain t) → n ≡ bound t) → n ≡ bound_of r
by_read (Refused k) n e f = let z : ◌≡◌ {A = ℕ} 0 1 = cc in absurd (omega arith)
by_read (Tree t) n e f = rw e (f t refl (rw e tt))

pub file_bound : (f : List ℕ) → AreBytes f → plain_of (read_tree f) ≡ true → of_entries (entries f) ≡ bound_of (read_tree f)
file_bound f a e = by_read (read_tree f) (of_entries (entries f)) e λ t h p. ap of_entries (read_flat a h).0 ∙ entries_bound t (read_limits a h).1 p

pub plain_accepted : (r : Read) → plain_of r ≡ true → answer_of r ≡ 0
plain_accepted (Refused k) e = let z : ◌≡◌ {A = ℕ} 0 1 = cc in absurd (omega arith)
plain_accepted (Tree t) e = refl

pub not_plain_lem : (r : Read) → plain_of r ≡ false → 0 ≡ bound_of r % limit
not_plain_lem (Refused k) e = refl
not_plain_lem (Tree t) e = rw e

-- ---- a script that is lowered: the code's number is the bound itself, and 0 where the script is not plain

below : (b : Bool) (n : ℕ) → n < limit → cond b n 0 < limit
below true n h = h
below false n h = omega arith

pub bound_fits : (f : List ℕ) {t : Stmts} {p : Program} → read_tree f ≡ Tree t → lower t ≡ lowered p → bound_of (read_tree f) % limit ≡ cond (plain t) (bound t) 0
bound_fits f {t} {p} h e = rw h (mod-eq_of_lt (below (plain t) (bound t) (omega (arith, bound_small t p (read_ok f h) e))))

-- so 0 tells that it is not plain
pub bound_tells : (t : Stmts) → ltb 0 (cond (plain t) (bound t) 0) ≡ plain t
bound_tells t = by_test (plain t) (λ p. bound_positive t p)
  where
    by_test : (b : Bool) → (T b → 1 ≤ bound t) → ltb 0 (cond b (bound t) 0) ≡ b
    by_test true h = lt-ltb 0 (bound t) (h tt)
    by_test false h = refl

-- ---- document 01's cases 2, 3 and 6

array_loop : of_entries (1 ∷ 2 ∷ 8 ∷ 1 ∷ 12 ∷ 3 ∷ 19 ∷ 0 ∷ 19 ∷ 0 ∷ 19 ∷ 0 ∷ 5 ∷ 2 ∷ 21 ∷ 0 ∷ 2 ∷ 1 ∷ 8 ∷ 1 ∷ 21 ∷ 0 ∷ []) ≡ 27
array_loop = refl

one_branch : of_entries (1 ∷ 2 ∷ 8 ∷ 1 ∷ 19 ∷ 0 ∷ 3 ∷ 2 ∷ 17 ∷ 2 ∷ 21 ∷ 0 ∷ 19 ∷ 0 ∷ 2 ∷ 1 ∷ 8 ∷ 1 ∷ 19 ∷ 0 ∷ []) ≡ 8
one_branch = refl

no_statement : of_entries (1 ∷ 0 ∷ []) ≡ 1
no_statement = refl
