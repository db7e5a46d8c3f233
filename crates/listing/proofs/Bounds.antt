-- The line of the bound, or of none.
use mathlib.Core.Path.{◌≡◌, sym, ap, ◌∙◌}
use mathlib.Core.Bool.{Bool, true, cond}
use mathlib.Core.List.{List}
use Prim.Native.Nat.{ℕ, ◌%◌}
use native.Mathlib.Omega.{arith}
use lib.Dec.{ltb}
use borrow.Author.Tests.{lt-ltb}
use Rattle.ast.specs.Tree.{Stmts}
use Rattle.ast.specs.Plain.{plain}
use Rattle.ast.specs.File.{read_tree, Tree}
use Rattle.tables.specs.Tables.{Program}
use Rattle.compiler.specs.Lower.{lower, lowered}
use Rattle.walk.specs.Bound.{bound}
use Rattle.text.specs.Text.{ascii}
use Rattle.text.specs.declared.Writer.{Writer}
use Rattle.text.specs.inner.Appended.{Appended}
use Rattle.text.specs.laws.Writing.{appended_as}
use Rattle.bound.specs.inner.Weights.{limit}
use Rattle.bound.specs.inner.BoundOf.{bound_of}
use Rattle.bound.specs.laws.Whole.{bound_fits, bound_tells}
use Rattle.listing_text.specs.Listing.{bound_line}

-- the bound n of the code, of a file that is read as t, which is lowered to p
module _ (f : List ℕ) {n : ℕ} (h : n ≡ bound_of (read_tree f) % limit) {t : Stmts} {p : Program} (e : read_tree f ≡ Tree t) (l : lower t ≡ lowered p) where
  told : n ≡ cond (plain t) (bound t) 0
  told = h ∙ bound_fits f e l

  tells : plain t ≡ ltb 0 n
  tells = sym (ap (ltb 0) told ∙ bound_tells t)

  module _ {v w : Writer} where
    pub no_bound : n ≡ 0 → Appended v (ascii "bound none\n") w → Appended v (bound_line (plain t) (bound t)) w
    no_bound z p = appended_as (ap (λ (b : Bool). bound_line b (bound t)) (tells ∙ ap (ltb 0) z)) p

    pub plain_bound : (n ≡ 0 → ⊥) → Appended v (bound_line true n) w → Appended v (bound_line (plain t) (bound t)) w
    plain_bound z p =
        let y : plain t ≡ true = tells ∙ lt-ltb 0 n (omega arith) in
        let k : n ≡ bound t = told ∙ ap (λ (b : Bool). cond b (bound t) 0) y in
        appended_as (ap (λ (b : Bool). bound_line b (bound t)) y ∙ ap (bound_line true) (sym k)) p
