-- The kinds and their numbers.
use Rattle.std.specs.Prelude.{◌≡◌, refl, Bool, true, false, cond, List, ℕ, ◌≤◌, ◌<◌, T, eqb}
use Rattle.std.proofs.Common.{sym, ap, subst, ◌∙◌, arith, eqb-true}
use Rattle.ast.specs.Node.{k_block, k_if, k_for, k_return, k_expr_stmt, k_var_decl, k_fn_decl, k_table, k_array, k_array_access, k_array_mut, k_call, k_assign, k_binary, k_unary, k_num, k_text, k_name, k_true, k_false}
use Rattle.ast.specs.Node.{Kind, k_program, k_elif, k_item, k_stmt, k_right, k_expr, kind_of, number_of, Node}
use Rattle.ast.specs.Structure.{Parsed, Rule, or_kind}
use Rattle.ast.specs.File.{between}
use Rattle.ast.specs.laws.Tests.{fixed}

pub kind_number : (k : Kind) → (kind_of (number_of k) ≡ k) × T (between 1 23 (number_of k))
kind_number k_program = (refl, tt)
kind_number k_elif = (refl, tt)
kind_number k_item = (refl, tt)
kind_number (k_stmt k_block) = (refl, tt)
kind_number (k_stmt k_if) = (refl, tt)
kind_number (k_stmt k_for) = (refl, tt)
kind_number (k_stmt k_return) = (refl, tt)
kind_number (k_stmt k_expr_stmt) = (refl, tt)
kind_number (k_stmt k_var_decl) = (refl, tt)
kind_number (k_stmt k_fn_decl) = (refl, tt)
kind_number (k_right k_table) = (refl, tt)
kind_number (k_right k_array) = (refl, tt)
kind_number (k_right k_array_access) = (refl, tt)
kind_number (k_expr k_array_mut) = (refl, tt)
kind_number (k_expr k_call) = (refl, tt)
kind_number (k_expr k_assign) = (refl, tt)
kind_number (k_expr k_binary) = (refl, tt)
kind_number (k_expr k_unary) = (refl, tt)
kind_number (k_expr k_num) = (refl, tt)
kind_number (k_expr k_text) = (refl, tt)
kind_number (k_expr k_name) = (refl, tt)
kind_number (k_expr k_true) = (refl, tt)
kind_number (k_expr k_false) = (refl, tt)

pub number_kind : (n : ℕ) → 1 ≤ n → n < 24 → number_of (kind_of n) ≡ n
number_kind n l u = fixed (λ n. number_of (kind_of n)) 23 tt n l (omega arith)

-- two kinds of one number
pub kind_same : (j k : Kind) → number_of j ≡ number_of k → j ≡ k
kind_same j k e = sym (kind_number j).0 ∙ ap kind_of e ∙ (kind_number k).0

-- a node at a place that has kind j and the kinds of others
pub by_kind : {A : Type 0} (Q : Kind → Parsed A → Type 0) (j : Kind) (r : Rule A) (others : Kind → Rule A) (k : Kind) (c : ℕ) (b : List ℕ) (ns : List Node)
    → Q j (r c b ns) → (eqb (number_of j) (number_of k) ≡ false → Q k (others k c b ns)) → Q k (or_kind j r others k c b ns)
by_kind Q j r others k c b ns x y = by_test (eqb (number_of j) (number_of k)) refl
  where
    by_test : (t : Bool) → eqb (number_of j) (number_of k) ≡ t → Q k (cond t r (others k) c b ns)
    by_test true e = subst (λ (i : Kind). Q i (r c b ns)) (kind_same j k (eqb-true (number_of j) (number_of k) e)) x
    by_test false e = y e
