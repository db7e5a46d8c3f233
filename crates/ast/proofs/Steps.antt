-- The pass over bytes, step by step: a subtree, subtrees one after the other, Items, a node.
use mathlib.Core.Path.{◌≡◌, refl, sym, ap, ◌∙◌}
use mathlib.Core.Bool.{Bool, true, false, cond, not}
use mathlib.Core.List.{List, [], ◌∷◌}
use Prim.Native.Nat.{ℕ, zero, suc, ◌+◌, ◌≤◌, ◌<◌, ◌-◌}
use native.Mathlib.Omega.{arith}
use lib.ListN.{length, get_or, take, drop}
use Rattle.ast.specs.Node.{k_block, k_if, k_for, k_return, k_expr_stmt, k_var_decl, k_fn_decl, k_table, k_array, k_array_access}
use Rattle.ast.specs.Node.{k_array_mut, k_call, k_assign, k_binary, k_unary, k_num, k_text, k_name, k_true, k_false, Kind, k_program, k_elif, k_item, k_stmt, k_right, k_expr, Node, number_of, kind_of, body, body_size}
use Rattle.ast.specs.Structure.{field}
use Rattle.ast.specs.File.{nodes_from}
use Rattle.ast.specs.inner.Pass as places
use Rattle.ast.specs.inner.Room.{Room, none, one}
use Rattle.ast.specs.inner.Pass.{Remaining, wrong, left, kept_if, then, times, stands, plan_of, bit_in, bit_of, key_of, keyed_times, children, is_table, in_limits, pass_over, Fit, Fits, nodes_of, Agrees, refuses, leaves}
use Rattle.ast.specs.declared.structure.Rest.{Rest}
use Rattle.std.specs.Prelude.{Option, Some, None}
use Rattle.ast.proofs.Agree.{refused, goes_on}
use Rattle.ast.specs.declared.structure.Plan.{Plan}
use Rattle.ast.specs.laws.Kinds.{number_kind}
use Rattle.ast.proofs.Rooms.{First, size_at}
use Rattle.ast.specs.inner.Answer.{all_used_up}
use lib.Dec.{eqb}
use borrow.Author.Tests.{ne_eqb}

pub stopped : {w : Remaining} {p : Rest} {q : Option (Unit {0})} → w ≡ wrong → q ≡ None → Agrees w p q
stopped e f = rw (e, f) refuses

-- ---- subtrees: i of n are gone over, and p is what they leave of the whole w

module _ {w : Remaining} (ns : List Node) (go : List Node → Remaining) (n i : ℕ) (e : w ≡ times go (n - i) ns) where
  next : i < n → w ≡ then (go ns) (λ ms. times go (n - (i + 1)) ms)
  next h = let z : n - i ≡ suc (n - (i + 1)) = omega arith in e ∙ ap (λ (j : ℕ). times go j ns) z

  pub run_stops : {p : Rest} {r q : Option (Unit {0})} → i < n → Agrees (go ns) p r → r ≡ None → q ≡ None → Agrees w p q
  run_stops h a f = stopped (next h ∙ ap (λ (x : Remaining). then x (λ ms. times go (n - (i + 1)) ms)) (refused a f))

  pub run_goes : {p : Rest} {r : Option (Unit {0})} {u : Unit {0}} → i < n → Agrees (go ns) p r → r ≡ Some u → Fits p × (w ≡ times go (n - (i + 1)) (nodes_of p))
  run_goes h a f = let g = goes_on a f in (g.0, next h ∙ ap (λ (x : Remaining). then x (λ ms. times go (n - (i + 1)) ms)) g.1)

  pub run_ends : n ≤ i → w ≡ left ns
  run_ends h = let z : n - i ≡ 0 = omega arith in e ∙ ap (λ (j : ℕ). times go j ns) z

-- ---- Items: k is the key in front

module _ {w : Remaining} {ns : List Node} (go : List Node → Remaining) (keys n i : ℕ) (e : w ≡ keyed_times go keys (n - i) ns) where
  module _ {k : ℕ} (h : i < n) (ek : k ≡ key_of ns) {p : Rest} {r : Option (Unit {0})} (a : Agrees (go ns) p r) where
    abbrev behind : List Node → Remaining
    behind ms = kept_if (not (bit_in keys k)) (keyed_times go (bit_of keys k) (n - (i + 1)) ms)

    item_next : w ≡ then (go ns) behind
    item_next =
        let z : n - i ≡ suc (n - (i + 1)) = omega arith in
        e ∙ ap (λ (j : ℕ). keyed_times go keys j ns) z ∙ ap (λ (j : ℕ). then (go ns) (λ ms. kept_if (not (bit_in keys j)) (keyed_times go (bit_of keys j) (n - (i + 1)) ms))) (sym ek)

    pub item_stops : {q : Option (Unit {0})} → r ≡ None → q ≡ None → Agrees w p q
    item_stops f = stopped (item_next ∙ ap (λ (x : Remaining). then x behind) (refused a f))

    module _ {u : Unit {0}} (f : r ≡ Some u) where
      item_there : w ≡ behind (nodes_of p)
      item_there = item_next ∙ ap (λ (x : Remaining). then x behind) (goes_on a f).1

      pub same_key : bit_in keys k ≡ true → Agrees w p None
      same_key d = stopped (item_there ∙ ap (λ (t : Bool). kept_if (not t) (keyed_times go (bit_of keys k) (n - (i + 1)) (nodes_of p))) d) refl

      pub other_key : bit_in keys k ≡ false → Fits p × (w ≡ keyed_times go (bit_of keys k) (n - (i + 1)) (nodes_of p))
      other_key d = ((goes_on a f).0, item_there ∙ ap (λ (t : Bool). kept_if (not t) (keyed_times go (bit_of keys k) (n - (i + 1)) (nodes_of p))) d)

  pub items_end : n ≤ i → w ≡ left ns
  items_end h = let z : n - i ≡ 0 = omega arith in e ∙ ap (λ (j : ℕ). keyed_times go keys j ns) z

-- the test of a key, made before what goes on from there
kept_then : (t : Bool) (y : Remaining) (g : List Node → Remaining) → then y (λ ms. kept_if t (g ms)) ≡ then (then y (λ ms. kept_if t (left ms))) g
kept_then true wrong g = refl
kept_then false wrong g = refl
kept_then true (left ns) g = refl
kept_then false (left ns) g = refl

same_keys : (go : List Node → Remaining) (keys k : ℕ) (y : Remaining) (n : ℕ) → ((ns : List Node) → y ≡ left ns → k ≡ key_of ns)
    → then y (λ ns. keyed_times go keys (suc n) ns) ≡ then (then (then y go) (λ ms. kept_if (not (bit_in keys k)) (left ms))) (λ ns. keyed_times go (bit_of keys k) n ns)
same_keys go keys k wrong n f = refl
same_keys go keys k (left ns) n f = rw (← f ns refl) (kept_then (not (bit_in keys k)) (go ns) (λ ms. keyed_times go (bit_of keys k) n ms))

-- ---- a node

pub no_node : (d place l : ℕ) (f : Bool) {c b : List ℕ} → Fit c b → length c < 2 → pass_over d place l f (nodes_from c b) ≡ wrong
no_node d place l f {c} {b} fit h = rw (none c b fit.room h) (of_none d)
  where
    none : (c b : List ℕ) → Room c b → length c < 2 → nodes_from c b ≡ []
    none [] b r h = refl
    none (x ∷ []) b r h = refl
    none (x ∷ (y ∷ c)) b r h = absurd (omega arith)

    of_none : (d : ℕ) → pass_over d place l f [] ≡ wrong
    of_none zero = refl
    of_none (suc d) = refl

plan_elifs : (k : Kind) (c : ℕ) (b : List ℕ) (l : ℕ) (f : Bool) → plan_of k c (field (take (body_size (body k)) b) 0) l f ≡ plan_of k c (get_or b 0 0) l f
plan_elifs k_program c b l f = refl
plan_elifs k_elif c b l f = refl
plan_elifs k_item c b l f = refl
plan_elifs (k_stmt k_block) c b l f = refl
plan_elifs (k_stmt k_if) c [] l f = refl
plan_elifs (k_stmt k_if) c (x ∷ b) l f = refl
plan_elifs (k_stmt k_for) c b l f = refl
plan_elifs (k_stmt k_return) c b l f = refl
plan_elifs (k_stmt k_expr_stmt) c b l f = refl
plan_elifs (k_stmt k_var_decl) c b l f = refl
plan_elifs (k_stmt k_fn_decl) c b l f = refl
plan_elifs (k_right k_table) c b l f = refl
plan_elifs (k_right k_array) c b l f = refl
plan_elifs (k_right k_array_access) c b l f = refl
plan_elifs (k_expr k_array_mut) c b l f = refl
plan_elifs (k_expr k_call) c b l f = refl
plan_elifs (k_expr k_assign) c b l f = refl
plan_elifs (k_expr k_binary) c b l f = refl
plan_elifs (k_expr k_unary) c b l f = refl
plan_elifs (k_expr k_num) c b l f = refl
plan_elifs (k_expr k_text) c b l f = refl
plan_elifs (k_expr k_name) c b l f = refl
plan_elifs (k_expr k_true) c b l f = refl
plan_elifs (k_expr k_false) c b l f = refl

no_table : (k : Kind) → (number_of k ≡ 10 → ⊥) → is_table k ≡ false
no_table k_program h = refl
no_table k_elif h = refl
no_table k_item h = refl
no_table (k_stmt k) h = refl
no_table (k_right k_table) h = absurd (h refl)
no_table (k_right k_array) h = refl
no_table (k_right k_array_access) h = refl
no_table (k_expr k) h = refl

module _ {c b : List ℕ} (d place l : ℕ) (f : Bool) (deep : d ≡ 0 → ⊥) (g : First c b) where
  abbrev nodes_behind : List Node
  nodes_behind = nodes_from (drop 2 c) (drop (size_at c) b)

  abbrev go : ℕ → ℕ → Bool → List Node → Remaining
  go q m h ms = pass_over (d - 1) q m h ms

  abbrev the_plan : Plan
  the_plan = plan_of (kind_of (get_or c 0 0)) (get_or c 1 0) (get_or b 0 0) l f

  pub pass_first : pass_over d place l f (nodes_from c b) ≡ kept_if (stands place (get_or c 0 0)) (in_limits go (kind_of (get_or c 0 0)) (get_or c 1 0) the_plan nodes_behind)
  pass_first =
      let e : d ≡ suc (d - 1) = omega arith in
      ap (λ (j : ℕ). pass_over j place l f (nodes_from c b)) e
      ∙ ap (pass_over (suc (d - 1)) place l f) g.nodes
      ∙ ap (λ (n : ℕ). kept_if (stands place n) (in_limits go (kind_of (get_or c 0 0)) (get_or c 1 0) (plan_of (kind_of (get_or c 0 0)) (get_or c 1 0) (field (take (size_at c) b) 0) l f) nodes_behind)) (number_kind (get_or c 0 0) g.least g.known)
      ∙ ap (λ (p : Plan). kept_if (stands place (get_or c 0 0)) (in_limits go (kind_of (get_or c 0 0)) (get_or c 1 0) p nodes_behind)) (plan_elifs (kind_of (get_or c 0 0)) (get_or c 1 0) b l f)

  pub not_there : stands place (get_or c 0 0) ≡ false → pass_over d place l f (nodes_from c b) ≡ wrong
  not_there e = pass_first ∙ ap (λ (t : Bool). kept_if t (in_limits go (kind_of (get_or c 0 0)) (get_or c 1 0) the_plan nodes_behind)) e

  module _ (there : stands place (get_or c 0 0) ≡ true) {plan : Plan} (ep : plan ≡ the_plan) where
    inner : pass_over d place l f (nodes_from c b) ≡ in_limits go (kind_of (get_or c 0 0)) (get_or c 1 0) plan nodes_behind
    inner =
        pass_first
        ∙ ap (λ (t : Bool). kept_if t (in_limits go (kind_of (get_or c 0 0)) (get_or c 1 0) the_plan nodes_behind)) there
        ∙ ap (λ (o : Plan). in_limits go (kind_of (get_or c 0 0)) (get_or c 1 0) o nodes_behind) (sym ep)

    pub unfit_node : plan.fits ≡ false → pass_over d place l f (nodes_from c b) ≡ wrong
    unfit_node e = inner ∙ rw e (by_test (is_table (kind_of (get_or c 0 0))))
      where
        by_test : (t : Bool) → cond t (then wrong (λ ms. keyed_times (λ ks. go places.item_bits 0 false ks) 0 (get_or c 1 0) ms)) (children go plan wrong) ≡ wrong
        by_test true = refl
        by_test false = refl

    module _ (fits : plan.fits ≡ true) where
      pub table_node : get_or c 0 0 ≡ 10 → {n : ℕ} → n ≡ get_or c 1 0 → pass_over d place l f (nodes_from c b) ≡ keyed_times (λ ms. pass_over (d - 1) places.item_bits 0 false ms) 0 n nodes_behind
      table_node e en = inner ∙ rw (fits, e, en)

      pub other_node : (get_or c 0 0 ≡ 10 → ⊥) → pass_over d place l f (nodes_from c b) ≡ children go plan (left nodes_behind)
      other_node n =
          inner ∙ rw (fits, no_table (kind_of (get_or c 0 0)) (λ e. n (sym (number_kind (get_or c 0 0) g.least g.known) ∙ e)))

-- ---- the whole

pub all_nodes : {c b : List ℕ} → Fit c b → eqb (length c) 0 ≡ all_used_up (left (nodes_from c b))
all_nodes {c} {b} f = by_room c b f.room
  where
    by_room : (c b : List ℕ) → Room c b → eqb (length c) 0 ≡ all_used_up (left (nodes_from c b))
    by_room c b none = refl
    by_room c b (one l k h r) = ne_eqb (length c) 0 (λ e. omega arith)
