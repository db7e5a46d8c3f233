-- The pass over nodes and the definition of the trees agree: what is left after a tree that keeps its limits.
use mathlib.Core.Path.{◌≡◌, refl, sym, ap, ap₂, ◌∙◌}
use mathlib.Core.Bool.{Bool, true, false, cond, not, ◌&&◌, ◌||◌, and-true, and_assoc}
use mathlib.Core.List.{List, [], ◌∷◌}
use Prim.Native.Nat.{ℕ, zero, suc, ◌+◌, ◌-◌, ◌^◌}
use native.Mathlib.Nat.{zero-div}
use native.Mathlib.Omega.{arith}
use lib.Dec.{T, leb, eqb}
use lib.ListN.{length}
use borrow.Author.Tests.{ne_eqb, lt-leb, eq-eqb}
use Rattle.ast.specs.Node.{StmtKind, k_block, k_if, k_for, k_return, k_expr_stmt, k_var_decl, k_fn_decl, RightKind, k_table, k_array, k_array_access}
use Rattle.ast.specs.Node.{ExprKind, k_array_mut, k_call, k_assign, k_binary, k_unary, k_num, k_text, k_name, k_true, k_false, Kind, k_program, k_elif, k_item, k_stmt, k_right, k_expr, Node, node, number_of}
use Rattle.ast.specs.Tree.{Lit, Expr, Expression, Table, Array, ArrayAccess, no_exprs, more_exprs, Items, no_items}
use Rattle.ast.specs.Tree.{Stmt, Block, IfStmt, ForStmt, Return, ReturnExpr, ExprStmt, VarDecl, VarInit, FnDecl, Stmts, no_stmts, more_stmts}
use Rattle.ast.specs.Structure.{Parsed, Fails, Takes, ◌>>=◌, guard, making, many, field, Rule, no_rule, or_kind, by_class, at, childless, Keyed, keyed, more_keyed, Arm, arm, rest_of, Parsers, expr_kind, right_kind, expr_side, item_rule, call_rule, block_rule, stmt_kind, elif_rule, above, parsers}
use Rattle.ast.specs.Structure.{distinct, item_count, expr_ok, rhs_ok, exprs_ok, items_ok, source_ok, stmt_ok, stmts_ok, rest_ok, all_used, program_rule, parse}
use Rattle.ast.specs.laws.Kinds.{kind_number, by_kind}
use Rattle.ast.specs.laws.Tests.{between_le, below, entry}
use Rattle.ast.specs.inner.Pass as places
use Rattle.ast.specs.inner.Pass.{Remaining, left, kept_if, then, times, keeping, plan_of, plan_one, headed, branching, stands, bit_in, bit_of, key_of, keyed_times, children, in_limits, pass_over}
use Rattle.ast.specs.inner.Answer.{parsed, all_used_up}
use Rattle.ast.proofs.Keeping.{only_and, then_left, then_ext, then_then, keeping_guard, keeping_ext, bind, last, keeping_many, count_many}
use Rattle.ast.proofs.Keys.{keys_ok, keys_distinct}

-- ---- tests of the parts

abbrev keyed_ok : Keyed → Bool
keyed_ok (keyed k e) = expr_ok e

abbrev any : {A : Type 0} → A → Bool
any x = true

abbrev stmt_test : ℕ → Bool → Stmt → Bool
stmt_test l f t = stmt_ok t l f

abbrev stmts_test : ℕ → Bool → Stmts → Bool
stmts_test l f t = stmts_ok t l f

abbrev arm_ok : ℕ → Bool → Arm → Bool
arm_ok l f (arm c b) = expr_ok c && stmts_ok b l f

abbrev arms_ok : ℕ → Bool → List Arm → Bool
arms_ok l f [] = true
arms_ok l f (a ∷ j) = arm_ok l f a && arms_ok l f j

regroup : (p q r s : Bool) → (p && (q && (r && s))) ≡ (((p && q) && r) && s)
regroup p q r s = simp and_assoc

rest_ok_lem : (l : ℕ) (f : Bool) (j : List Arm) (o : Stmts) → rest_ok (rest_of j o) l f ≡ (arms_ok l f j && stmts_ok o l f)
rest_ok_lem l f [] o = refl
rest_ok_lem l f (arm c b ∷ j) o = ap (λ (t : Bool). expr_ok c && (stmts_ok b l f && t)) (rest_ok_lem l f j o) ∙ regroup (expr_ok c) (stmts_ok b l f) (arms_ok l f j) (stmts_ok o l f)

-- ---- the children of a node, one form after the other

module _ (go : ℕ → ℕ → Bool → List Node → Remaining) where
  plain_children : (t : Bool) (p n l : ℕ) (f : Bool) (ns : List Node) → children go (plan_one t p n l f) (kept_if t (left ns)) ≡ kept_if t (times (λ ks. go p l f ks) n ns)
  plain_children true p n l f ns = then_left _ ∙ then_left _ ∙ then_left _
  plain_children false p n l f ns = refl

  headed_children : (t : Bool) (p n l : ℕ) (f : Bool) (ns : List Node) → children go (headed t p n l f) (kept_if t (left ns)) ≡ kept_if t (then (times (λ ks. go p l f ks) n ns) (λ ms. go places.block l f ms))
  headed_children true p n l f ns =
      then_left _ ∙ then_left _ ∙ then_ext (times (λ ks. go p l f ks) n ns) (λ ms. times (λ ks. go places.block l f ks) 1 ms) (λ ms. go places.block l f ms) (λ ms. then_left (go places.block l f ms))
  headed_children false p n l f ns = refl

  branching_children : (c e l : ℕ) (f : Bool) (ns : List Node) → children go (branching c e l f) (kept_if (leb (2 + e) c) (left ns))
      ≡ kept_if (leb (2 + e) c) (then (go places.expression l f ns) (λ ms. then (go places.block l f ms) (λ ks. then (times (λ js. go places.elif_bits l f js) e ks) (λ js. times (λ is. go places.statement l f is) (c - (2 + e)) js))))
  branching_children c e l f ns = by_test (leb (2 + e) c)
    where
      E : Remaining
      E = go places.expression l f ns

      B : List Node → Remaining
      B ms = go places.block l f ms

      B1 : List Node → Remaining
      B1 ms = then (go places.block l f ms) (λ ks. left ks)

      A : List Node → Remaining
      A ms = times (λ js. go places.elif_bits l f js) e ms

      S : List Node → Remaining
      S ms = times (λ is. go places.statement l f is) (c - (2 + e)) ms

      by_test : (t : Bool) → then (then (then (then (kept_if t (left ns)) (λ ms. then (go places.expression l f ms) (λ ks. left ks))) B1) A) S ≡ kept_if t (then E (λ ms. then (B ms) (λ ks. then (A ks) S)))
      by_test false = refl
      by_test true =
          ap (λ (x : Remaining). then (then (then x B1) A) S) (then_left E)
          ∙ ap (λ (x : Remaining). then (then x A) S) (then_ext E B1 B (λ ms. then_left (B ms)))
          ∙ then_then (then E B) A S
          ∙ then_then E B (λ ms. then (A ms) S)

  one_child : (t : Bool) (p l : ℕ) (f : Bool) (ns : List Node) → kept_if t (go p l f ns) ≡ children go (plan_one t p 1 l f) (kept_if t (left ns))
  one_child t p l f ns = sym (plain_children t p 1 l f ns ∙ ap (kept_if t) (then_left (go p l f ns)))

  two_children : (t : Bool) (p l : ℕ) (f : Bool) (ns : List Node) → kept_if t (then (go p l f ns) (λ ms. go p l f ms)) ≡ children go (plan_one t p 2 l f) (kept_if t (left ns))
  two_children t p l f ns =
      sym (plain_children t p 2 l f ns ∙ ap (kept_if t) (then_ext (go p l f ns) (λ ms. then (go p l f ms) (λ ks. left ks)) (λ ms. go p l f ms) (λ ms. then_left (go p l f ms))))

  head_and_block : (t : Bool) (p l : ℕ) (f : Bool) (ns : List Node) → kept_if t (then (go p l f ns) (λ ms. go places.block l f ms)) ≡ children go (headed t p 1 l f) (kept_if t (left ns))
  head_and_block t p l f ns = sym (headed_children t p 1 l f ns ∙ ap (λ (x : Remaining). kept_if t (then x (λ ms. go places.block l f ms))) (then_left (go p l f ns)))

  -- no children
  leaf : {A : Type 0} (ok : A → Bool) (a : A) → ok a ≡ true → (p l : ℕ) (f : Bool) (ns : List Node) (t : Bool) → keeping ok (guard t (Takes a ns)) ≡ children go (plan_one t p 0 l f) (kept_if t (left ns))
  leaf ok a e p l f ns true = ap (λ (u : Bool). kept_if u (left ns)) e
  leaf ok a e p l f ns false = refl

-- ---- the kinds of one class at a place

stmts_stand : (p : ℕ) (t : Bool) → stands p 2 ≡ t → stands p 3 ≡ t → stands p 5 ≡ t → stands p 6 ≡ t → stands p 7 ≡ t → stands p 8 ≡ t → stands p 9 ≡ t → (k : StmtKind) → stands p (number_of (k_stmt k)) ≡ t
stmts_stand p t a b c d e f g k_block = a
stmts_stand p t a b c d e f g k_if = b
stmts_stand p t a b c d e f g k_for = c
stmts_stand p t a b c d e f g k_return = d
stmts_stand p t a b c d e f g k_expr_stmt = e
stmts_stand p t a b c d e f g k_var_decl = f
stmts_stand p t a b c d e f g k_fn_decl = g

rights_stand : (p : ℕ) (t : Bool) → stands p 10 ≡ t → stands p 12 ≡ t → stands p 13 ≡ t → (k : RightKind) → stands p (number_of (k_right k)) ≡ t
rights_stand p t a b c k_table = a
rights_stand p t a b c k_array = b
rights_stand p t a b c k_array_access = c

exprs_stand : (p : ℕ) (t : Bool) → stands p 14 ≡ t → stands p 15 ≡ t → stands p 16 ≡ t → stands p 17 ≡ t → stands p 18 ≡ t → stands p 19 ≡ t → stands p 20 ≡ t → stands p 21 ≡ t → stands p 22 ≡ t → stands p 23 ≡ t → (k : ExprKind) → stands p (number_of (k_expr k)) ≡ t
exprs_stand p t a b c d e f g h i j k_array_mut = a
exprs_stand p t a b c d e f g h i j k_call = b
exprs_stand p t a b c d e f g h i j k_assign = c
exprs_stand p t a b c d e f g h i j k_binary = d
exprs_stand p t a b c d e f g h i j k_unary = e
exprs_stand p t a b c d e f g h i j k_num = f
exprs_stand p t a b c d e f g h i j k_text = g
exprs_stand p t a b c d e f g h i j k_name = h
exprs_stand p t a b c d e f g h i j k_true = i
exprs_stand p t a b c d e f g h i j k_false = j

none_stands : (n : ℕ) → stands 0 n ≡ false
none_stands n = rw (zero-div (2 ^ n))

abbrev agree : Bool → Bool → Bool
agree true b = b
agree false b = not b

agree_eq : (a b : Bool) → T (agree a b) → a ≡ b
agree_eq true true h = refl
agree_eq true false h = absurd h
agree_eq false true h = absurd h
agree_eq false false h = refl

abbrev more : ℕ → Kind → ℕ → ℕ → Bool
more place j others n = agree (stands place n) (eqb (number_of j) n || stands others n)

-- a place has one kind more than another
one_more_lem : (place : ℕ) (j : Kind) (others : ℕ) → T (below (more place j others) 24) → (k : Kind) → stands place (number_of k) ≡ (eqb (number_of j) (number_of k) || stands others (number_of k))
one_more_lem place j others test k =
    let n = number_of k in
    let u = between_le 1 23 n (kind_number k).1 in
    agree_eq (stands place n) (eqb (number_of j) n || stands others n) (entry (more place j others) 24 test n (omega arith))

-- ---- a rule, and a place: what is left where the tree passes its test; d levels are left below

abbrev Below : ℕ → ℕ → Bool → Kind → ℕ → List ℕ → List Node → Remaining
Below d l f k c b ns = in_limits (λ q m g ms. pass_over d q m g ms) k c (plan_of k c (field b 0) l f) ns

abbrev Rules : {A K : Type 0} → ℕ → (ℕ → Bool → A → Bool) → Bool → (K → Kind) → (K → Rule A) → Type 0
Rules {K = K} d ok t kind r = (k : K) (l : ℕ) (f : Bool) (c : ℕ) (b : List ℕ) (ns : List Node) → keeping (ok l f) (r k c b ns) ≡ kept_if t (Below d l f (kind k) c b ns)

-- a class of kinds, which stands there or not
record SameClass {A K : Type 0} (d : ℕ) (ok : ℕ → Bool → A → Bool) (t : Bool) (kind : K → Kind) (r : K → Rule A) : Type 0 where
  pub same : Rules d ok t kind r

record SameRule {A : Type 0} (d : ℕ) (ok : ℕ → Bool → A → Bool) (k : Kind) (r : Rule A) : Type 0 where
  pub same : (l : ℕ) (f : Bool) (c : ℕ) (b : List ℕ) (ns : List Node) → keeping (ok l f) (r c b ns) ≡ Below d l f k c b ns

record SamePlace {A : Type 0} (d : ℕ) (ok : ℕ → Bool → A → Bool) (place : ℕ) (r : Kind → Rule A) : Type 0 where
  pub same : (k : Kind) (l : ℕ) (f : Bool) (c : ℕ) (b : List ℕ) (ns : List Node) → keeping (ok l f) (r k c b ns) ≡ kept_if (stands place (number_of k)) (Below d l f k c b ns)

module _ {A : Type 0} {d : ℕ} {ok : ℕ → Bool → A → Bool} where
  same_none : SamePlace d ok 0 no_rule
  same_none = record { same = λ k l f c b ns. ap (λ (t : Bool). kept_if t (Below d l f k c b ns)) (sym (none_stands (number_of k))) }

  absent : {K : Type 0} {kind : K → Kind} → SameClass d ok false kind no_rule
  absent = record { same = λ k l f c b ns. refl }

  same_or : (place : ℕ) {j : Kind} {others : ℕ} {r : Rule A} {rest : Kind → Rule A} → SameRule d ok j r → SamePlace d ok others rest → T (below (more place j others) 24) → SamePlace d ok place (or_kind j r rest)
  same_or place {j} {others} {r} {rest} x y test = record {
    same = λ k l f c b ns. by_kind (λ i o. keeping (ok l f) o ≡ kept_if (stands place (number_of i)) (Below d l f i c b ns)) j r rest k c b ns
        (rw (one_more_lem place j others test j, eq-eqb (number_of j) (number_of j) refl) (x.same l f c b ns))
        (λ e. rw (one_more_lem place j others test k, e) (y.same k l f c b ns));
  }

  -- statements, right sides and expressions
  module _ (place : ℕ) {s r e : Bool} {x : StmtKind → Rule A} {y : RightKind → Rule A} {z : ExprKind → Rule A}
      (hs : SameClass d ok s k_stmt x) (hr : SameClass d ok r k_right y) (he : SameClass d ok e k_expr z)
      (p1 : stands place 1 ≡ false) (p4 : stands place 4 ≡ false) (p11 : stands place 11 ≡ false)
      (ps : (k : StmtKind) → stands place (number_of (k_stmt k)) ≡ s) (pr : (k : RightKind) → stands place (number_of (k_right k)) ≡ r) (pe : (k : ExprKind) → stands place (number_of (k_expr k)) ≡ e) where
    class_rules : (k : Kind) (l : ℕ) (f : Bool) (c : ℕ) (b : List ℕ) (ns : List Node) → keeping (ok l f) (by_class x y z k c b ns) ≡ kept_if (stands place (number_of k)) (Below d l f k c b ns)
    class_rules k_program l f c b ns = rw p1
    class_rules k_elif l f c b ns = rw p4
    class_rules k_item l f c b ns = rw p11
    class_rules (k_stmt k) l f c b ns = rw (ps k) (hs.same k l f c b ns)
    class_rules (k_right k) l f c b ns = rw (pr k) (hr.same k l f c b ns)
    class_rules (k_expr k) l f c b ns = rw (pe k) (he.same k l f c b ns)

    same_class : SamePlace d ok place (by_class x y z)
    same_class = record { same = class_rules }

-- ---- the parsers where d levels are left, and the pass

abbrev Agrees : {A : Type 0} → (ℕ → Bool → A → Bool) → ℕ → ℕ → (List Node → Parsed A) → Type 0
Agrees ok d place f = (l : ℕ) (g : Bool) (ns : List Node) → keeping (ok l g) (f ns) ≡ pass_over d place l g ns

same_at : {A : Type 0} {d : ℕ} {ok : ℕ → Bool → A → Bool} {place : ℕ} {r : Kind → Rule A} → SamePlace d ok place r → Agrees ok (suc d) place (at r)
same_at h l g [] = refl
same_at h l g (node k c b ∷ ns) = h.same k l g c b ns

record Same (d : ℕ) (P : Parsers) : Type 0 where
  pub expr : Agrees (λ l f. expr_ok) d places.expression P.expr
  pub rhs : Agrees (λ l f. rhs_ok) d places.right_side P.rhs
  pub item : Agrees (λ l f. keyed_ok) d places.item_bits P.item
  pub key : (ns : List Node) (k : ℕ) (t : Expr) (ms : List Node) → P.item ns ≡ Takes (keyed k t) ms → k ≡ key_of ns
  pub literal : Agrees (λ l f. any) d places.literal_bits P.literal
  pub name : Agrees (λ l f. any) d places.name P.name
  pub source : Agrees (λ l f. source_ok) d places.name_or_call P.source
  pub stmt : Agrees stmt_test d places.statement P.stmt
  pub block : Agrees stmts_test d places.block P.block
  pub elif : Agrees arm_ok d places.elif_bits P.elif

keyed_algebra : (n x e y : Bool) → ((n && x) && (e && y)) ≡ ((e && n) && (x && y))
keyed_algebra true true true y = refl
keyed_algebra true true false y = refl
keyed_algebra true false true y = refl
keyed_algebra true false false y = refl
keyed_algebra false x true y = refl
keyed_algebra false x false y = refl

module _ {d : ℕ} {P : Parsers} (h : Same d P) where
  abbrev go : ℕ → ℕ → Bool → List Node → Remaining
  go q m g ms = pass_over d q m g ms

  many_exprs : (l : ℕ) (f : Bool) (n : ℕ) (ns : List Node) → keeping exprs_ok (many more_exprs no_exprs P.expr n ns) ≡ times (λ ks. pass_over d places.expression l f ks) n ns
  many_exprs l f n ns = keeping_many more_exprs no_exprs expr_ok exprs_ok refl (λ x y. refl) P.expr (λ ks. pass_over d places.expression l f ks) (h.expr l f) n ns

  many_stmts : (l : ℕ) (f : Bool) (n : ℕ) (ns : List Node) → keeping (stmts_test l f) (many more_stmts no_stmts P.stmt n ns) ≡ times (λ ks. pass_over d places.statement l f ks) n ns
  many_stmts l f n ns = keeping_many more_stmts no_stmts (stmt_test l f) (stmts_test l f) refl (λ x y. refl) P.stmt (λ ks. pass_over d places.statement l f ks) (h.stmt l f) n ns

  many_items : (m n : ℕ) (ns : List Node) → keeping (λ (is : Items). keys_ok m is && items_ok is) (many more_keyed no_items P.item n ns) ≡ keyed_times (λ ks. pass_over d places.item_bits 0 false ks) m n ns
  many_items m zero ns = refl
  many_items m (suc n) ns =
      bind (λ (is : Items). keys_ok m is && items_ok is) keyed_ok true (P.item ns) (λ a ms. many more_keyed no_items P.item n ms >>= λ is ks. Takes (more_keyed a is) ks) (pass_over d places.item_bits 0 false ns)
      (λ ms. kept_if (not (bit_in m (key_of ns))) (keyed_times (λ ks. pass_over d places.item_bits 0 false ks) (bit_of m (key_of ns)) n ms)) (h.item 0 false ns) (rest (λ j ms. many_items j n ms))
    where
      rest : ((j : ℕ) (ms : List Node) → keeping (λ (is : Items). keys_ok j is && items_ok is) (many more_keyed no_items P.item n ms) ≡ keyed_times (λ ks. pass_over d places.item_bits 0 false ks) j n ms)
          → (a : Keyed) (ms : List Node) → P.item ns ≡ Takes a ms
          → keeping (λ (is : Items). keys_ok m is && items_ok is) (many more_keyed no_items P.item n ms >>= λ is ks. Takes (more_keyed a is) ks)
          ≡ kept_if (true && keyed_ok a) (kept_if (not (bit_in m (key_of ns))) (keyed_times (λ ks. pass_over d places.item_bits 0 false ks) (bit_of m (key_of ns)) n ms))
      rest ih (keyed k t) ms w =
          last (λ (is : Items). keys_ok m is && items_ok is) (λ (is : Items). keys_ok (bit_of m k) is && items_ok is) (expr_ok t && not (bit_in m k)) (many more_keyed no_items P.item n ms) (more_keyed (keyed k t))
          (keyed_times (λ ks. pass_over d places.item_bits 0 false ks) (bit_of m k) n ms) (ih (bit_of m k) ms)
          (λ is ks v. keyed_algebra (not (bit_in m k)) (keys_ok (bit_of m k) is) (expr_ok t) (items_ok is))
          ∙ only_and (expr_ok t) (not (bit_in m k)) (keyed_times (λ ks. pass_over d places.item_bits 0 false ks) (bit_of m k) n ms)
          ∙ ap (λ (j : ℕ). kept_if (expr_ok t) (kept_if (not (bit_in m j)) (keyed_times (λ ks. pass_over d places.item_bits 0 false ks) (bit_of m j) n ms))) (h.key ns k t ms w)

  -- the key of an Item
  item_key : (ns : List Node) (k : ℕ) (t : Expr) (ms : List Node) → at (or_kind k_item (item_rule P) no_rule) ns ≡ Takes (keyed k t) ms → k ≡ key_of ns
  item_key [] k t ms w = let z : ◌≡◌ {A = ℕ} 0 1 = cc in absurd (omega arith)
  item_key (node j c b ∷ ns) k t ms w =
      by_kind (λ i o. o ≡ Takes (keyed k t) ms → k ≡ key_of (node i c b ∷ ns)) k_item (item_rule P) no_rule j c b ns (back (eqb c 1) (P.expr ns)) (λ e v. let z : ◌≡◌ {A = ℕ} 0 1 = cc in absurd (omega arith)) w
    where
      back : (u : Bool) (p : Parsed Expr) → guard u (p >>= making (keyed (field b 0))) ≡ Takes (keyed k t) ms → k ≡ field b 0
      back true Fails v = let z : ◌≡◌ {A = ℕ} 0 1 = cc in absurd (omega arith)
      back true (Takes x ks) v = cc
      back false p v = let z : ◌≡◌ {A = ℕ} 0 1 = cc in absurd (omega arith)

  -- 14 to 23
  same_expr : Rules d (λ l f. expr_ok) true k_expr (expr_kind P)
  same_expr k_array_mut l f c b ns =
      keeping_guard expr_ok (eqb c 2) _
      ∙ ap (kept_if (eqb c 2)) (bind expr_ok expr_ok true (P.expr ns) _ _ (λ ms. pass_over d places.expression l f ms) (h.expr l f ns) (λ x ms w. last expr_ok expr_ok (expr_ok x) (P.expr ms) _ _ (h.expr l f ms) (λ y ks v. refl)))
      ∙ two_children go (eqb c 2) places.expression l f ns
  same_expr k_call l f c b ns = last expr_ok exprs_ok true (many more_exprs no_exprs P.expr c ns) _ _ (many_exprs l f c ns) (λ x ms w. refl) ∙ sym (plain_children go true places.expression c l f ns)
  same_expr k_assign l f c b ns =
      keeping_guard expr_ok (eqb c 1) _ ∙ ap (kept_if (eqb c 1)) (last expr_ok rhs_ok true (P.rhs ns) _ _ (h.rhs l f ns) (λ x ms w. refl)) ∙ one_child go (eqb c 1) places.right_side l f ns
  same_expr k_binary l f c b ns =
      keeping_guard expr_ok (eqb c 2) _
      ∙ ap (kept_if (eqb c 2)) (bind expr_ok expr_ok true (P.expr ns) _ _ (λ ms. pass_over d places.expression l f ms) (h.expr l f ns) (λ x ms w. last expr_ok expr_ok (expr_ok x) (P.expr ms) _ _ (h.expr l f ms) (λ y ks v. refl)))
      ∙ two_children go (eqb c 2) places.expression l f ns
  same_expr k_unary l f c b ns =
      keeping_guard expr_ok (eqb c 1) _ ∙ ap (kept_if (eqb c 1)) (last expr_ok expr_ok true (P.expr ns) _ _ (h.expr l f ns) (λ x ms w. refl)) ∙ one_child go (eqb c 1) places.expression l f ns
  same_expr k_num l f c b ns = leaf go expr_ok _ refl places.expression l f ns (eqb c 0)
  same_expr k_text l f c b ns = leaf go expr_ok _ refl places.expression l f ns (eqb c 0)
  same_expr k_name l f c b ns = leaf go expr_ok _ refl places.expression l f ns (eqb c 0)
  same_expr k_true l f c b ns = leaf go expr_ok _ refl places.expression l f ns (eqb c 0)
  same_expr k_false l f c b ns = leaf go expr_ok _ refl places.expression l f ns (eqb c 0)

  -- 15 in a For
  same_call : SameRule d (λ l f. source_ok) (k_expr k_call) (call_rule P)
  same_call = record {
    same = λ l f c b ns.
        last source_ok exprs_ok true (many more_exprs no_exprs P.expr c ns) _ _ (many_exprs l f c ns) (λ x ms w. refl) ∙ sym (plain_children go true places.expression c l f ns);
  }

  -- 10, 12, 13
  same_right : Rules d (λ l f. rhs_ok) true k_right (right_kind P)
  same_right k_table l f c b ns =
      last rhs_ok (λ (is : Items). distinct is && items_ok is) (leb c 16) (many more_keyed no_items P.item c ns) Table (keyed_times (λ ks. pass_over d places.item_bits 0 false ks) 0 c ns)
      (keeping_ext (λ (is : Items). distinct is && items_ok is) (λ (is : Items). keys_ok 0 is && items_ok is) (many more_keyed no_items P.item c ns) (λ is. ap (λ (t : Bool). t && items_ok is) (sym (keys_distinct is))) ∙ many_items 0 c ns)
      (λ is ms w. ap (λ (n : ℕ). leb n 16 && (distinct is && items_ok is)) (count_many more_keyed no_items item_count refl counted P.item c ns is ms w))
      ∙ front (leb c 16)
    where
      counted : (x : Keyed) (is : Items) → item_count (more_keyed x is) ≡ suc (item_count is)
      counted (keyed k t) is = refl

      front : (t : Bool) → kept_if t (keyed_times (λ ks. pass_over d places.item_bits 0 false ks) 0 c ns) ≡ then (kept_if t (left ns)) (λ ms. keyed_times (λ ks. pass_over d places.item_bits 0 false ks) 0 c ms)
      front true = refl
      front false = refl
  same_right k_array l f c b ns =
      last rhs_ok any (leb c 24) (many ◌∷◌ [] P.literal c ns) (Array (field b 0)) _ (keeping_many ◌∷◌ [] any any refl (λ x y. refl) P.literal _ (h.literal l f) c ns)
      (λ ls ms w. ap (λ (n : ℕ). leb n 24) (count_many ◌∷◌ [] length refl (λ x y. refl) P.literal c ns ls ms w) ∙ sym (and-true (leb c 24)))
      ∙ sym (plain_children go (leb c 24) places.literal_bits c l f ns)
  same_right k_array_access l f c b ns =
      keeping_guard rhs_ok (eqb c 1) _ ∙ ap (kept_if (eqb c 1)) (last rhs_ok expr_ok true (P.expr ns) (ArrayAccess (field b 0)) _ (h.expr l f ns) (λ x ms w. refl)) ∙ one_child go (eqb c 1) places.expression l f ns

  same_side : Rules d (λ l f. rhs_ok) true k_expr (expr_side P)
  same_side k l f c b ns = last rhs_ok expr_ok true (expr_kind P k c b ns) Expression _ (same_expr k l f c b ns) (λ x ms w. refl)

  -- 11
  same_item : SameRule d (λ l f. keyed_ok) k_item (item_rule P)
  same_item = record {
    same = λ l f c b ns.
        keeping_guard keyed_ok (eqb c 1) _ ∙ ap (kept_if (eqb c 1)) (last keyed_ok expr_ok true (P.expr ns) (keyed (field b 0)) _ (h.expr l f ns) (λ x ms w. refl)) ∙ one_child go (eqb c 1) places.expression l f ns;
  }

  -- 4
  same_elif : SameRule d arm_ok k_elif (elif_rule P)
  same_elif = record {
    same = λ l f c b ns.
        keeping_guard (arm_ok l f) (eqb c 2) _
        ∙ ap (kept_if (eqb c 2)) (bind (arm_ok l f) expr_ok true (P.expr ns) _ _ (λ ms. pass_over d places.block l f ms) (h.expr l f ns)
        (λ x ms w. last (arm_ok l f) (stmts_test l f) (expr_ok x) (P.block ms) (arm x) _ (h.block l f ms) (λ y ks v. refl)))
        ∙ head_and_block go (eqb c 2) places.expression l f ns;
  }

  -- 2, 3, 5 to 9
  same_block : SameRule d stmts_test (k_stmt k_block) (block_rule P)
  same_block = record {
    same = λ l f c b ns.
        many_stmts l f c ns ∙ sym (plain_children go true places.statement c l f ns);
  }

  maybe : {A : Type 0} (ok : Stmt → Bool) (okA : A → Bool) (p : ℕ) (l : ℕ) (f : Bool) (none : Stmt) (one : Parsed A) (C : A → Stmt) (ns : List Node)
      → ok none ≡ true → ((x : A) → ok (C x) ≡ okA x) → keeping okA one ≡ pass_over d p l f ns → (c : ℕ)
      → keeping ok (cond (eqb c 0) (Takes none ns) (guard (eqb c 1) (one >>= λ t ms. Takes (C t) ms))) ≡ children go (plan_one (leb c 1) p c l f) (kept_if (leb c 1) (left ns))
  maybe ok okA p l f none one C ns e g q zero = ap (λ (t : Bool). kept_if t (left ns)) e
  maybe ok okA p l f none one C ns e g q (suc zero) = last ok okA true one C _ q (λ x ms w. g x) ∙ one_child go true p l f ns
  maybe ok okA p l f none one C ns e g q (suc (suc c)) =
      rw (ne_eqb (suc (suc c)) 0 (λ z. omega arith), ne_eqb (suc (suc c)) 1 (λ z. omega arith), lt-leb (suc (suc c)) 1 (omega arith))

  same_stmt : Rules d stmt_test true k_stmt (stmt_kind P)
  same_stmt k_block l f c b ns =
      last (stmt_test l f) (stmts_test l f) true (block_rule P c b ns) Block _ (same_block.same l f c b ns) (λ x ms w. refl)
  same_stmt k_if l f c b ns =
      keeping_guard (stmt_test l f) (leb (2 + field b 0) c) _
      ∙ ap (kept_if (leb (2 + field b 0) c))
      (bind (stmt_test l f) expr_ok true (P.expr ns) _ _ (λ ms. then (pass_over d places.block l f ms) (λ ks. then (times (λ js. pass_over d places.elif_bits l f js) (field b 0) ks) (λ js. times (λ is. pass_over d places.statement l f is) (c - (2 + field b 0)) js))) (h.expr l f ns)
      (λ x ms w. bind (stmt_test l f) (stmts_test l f) (expr_ok x) (P.block ms) _ _ (λ ks. then (times (λ js. pass_over d places.elif_bits l f js) (field b 0) ks) (λ js. times (λ is. pass_over d places.statement l f is) (c - (2 + field b 0)) js)) (h.block l f ms)
      (λ y ks v. bind (stmt_test l f) (arms_ok l f) (expr_ok x && stmts_ok y l f) (many ◌∷◌ [] P.elif (field b 0) ks) _ _ (λ js. times (λ is. pass_over d places.statement l f is) (c - (2 + field b 0)) js) (keeping_many ◌∷◌ [] (arm_ok l f) (arms_ok l f) refl (λ x y. refl) P.elif _ (h.elif l f) (field b 0) ks)
      (λ j js u. last (stmt_test l f) (stmts_test l f) ((expr_ok x && stmts_ok y l f) && arms_ok l f j) (many more_stmts no_stmts P.stmt (c - (2 + field b 0)) js) (λ o. IfStmt x y (rest_of j o)) _ (many_stmts l f (c - (2 + field b 0)) js)
      (λ o is z. ap (λ (t : Bool). expr_ok x && (stmts_ok y l f && t)) (rest_ok_lem l f j o) ∙ regroup (expr_ok x) (stmts_ok y l f) (arms_ok l f j) (stmts_ok o l f))))))
      ∙ sym (branching_children go c (field b 0) l f ns)
  same_stmt k_for l f c b ns =
      keeping_guard (stmt_test l f) (eqb c 2) _
      ∙ ap (kept_if (eqb c 2)) (bind (stmt_test l f) source_ok (leb 1 l) (P.source ns) _ _ (λ ms. pass_over d places.block (l - 1) f ms) (h.source (l - 1) f ns)
      (λ x ms w. last (stmt_test l f) (stmts_test (l - 1) f) (leb 1 l && source_ok x) (P.block ms) (ForStmt (field b 0) (field b 1) x) _ (h.block (l - 1) f ms) (λ y ks v. sym (and_assoc (leb 1 l) (source_ok x) (stmts_ok y (l - 1) f)))))
      ∙ sym (only_and (eqb c 2) (leb 1 l) (then (pass_over d places.name_or_call (l - 1) f ns) (λ ms. pass_over d places.block (l - 1) f ms)))
      ∙ head_and_block go (eqb c 2 && leb 1 l) places.name_or_call (l - 1) f ns
  same_stmt k_return l f c b ns = maybe (stmt_test l f) expr_ok places.expression l f Return (P.expr ns) ReturnExpr ns refl (λ x. refl) (h.expr l f ns) c
  same_stmt k_expr_stmt l f c b ns =
      keeping_guard (stmt_test l f) (eqb c 1) _ ∙ ap (kept_if (eqb c 1)) (last (stmt_test l f) expr_ok true (P.expr ns) ExprStmt _ (h.expr l f ns) (λ x ms w. refl)) ∙ one_child go (eqb c 1) places.expression l f ns
  same_stmt k_var_decl l f c b ns = maybe (stmt_test l f) rhs_ok places.right_side l f (VarDecl (field b 0)) (P.rhs ns) (VarInit (field b 0)) ns refl (λ x. refl) (h.rhs l f ns) c
  same_stmt k_fn_decl l f c b ns =
      keeping_guard (stmt_test l f) (leb 1 c) _
      ∙ ap (kept_if (leb 1 c)) (bind (stmt_test l f) any (not f) (many ◌∷◌ [] P.name (c - 1) ns) _ _ (λ ms. pass_over d places.block l true ms) (keeping_many ◌∷◌ [] any any refl (λ x y. refl) P.name _ (h.name l true) (c - 1) ns)
      (λ x ms w. last (stmt_test l f) (stmts_test l true) (not f && true) (P.block ms) (FnDecl (field b 0) x) _ (h.block l true ms) (λ y ks v. ap (λ (t : Bool). t && stmts_ok y l true) (sym (and-true (not f))))))
      ∙ sym (only_and (leb 1 c) (not f) (then (times (λ ks. pass_over d places.name l true ks) (c - 1) ns) (λ ms. pass_over d places.block l true ms)))
      ∙ sym (headed_children go (leb 1 c && not f) places.name (c - 1) l true ns)

  -- a node with no children
  same_leaf : {A : Type 0} (ok : A → Bool) {k : Kind} (g : List ℕ → A) → ((b : List ℕ) → ok (g b) ≡ true)
      → ((c l : ℕ) (f : Bool) (b : List ℕ) (ns : List Node) → children go (plan_one (eqb c 0) places.expression 0 l f) (kept_if (eqb c 0) (left ns)) ≡ Below d l f k c b ns) → SameRule d (λ l f. ok) k (childless g)
  same_leaf ok g e q = record { same = λ l f c b ns. leaf go ok (g b) (e b) places.expression l f ns (eqb c 0) ∙ q c l f b ns }

  literal : (k : Kind) (g : List ℕ → Lit) → ((c l : ℕ) (f : Bool) (b : List ℕ) (ns : List Node) → children go (plan_one (eqb c 0) places.expression 0 l f) (kept_if (eqb c 0) (left ns)) ≡ Below d l f k c b ns) → SameRule d (λ l f. any) k (childless g)
  literal k g q = same_leaf any g (λ b. refl) q

  next : Same (suc d) (above P)
  next =
      record {
        expr = same_at {d = d} (same_class places.expression absent absent (record { same = same_expr }) refl refl refl
            (stmts_stand _ _ refl refl refl refl refl refl refl) (rights_stand _ _ refl refl refl) (exprs_stand _ _ refl refl refl refl refl refl refl refl refl refl));
        rhs = same_at {d = d} (same_class places.right_side absent (record { same = same_right }) (record { same = same_side }) refl refl refl
            (stmts_stand _ _ refl refl refl refl refl refl refl) (rights_stand _ _ refl refl refl) (exprs_stand _ _ refl refl refl refl refl refl refl refl refl refl));
        item = same_at (same_or places.item_bits same_item same_none tt);
        key = item_key;
        literal = same_at (same_or places.literal_bits (literal (k_expr k_num) _ (λ c l f b ns. refl)) (same_or 0xd00000 (literal (k_expr k_text) _ (λ c l f b ns. refl))
            (same_or 0xc00000 (literal (k_expr k_true) _ (λ c l f b ns. refl)) (same_or 0x800000 (literal (k_expr k_false) _ (λ c l f b ns. refl)) same_none tt) tt) tt) tt);
        name = same_at (same_or places.name (same_leaf any {k = k_expr k_name} _ (λ b. refl) (λ c l f b ns. refl)) same_none tt);
        source = same_at (same_or places.name_or_call (same_leaf source_ok {k = k_expr k_name} _ (λ b. refl) (λ c l f b ns. refl)) (same_or 0x8000 same_call same_none tt) tt);
        stmt = same_at {d = d} (same_class places.statement (record { same = same_stmt }) absent absent refl refl refl
            (stmts_stand _ _ refl refl refl refl refl refl refl) (rights_stand _ _ refl refl refl) (exprs_stand _ _ refl refl refl refl refl refl refl refl refl refl));
        block = same_at (same_or places.block same_block same_none tt);
        elif = same_at (same_or places.elif_bits same_elif same_none tt);
      }

same : (d : ℕ) → Same d (parsers d)
same zero =
    record {
      expr = λ l f ns. refl;
      rhs = λ l f ns. refl;
      item = λ l f ns. refl;
      key = λ ns k t ms w. let z : ◌≡◌ {A = ℕ} 0 1 = cc in absurd (omega arith);
      literal = λ l f ns. refl;
      name = λ l f ns. refl;
      source = λ l f ns. refl;
      stmt = λ l f ns. refl;
      block = λ l f ns. refl;
      elif = λ l f ns. refl;
    }
same (suc d) = next (same d)

-- ---- the whole

used : (p : Parsed Stmts) {x : Remaining} → keeping (stmts_test 8 false) p ≡ x → parsed (p >>= all_used) ≡ all_used_up x
used Fails e = ap all_used_up e
used (Takes t []) e = by_test (stmts_ok t 8 false) ∙ ap all_used_up e
  where
    by_test : (u : Bool) → parsed (guard u (Takes t [])) ≡ all_used_up (kept_if u (left []))
    by_test true = refl
    by_test false = refl
used (Takes t (n ∷ ns)) e = by_test (stmts_ok t 8 false) ∙ ap all_used_up e
  where
    by_test : (u : Bool) → false ≡ all_used_up (kept_if u (left (n ∷ ns)))
    by_test true = refl
    by_test false = refl

pub parse_pass : (ns : List Node) → parsed (parse ns) ≡ all_used_up (pass_over 32 places.program 8 false ns)
parse_pass [] = refl
parse_pass (node k c b ∷ ns) =
    by_kind (λ i o. parsed o ≡ all_used_up (kept_if (stands places.program (number_of i)) (Below 31 8 false i c b ns))) k_program program_rule no_rule k c b ns
    (used (many more_stmts no_stmts (parsers 31).stmt c ns) (many_stmts (same 31) 8 false c ns) ∙ ap all_used_up (sym (plain_children (λ q m g ms. pass_over 31 q m g ms) true places.statement c 8 false ns)))
    (λ e. ap (λ (t : Bool). all_used_up (kept_if t (Below 31 8 false k c b ns))) (sym (one_more_lem places.program k_program 0 tt k ∙ ap₂ (λ (t u : Bool). t || u) e (none_stands (number_of k)))))
