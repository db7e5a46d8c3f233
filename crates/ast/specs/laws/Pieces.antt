-- A piece of a tree as the proofs see it: its nodes in preorder, its depth, and a test of its fields. Every kind of tree is put together from a few forms.
use Rattle.std.specs.Prelude.{◌≡◌, refl, Bool, true, ◌&&◌, List, [], ◌∷◌, ◌++◌, ℕ, suc, max, length}
use Rattle.std.proofs.Common.{sym, ap, ◌∙◌, append_assoc, arith}
use Rattle.std.proofs.Math.Bool.{and_assoc}
use Rattle.std.proofs.Math.Nat.{zero-max}
use Rattle.ast.specs.Node.{k_elif, k_item, Node, node}
use Rattle.ast.specs.Tree.{Lit, Expr, Rhs, Exprs, no_exprs, more_exprs, Items, no_items, more_items, Source, Stmt, Stmts, no_stmts, more_stmts, Rest, Else, Elif}
use Rattle.ast.specs.Structure.{Keyed, keyed, more_keyed, Arm, arm, rest_of, item_count}
use Rattle.ast.specs.Flat.{flat_lit, flat_lits, flat_name, flat_names, expr_count, flat_expr, flat_rhs, flat_exprs, flat_items, flat_source, stmt_count, elif_count, else_count, block_node, flat_stmt, flat_stmts, flat_rest}
use Rattle.ast.specs.Limits.{depth_leaves, depth_expr, depth_rhs, depth_exprs, depth_items, depth_source, depth_stmt, depth_stmts, depth_rest}
use Rattle.ast.specs.Limits.{every_lit, every_lits, every_name, every_expr, every_rhs, every_exprs, every_items, every_source, every_stmt, every, every_rest}

pub record Piece : Type 0 where
  pub nodes : List Node
  pub deep : ℕ
  pub test : Bool

-- ---- the forms: nothing, one behind the other, below a node, a node alone

abbrev pub nil : Piece
nil = record { nodes = []; deep = 0; test = true }

abbrev pub join : Piece → Piece → Piece
join a b = record { nodes = a.nodes ++ b.nodes; deep = max a.deep b.deep; test = a.test && b.test }

abbrev pub over : Node → Bool → Piece → Piece
over n v a = record { nodes = n ∷ a.nodes; deep = suc a.deep; test = v && a.test }

abbrev pub leaf : Node → Bool → Piece
leaf n v = record { nodes = n ∷ []; deep = 1; test = v }

abbrev piece : List Node → ℕ → Bool → Piece
piece ns d t = record { nodes = ns; deep = d; test = t }

join_nil : (a : Piece) → join nil a ≡ a
join_nil a = ap (λ (d : ℕ). piece a.nodes d a.test) (zero-max a.deep)

join_assoc : (a b c : Piece) → join (join a b) c ≡ join a (join b c)
join_assoc a b c =
    let d : max (max a.deep b.deep) c.deep ≡ max a.deep (max b.deep c.deep) = omega arith in
    rw (append_assoc a.nodes b.nodes c.nodes, and_assoc a.test b.test c.test, d)

-- ---- lists: B is made of c and z

pub data View {A B : Type 0} (c : A → B → B) (z : B) : B → Type 0 where
  is_none : View c z z
  is_more : (a : A) (b : B) → View c z (c a b)

pub record Listing {A B : Type 0} (c : A → B → B) (z : B) (S : A → Piece) (L : B → Piece) (count : B → ℕ) : Type 0 where
  pub piece_none : L z ≡ nil
  pub piece_more : (a : A) (b : B) → L (c a b) ≡ join (S a) (L b)
  pub count_none : count z ≡ 0
  pub count_more : (a : A) (b : B) → count (c a b) ≡ suc (count b)
  pub view : (b : B) → View c z b

view_list : {A : Type 0} (l : List A) → View ◌∷◌ [] l
view_list [] = is_none
view_list (x ∷ l) = is_more x l

-- ---- trees

module _ (p q : ℕ → Bool) where
  abbrev pub piece_lit : Lit → Piece
  piece_lit l = leaf (flat_lit l) (every_lit p q l)

  abbrev pub piece_lits : List Lit → Piece
  piece_lits l = piece (flat_lits l) (depth_leaves l) (every_lits p q l)

  abbrev pub piece_name : ℕ → Piece
  piece_name x = leaf (flat_name x) (p x)

  abbrev pub piece_names : List ℕ → Piece
  piece_names l = piece (flat_names l) (depth_leaves l) (every_name p q l)

  abbrev pub piece_expr : Expr → Piece
  piece_expr t = piece (flat_expr t) (depth_expr t) (every_expr p q t)

  abbrev pub piece_rhs : Rhs → Piece
  piece_rhs t = piece (flat_rhs t) (depth_rhs t) (every_rhs p q t)

  abbrev pub piece_exprs : Exprs → Piece
  piece_exprs t = piece (flat_exprs t) (depth_exprs t) (every_exprs p q t)

  abbrev pub piece_keyed : Keyed → Piece
  piece_keyed (keyed k e) = over (node k_item 1 (k ∷ [])) (p k) (piece_expr e)

  abbrev pub piece_items : Items → Piece
  piece_items t = piece (flat_items t) (depth_items t) (every_items p q t)

  abbrev pub piece_source : Source → Piece
  piece_source t = piece (flat_source t) (depth_source t) (every_source p q t)

  abbrev pub piece_stmt : Stmt → Piece
  piece_stmt t = piece (flat_stmt t) (depth_stmt t) (every_stmt p q t)

  abbrev pub piece_stmts : Stmts → Piece
  piece_stmts t = piece (flat_stmts t) (depth_stmts t) (every p q t)

  abbrev pub piece_block : Stmts → Piece
  piece_block t = over (block_node t) true (piece_stmts t)

  abbrev pub piece_arm : Arm → Piece
  piece_arm (arm c b) = over (node k_elif 2 []) true (join (piece_expr c) (piece_block b))

  abbrev pub piece_arms : List Arm → Piece
  piece_arms [] = nil
  piece_arms (a ∷ l) = join (piece_arm a) (piece_arms l)

  abbrev pub piece_rest : Rest → Piece
  piece_rest t = piece (flat_rest t) (depth_rest t) (every_rest p q t)

  pub lits : Listing ◌∷◌ [] piece_lit piece_lits length
  lits = record { piece_none = refl; piece_more = more; count_none = refl; count_more = λ a b. refl; view = view_list }
    where
      more : (a : Lit) (b : List Lit) → piece_lits (a ∷ b) ≡ join (piece_lit a) (piece_lits b)
      more a [] = refl
      more a (x ∷ b) = refl

  pub names : Listing ◌∷◌ [] piece_name piece_names length
  names = record { piece_none = refl; piece_more = more; count_none = refl; count_more = λ a b. refl; view = view_list }
    where
      more : (a : ℕ) (b : List ℕ) → piece_names (a ∷ b) ≡ join (piece_name a) (piece_names b)
      more a [] = refl
      more a (x ∷ b) = refl

  pub exprs : Listing more_exprs no_exprs piece_expr piece_exprs expr_count
  exprs = record { piece_none = refl; piece_more = λ a b. refl; count_none = refl; count_more = λ a b. refl; view = view }
    where
      view : (b : Exprs) → View more_exprs no_exprs b
      view no_exprs = is_none
      view (more_exprs a b) = is_more a b

  pub items : Listing more_keyed no_items piece_keyed piece_items item_count
  items = record { piece_none = refl; piece_more = more; count_none = refl; count_more = count; view = view }
    where
      more : (a : Keyed) (b : Items) → piece_items (more_keyed a b) ≡ join (piece_keyed a) (piece_items b)
      more (keyed k e) b = refl

      count : (a : Keyed) (b : Items) → item_count (more_keyed a b) ≡ suc (item_count b)
      count (keyed k e) b = refl

      view : (b : Items) → View more_keyed no_items b
      view no_items = is_none
      view (more_items k e b) = is_more (keyed k e) b

  pub stmts : Listing more_stmts no_stmts piece_stmt piece_stmts stmt_count
  stmts = record { piece_none = refl; piece_more = λ a b. refl; count_none = refl; count_more = λ a b. refl; view = view }
    where
      view : (b : Stmts) → View more_stmts no_stmts b
      view no_stmts = is_none
      view (more_stmts a b) = is_more a b

  pub arms : Listing ◌∷◌ [] piece_arm piece_arms length
  arms = record { piece_none = refl; piece_more = λ a b. refl; count_none = refl; count_more = λ a b. refl; view = view_list }

  -- what follows an If's Block: the Elifs, then the else statements
  pub piece_rest_lem : (j : List Arm) (o : Stmts) → piece_rest (rest_of j o) ≡ join (piece_arms j) (piece_stmts o)
  piece_rest_lem [] o = sym (join_nil (piece_stmts o))
  piece_rest_lem (arm c b ∷ j) o =
      let k = rest_of j o in
      ap (λ (ns : List Node). piece (node k_elif 2 [] ∷ ns) (depth_rest (Elif c b k)) (every_rest p q (Elif c b k))) (sym (append_assoc (flat_expr c) (block_node b ∷ flat_stmts b) (flat_rest k)))
      ∙ ap (join (piece_arm (arm c b))) (piece_rest_lem j o)
      ∙ sym (join_assoc (piece_arm (arm c b)) (piece_arms j) (piece_stmts o))

pub elif_rest : (j : List Arm) (o : Stmts) → elif_count (rest_of j o) ≡ length j
elif_rest [] o = refl
elif_rest (arm c b ∷ j) o = ap suc (elif_rest j o)

pub else_rest : (j : List Arm) (o : Stmts) → else_count (rest_of j o) ≡ stmt_count o
else_rest [] o = refl
else_rest (arm c b ∷ j) o = else_rest j o

pub data RestView : Rest → Type 0 where
  is_rest : (j : List Arm) (o : Stmts) → RestView (rest_of j o)

pub view_rest : (k : Rest) → RestView k
view_rest (Else o) = is_rest [] o
view_rest (Elif c b k) = more (view_rest k)
  where
    more : {k : Rest} → RestView k → RestView (Elif c b k)
    more (is_rest j o) = is_rest (arm c b ∷ j) o
