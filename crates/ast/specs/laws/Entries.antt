-- Nodes and their bytes: what was written is read again, and what was read is written again. Nodes of a file whose checks passed hold what they may.
use Rattle.std.specs.Prelude.{◌≡◌, refl, Bool, true, false, ◌&&◌, List, [], ◌∷◌, ◌++◌, map, ℕ, zero, suc, ◌*◌, ◌-◌, ◌^◌, ◌≤◌, ◌<◌, T, ltb, length, take, drop}
use Rattle.std.proofs.Common.{sym, ap, ◌∙◌, append_assoc, arith, ltb→lt, length-append, length-drop, take_at, drop_at, take-add, length-take-le}
use Rattle.std.proofs.Math.Bool.{and_assoc}
use Rattle.lent.specs.Bytes.{be_value, be_bytes, Each, none, more, AreBytes}
use Rattle.lent.specs.laws.Each.{each_append, each_take, each_drop}
use Rattle.lent.specs.laws.Numbers.{length_be_bytes, be_value_lt, be_bytes_be_value}
use Rattle.ast.specs.Node.{kind_of, number_of, Body, nothing, elifs, texts, operator, number64, body, body_size, finite_number, Node, node}
use Rattle.ast.specs.File.{firsts, nodes_from, between, field_ok, node_ok, body_finite, node_finite}
use Rattle.ast.specs.Tree.{Lit, Val, Text, Truth, Expr, Literal, Name, BinaryExpr, UnaryExpr, VarAssign, ArrayMut, FnCall, Rhs, Expression, Table, Array, ArrayAccess}
use Rattle.ast.specs.Tree.{Exprs, no_exprs, more_exprs, Items, no_items, more_items, Source, OverName, OverCall}
use Rattle.ast.specs.Tree.{Stmt, Block, IfStmt, ForStmt, Return, ReturnExpr, ExprStmt, VarDecl, VarInit, FnDecl, Stmts, no_stmts, more_stmts, Rest, Else, Elif}
use Rattle.ast.specs.Flat.{flat_lit, flat_lits, flat_names, flat_expr, flat_rhs, flat_exprs, flat_items, flat_source, block_node, flat_stmt, flat_stmts, flat_rest, flat, entry_bytes, body_bytes}
use Rattle.ast.specs.Limits.{every_lit, every_lits, every_name, every_expr, every_rhs, every_exprs, every_items, every_source, every_stmt, every, every_rest}
use Rattle.ast.specs.laws.Complete.{bin_number_lem, un_number_lem}
use Rattle.ast.specs.laws.Kinds.{kind_number, number_kind}
use Rattle.ast.specs.laws.Tests.{T-left, T-right, T-both, between_le}
use Rattle.ast.specs.laws.Sound.{Texts, done, text, Fits, fits_nothing, fits_elifs, fits_texts, fits_operator, fits_binary64, Good}
use Rattle.lent.specs.Lists.{sum, all}

-- the bytes that the bodies have
abbrev pub bodies_of : List ℕ → ℕ
bodies_of es = sum (map (λ k. body_size (body (kind_of k))) (firsts es))

-- ---- a body as a tree has it: p of text numbers, q of numbers; an Elif count is at most the child count

pub data Made (p q : ℕ → Bool) : Body → ℕ → List ℕ → Type 0 where
  made_nothing : {c : ℕ} → Made p q nothing c []
  made_elifs : {c n : ℕ} → n ≤ c → Made p q elifs c (n ∷ [])
  made_texts : {n c : ℕ} {b : List ℕ} → Texts p n b → Made p q (texts n) c b
  made_operator : {n c o : ℕ} → n ≤ 13 → T (between 1 n o) → Made p q (operator n) c (o ∷ [])
  made_number : {c : ℕ} (v : ℕ) → T (q v) → Made p q number64 c (be_bytes 8 v)

abbrev pub MadeNode : (p q : ℕ → Bool) → Node → Type 0
MadeNode p q (node k c b) = Made p q (body k) c b

-- ---- a tree's nodes are made so, where it passes the test

module _ (p q : ℕ → Bool) where
  abbrev M : Node → Type 0
  M = MadeNode p q

  record Holds (ns : List Node) (t : Bool) : Type 0 where
    pub each : T t → Each M ns

  empty : Holds [] true
  empty = record { each = λ h. none }

  join : {ns ms : List Node} {t u : Bool} → Holds ns t → Holds ms u → Holds (ns ++ ms) (t && u)
  join {t = t} {u = u} x y = record { each = λ h. each_append (x.each (T-left t u h)) (y.each (T-right t u h)) }

  over : {n : Node} {ns : List Node} {t : Bool} (v : Bool) → (T v → M n) → Holds ns t → Holds (n ∷ ns) (v && t)
  over {t = t} v m x = record { each = λ h. more (m (T-left v t h)) (x.each (T-right v t h)) }

  leaf : {n : Node} (v : Bool) → (T v → M n) → Holds (n ∷ []) v
  leaf v m = record { each = λ h. more (m h) none }

  one : {c x : ℕ} → T (p x) → Made p q (texts 1) c (x ∷ [])
  one h = made_texts (text h done)

  made_lit : (l : Lit) → T (every_lit p q l) → M (flat_lit l)
  made_lit (Val v) h = made_number v h
  made_lit (Text x) h = one h
  made_lit (Truth true) h = made_nothing
  made_lit (Truth false) h = made_nothing

  made_lits : (ls : List Lit) → Holds (flat_lits ls) (every_lits p q ls)
  made_lits [] = empty
  made_lits (l ∷ ls) = over (every_lit p q l) (made_lit l) (made_lits ls)

  made_names : (xs : List ℕ) → Holds (flat_names xs) (every_name p q xs)
  made_names [] = empty
  made_names (x ∷ xs) = over (p x) one (made_names xs)

  mutual
    made_expr : (t : Expr) → Holds (flat_expr t) (every_expr p q t)
    made_expr (Literal l) = leaf (every_lit p q l) (made_lit l)
    made_expr (Name x) = leaf (p x) one
    made_expr (BinaryExpr t a b) = over true (λ h. made_operator (omega arith) (bin_number_lem t).1) (join (made_expr a) (made_expr b))
    made_expr (UnaryExpr t a) = over true (λ h. made_operator (omega arith) (un_number_lem t).1) (made_expr a)
    made_expr (VarAssign x r) = over (p x) one (made_rhs r)
    made_expr (ArrayMut x i v) = over (p x) one (join (made_expr i) (made_expr v))
    made_expr (FnCall f ps) = over (p f) one (made_exprs ps)

    made_rhs : (t : Rhs) → Holds (flat_rhs t) (every_rhs p q t)
    made_rhs (Expression e) = made_expr e
    made_rhs (Table is) = over true (λ h. made_nothing) (made_items is)
    made_rhs (Array a ls) = over (p a) one (made_lits ls)
    made_rhs (ArrayAccess a i) = over (p a) one (made_expr i)

    made_exprs : (t : Exprs) → Holds (flat_exprs t) (every_exprs p q t)
    made_exprs no_exprs = empty
    made_exprs (more_exprs e ps) = join (made_expr e) (made_exprs ps)

    made_items : (t : Items) → Holds (flat_items t) (every_items p q t)
    made_items no_items = empty
    made_items (more_items k e is) = join (over (p k) one (made_expr e)) (made_items is)

  made_source : (t : Source) → Holds (flat_source t) (every_source p q t)
  made_source (OverName a) = leaf (p a) one
  made_source (OverCall f ps) = over (p f) one (made_exprs ps)

  block : (b : Stmts) → Holds (flat_stmts b) (every p q b) → Holds (block_node b ∷ flat_stmts b) (every p q b)
  block b x = over true (λ h. made_nothing) x

  mutual
    made_stmt : (t : Stmt) → Holds (flat_stmt t) (every_stmt p q t)
    made_stmt (Block b) = block b (made_stmts b)
    made_stmt (IfStmt c b k) = over true (λ h. made_elifs (omega arith)) (join (made_expr c) (join (block b (made_stmts b)) (made_rest k)))
    made_stmt (ForStmt i v s b) = over (p i && p v) (λ h. made_texts (text (T-left (p i) (p v) h) (text (T-right (p i) (p v) h) done))) (join (made_source s) (block b (made_stmts b)))
    made_stmt Return = leaf true (λ h. made_nothing)
    made_stmt (ReturnExpr e) = over true (λ h. made_nothing) (made_expr e)
    made_stmt (ExprStmt e) = over true (λ h. made_nothing) (made_expr e)
    made_stmt (VarDecl x) = leaf (p x) one
    made_stmt (VarInit x r) = over (p x) one (made_rhs r)
    made_stmt (FnDecl f ps b) = over (p f) one (join (made_names ps) (block b (made_stmts b)))

    made_stmts : (t : Stmts) → Holds (flat_stmts t) (every p q t)
    made_stmts no_stmts = empty
    made_stmts (more_stmts s k) = join (made_stmt s) (made_stmts k)

    made_rest : (t : Rest) → Holds (flat_rest t) (every_rest p q t)
    made_rest (Else k) = made_stmts k
    made_rest (Elif c b k) =
        rw (and_assoc (every_expr p q c) (every p q b) (every_rest p q k))
        (over true (λ h. made_nothing) (join (made_expr c) (join (block b (made_stmts b)) (made_rest k))))

  pub flat_made : (t : Stmts) → T (every p q t) → Each M (flat t)
  flat_made t h = more made_nothing ((made_stmts t).each h)

-- ---- what was written is read

made_size : {p q : ℕ → Bool} {B : Body} {c : ℕ} {b : List ℕ} → Made p q B c b → length b ≡ body_size B
made_size made_nothing = refl
made_size (made_elifs h) = refl
made_size (made_texts h) = texts_size h
  where
    texts_size : {p : ℕ → Bool} {n : ℕ} {b : List ℕ} → Texts p n b → length b ≡ n
    texts_size done = refl
    texts_size (text h k) = ap suc (texts_size k)
made_size (made_operator l h) = refl
made_size (made_number v h) = length_be_bytes 8 v

module _ {p q : ℕ → Bool} where
  pub nodes_bytes : (ns : List Node) → Each (MadeNode p q) ns → (rest : List ℕ) → nodes_from (entry_bytes ns) (body_bytes ns ++ rest) ≡ ns
  nodes_bytes [] none rest = refl
  nodes_bytes (node k c b ∷ ns) (more h g) rest =
      let s = made_size h in
      rw ((kind_number k).0, append_assoc b (body_bytes ns) rest, take_at b (body_bytes ns ++ rest) (body_size (body k)) s, drop_at b (body_bytes ns ++ rest) (body_size (body k)) s, nodes_bytes ns g rest)

  pub length_body_bytes : (ns : List Node) → Each (MadeNode p q) ns → length (body_bytes ns) ≡ bodies_of (entry_bytes ns)
  length_body_bytes [] none = refl
  length_body_bytes (node k c b ∷ ns) (more h g) = rw (length-append b (body_bytes ns), (kind_number k).0, made_size h, length_body_bytes ns g)

pub length_entry_bytes : (ns : List Node) → length (entry_bytes ns) ≡ 2 * length ns
length_entry_bytes [] = refl
length_entry_bytes (node k c b ∷ ns) = let e = length_entry_bytes ns in omega arith

pub kinds_entry_bytes : (ns : List Node) → T (all (between 1 23) (firsts (entry_bytes ns)))
kinds_entry_bytes [] = tt
kinds_entry_bytes (node k c b ∷ ns) = T-both (between 1 23 (number_of k)) (all (between 1 23) (firsts (entry_bytes ns))) (kind_number k).1 (kinds_entry_bytes ns)

-- ---- what was read is written: n entries of two bytes

pub entries_nodes : (n : ℕ) (es bs : List ℕ) → length es ≡ 2 * n → T (all (between 1 23) (firsts es)) → entry_bytes (nodes_from es bs) ≡ es
entries_nodes n [] bs l h = refl
entries_nodes n (k ∷ []) bs l h = absurd (omega arith)
entries_nodes n (k ∷ (c ∷ es)) bs l h =
    let s = body_size (body (kind_of k)) in
    let t = between_le 1 23 k (T-left (between 1 23 k) (all (between 1 23) (firsts es)) h) in
    rw (
      number_kind k t.0 (omega arith),
      entries_nodes (n - 1) es (drop s bs) (omega arith) (T-right (between 1 23 k) (all (between 1 23) (firsts es)) h),
    )

pub bodies_nodes : (n : ℕ) (es bs : List ℕ) → length es ≡ 2 * n → body_bytes (nodes_from es bs) ≡ take (bodies_of es) bs
bodies_nodes n [] bs l = refl
bodies_nodes n (k ∷ []) bs l = absurd (omega arith)
bodies_nodes n (k ∷ (c ∷ es)) bs l =
    let s = body_size (body (kind_of k)) in
    ap (λ (r : List ℕ). take s bs ++ r) (bodies_nodes (n - 1) es (drop s bs) (omega arith)) ∙ sym (take-add s (bodies_of es) bs)

-- ---- a body that passes its tests holds what it may

module _ (p q : ℕ → Bool) (t : ℕ) (ps : (x : ℕ) → x < t → T (p x)) (qs : (v : ℕ) → v < 2 ^ 64 → T (finite_number v) → T (q v)) where
  texts_of : (n : ℕ) (b : List ℕ) → length b ≡ n → T (all (λ x. ltb x t) b) → Texts p n b
  texts_of zero [] l h = done
  texts_of zero (x ∷ b) l h = absurd (omega arith)
  texts_of (suc n) [] l h = absurd (omega arith)
  texts_of (suc n) (x ∷ b) l h =
      text (ps x (ltb→lt x t (T-left (ltb x t) (all (λ x. ltb x t) b) h))) (texts_of n b (omega arith) (T-right (ltb x t) (all (λ x. ltb x t) b) h))

  fits_of : (B : Body) (b : List ℕ) → length b ≡ body_size B → AreBytes b → T (field_ok t B b) → T (body_finite B b) → Fits p q B b
  fits_of nothing [] l a h g = fits_nothing
  fits_of nothing (x ∷ b) l a h g = absurd (omega arith)
  fits_of elifs [] l a h g = absurd (omega arith)
  fits_of elifs (x ∷ []) l a h g = fits_elifs
  fits_of elifs (x ∷ (y ∷ b)) l a h g = absurd (omega arith)
  fits_of (texts n) b l a h g = fits_texts (texts_of n b l h)
  fits_of (operator n) [] l a h g = absurd (omega arith)
  fits_of (operator n) (x ∷ []) l a h g =
      let i = between_le 1 n x (T-left (between 1 n x) true h) in
      fits_operator i.0 i.1
  fits_of (operator n) (x ∷ (y ∷ b)) l a h g = absurd (omega arith)
  fits_of number64 b l a h g =
      fits_binary64 (rw l at (be_bytes_be_value a)) (qs (be_value b) (rw l at (be_value_lt a)) g)

  -- the nodes of entries and bodies
  pub good_nodes : (es bs : List ℕ) → AreBytes bs → bodies_of es ≤ length bs → T (all (node_ok t) (nodes_from es bs)) → T (all node_finite (nodes_from es bs)) → Each (Good p q) (nodes_from es bs)
  good_nodes [] bs a l h g = none
  good_nodes (k ∷ []) bs a l h g = none
  good_nodes (k ∷ (c ∷ es)) bs a l h g =
      let B = body (kind_of k) in
      let s = body_size B in
      let ns = nodes_from es (drop s bs) in
      let o = field_ok t B (take s bs) in
      let u = body_finite B (take s bs) in
      more (fits_of B (take s bs) (length-take-le s bs (omega arith)) (each_take s a) (T-left o (all (node_ok t) ns) h) (T-left u (all node_finite ns) g))
      (good_nodes es (drop s bs) (each_drop s a) (simp length-drop (omega arith)) (T-right o (all (node_ok t) ns) h) (T-right u (all node_finite ns) g))
