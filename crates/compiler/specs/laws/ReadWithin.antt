-- Every tree that is read from a file of bytes is within the limits that the lowering counts on (Within): texts below 64, at most 24 items in an
-- array, at most 255 parameters and arguments, since a child count is one byte. Document 01, "The tree file". And its literals are finite (document 02, M-104).
use Rattle.std.specs.Prelude.{ℕ, suc, ◌+◌, ◌*◌, ◌-◌, ◌≤◌, ◌<◌, ◌≡◌, Bool, true, false, not, ◌&&◌, List, [], ◌∷◌, ◌++◌, T, leb, ltb, length}
use Rattle.std.proofs.Common.{arith, subst, leb→le, ltb→lt}
use Rattle.std.proofs.Math.Facts.{and_yes}
use Rattle.lent.specs.Bytes.{Each, none, more, AreBytes}
use Rattle.lent.specs.laws.Each.{each_part}
use Rattle.ast.specs.Node.{Node, node}
use Rattle.ast.specs.Tree.{Lit, Val, Text, Truth, Expr, Literal, Name, BinaryExpr, UnaryExpr, VarAssign, ArrayMut, FnCall, Rhs, Expression, Table, Array, ArrayAccess}
use Rattle.ast.specs.Tree.{Exprs, no_exprs, more_exprs, Items, no_items, more_items, Source, OverName, OverCall}
use Rattle.ast.specs.Tree.{Stmt, Block, IfStmt, ForStmt, Return, ReturnExpr, ExprStmt, VarDecl, VarInit, FnDecl, Stmts, no_stmts, more_stmts, Rest, Else, Elif}
use Rattle.ast.specs.Structure.{distinct, item_count, expr_ok, rhs_ok, exprs_ok, items_ok, source_ok, stmt_ok, stmts_ok, rest_ok}
use Rattle.ast.specs.Flat.{flat_names, flat_expr, flat_rhs, flat_exprs, expr_count, flat_items, flat_source, block_node, flat_stmt, flat_stmts, flat_rest, flat, entry_bytes}
use Rattle.ast.specs.Limits.{every_lit, every_lits, every_name, every_expr, every_rhs, every_exprs, every_items, every_source, every_stmt, every, every_rest}
use Rattle.ast.specs.File.{node_count, text_count, read_tree, Tree}
use Rattle.ast.specs.laws.Reading.{read_flat, read_names, read_limits, read_finite}
use Rattle.compiler.specs.Literals.{literal, finite_single}
use Rattle.compiler.specs.Within.{LitIn, ExprIn, RhsIn, ExprsIn, ItemsIn, SourceIn, StmtIn, StmtsIn, RestIn}

-- ---- lists of which something holds

module _ {A : Type 0} {P : A → Type 0} where
  each_first : {a : A} {l : List A} → Each P (a ∷ l) → P a
  each_first (more p h) = p

  each_rest : {a : A} {l : List A} → Each P (a ∷ l) → Each P l
  each_rest (more p h) = h

  each_split : (a b : List A) → Each P (a ++ b) → Each P a × Each P b
  each_split [] b h = (none, h)
  each_split (x ∷ a) b h = let k = each_split a b (each_rest h) in (more (each_first h) k.0, k.1)

-- ---- child counts are bytes

abbrev Small : Node → Type 0
Small (node k c b) = c < 256

small_nodes : (ns : List Node) → AreBytes (entry_bytes ns) → Each Small ns
small_nodes [] h = none
small_nodes (node k c b ∷ ns) h = more (each_first (each_rest h)) (small_nodes ns (each_rest (each_rest h)))

few : (ps : Exprs) → expr_count ps < 256 → expr_count ps ≤ 255
few ps h = omega arith

-- ---- from the tests of texts (w) and of structure (o) and the nodes' child counts (s)

abbrev text : ℕ → Bool
text x = ltb x 64

abbrev any : ℕ → Bool
any v = true

below : (x : ℕ) → T (text x) → x < 64
below x w = ltb→lt x 64 w

-- of a tree with two parts, each with its tests and nodes
both : {A B : Type 0} (w v o u : Bool) (ms ns : List Node)
    → (T w → T o → Each Small ms → A) → (T v → T u → Each Small ns → B) → T (w && v) → T (o && u) → Each Small (ms ++ ns) → A × B
both w v o u ms ns f g x y z =
    let i = and_yes w v x in
    let j = and_yes o u y in
    let k = each_split ms ns z in
    (f i.0 j.0 k.0, g i.1 j.1 k.1)

in_lit : (l : Lit) → T (every_lit text any l) → LitIn l
in_lit (Val b) w = tt
in_lit (Text t) w = below t w
in_lit (Truth b) w = tt

in_lits : (ls : List Lit) → T (every_lits text any ls) → Each LitIn ls
in_lits [] w = none
in_lits (l ∷ ls) w = let i = and_yes (every_lit text any l) (every_lits text any ls) w in more (in_lit l i.0) (in_lits ls i.1)

in_names : (xs : List ℕ) → T (every_name text any xs) → Each (λ (x : ℕ). x < 64) xs
in_names [] w = none
in_names (x ∷ xs) w = let i = and_yes (text x) (every_name text any xs) w in more (below x i.0) (in_names xs i.1)

mutual
  in_expr : (e : Expr) → T (every_expr text any e) → T (expr_ok e) → Each Small (flat_expr e) → ExprIn e
  in_expr (Literal l) w o s = in_lit l w
  in_expr (Name x) w o s = below x w
  in_expr (BinaryExpr t a b) w o s =
      both (every_expr text any a) (every_expr text any b) (expr_ok a) (expr_ok b) (flat_expr a) (flat_expr b)
      (λ w o s. in_expr a w o s) (λ w o s. in_expr b w o s) w o (each_rest s)
  in_expr (UnaryExpr t a) w o s = in_expr a w o (each_rest s)
  in_expr (VarAssign x r) w o s = let i = and_yes (text x) (every_rhs text any r) w in (below x i.0, in_rhs r i.1 o (each_rest s))
  in_expr (ArrayMut x a b) w o s =
      let i = and_yes (text x) (every_expr text any a && every_expr text any b) w in
      let j = both (every_expr text any a) (every_expr text any b) (expr_ok a) (expr_ok b) (flat_expr a) (flat_expr b)
      (λ w o s. in_expr a w o s) (λ w o s. in_expr b w o s) i.1 o (each_rest s) in
      (below x i.0, j.0, j.1)
  in_expr (FnCall f ps) w o s =
      let i = and_yes (text f) (every_exprs text any ps) w in
      (below f i.0, few ps (each_first s), in_exprs ps i.1 o (each_rest s))

  in_rhs : (r : Rhs) → T (every_rhs text any r) → T (rhs_ok r) → Each Small (flat_rhs r) → RhsIn r
  in_rhs (Expression e) w o s = in_expr e w o s
  in_rhs (Table is) w o s =
      in_items is w (and_yes (distinct is) (items_ok is) (and_yes (leb (item_count is) 16) (distinct is && items_ok is) o).1).1 (each_rest s)
  in_rhs (Array a ls) w o s = let i = and_yes (text a) (every_lits text any ls) w in (below a i.0, leb→le (length ls) 24 o, in_lits ls i.1)
  in_rhs (ArrayAccess a e) w o s = let i = and_yes (text a) (every_expr text any e) w in (below a i.0, in_expr e i.1 o (each_rest s))

  in_exprs : (ps : Exprs) → T (every_exprs text any ps) → T (exprs_ok ps) → Each Small (flat_exprs ps) → ExprsIn ps
  in_exprs no_exprs w o s = tt
  in_exprs (more_exprs e ps) w o s =
      both (every_expr text any e) (every_exprs text any ps) (expr_ok e) (exprs_ok ps) (flat_expr e) (flat_exprs ps)
      (λ w o s. in_expr e w o s) (λ w o s. in_exprs ps w o s) w o s

  in_items : (is : Items) → T (every_items text any is) → T (items_ok is) → Each Small (flat_items is) → ItemsIn is
  in_items no_items w o s = tt
  in_items (more_items k e is) w o s =
      let i = and_yes (text k && every_expr text any e) (every_items text any is) w in
      let j = and_yes (text k) (every_expr text any e) i.0 in
      let u = and_yes (expr_ok e) (items_ok is) o in
      let v = each_split (flat_expr e) (flat_items is) (each_rest s) in
      (below k j.0, in_expr e j.1 u.0 v.0, in_items is i.1 u.1 v.1)

in_source : (a : Source) → T (every_source text any a) → T (source_ok a) → Each Small (flat_source a) → SourceIn a
in_source (OverName a) w o s = below a w
in_source (OverCall f ps) w o s =
    let i = and_yes (text f) (every_exprs text any ps) w in
    (below f i.0, few ps (each_first s), in_exprs ps i.1 o (each_rest s))

-- l loops may still be nested; f: inside a function
mutual
  in_stmt : (a : Stmt) (l : ℕ) (f : Bool) → T (every_stmt text any a) → T (stmt_ok a l f) → Each Small (flat_stmt a) → StmtIn a
  in_stmt (Block b) l f w o s = in_stmts b l f w o (each_rest s)
  in_stmt (IfStmt c b k) l f w o s =
      let z = both (every_expr text any c) (every text any b && every_rest text any k) (expr_ok c) (stmts_ok b l f && rest_ok k l f)
      (flat_expr c) (block_node b ∷ (flat_stmts b ++ flat_rest k)) (λ w o s. in_expr c w o s)
      (λ w o s. both (every text any b) (every_rest text any k) (stmts_ok b l f) (rest_ok k l f) (flat_stmts b) (flat_rest k)
      (λ w o s. in_stmts b l f w o s) (λ w o s. in_rest k l f w o s) w o (each_rest s)) w o (each_rest s) in
      (z.0, z.1.0, z.1.1)
  in_stmt (ForStmt x y a b) l f w o s =
      let i = and_yes (text x && text y) (every_source text any a && every text any b) w in
      let j = and_yes (text x) (text y) i.0 in
      let z = both (every_source text any a) (every text any b) (source_ok a) (stmts_ok b (l - 1) f) (flat_source a) (block_node b ∷ flat_stmts b)
      (λ w o s. in_source a w o s) (λ w o s. in_stmts b (l - 1) f w o (each_rest s))
      i.1 (and_yes (leb 1 l) (source_ok a && stmts_ok b (l - 1) f) o).1 (each_rest s) in
      (below x j.0, below y j.1, z.0, z.1)
  in_stmt Return l f w o s = tt
  in_stmt (ReturnExpr e) l f w o s = in_expr e w o (each_rest s)
  in_stmt (ExprStmt e) l f w o s = in_expr e w o (each_rest s)
  in_stmt (VarDecl x) l f w o s = below x w
  in_stmt (VarInit x r) l f w o s = let i = and_yes (text x) (every_rhs text any r) w in (below x i.0, in_rhs r i.1 o (each_rest s))
  in_stmt (FnDecl g ps b) l f w o s =
      let i = and_yes (text g) (every_name text any ps && every text any b) w in
      let j = and_yes (every_name text any ps) (every text any b) i.1 in
      let v = each_split (flat_names ps) (block_node b ∷ flat_stmts b) (each_rest s) in
      let n : suc (length ps) < 256 = each_first s in
      (below g i.0, omega arith, in_names ps j.0, in_stmts b l true j.1 (and_yes (not f) (stmts_ok b l true) o).1 (each_rest v.1))

  in_stmts : (t : Stmts) (l : ℕ) (f : Bool) → T (every text any t) → T (stmts_ok t l f) → Each Small (flat_stmts t) → StmtsIn t
  in_stmts no_stmts l f w o s = tt
  in_stmts (more_stmts a k) l f w o s =
      both (every_stmt text any a) (every text any k) (stmt_ok a l f) (stmts_ok k l f) (flat_stmt a) (flat_stmts k)
      (λ w o s. in_stmt a l f w o s) (λ w o s. in_stmts k l f w o s) w o s

  in_rest : (k : Rest) (l : ℕ) (f : Bool) → T (every_rest text any k) → T (rest_ok k l f) → Each Small (flat_rest k) → RestIn k
  in_rest (Else k) l f w o s = in_stmts k l f w o s
  in_rest (Elif c b k) l f w o s =
      let i = and_yes (every_expr text any c && every text any b) (every_rest text any k) w in
      let j = and_yes (every_expr text any c) (every text any b) i.0 in
      let u = and_yes (expr_ok c) (stmts_ok b l f && rest_ok k l f) o in
      let v = and_yes (stmts_ok b l f) (rest_ok k l f) u.1 in
      let y = each_split (flat_expr c) (block_node b ∷ (flat_stmts b ++ flat_rest k)) (each_rest s) in
      let z = each_split (flat_stmts b) (flat_rest k) (each_rest y.1) in
      (in_expr c j.0 u.0 y.0, in_stmts b l f j.1 v.0 z.0, in_rest k l f i.1 v.1 z.1)

-- ---- the laws

pub read_within : {f : List ℕ} {t : Stmts} → AreBytes f → read_tree f ≡ Tree t → StmtsIn t × (length (flat t) ≤ 1024)
read_within {f} {t} a e =
    let n = small_nodes (flat t) (subst AreBytes (read_flat a e).0 (each_part (3 + text_count f) (2 * node_count f) a)) in
    (in_stmts t 8 false (read_names a e) (rw (read_limits a e).2 tt) (each_rest n), (read_limits a e).0)

-- What a literal of a tree that is read stands for, to the lowering and to the walk, is no NaN and no infinity: document 02, M-104, "The bound and the walk
-- are then read over trees without such literals."
pub read_literals : {f : List ℕ} {t : Stmts} → AreBytes f → read_tree f ≡ Tree t → T (every (λ x. true) (λ v. finite_single (literal (Val v))) t)
read_literals a e = read_finite a e
