-- What is spelt is parsed: a tree within the limits is read from its nodes. By the depth that is left, a clause for each constructor.
use Rattle.std.specs.Prelude.{◌≡◌, refl, Bool, true, false, ◌&&◌, List, [], ◌++◌, ℕ, zero, suc, ◌+◌, ◌-◌, ◌^◌, ◌≤◌, ◌<◌, T, leb, ltb, length}
use Rattle.std.proofs.Common.{ap, ◌∙◌, subst, append_assoc, append-nil, zero-lt-suc, arith, ltb→lt, le-leb}
use Rattle.lent.specs.Bytes.{be_value, be_bytes}
use Rattle.lent.specs.laws.Numbers.{be_value_be_bytes}
use Rattle.ast.specs.Node.{k_block, k_call, k_name, k_elif, k_item, k_stmt, k_expr, Node}
use Rattle.ast.specs.Tree.{BinTok, Plus, Minus, Star, Slash, Percent, EqEq, LtEq, Lt, GtEq, Gt, AmpAmp, PipePipe, BangEq, UnTok, Bang, Negate, Val, Text, Truth}
use Rattle.ast.specs.Tree.{Expr, Literal, Name, BinaryExpr, UnaryExpr, VarAssign, ArrayMut, FnCall, Rhs, Expression, Table, Array, ArrayAccess}
use Rattle.ast.specs.Tree.{Source, OverName, OverCall, Stmt, Block, IfStmt, ForStmt, Return, ReturnExpr, ExprStmt, VarDecl, VarInit, FnDecl, Stmts, no_stmts, more_stmts, Rest}
use Rattle.ast.specs.Structure.{Parsed, Takes, ◌>>=◌, making, many, field, bin_tok, un_tok, no_rule, or_kind, by_class, at, childless, Keyed, keyed, Arm, arm, rest_of, Parsers, literal_place}
use Rattle.ast.specs.Structure.{expr_kind, right_kind, expr_side, item_rule, call_rule, block_rule, stmt_kind, elif_rule, parsers, stmts_ok, all_used, parse}
use Rattle.ast.specs.File.{between}
use Rattle.ast.specs.Flat.{bin_tok_number, un_tok_number, flat_expr, stmt_count, flat_stmt, flat_stmts, flat_rest, flat}
use Rattle.ast.specs.Limits.{depth_expr, depth_rhs, depth_source, depth_stmt, depth, numbers_fit}
use Rattle.ast.specs.laws.Pieces.{Piece, join, View, is_none, is_more, Listing, piece_lit, piece_name, piece_names, piece_expr, piece_rhs, piece_exprs, piece_items, piece_lits}
use Rattle.ast.specs.laws.Pieces.{piece_keyed, piece_source, piece_stmt, piece_stmts, piece_block, piece_arm, piece_arms, piece_rest, lits, names, exprs, items, stmts, arms, piece_rest_lem, elif_rest, else_rest, is_rest, RestView, view_rest}
use Rattle.ast.specs.laws.Tests.{T-left, T-right}

-- ---- a piece within the limits

pub record Fit (deep : ℕ) (test : Bool) (d : ℕ) : Type 0 where
  pub within : deep ≤ d
  pub holds : T test

abbrev FitPiece : Piece → ℕ → Type 0
FitPiece a d = Fit a.deep a.test d

module _ {d : ℕ} where
  fit_left : (a b : Piece) → FitPiece (join a b) d → FitPiece a d
  fit_left a b f = let h = f.within in record { within = omega arith; holds = T-left a.test b.test f.holds }

  fit_right : (a b : Piece) → FitPiece (join a b) d → FitPiece b d
  fit_right a b f = let h = f.within in record { within = omega arith; holds = T-right a.test b.test f.holds }

  fit_as : {a b : Piece} → a ≡ b → FitPiece a d → FitPiece b d
  fit_as e f = subst (λ (x : Piece). FitPiece x d) e f

  fit_under : (v : Bool) (a : Piece) → Fit (suc a.deep) (v && a.test) (suc d) → FitPiece a d
  fit_under v a f = let h = f.within in record { within = omega arith; holds = T-right v a.test f.holds }

-- f reads a from ns, whatever follows
pub record Read {A : Type 0} (f : List Node → Parsed A) (ns : List Node) (a : A) : Type 0 where
  pub back : (ms : List Node) → f (ns ++ ms) ≡ Takes a ms

abbrev Reads : {A : Type 0} → (A → Piece) → ℕ → (List Node → Parsed A) → Type 0
Reads {A} S d f = (a : A) → FitPiece (S a) d → Read f (S a).nodes a

-- ---- children: one, one behind the other, many

module _ {A B : Type 0} {f : List Node → Parsed A} {ns : List Node} {a : A} (r : Read f ns a) where
  one : (ms : List Node) (k : A → List Node → Parsed B) → (f (ns ++ ms) >>= k) ≡ k a ms
  one ms k = rw (r.back ms)

  front : (ns₁ ms : List Node) (k : A → List Node → Parsed B) → (f ((ns ++ ns₁) ++ ms) >>= k) ≡ k a (ns₁ ++ ms)
  front ns₁ ms k = rw (append_assoc ns ns₁ ms) (one (ns₁ ++ ms) k)

  two : {A₁ : Type 0} {f₁ : List Node → Parsed A₁} {ns₁ : List Node} {a₁ : A₁} → Read f₁ ns₁ a₁ → (ms : List Node) (k : A → A₁ → List Node → Parsed B)
      → (f ((ns ++ ns₁) ++ ms) >>= λ x ms₁. f₁ ms₁ >>= k x) ≡ k a a₁ ms
  two {f₁ = f₁} {ns₁ = ns₁} r₁ ms k = front ns₁ ms (λ x ms₁. f₁ ms₁ >>= k x) ∙ rw (r₁.back ms)

module _ {A B : Type 0} {c : A → B → B} {z : B} {S : A → Piece} {L : B → Piece} {count : B → ℕ} {d : ℕ} {f : List Node → Parsed A} (l : Listing c z S L count) (r : Reads S d f) where
  many_view : (n : ℕ) {b : B} → View c z b → count b ≡ n → FitPiece (L b) d → (ms : List Node) → many c z f n ((L b).nodes ++ ms) ≡ Takes b ms
  many_view zero is_none e h ms = rw l.piece_none
  many_view zero (is_more a b) e h ms = let k = l.count_more a b in absurd (omega arith)
  many_view (suc n) is_none e h ms = let k = l.count_none in absurd (omega arith)
  many_view (suc n) (is_more a b) e h ms =
      let k = l.count_more a b in
      let i : FitPiece (join (S a) (L b)) d = rw (l.piece_more a b) at h in
      let m : count b ≡ n = omega arith in
      rw (l.piece_more a b, append_assoc (S a).nodes (L b).nodes ms, (r a (fit_left (S a) (L b) i)).back ((L b).nodes ++ ms), many_view n (l.view b) m (fit_right (S a) (L b) i) ms)

  many_reads : (b : B) → FitPiece (L b) d → Read (many c z f (count b)) (L b).nodes b
  many_reads b h = record { back = λ ms. many_view (count b) (l.view b) refl h ms }

-- ---- operators

pub bin_number_lem : (t : BinTok) → (bin_tok (bin_tok_number t) ≡ t) × T (between 1 13 (bin_tok_number t))
bin_number_lem Plus = (refl, tt)
bin_number_lem Minus = (refl, tt)
bin_number_lem Star = (refl, tt)
bin_number_lem Slash = (refl, tt)
bin_number_lem Percent = (refl, tt)
bin_number_lem EqEq = (refl, tt)
bin_number_lem LtEq = (refl, tt)
bin_number_lem Lt = (refl, tt)
bin_number_lem GtEq = (refl, tt)
bin_number_lem Gt = (refl, tt)
bin_number_lem AmpAmp = (refl, tt)
bin_number_lem PipePipe = (refl, tt)
bin_number_lem BangEq = (refl, tt)

pub un_number_lem : (t : UnTok) → (un_tok (un_tok_number t) ≡ t) × T (between 1 2 (un_tok_number t))
un_number_lem Bang = (refl, tt)
un_number_lem Negate = (refl, tt)

-- ---- expressions and right sides: numbers that pass q have 8 bytes

-- a node has a depth
pub deep_expr : (t : Expr) → 1 ≤ depth_expr t
deep_expr (Literal l) = zero-lt-suc 0
deep_expr (Name x) = zero-lt-suc 0
deep_expr (BinaryExpr t a b) = zero-lt-suc _
deep_expr (UnaryExpr t a) = zero-lt-suc _
deep_expr (VarAssign x r) = zero-lt-suc _
deep_expr (ArrayMut x i v) = zero-lt-suc _
deep_expr (FnCall f ps) = zero-lt-suc _

deep_rhs : (t : Rhs) → 1 ≤ depth_rhs t
deep_rhs (Expression e) = deep_expr e
deep_rhs (Table is) = zero-lt-suc _
deep_rhs (Array a ls) = zero-lt-suc _
deep_rhs (ArrayAccess a i) = zero-lt-suc _

pub deep_stmt : (t : Stmt) → 1 ≤ depth_stmt t
deep_stmt (Block b) = zero-lt-suc _
deep_stmt (IfStmt c b k) = zero-lt-suc _
deep_stmt (ForStmt i v s b) = zero-lt-suc _
deep_stmt Return = zero-lt-suc 0
deep_stmt (ReturnExpr e) = zero-lt-suc _
deep_stmt (ExprStmt e) = zero-lt-suc _
deep_stmt (VarDecl x) = zero-lt-suc 0
deep_stmt (VarInit x r) = zero-lt-suc _
deep_stmt (FnDecl f ps b) = zero-lt-suc _

deep_source : (t : Source) → 1 ≤ depth_source t
deep_source (OverName x) = zero-lt-suc 0
deep_source (OverCall f ps) = zero-lt-suc _

deep_keyed : (p q : ℕ → Bool) (t : Keyed) → 1 ≤ (piece_keyed p q t).deep
deep_keyed p q (keyed k e) = zero-lt-suc _

deep_arm : (p q : ℕ → Bool) (t : Arm) → 1 ≤ (piece_arm p q t).deep
deep_arm p q (arm c b) = zero-lt-suc _

none_fit : {A : Type 0} {n : ℕ} {v : Bool} → 1 ≤ n → Fit n v zero → A
none_fit h f = let l = f.within in absurd (omega arith)

module _ (p q : ℕ → Bool) (small : (v : ℕ) → T (q v) → v < 2 ^ 64) where
  abbrev E : Expr → Piece
  E = piece_expr p q

  abbrev B : Stmts → Piece
  B = piece_block p q

  record ReadsAt (d : ℕ) (P : Parsers) : Type 0 where
    pub expr : Reads E d P.expr
    pub rhs : Reads (piece_rhs p q) d P.rhs
    pub item : Reads (piece_keyed p q) d P.item
    pub literal : Reads (piece_lit p q) d P.literal
    pub name : Reads (piece_name p q) d P.name
    pub source : Reads (piece_source p q) d P.source
    pub stmt : Reads (piece_stmt p q) d P.stmt
    pub block : Reads B d P.block
    pub elif : Reads (piece_arm p q) d P.elif

  reads_num : (v : ℕ) → T (q v) → be_value (be_bytes 8 v) ≡ v
  reads_num v h = be_value_be_bytes 8 v (small v h)

  reads_literal : {d : ℕ} → Reads (piece_lit p q) (suc d) (at literal_place)
  reads_literal (Val v) h = record { back = λ ms. ap (λ (w : ℕ). Takes (Val w) ms) (reads_num v h.holds) }
  reads_literal (Text x) h = record { back = λ ms. refl }
  reads_literal (Truth true) h = record { back = λ ms. refl }
  reads_literal (Truth false) h = record { back = λ ms. refl }

  module _ {d : ℕ} {P : Parsers} (r : ReadsAt d P) where
    reads_expr : Reads E (suc d) (at (by_class no_rule no_rule (expr_kind P)))
    reads_expr (Literal (Val v)) h = record { back = λ ms. ap (λ (w : ℕ). Takes (Literal (Val w)) ms) (reads_num v h.holds) }
    reads_expr (Literal (Text x)) h = record { back = λ ms. refl }
    reads_expr (Literal (Truth true)) h = record { back = λ ms. refl }
    reads_expr (Literal (Truth false)) h = record { back = λ ms. refl }
    reads_expr (Name x) h = record { back = λ ms. refl }
    reads_expr (BinaryExpr t a b) h =
        let i = fit_under true (join (E a) (E b)) h in
        record { back = λ ms. two (r.expr a (fit_left (E a) (E b) i)) (r.expr b (fit_right (E a) (E b) i)) ms _ ∙ ap (λ (o : BinTok). Takes (BinaryExpr o a b) ms) (bin_number_lem t).0 }
    reads_expr (UnaryExpr t a) h =
        record { back = λ ms. one (r.expr a (fit_under true (E a) h)) ms _ ∙ ap (λ (o : UnTok). Takes (UnaryExpr o a) ms) (un_number_lem t).0 }
    reads_expr (VarAssign x t) h = record { back = λ ms. one (r.rhs t (fit_under (p x) (piece_rhs p q t) h)) ms _ }
    reads_expr (ArrayMut x a b) h =
        let i = fit_under (p x) (join (E a) (E b)) h in
        record { back = λ ms. two (r.expr a (fit_left (E a) (E b) i)) (r.expr b (fit_right (E a) (E b) i)) ms _ }
    reads_expr (FnCall f ps) h = record { back = λ ms. one (many_reads (exprs p q) r.expr ps (fit_under (p f) (piece_exprs p q ps) h)) ms _ }

    -- an expression as a right side
    rhs_expr : (t : Expr) (ms : List Node) → at (by_class no_rule (right_kind P) (expr_side P)) (flat_expr t ++ ms) ≡ (at (by_class no_rule no_rule (expr_kind P)) (flat_expr t ++ ms) >>= making Expression)
    rhs_expr (Literal (Val v)) ms = refl
    rhs_expr (Literal (Text x)) ms = refl
    rhs_expr (Literal (Truth true)) ms = refl
    rhs_expr (Literal (Truth false)) ms = refl
    rhs_expr (Name x) ms = refl
    rhs_expr (BinaryExpr t a b) ms = refl
    rhs_expr (UnaryExpr t a) ms = refl
    rhs_expr (VarAssign x t) ms = refl
    rhs_expr (ArrayMut x a b) ms = refl
    rhs_expr (FnCall f ps) ms = refl

    reads_rhs : Reads (piece_rhs p q) (suc d) (at (by_class no_rule (right_kind P) (expr_side P)))
    reads_rhs (Expression t) h = record { back = λ ms. rhs_expr t ms ∙ one (reads_expr t h) ms _ }
    reads_rhs (Table is) h = record { back = λ ms. one (many_reads (items p q) r.item is (fit_under true (piece_items p q is) h)) ms _ }
    reads_rhs (Array a ls) h = record { back = λ ms. one (many_reads (lits p q) r.literal ls (fit_under (p a) (piece_lits p q ls) h)) ms _ }
    reads_rhs (ArrayAccess a t) h = record { back = λ ms. one (r.expr t (fit_under (p a) (E t) h)) ms _ }

    reads_item : Reads (piece_keyed p q) (suc d) (at (or_kind k_item (item_rule P) no_rule))
    reads_item (keyed k t) h = record { back = λ ms. one (r.expr t (fit_under (p k) (E t) h)) ms _ }

    reads_source : Reads (piece_source p q) (suc d) (at (or_kind (k_expr k_name) (childless (λ x. OverName (field x 0))) (or_kind (k_expr k_call) (call_rule P) no_rule)))
    reads_source (OverName x) h = record { back = λ ms. refl }
    reads_source (OverCall f ps) h = record { back = λ ms. one (many_reads (exprs p q) r.expr ps (fit_under (p f) (piece_exprs p q ps) h)) ms _ }

    reads_block : Reads B (suc d) (at (or_kind (k_stmt k_block) (block_rule P) no_rule))
    reads_block b h = record { back = λ ms. (many_reads (stmts p q) r.stmt b (fit_under true (piece_stmts p q b) h)).back ms }

    reads_elif : Reads (piece_arm p q) (suc d) (at (or_kind k_elif (elif_rule P) no_rule))
    reads_elif (arm c b) h =
        let i = fit_under true (join (E c) (B b)) h in
        record { back = λ ms. two (r.expr c (fit_left (E c) (B b) i)) (r.block b (fit_right (E c) (B b) i)) ms _ }

    reads_if : (c : Expr) (b : Stmts) {k : Rest} → RestView k → FitPiece (piece_stmt p q (IfStmt c b k)) (suc d) → Read (at (by_class (stmt_kind P) no_rule no_rule)) (flat_stmt (IfStmt c b k)) (IfStmt c b k)
    reads_if c b (is_rest j o) h =
        let R = join (piece_arms p q j) (piece_stmts p q o) in
        let K = piece_rest p q (rest_of j o) in
        let f = fit_under true (join (E c) (join (B b) K)) h in
        let f₁ = fit_right (E c) (join (B b) K) f in
        let f₂ = fit_as (piece_rest_lem p q j o) (fit_right (B b) K f₁) in
        let t : leb (2 + length j) (2 + length j + stmt_count o) ≡ true = le-leb (2 + length j) (2 + length j + stmt_count o) (omega arith) in
        let u : 2 + length j + stmt_count o - (2 + length j) ≡ stmt_count o = omega arith in
        let w : flat_rest (rest_of j o) ≡ R.nodes = ap (λ (x : Piece). x.nodes) (piece_rest_lem p q j o) in
        record {
          back = λ ms. rw (elif_rest j o, else_rest j o, w, t, u)
              (front (r.expr c (fit_left (E c) (join (B b) K) f)) ((B b).nodes ++ R.nodes) ms _
              ∙ front (r.block b (fit_left (B b) K f₁)) R.nodes ms _
              ∙ two (many_reads (arms p q) r.elif j (fit_left (piece_arms p q j) (piece_stmts p q o) f₂)) (many_reads (stmts p q) r.stmt o (fit_right (piece_arms p q j) (piece_stmts p q o) f₂)) ms _);
        }

    reads_stmt : Reads (piece_stmt p q) (suc d) (at (by_class (stmt_kind P) no_rule no_rule))
    reads_stmt (Block b) h = record { back = λ ms. one (many_reads (stmts p q) r.stmt b (fit_under true (piece_stmts p q b) h)) ms _ }
    reads_stmt (IfStmt c b k) h = reads_if c b (view_rest k) h
    reads_stmt (ForStmt i v t b) h =
        let S = piece_source p q t in
        let f = fit_under (p i && p v) (join S (B b)) h in
        record { back = λ ms. two (r.source t (fit_left S (B b) f)) (r.block b (fit_right S (B b) f)) ms _ }
    reads_stmt Return h = record { back = λ ms. refl }
    reads_stmt (ReturnExpr t) h = record { back = λ ms. one (r.expr t (fit_under true (E t) h)) ms _ }
    reads_stmt (ExprStmt t) h = record { back = λ ms. one (r.expr t (fit_under true (E t) h)) ms _ }
    reads_stmt (VarDecl x) h = record { back = λ ms. refl }
    reads_stmt (VarInit x t) h = record { back = λ ms. one (r.rhs t (fit_under (p x) (piece_rhs p q t) h)) ms _ }
    reads_stmt (FnDecl f ps b) h =
        let N = piece_names p q ps in
        let g = fit_under (p f) (join N (B b)) h in
        let t : leb 1 (suc (length ps)) ≡ true = le-leb 1 (suc (length ps)) (omega arith) in
        let u : suc (length ps) - 1 ≡ length ps = omega arith in
        record { back = λ ms. rw (t, u) (two (many_reads (names p q) r.name ps (fit_left N (B b) g)) (r.block b (fit_right N (B b) g)) ms _) }

  reads : (d : ℕ) → ReadsAt d (parsers d)
  reads zero = record {
    expr = λ t h. none_fit (deep_expr t) h;
    rhs = λ t h. none_fit (deep_rhs t) h;
    item = λ t h. none_fit (deep_keyed p q t) h;
    literal = λ l h. none_fit (zero-lt-suc 0) h;
    name = λ x h. none_fit (zero-lt-suc 0) h;
    source = λ t h. none_fit (deep_source t) h;
    stmt = λ t h. none_fit (deep_stmt t) h;
    block = λ b h. none_fit (zero-lt-suc _) h;
    elif = λ t h. none_fit (deep_arm p q t) h;
  }
  reads (suc d) =
      let r = reads d in
      record {
        expr = reads_expr r;
        rhs = reads_rhs r;
        item = reads_item r;
        literal = reads_literal;
        name = λ x h. record { back = λ ms. refl };
        source = reads_source r;
        stmt = reads_stmt r;
        block = reads_block r;
        elif = reads_elif r;
      }

-- ---- the whole

module _ (t : Stmts) (k : stmts_ok t 8 false ≡ true) (f : List Node → Parsed Stmt) where
  used : many more_stmts no_stmts f (stmt_count t) (flat_stmts t ++ []) ≡ Takes t [] → (many more_stmts no_stmts f (stmt_count t) (flat_stmts t) >>= all_used) ≡ Takes t []
  used e = rw (rw (append-nil (flat_stmts t)) at e, k)

pub flat_parse : (t : Stmts) → depth t ≤ 32 → stmts_ok t 8 false ≡ true → T (numbers_fit t) → parse (flat t) ≡ Takes t []
flat_parse t d k h =
    let r = (reads (λ x. true) (λ v. ltb v (2 ^ 64)) (λ v i. ltb→lt v (2 ^ 64) i) 31).stmt in
    used t k (parsers 31).stmt ((many_reads (stmts (λ x. true) (λ v. ltb v (2 ^ 64))) r t (record { within = omega arith; holds = h })).back [])
