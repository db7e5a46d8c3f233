-- What is parsed was spelt: the nodes taken are the tree's nodes in preorder. One law for a test, for a bind and for children one after the other; then
-- a clause for each kind.
use Rattle.std.specs.Prelude.{◌≡◌, refl, Bool, true, false, cond, ◌&&◌, List, [], ◌∷◌, ◌++◌, ℕ, zero, suc, ◌+◌, ◌-◌, ◌≤◌, T, leb, eqb, length}
use Rattle.std.proofs.Common.{sym, ap, ap₂, ◌∙◌, append_assoc, append-nil, zero-le, suc-le-suc, arith, leb-true, eqb-true}
use Rattle.std.proofs.Math.Nat.{max-le}
use Rattle.lent.specs.Bytes.{be_value, be_bytes, Each, more}
use Rattle.ast.specs.Node.{StmtKind, k_block, k_if, k_for, k_return, k_expr_stmt, k_var_decl, k_fn_decl, RightKind, k_table, k_array, k_array_access}
use Rattle.ast.specs.Node.{ExprKind, k_array_mut, k_call, k_assign, k_binary, k_unary, k_num, k_text, k_name, k_true, k_false, Kind, k_program, k_elif, k_item, k_stmt, k_right, k_expr, Node, node}
use Rattle.ast.specs.Node.{Body, nothing, elifs, texts, operator, number64, body}
use Rattle.ast.specs.Tree.{Val, Text, Truth, OverName, Stmts}
use Rattle.ast.specs.Structure.{Parsed, Fails, Takes, ◌>>=◌, guard, many, field, bin_tok, un_tok, Rule, no_rule, or_kind, by_class, at, childless, rest_of, Parsers, expr_kind, right_kind, expr_side, item_rule, call_rule, block_rule, stmt_kind, elif_rule, parsers}
use Rattle.ast.specs.Structure.{stmts_ok, all_used, program_rule, parse}
use Rattle.ast.specs.laws.Kinds.{by_kind}
use Rattle.ast.specs.laws.Tests.{T-both, fixed}
use Rattle.ast.specs.Flat.{bin_tok_number, un_tok_number, elif_count, else_count, stmt_count, flat_stmts, flat}
use Rattle.ast.specs.Limits.{depth, every}
use Rattle.ast.specs.laws.Pieces.{Piece, nil, join, over, leaf, Listing, piece_lit, piece_name, piece_expr, piece_rhs, piece_keyed, piece_source, piece_stmt, piece_stmts, piece_block, piece_arm}
use Rattle.ast.specs.laws.Pieces.{lits, names, exprs, items, stmts, arms, piece_rest_lem, elif_rest, else_rest}

-- ---- what holds of a parser's answer

pub data Gives {A : Type 0} (P : A → List Node → Type 0) : Parsed A → Type 0 where
  fails : Gives P Fails
  takes : {a : A} {ms : List Node} → P a ms → Gives P (Takes a ms)

pub given : {A : Type 0} {P : A → List Node → Type 0} {a : A} {ms : List Node} → Gives P (Takes a ms) → P a ms
given (takes h) = h

pub bound : {A B : Type 0} {P : A → List Node → Type 0} {Q : B → List Node → Type 0} {o : Parsed A} {f : A → List Node → Parsed B}
    → Gives P o → ((a : A) (ms : List Node) → P a ms → Gives Q (f a ms)) → Gives Q (o >>= f)
bound fails k = fails
bound (takes {a} {ms} h) k = k a ms h

mapped : {A : Type 0} {P Q : A → List Node → Type 0} {o : Parsed A} → Gives P o → ((a : A) (ms : List Node) → P a ms → Q a ms) → Gives Q o
mapped fails k = fails
mapped (takes {a} {ms} h) k = takes (k a ms h)

pub guarded : {A : Type 0} {P : A → List Node → Type 0} {o : Parsed A} (t : Bool) → (t ≡ true → Gives P o) → Gives P (guard t o)
guarded true k = k refl
guarded false k = fails

chosen : {A : Type 0} {P : A → List Node → Type 0} {o o' : Parsed A} (t : Bool) → (t ≡ true → Gives P o) → Gives P o' → Gives P (cond t o o')
chosen true k k' = k refl
chosen false k k' = k'

-- ---- bodies that hold what they may: p of text numbers, q of numbers

pub data Texts (p : ℕ → Bool) : ℕ → List ℕ → Type 0 where
  done : Texts p zero []
  text : {n x : ℕ} {b : List ℕ} → T (p x) → Texts p n b → Texts p (suc n) (x ∷ b)

pub data Fits (p q : ℕ → Bool) : Body → List ℕ → Type 0 where
  fits_nothing : Fits p q nothing []
  fits_elifs : {n : ℕ} → Fits p q elifs (n ∷ [])
  fits_texts : {n : ℕ} {b : List ℕ} → Texts p n b → Fits p q (texts n) b
  fits_operator : {n o : ℕ} → 1 ≤ o → o ≤ n → Fits p q (operator n) (o ∷ [])
  fits_binary64 : {b : List ℕ} → be_bytes 8 (be_value b) ≡ b → T (q (be_value b)) → Fits p q number64 b

abbrev pub Good : (p q : ℕ → Bool) → Node → Type 0
Good p q (node k c b) = Fits p q (body k) b

-- ---- a piece of depth at most d was taken from ns, ms is left

pub record Took (G : Node → Type 0) (a : Piece) (d : ℕ) (ns ms : List Node) : Type 0 where
  pub spelt : ns ≡ a.nodes ++ ms
  pub within : a.deep ≤ d
  pub holds : T a.test
  pub rest : Each G ms

module _ {G : Node → Type 0} {d : ℕ} where
  took_as : {a b : Piece} {ns ms : List Node} → a ≡ b → Took G b d ns ms → Took G a d ns ms
  took_as e x = rw e x

  took_nil : {ns : List Node} → Each G ns → Took G nil d ns ns
  took_nil g = record { spelt = refl; within = zero-le; holds = tt; rest = g }

  took_join : {a b : Piece} {ns ms ks : List Node} → Took G a d ns ms → Took G b d ms ks → Took G (join a b) d ns ks
  took_join {a} {b} {ks = ks} x y = record {
    spelt = x.spelt ∙ ap (λ (l : List Node). a.nodes ++ l) y.spelt ∙ sym (append_assoc a.nodes b.nodes ks);
    within = max-le x.within y.within;
    holds = T-both a.test b.test x.holds y.holds;
    rest = y.rest;
  }

  took_over : {a : Piece} {n n' : Node} {ns ms : List Node} (v : Bool) → n ≡ n' → T v → Took G a d ns ms → Took G (over n' v a) (suc d) (n ∷ ns) ms
  took_over {a} v e h x = record {
    spelt = ap₂ (λ (m : Node) (l : List Node). m ∷ l) e x.spelt;
    within = suc-le-suc x.within;
    holds = T-both v a.test h x.holds;
    rest = x.rest;
  }

  took_leaf : {n n' : Node} {v : Bool} {ns : List Node} → n ≡ n' → T v → Each G ns → Took G (leaf n' v) (suc d) (n ∷ ns) ns
  took_leaf {ns = ns} e h g = record { spelt = ap (λ (m : Node). m ∷ ns) e; within = suc-le-suc zero-le; holds = h; rest = g }

abbrev Sound : {A : Type 0} → (Node → Type 0) → (A → Piece) → ℕ → (List Node → Parsed A) → Type 0
Sound G S d f = (ns : List Node) → Each G ns → Gives (λ a ms. Took G (S a) d ns ms) (f ns)

-- children one after the other
several : {A B : Type 0} {G : Node → Type 0} {c : A → B → B} {z : B} {S : A → Piece} {L : B → Piece} {count : B → ℕ} {d : ℕ} {f : List Node → Parsed A}
    → Listing c z S L count → Sound G S d f → (n : ℕ) (ns : List Node) → Each G ns → Gives (λ b ms. Took G (L b) d ns ms × (count b ≡ n)) (many c z f n ns)
several l s zero ns g = takes (took_as l.piece_none (took_nil g), l.count_none)
several l s (suc n) ns g =
    bound (s ns g) λ a ms x. bound (several l s n ms x.rest) λ b ks y.
    takes (took_as (l.piece_more a b) (took_join x y.0), l.count_more a b ∙ ap suc y.1)

-- ---- operators

number_bin : (o : ℕ) → 1 ≤ o → o ≤ 13 → bin_tok_number (bin_tok o) ≡ o
number_bin = fixed (λ o. bin_tok_number (bin_tok o)) 13 tt

number_un : (o : ℕ) → 1 ≤ o → o ≤ 2 → un_tok_number (un_tok o) ≡ o
number_un = fixed (λ o. un_tok_number (un_tok o)) 2 tt

-- ---- a rule, and a place

module _ (p q : ℕ → Bool) where
  abbrev G : Node → Type 0
  G = Good p q

  abbrev SoundRule : {A : Type 0} → (A → Piece) → ℕ → Kind → Rule A → Type 0
  SoundRule S d k r = (c : ℕ) (b : List ℕ) (ns : List Node) → Fits p q (body k) b → Each G ns → Gives (λ a ms. Took G (S a) d (node k c b ∷ ns) ms) (r c b ns)

  abbrev SoundPlace : {A : Type 0} → (A → Piece) → ℕ → (Kind → Rule A) → Type 0
  SoundPlace S d place = (k : Kind) → SoundRule S d k (place k)

  module _ {A : Type 0} {S : A → Piece} {d : ℕ} where
    sound_at : {place : Kind → Rule A} → SoundPlace S d place → Sound G S d (at place)
    sound_at h [] g = fails
    sound_at h (node k c b ∷ ns) (more x g) = h k c b ns x g

    sound_none : SoundPlace S d no_rule
    sound_none k c b ns h g = fails

    sound_or : (j : Kind) {r : Rule A} {others : Kind → Rule A} → SoundRule S d j r → SoundPlace S d others → SoundPlace S d (or_kind j r others)
    sound_or j {r} {others} x y k c b ns h g =
        by_kind (λ i o. Fits p q (body i) b → Gives (λ a ms. Took G (S a) d (node i c b ∷ ns) ms) o) j r others k c b ns (λ w. x c b ns w g) (λ e w. y k c b ns w g) h

    sound_class : {f : StmtKind → Rule A} {i : RightKind → Rule A} {e : ExprKind → Rule A}
        → ((k : StmtKind) → SoundRule S d (k_stmt k) (f k)) → ((k : RightKind) → SoundRule S d (k_right k) (i k)) → ((k : ExprKind) → SoundRule S d (k_expr k) (e k)) → SoundPlace S d (by_class f i e)
    sound_class x y z k_program c b ns h g = fails
    sound_class x y z k_elif c b ns h g = fails
    sound_class x y z k_item c b ns h g = fails
    sound_class x y z (k_stmt k) c b ns h g = x k c b ns h g
    sound_class x y z (k_right k) c b ns h g = y k c b ns h g
    sound_class x y z (k_expr k) c b ns h g = z k c b ns h g

  -- ---- the parsers where d levels are left

  record SoundAt (d : ℕ) (P : Parsers) : Type 0 where
    pub expr : Sound G (piece_expr p q) d P.expr
    pub rhs : Sound G (piece_rhs p q) d P.rhs
    pub item : Sound G (piece_keyed p q) d P.item
    pub literal : Sound G (piece_lit p q) d P.literal
    pub name : Sound G (piece_name p q) d P.name
    pub source : Sound G (piece_source p q) d P.source
    pub stmt : Sound G (piece_stmt p q) d P.stmt
    pub block : Sound G (piece_block p q) d P.block
    pub elif : Sound G (piece_arm p q) d P.elif

  module _ {d : ℕ} {P : Parsers} (s : SoundAt d P) where
    sound_expr_kind : (k : ExprKind) → SoundRule (piece_expr p q) (suc d) (k_expr k) (expr_kind P k)
    sound_expr_kind k_array_mut c b ns (fits_texts (text {x = a} h done)) g =
        guarded (eqb c 2) λ t. bound (s.expr ns g) λ i ms x. bound (s.expr ms x.rest) λ v ks y. takes (took_over (p a) (cc (eqb-true c 2 t)) h (took_join x y))
    sound_expr_kind k_call c b ns (fits_texts (text {x = f} h done)) g =
        bound (several (exprs p q) s.expr c ns g) λ ps ms x. takes (took_over (p f) (cc x.1) h x.0)
    sound_expr_kind k_assign c b ns (fits_texts (text {x = a} h done)) g =
        guarded (eqb c 1) λ t. bound (s.rhs ns g) λ u ms x. takes (took_over (p a) (cc (eqb-true c 1 t)) h x)
    sound_expr_kind k_binary c b ns (fits_operator {o = o} l u) g =
        guarded (eqb c 2) λ t. bound (s.expr ns g) λ i ms x. bound (s.expr ms x.rest) λ v ks y. takes (took_over true (cc (eqb-true c 2 t, number_bin o l u)) tt (took_join x y))
    sound_expr_kind k_unary c b ns (fits_operator {o = o} l u) g =
        guarded (eqb c 1) λ t. bound (s.expr ns g) λ i ms x. takes (took_over true (cc (eqb-true c 1 t, number_un o l u)) tt x)
    sound_expr_kind k_num c b ns (fits_binary64 w h) g = guarded (eqb c 0) λ t. takes (took_leaf (ap₂ (node (k_expr k_num)) (eqb-true c 0 t) (sym w)) h g)
    sound_expr_kind k_text c b ns (fits_texts (text {x = a} h done)) g = guarded (eqb c 0) λ t. takes (took_leaf (cc (eqb-true c 0 t)) h g)
    sound_expr_kind k_name c b ns (fits_texts (text {x = a} h done)) g = guarded (eqb c 0) λ t. takes (took_leaf (cc (eqb-true c 0 t)) h g)
    sound_expr_kind k_true c b ns fits_nothing g = guarded (eqb c 0) λ t. takes (took_leaf (cc (eqb-true c 0 t)) tt g)
    sound_expr_kind k_false c b ns fits_nothing g = guarded (eqb c 0) λ t. takes (took_leaf (cc (eqb-true c 0 t)) tt g)

    sound_right_kind : (k : RightKind) → SoundRule (piece_rhs p q) (suc d) (k_right k) (right_kind P k)
    sound_right_kind k_table c b ns fits_nothing g = bound (several (items p q) s.item c ns g) λ is ms x. takes (took_over true (cc x.1) tt x.0)
    sound_right_kind k_array c b ns (fits_texts (text {x = a} h done)) g =
        bound (several (lits p q) s.literal c ns g) λ ls ms x. takes (took_over (p a) (cc x.1) h x.0)
    sound_right_kind k_array_access c b ns (fits_texts (text {x = a} h done)) g =
        guarded (eqb c 1) λ t. bound (s.expr ns g) λ j ms x. takes (took_over (p a) (cc (eqb-true c 1 t)) h x)

    sound_expr_side : (k : ExprKind) → SoundRule (piece_rhs p q) (suc d) (k_expr k) (expr_side P k)
    sound_expr_side k c b ns h g = bound (sound_expr_kind k c b ns h g) λ t ms x. takes x

    sound_item : SoundRule (piece_keyed p q) (suc d) k_item (item_rule P)
    sound_item c b ns (fits_texts (text {x = k} h done)) g = guarded (eqb c 1) λ t. bound (s.expr ns g) λ a ms x. takes (took_over (p k) (cc (eqb-true c 1 t)) h x)

    sound_call : SoundRule (piece_source p q) (suc d) (k_expr k_call) (call_rule P)
    sound_call c b ns (fits_texts (text {x = f} h done)) g = bound (several (exprs p q) s.expr c ns g) λ ps ms x. takes (took_over (p f) (cc x.1) h x.0)

    sound_block : SoundRule (piece_block p q) (suc d) (k_stmt k_block) (block_rule P)
    sound_block c b ns fits_nothing g = mapped (several (stmts p q) s.stmt c ns g) λ t ms x. took_over true (cc x.1) tt x.0

    sound_stmt_kind : (k : StmtKind) → SoundRule (piece_stmt p q) (suc d) (k_stmt k) (stmt_kind P k)
    sound_stmt_kind k_block c b ns h g = bound (sound_block c b ns h g) λ t ms x. takes x
    sound_stmt_kind k_if c b ns (fits_elifs {n = n}) g =
        guarded (leb (2 + n) c) λ t.
        bound (s.expr ns g) λ i ns₁ x₁.
        bound (s.block ns₁ x₁.rest) λ k ns₂ x₂.
        bound (several (arms p q) s.elif n ns₂ x₂.rest) λ j ns₃ x₃.
        bound (several (stmts p q) s.stmt (c - (2 + n)) ns₃ x₃.0.rest) λ o ns₄ x₄.
        let l : 2 + n ≤ c = leb-true (2 + n) c t in
        let f = elif_rest j o in
        let h = else_rest j o in
        let v = x₃.1 in
        let w = x₄.1 in
        let m : elif_count (rest_of j o) ≡ n = f ∙ v in
        let u : 2 + elif_count (rest_of j o) + else_count (rest_of j o) ≡ c = omega arith in
        takes (took_over true (cc) tt (took_join x₁ (took_join x₂ (took_as (piece_rest_lem p q j o) (took_join x₃.0 x₄.0)))))
    sound_stmt_kind k_for c b ns (fits_texts (text {x = i} h (text {x = v} h₁ done))) g =
        guarded (eqb c 2) λ t. bound (s.source ns g) λ u ms x. bound (s.block ms x.rest) λ k ks y.
        takes (took_over (p i && p v) (cc (eqb-true c 2 t)) (T-both (p i) (p v) h h₁) (took_join x y))
    sound_stmt_kind k_return c b ns fits_nothing g =
        chosen (eqb c 0) (λ t. takes (took_leaf (cc (eqb-true c 0 t)) tt g))
        (guarded (eqb c 1) λ t. bound (s.expr ns g) λ u ms x. takes (took_over true (cc (eqb-true c 1 t)) tt x))
    sound_stmt_kind k_expr_stmt c b ns fits_nothing g =
        guarded (eqb c 1) λ t. bound (s.expr ns g) λ u ms x. takes (took_over true (cc (eqb-true c 1 t)) tt x)
    sound_stmt_kind k_var_decl c b ns (fits_texts (text {x = i} h done)) g =
        chosen (eqb c 0) (λ t. takes (took_leaf (cc (eqb-true c 0 t)) h g))
        (guarded (eqb c 1) λ t. bound (s.rhs ns g) λ u ms x. takes (took_over (p i) (cc (eqb-true c 1 t)) h x))
    sound_stmt_kind k_fn_decl c b ns (fits_texts (text {x = f} h done)) g =
        guarded (leb 1 c) λ t.
        bound (several (names p q) s.name (c - 1) ns g) λ ps ms x.
        bound (s.block ms x.0.rest) λ k ks y.
        let l : 1 ≤ c = leb-true 1 c t in
        let v = x.1 in
        let u : suc (length ps) ≡ c = omega arith in
        takes (took_over (p f) (cc) h (took_join x.0 y))

    sound_elif : SoundRule (piece_arm p q) (suc d) k_elif (elif_rule P)
    sound_elif c b ns fits_nothing g =
        guarded (eqb c 2) λ t. bound (s.expr ns g) λ a ms x. bound (s.block ms x.rest) λ k ks y. takes (took_over true (cc (eqb-true c 2 t)) tt (took_join x y))

  module _ {d : ℕ} where
    sound_num : SoundRule (piece_lit p q) (suc d) (k_expr k_num) (childless (λ x. Val (be_value x)))
    sound_num c b ns (fits_binary64 w h) g = guarded (eqb c 0) λ t. takes (took_leaf (ap₂ (node (k_expr k_num)) (eqb-true c 0 t) (sym w)) h g)

    sound_text : SoundRule (piece_lit p q) (suc d) (k_expr k_text) (childless (λ x. Text (field x 0)))
    sound_text c b ns (fits_texts (text h done)) g = guarded (eqb c 0) λ t. takes (took_leaf (cc (eqb-true c 0 t)) h g)

    sound_true : SoundRule (piece_lit p q) (suc d) (k_expr k_true) (childless (λ x. Truth true))
    sound_true c b ns fits_nothing g = guarded (eqb c 0) λ t. takes (took_leaf (cc (eqb-true c 0 t)) tt g)

    sound_false : SoundRule (piece_lit p q) (suc d) (k_expr k_false) (childless (λ x. Truth false))
    sound_false c b ns fits_nothing g = guarded (eqb c 0) λ t. takes (took_leaf (cc (eqb-true c 0 t)) tt g)

    sound_name : SoundRule (piece_name p q) (suc d) (k_expr k_name) (childless (λ x. field x 0))
    sound_name c b ns (fits_texts (text h done)) g = guarded (eqb c 0) λ t. takes (took_leaf (cc (eqb-true c 0 t)) h g)

    sound_over : SoundRule (piece_source p q) (suc d) (k_expr k_name) (childless (λ x. OverName (field x 0)))
    sound_over c b ns (fits_texts (text h done)) g = guarded (eqb c 0) λ t. takes (took_leaf (cc (eqb-true c 0 t)) h g)

  sound : (d : ℕ) → SoundAt d (parsers d)
  sound zero = record {
    expr = λ ns g. fails;
    rhs = λ ns g. fails;
    item = λ ns g. fails;
    literal = λ ns g. fails;
    name = λ ns g. fails;
    source = λ ns g. fails;
    stmt = λ ns g. fails;
    block = λ ns g. fails;
    elif = λ ns g. fails;
  }
  sound (suc d) =
      let s = sound d in
      record {
        expr = sound_at (sound_class (λ k c b ns h g. fails) (λ k c b ns h g. fails) (sound_expr_kind s));
        rhs = sound_at (sound_class (λ k c b ns h g. fails) (sound_right_kind s) (sound_expr_side s));
        item = sound_at (sound_or k_item (sound_item s) sound_none);
        literal = sound_at (sound_or (k_expr k_num) sound_num (sound_or (k_expr k_text) sound_text (sound_or (k_expr k_true) sound_true (sound_or (k_expr k_false) sound_false sound_none))));
        name = sound_at (sound_or (k_expr k_name) sound_name sound_none);
        source = sound_at (sound_or (k_expr k_name) sound_over (sound_or (k_expr k_call) (sound_call s) sound_none));
        stmt = sound_at (sound_class (sound_stmt_kind s) (λ k c b ns h g. fails) (λ k c b ns h g. fails));
        block = sound_at (sound_or (k_stmt k_block) (sound_block s) sound_none);
        elif = sound_at (sound_or k_elif (sound_elif s) sound_none);
      }

-- ---- the whole

pub record Whole (p q : ℕ → Bool) (ns : List Node) (t : Stmts) (rest : List Node) : Type 0 where
  pub spelt : ns ≡ flat t
  pub used : rest ≡ []
  pub ok : stmts_ok t 8 false ≡ true
  pub within : depth t ≤ 32
  pub holds : T (every p q t)

module _ (p q : ℕ → Bool) where
  all_used_lem : {c : ℕ} {ns : List Node} (t : Stmts) (ms : List Node) → Took (Good p q) (piece_stmts p q t) 31 ns ms × (stmt_count t ≡ c)
      → Gives (Whole p q (node k_program c [] ∷ ns)) (all_used t ms)
  all_used_lem {c} {ns} t [] x = guarded (stmts_ok t 8 false) λ h. takes (record {
    spelt = ap₂ (λ (k : ℕ) (l : List Node). node k_program k [] ∷ l) (sym x.1) (x.0.spelt ∙ append-nil (flat_stmts t));
    used = refl;
    ok = h;
    within = suc-le-suc x.0.within;
    holds = x.0.holds;
  })
  all_used_lem t (n ∷ ms) x = fails

  program : (c : ℕ) (ns : List Node) → Each (Good p q) ns → {b : List ℕ} → Fits p q nothing b → Gives (Whole p q (node k_program c b ∷ ns)) (program_rule c b ns)
  program c ns g fits_nothing = bound (several (stmts p q) (sound p q 31).stmt c ns g) λ t ms x. all_used_lem t ms x

  pub parse_whole : (ns : List Node) → Each (Good p q) ns → Gives (Whole p q ns) (parse ns)
  parse_whole [] g = fails
  parse_whole (node k c b ∷ ns) (more h g) = by_kind (λ i o. Fits p q (body i) b → Gives (Whole p q (node i c b ∷ ns)) o) k_program program_rule no_rule k c b ns (program c ns g) (λ e w. fails) h

  pub parse_flat : {ns rest : List Node} {t : Stmts} → Each (Good p q) ns → parse ns ≡ Takes t rest → Whole p q ns t rest
  parse_flat {ns} g e = given (rw e at (parse_whole ns g))
