-- The structure of the nodes, refusal 4: document 01, "Numbers given for the input" and the table of "The tree file", column "Children". Nodes stand in
-- preorder. A parser takes nodes; it gives a tree and the nodes behind it. What may stand at a place is said kind by kind. Definitions only.
use Rattle.std.specs.Prelude.{ℕ, zero, suc, ◌+◌, ◌-◌, Bool, true, false, cond, not, ◌&&◌, ◌||◌, List, [], ◌∷◌, leb, eqb, length, get_or}
use Rattle.lent.specs.Bytes.{be_value}
use Rattle.ast.specs.Node.{StmtKind, k_block, k_if, k_for, k_return, k_expr_stmt, k_var_decl, k_fn_decl, RightKind, k_table, k_array, k_array_access}
use Rattle.ast.specs.Node.{ExprKind, k_array_mut, k_call, k_assign, k_binary, k_unary, k_num, k_text, k_name, k_true, k_false, Kind, k_program, k_elif, k_item, k_stmt, k_right, k_expr, number_of, Node, node}
use Rattle.ast.specs.Tree.{BinTok, Plus, Minus, Star, Slash, Percent, EqEq, LtEq, Lt, GtEq, Gt, AmpAmp, PipePipe, BangEq, UnTok, Bang, Negate, Lit, Val, Text, Truth}
use Rattle.ast.specs.Tree.{Expr, Literal, Name, BinaryExpr, UnaryExpr, VarAssign, ArrayMut, FnCall, Rhs, Expression, Table, Array, ArrayAccess}
use Rattle.ast.specs.Tree.{Exprs, no_exprs, more_exprs, Items, no_items, more_items, Source, OverName, OverCall}
use Rattle.ast.specs.Tree.{Stmt, Block, IfStmt, ForStmt, Return, ReturnExpr, ExprStmt, VarDecl, VarInit, FnDecl, Stmts, no_stmts, more_stmts, Rest, Else, Elif}

-- ---- parsers

pub data Parsed (A : Type 0) : Type 0 where
  Fails : Parsed A
  Takes : A → List Node → Parsed A

infixl 20 ◌>>=◌
abbrev pub ◌>>=◌ : {A B : Type 0} → Parsed A → (A → List Node → Parsed B) → Parsed B
Fails >>= f = Fails
Takes a ns >>= f = f a ns

-- a test, before
abbrev pub guard : {A : Type 0} → Bool → Parsed A → Parsed A
guard true p = p
guard false p = Fails

-- a tree of what was parsed
abbrev pub making : {A B : Type 0} → (A → B) → A → List Node → Parsed B
making f a ns = Takes (f a) ns

-- n children, one after the other
abbrev pub many : {A B : Type 0} → (A → B → B) → B → (List Node → Parsed A) → ℕ → List Node → Parsed B
many c z p zero ns = Takes z ns
many c z p (suc n) ns = p ns >>= λ a ms. many c z p n ms >>= λ b ks. Takes (c a b) ks

-- the body's byte i
abbrev pub field : List ℕ → ℕ → ℕ
field b i = get_or b i 0

-- ---- operators: 1 to 13 and 1 to 2, checked before (5)

abbrev pub bin_toks : List BinTok
bin_toks = Plus ∷ Minus ∷ Star ∷ Slash ∷ Percent ∷ EqEq ∷ LtEq ∷ Lt ∷ GtEq ∷ Gt ∷ AmpAmp ∷ PipePipe ∷ BangEq ∷ []

abbrev pub bin_tok : ℕ → BinTok
bin_tok n = get_or bin_toks (n - 1) Plus

abbrev pub un_tok : ℕ → UnTok
un_tok n = cond (eqb n 1) Bang Negate

-- ---- places: what may stand there, kind by kind

-- the rule of a kind: from the child count, the body and the nodes behind the entry
abbrev pub Rule : Type 0 → Type 0
Rule A = ℕ → List ℕ → List Node → Parsed A

abbrev pub no_rule : {K A : Type 0} → K → Rule A
no_rule k c b ns = Fails

-- kind j by the rule r, and the kinds of another place
abbrev pub or_kind : {A : Type 0} → Kind → Rule A → (Kind → Rule A) → Kind → Rule A
or_kind j r others k = cond (eqb (number_of j) (number_of k)) r (others k)

-- statements, right sides and expressions
abbrev pub by_class : {A : Type 0} → (StmtKind → Rule A) → (RightKind → Rule A) → (ExprKind → Rule A) → Kind → Rule A
by_class s r e k_program c b ns = Fails
by_class s r e k_elif c b ns = Fails
by_class s r e k_item c b ns = Fails
by_class s r e (k_stmt k) c b ns = s k c b ns
by_class s r e (k_right k) c b ns = r k c b ns
by_class s r e (k_expr k) c b ns = e k c b ns

abbrev pub at : {A : Type 0} → (Kind → Rule A) → List Node → Parsed A
at place [] = Fails
at place (node k c b ∷ ns) = place k c b ns

-- a node with no children
abbrev pub childless : {A : Type 0} → (List ℕ → A) → Rule A
childless f c b ns = guard (eqb c 0) (Takes (f b) ns)

-- ---- the table, column "Children": p parses what stands below a node

pub data Keyed : Type 0 where
  keyed : ℕ → Expr → Keyed

abbrev pub more_keyed : Keyed → Items → Items
more_keyed (keyed k e) is = more_items k e is

pub data Arm : Type 0 where
  arm : Expr → Stmts → Arm

-- Elifs, then the else statements
abbrev pub rest_of : List Arm → Stmts → Rest
rest_of [] t = Else t
rest_of (arm c b ∷ l) t = Elif c b (rest_of l t)

-- the places: an expression; a right side; an Item; in an Array; a parameter of a FnDecl; what a For goes over; a statement; a Block, where one has to
-- stand; an Elif
pub record Parsers : Type 0 where
  pub expr : List Node → Parsed Expr
  pub rhs : List Node → Parsed Rhs
  pub item : List Node → Parsed Keyed
  pub literal : List Node → Parsed Lit
  pub name : List Node → Parsed ℕ
  pub source : List Node → Parsed Source
  pub stmt : List Node → Parsed Stmt
  pub block : List Node → Parsed Stmts
  pub elif : List Node → Parsed Arm

-- 19, 20, 22, 23
abbrev pub literal_place : Kind → Rule Lit
literal_place =
    or_kind (k_expr k_num) (childless (λ x. Val (be_value x)))
    (or_kind (k_expr k_text) (childless (λ x. Text (field x 0)))
    (or_kind (k_expr k_true) (childless (λ x. Truth true))
    (or_kind (k_expr k_false) (childless (λ x. Truth false)) no_rule)))

module _ (p : Parsers) where
  -- 14 to 23
  abbrev pub expr_kind : ExprKind → Rule Expr
  expr_kind k_array_mut c b ns = guard (eqb c 2) (p.expr ns >>= λ i ms. p.expr ms >>= making (ArrayMut (field b 0) i))
  expr_kind k_call c b ns = many more_exprs no_exprs p.expr c ns >>= making (FnCall (field b 0))
  expr_kind k_assign c b ns = guard (eqb c 1) (p.rhs ns >>= making (VarAssign (field b 0)))
  expr_kind k_binary c b ns = guard (eqb c 2) (p.expr ns >>= λ x ms. p.expr ms >>= making (BinaryExpr (bin_tok (field b 0)) x))
  expr_kind k_unary c b ns = guard (eqb c 1) (p.expr ns >>= making (UnaryExpr (un_tok (field b 0))))
  expr_kind k_num c b ns = childless (λ x. Literal (Val (be_value x))) c b ns
  expr_kind k_text c b ns = childless (λ x. Literal (Text (field x 0))) c b ns
  expr_kind k_name c b ns = childless (λ x. Name (field x 0)) c b ns
  expr_kind k_true c b ns = childless (λ x. Literal (Truth true)) c b ns
  expr_kind k_false c b ns = childless (λ x. Literal (Truth false)) c b ns

  -- 10, 12, 13
  abbrev pub right_kind : RightKind → Rule Rhs
  right_kind k_table c b ns = many more_keyed no_items p.item c ns >>= making Table
  right_kind k_array c b ns = many ◌∷◌ [] p.literal c ns >>= making (Array (field b 0))
  right_kind k_array_access c b ns = guard (eqb c 1) (p.expr ns >>= making (ArrayAccess (field b 0)))

  abbrev pub expr_side : ExprKind → Rule Rhs
  expr_side k c b ns = expr_kind k c b ns >>= making Expression

  -- 11
  abbrev pub item_rule : Rule Keyed
  item_rule c b ns = guard (eqb c 1) (p.expr ns >>= making (keyed (field b 0)))

  -- 15 in a For
  abbrev pub call_rule : Rule Source
  call_rule c b ns = many more_exprs no_exprs p.expr c ns >>= making (OverCall (field b 0))

  -- 2 where a Block has to stand
  abbrev pub block_rule : Rule Stmts
  block_rule c b ns = many more_stmts no_stmts p.stmt c ns

  -- 2, 3, 5 to 9
  abbrev pub stmt_kind : StmtKind → Rule Stmt
  stmt_kind k_block c b ns = block_rule c b ns >>= making Block
  stmt_kind k_if c b ns =
      guard (leb (2 + field b 0) c)
      (p.expr ns >>= λ t ns₁. p.block ns₁ >>= λ k ns₂. many ◌∷◌ [] p.elif (field b 0) ns₂ >>= λ j ns₃.
      many more_stmts no_stmts p.stmt (c - (2 + field b 0)) ns₃ >>= making (λ o. IfStmt t k (rest_of j o)))
  stmt_kind k_for c b ns = guard (eqb c 2) (p.source ns >>= λ t ms. p.block ms >>= making (ForStmt (field b 0) (field b 1) t))
  stmt_kind k_return c b ns = cond (eqb c 0) (Takes Return ns) (guard (eqb c 1) (p.expr ns >>= making ReturnExpr))
  stmt_kind k_expr_stmt c b ns = guard (eqb c 1) (p.expr ns >>= making ExprStmt)
  stmt_kind k_var_decl c b ns = cond (eqb c 0) (Takes (VarDecl (field b 0)) ns) (guard (eqb c 1) (p.rhs ns >>= making (VarInit (field b 0))))
  stmt_kind k_fn_decl c b ns = guard (leb 1 c) (many ◌∷◌ [] p.name (c - 1) ns >>= λ ps ms. p.block ms >>= making (FnDecl (field b 0) ps))

  -- 4
  abbrev pub elif_rule : Rule Arm
  elif_rule c b ns = guard (eqb c 2) (p.expr ns >>= λ t ms. p.block ms >>= making (arm t))

  -- the kinds of each place, one level up
  abbrev pub above : Parsers
  above = record {
    expr = at (by_class no_rule no_rule expr_kind);
    rhs = at (by_class no_rule right_kind expr_side);
    item = at (or_kind k_item item_rule no_rule);
    literal = at literal_place;
    name = at (or_kind (k_expr k_name) (childless (λ x. field x 0)) no_rule);
    source = at (or_kind (k_expr k_name) (childless (λ x. OverName (field x 0))) (or_kind (k_expr k_call) call_rule no_rule));
    stmt = at (by_class stmt_kind no_rule no_rule);
    block = at (or_kind (k_stmt k_block) block_rule no_rule);
    elif = at (or_kind k_elif elif_rule no_rule);
  }

-- d levels are left; a node's children have one less
abbrev pub parsers : ℕ → Parsers
parsers zero = record {
  expr = λ ns. Fails;
  rhs = λ ns. Fails;
  item = λ ns. Fails;
  literal = λ ns. Fails;
  name = λ ns. Fails;
  source = λ ns. Fails;
  stmt = λ ns. Fails;
  block = λ ns. Fails;
  elif = λ ns. Fails;
}
parsers (suc d) = above (parsers d)

-- ---- limits: more than 8 loops nested, over 24 array or 16 table items, a key twice in one table, a function inside a function

abbrev pub has_key : ℕ → Items → Bool
has_key k no_items = false
has_key k (more_items j e is) = eqb k j || has_key k is

abbrev pub distinct : Items → Bool
distinct no_items = true
distinct (more_items k e is) = not (has_key k is) && distinct is

abbrev pub item_count : Items → ℕ
item_count no_items = 0
item_count (more_items k e is) = suc (item_count is)

abbrev mutual
  pub expr_ok : Expr → Bool
  expr_ok (Literal l) = true
  expr_ok (Name x) = true
  expr_ok (BinaryExpr t a b) = expr_ok a && expr_ok b
  expr_ok (UnaryExpr t a) = expr_ok a
  expr_ok (VarAssign x r) = rhs_ok r
  expr_ok (ArrayMut x i v) = expr_ok i && expr_ok v
  expr_ok (FnCall f ps) = exprs_ok ps

  pub rhs_ok : Rhs → Bool
  rhs_ok (Expression e) = expr_ok e
  rhs_ok (Table is) = leb (item_count is) 16 && (distinct is && items_ok is)
  rhs_ok (Array a ls) = leb (length ls) 24
  rhs_ok (ArrayAccess a i) = expr_ok i

  pub exprs_ok : Exprs → Bool
  exprs_ok no_exprs = true
  exprs_ok (more_exprs e ps) = expr_ok e && exprs_ok ps

  pub items_ok : Items → Bool
  items_ok no_items = true
  items_ok (more_items k e is) = expr_ok e && items_ok is

abbrev pub source_ok : Source → Bool
source_ok (OverName a) = true
source_ok (OverCall f ps) = exprs_ok ps

-- l loops may still be nested; f: inside a function
abbrev mutual
  pub stmt_ok : Stmt → ℕ → Bool → Bool
  stmt_ok (Block b) l f = stmts_ok b l f
  stmt_ok (IfStmt c b k) l f = expr_ok c && (stmts_ok b l f && rest_ok k l f)
  stmt_ok (ForStmt i v s b) l f = leb 1 l && (source_ok s && stmts_ok b (l - 1) f)
  stmt_ok Return l f = true
  stmt_ok (ReturnExpr e) l f = expr_ok e
  stmt_ok (ExprStmt e) l f = expr_ok e
  stmt_ok (VarDecl x) l f = true
  stmt_ok (VarInit x r) l f = rhs_ok r
  stmt_ok (FnDecl x ps b) l f = not f && stmts_ok b l true

  pub stmts_ok : Stmts → ℕ → Bool → Bool
  stmts_ok no_stmts l f = true
  stmts_ok (more_stmts s k) l f = stmt_ok s l f && stmts_ok k l f

  pub rest_ok : Rest → ℕ → Bool → Bool
  rest_ok (Else k) l f = stmts_ok k l f
  rest_ok (Elif c b k) l f = expr_ok c && (stmts_ok b l f && rest_ok k l f)

-- ---- the whole: "Program is node 0 only"; its depth is 1 of 32; the child counts use up the nodes exactly

abbrev pub all_used : Stmts → List Node → Parsed Stmts
all_used t [] = guard (stmts_ok t 8 false) (Takes t [])
all_used t (n ∷ ns) = Fails

abbrev pub program_rule : Rule Stmts
program_rule c b ns = many more_stmts no_stmts (parsers 31).stmt c ns >>= all_used

abbrev pub parse : List Node → Parsed Stmts
parse [] = Fails
parse (node k c b ∷ ns) = or_kind k_program program_rule no_rule k c b ns
