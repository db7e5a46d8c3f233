-- A tree's nodes in preorder, and their bytes: the other direction of reading. Definitions only.
use Rattle.std.specs.Prelude.{ℕ, suc, ◌+◌, true, false, List, [], ◌∷◌, ◌++◌, length}
use Rattle.lent.specs.Bytes.{be_bytes}
use Rattle.ast.specs.Node.{k_block, k_if, k_for, k_return, k_expr_stmt, k_var_decl, k_fn_decl, k_table, k_array, k_array_access, k_array_mut, k_call, k_assign, k_binary, k_unary, k_num, k_text, k_name, k_true, k_false}
use Rattle.ast.specs.Node.{k_program, k_elif, k_item, k_stmt, k_right, k_expr, number_of, Node, node}
use Rattle.ast.specs.Structure.{item_count}
use Rattle.ast.specs.Tree.{BinTok, Plus, Minus, Star, Slash, Percent, EqEq, LtEq, Lt, GtEq, Gt, AmpAmp, PipePipe, BangEq, UnTok, Bang, Negate, Lit, Val, Text, Truth}
use Rattle.ast.specs.Tree.{Expr, Literal, Name, BinaryExpr, UnaryExpr, VarAssign, ArrayMut, FnCall, Rhs, Expression, Table, Array, ArrayAccess}
use Rattle.ast.specs.Tree.{Exprs, no_exprs, more_exprs, Items, no_items, more_items, Source, OverName, OverCall}
use Rattle.ast.specs.Tree.{Stmt, Block, IfStmt, ForStmt, Return, ReturnExpr, ExprStmt, VarDecl, VarInit, FnDecl, Stmts, no_stmts, more_stmts, Rest, Else, Elif}

abbrev pub bin_tok_number : BinTok → ℕ
bin_tok_number Plus = 1
bin_tok_number Minus = 2
bin_tok_number Star = 3
bin_tok_number Slash = 4
bin_tok_number Percent = 5
bin_tok_number EqEq = 6
bin_tok_number LtEq = 7
bin_tok_number Lt = 8
bin_tok_number GtEq = 9
bin_tok_number Gt = 10
bin_tok_number AmpAmp = 11
bin_tok_number PipePipe = 12
bin_tok_number BangEq = 13

abbrev pub un_tok_number : UnTok → ℕ
un_tok_number Bang = 1
un_tok_number Negate = 2

abbrev pub flat_lit : Lit → Node
flat_lit (Val b) = node (k_expr k_num) 0 (be_bytes 8 b)
flat_lit (Text t) = node (k_expr k_text) 0 (t ∷ [])
flat_lit (Truth true) = node (k_expr k_true) 0 []
flat_lit (Truth false) = node (k_expr k_false) 0 []

abbrev pub flat_lits : List Lit → List Node
flat_lits [] = []
flat_lits (l ∷ ls) = flat_lit l ∷ flat_lits ls

abbrev pub flat_name : ℕ → Node
flat_name x = node (k_expr k_name) 0 (x ∷ [])

abbrev pub flat_names : List ℕ → List Node
flat_names [] = []
flat_names (x ∷ xs) = flat_name x ∷ flat_names xs

abbrev pub expr_count : Exprs → ℕ
expr_count no_exprs = 0
expr_count (more_exprs e ps) = suc (expr_count ps)

abbrev mutual
  pub flat_expr : Expr → List Node
  flat_expr (Literal l) = flat_lit l ∷ []
  flat_expr (Name x) = flat_name x ∷ []
  flat_expr (BinaryExpr t a b) = node (k_expr k_binary) 2 (bin_tok_number t ∷ []) ∷ (flat_expr a ++ flat_expr b)
  flat_expr (UnaryExpr t a) = node (k_expr k_unary) 1 (un_tok_number t ∷ []) ∷ flat_expr a
  flat_expr (VarAssign x r) = node (k_expr k_assign) 1 (x ∷ []) ∷ flat_rhs r
  flat_expr (ArrayMut x i v) = node (k_expr k_array_mut) 2 (x ∷ []) ∷ (flat_expr i ++ flat_expr v)
  flat_expr (FnCall f ps) = node (k_expr k_call) (expr_count ps) (f ∷ []) ∷ flat_exprs ps

  pub flat_rhs : Rhs → List Node
  flat_rhs (Expression e) = flat_expr e
  flat_rhs (Table is) = node (k_right k_table) (item_count is) [] ∷ flat_items is
  flat_rhs (Array a ls) = node (k_right k_array) (length ls) (a ∷ []) ∷ flat_lits ls
  flat_rhs (ArrayAccess a i) = node (k_right k_array_access) 1 (a ∷ []) ∷ flat_expr i

  pub flat_exprs : Exprs → List Node
  flat_exprs no_exprs = []
  flat_exprs (more_exprs e ps) = flat_expr e ++ flat_exprs ps

  pub flat_items : Items → List Node
  flat_items no_items = []
  flat_items (more_items k e is) = node k_item 1 (k ∷ []) ∷ (flat_expr e ++ flat_items is)

abbrev pub flat_source : Source → List Node
flat_source (OverName a) = flat_name a ∷ []
flat_source (OverCall f ps) = node (k_expr k_call) (expr_count ps) (f ∷ []) ∷ flat_exprs ps

abbrev pub stmt_count : Stmts → ℕ
stmt_count no_stmts = 0
stmt_count (more_stmts s k) = suc (stmt_count k)

abbrev pub elif_count : Rest → ℕ
elif_count (Else k) = 0
elif_count (Elif c b k) = suc (elif_count k)

abbrev pub else_count : Rest → ℕ
else_count (Else k) = stmt_count k
else_count (Elif c b k) = else_count k

-- a Block's node; its statements follow
abbrev pub block_node : Stmts → Node
block_node b = node (k_stmt k_block) (stmt_count b) []

abbrev mutual
  pub flat_stmt : Stmt → List Node
  flat_stmt (Block b) = block_node b ∷ flat_stmts b
  flat_stmt (IfStmt c b k) = node (k_stmt k_if) (2 + elif_count k + else_count k) (elif_count k ∷ []) ∷ (flat_expr c ++ (block_node b ∷ (flat_stmts b ++ flat_rest k)))
  flat_stmt (ForStmt i v s b) = node (k_stmt k_for) 2 (i ∷ (v ∷ [])) ∷ (flat_source s ++ (block_node b ∷ flat_stmts b))
  flat_stmt Return = node (k_stmt k_return) 0 [] ∷ []
  flat_stmt (ReturnExpr e) = node (k_stmt k_return) 1 [] ∷ flat_expr e
  flat_stmt (ExprStmt e) = node (k_stmt k_expr_stmt) 1 [] ∷ flat_expr e
  flat_stmt (VarDecl x) = node (k_stmt k_var_decl) 0 (x ∷ []) ∷ []
  flat_stmt (VarInit x r) = node (k_stmt k_var_decl) 1 (x ∷ []) ∷ flat_rhs r
  flat_stmt (FnDecl f ps b) = node (k_stmt k_fn_decl) (suc (length ps)) (f ∷ []) ∷ (flat_names ps ++ (block_node b ∷ flat_stmts b))

  pub flat_stmts : Stmts → List Node
  flat_stmts no_stmts = []
  flat_stmts (more_stmts s k) = flat_stmt s ++ flat_stmts k

  pub flat_rest : Rest → List Node
  flat_rest (Else k) = flat_stmts k
  flat_rest (Elif c b k) = node k_elif 2 [] ∷ (flat_expr c ++ (block_node b ∷ (flat_stmts b ++ flat_rest k)))

-- the whole tree
abbrev pub flat : Stmts → List Node
flat t = node k_program (stmt_count t) [] ∷ flat_stmts t

-- nodes as bytes of the contents and of the bodies
abbrev pub entry_bytes : List Node → List ℕ
entry_bytes [] = []
entry_bytes (node k c b ∷ ns) = number_of k ∷ (c ∷ entry_bytes ns)

abbrev pub body_bytes : List Node → List ℕ
body_bytes [] = []
body_bytes (node k c b ∷ ns) = b ++ body_bytes ns
