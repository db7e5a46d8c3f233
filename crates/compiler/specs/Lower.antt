-- The lowering: compiler.rs, stmt.rs and array.rs, rule by rule, as document 02, M-100, alters them. A tree is lowered to what the original does in order:
-- it takes registers, pushes instructions, and may ask for the register before register 0. The next register r and the current label n are handed down; a
-- tree takes `…Regs` registers and opens `…Labels` labels, wherever it stands. Definitions only.
use Rattle.std.specs.Prelude.{ℕ, zero, suc, ◌+◌, ◌-◌, Bool, cond, List, [], ◌∷◌, ◌++◌, map, leb, eqb, length, replicate}
use Rattle.sifv.specs.Value.{Num, Bl, Null, One, Arr, Tab}
use Rattle.opc.specs.Op.{Lt, Jmpt, Jmpf}
use Rattle.opc.specs.Op.{Op, Binary, Unary, Ldc, Ldn, Ldas, Ldav, Upda, Stc, Stn, Str, JmpCnd, Jmpa, Incrr, Fn, Call, FnRet, FnStackPush, FnStackPop, Tbli, Nop, Instr, instr, Code}
use Rattle.tables.specs.Tables.{Program}
use Rattle.ast.specs.Tree.{Lit, Val, Text, Truth, Expr, Literal, Name, BinaryExpr, UnaryExpr, VarAssign, ArrayMut, FnCall, Rhs, Expression, Table, Array, ArrayAccess}
use Rattle.ast.specs.Tree.{Exprs, no_exprs, more_exprs, Items, no_items, more_items, Source, OverName, OverCall}
use Rattle.ast.specs.Flat.{expr_count}
use Rattle.compiler.specs.Literals.{literal, bin_kind, un_kind}
use Rattle.ast.specs.Tree.{Stmt, Block, IfStmt, ForStmt, Return, ReturnExpr, ExprStmt, VarDecl, VarInit, FnDecl, Stmts, no_stmts, more_stmts, Rest, Else, Elif}
use Rattle.numeric.specs.Whole.{whole}
use Rattle.lent.specs.Refusals.{no_register, script_too_large}

-- ---- what the lowering does

-- the section that is written, `decl_scope`, and how many For nodes stand around what is lowered
pub data Section : Type 0 where
  Decl Main : Section

pub record Place : Type 0 where
  pub section : Section
  pub loops : ℕ

-- `nextreg`; `push_op`; `self.ri - 1` at 0, in `binarg` and `arraymutexpr`
pub data Event : Type 0 where
  Reg : Event
  Push : Place → Instr → Event
  Below : Event

-- `self.ri - 1`, where the next register is r, and `prevreg`
abbrev pub ask_below : ℕ → List Event
ask_below r = cond (eqb r 0) (Below ∷ []) []

abbrev pub prev : ℕ → ℕ
prev r = r - 1

-- ---- registers that a tree takes

-- an expression as `binarg` and `assign` look at it: what comes of a literal, of a name, of any other
abbrev pub by_leaf : {A : Type 0} → (Lit → A) → (ℕ → A) → A → Expr → A
by_leaf l x o (Literal c) = l c
by_leaf l x o (Name y) = x y
by_leaf l x o (BinaryExpr t a b) = o
by_leaf l x o (UnaryExpr t a) = o
by_leaf l x o (VarAssign y r) = o
by_leaf l x o (ArrayMut y i v) = o
by_leaf l x o (FnCall f ps) = o

-- what comes of True and False, and of another literal
abbrev pub by_truth : {A : Type 0} → (Bool → A) → A → Lit → A
by_truth t o (Val b) = o
by_truth t o (Text x) = o
by_truth t o (Truth b) = t b

-- `binarg`: what `expr` takes, but one for True and False, which `expr` leaves out
abbrev pub arg_regs : Expr → ℕ → ℕ
arg_regs e k = by_leaf (by_truth (λ b. 1) k) (λ x. k) k e

-- `assign`: what `expr` takes, but none for a literal or a name
abbrev pub assign_regs : Expr → ℕ → ℕ
assign_regs e k = by_leaf (λ l. 0) (λ x. 0) k e

-- a literal in `expr`
abbrev pub lit_regs : Lit → ℕ
lit_regs (Val b) = 1
lit_regs (Text t) = 1
lit_regs (Truth b) = 0

abbrev mutual
  pub expr_regs : Expr → ℕ
  expr_regs (Literal l) = lit_regs l
  expr_regs (Name x) = 1
  expr_regs (BinaryExpr t a b) = arg_regs a (expr_regs a) + (arg_regs b (expr_regs b) + 1)
  expr_regs (UnaryExpr t a) = arg_regs a (expr_regs a) + 1
  expr_regs (VarAssign x r) = rhs_regs r
  expr_regs (ArrayMut x i v) = expr_regs v + expr_regs i
  expr_regs (FnCall f ps) = param_regs ps + 1

  pub rhs_regs : Rhs → ℕ
  rhs_regs (Expression e) = assign_regs e (expr_regs e)
  rhs_regs (Table is) = item_regs is
  rhs_regs (Array a ls) = 0
  rhs_regs (ArrayAccess a i) = expr_regs i + 1

  pub param_regs : Exprs → ℕ
  param_regs no_exprs = 0
  param_regs (more_exprs e ps) = expr_regs e + param_regs ps

  pub item_regs : Items → ℕ
  item_regs no_items = 0
  item_regs (more_items k e is) = expr_regs e + item_regs is

abbrev pub source_regs : Source → ℕ
source_regs (OverName a) = 0
source_regs (OverCall f ps) = param_regs ps + 1

abbrev mutual
  pub stmt_regs : Stmt → ℕ
  stmt_regs (Block b) = stmts_regs b
  stmt_regs (IfStmt c b k) = expr_regs c + (stmts_regs b + rest_regs k)
  stmt_regs (ForStmt i v s b) = source_regs s + (stmts_regs b + 4)
  stmt_regs Return = 0
  stmt_regs (ReturnExpr e) = expr_regs e
  stmt_regs (ExprStmt e) = expr_regs e
  stmt_regs (VarDecl x) = 0
  stmt_regs (VarInit x r) = rhs_regs r
  stmt_regs (FnDecl f ps b) = length ps + stmts_regs b

  pub stmts_regs : Stmts → ℕ
  stmts_regs no_stmts = 0
  stmts_regs (more_stmts s k) = stmt_regs s + stmts_regs k

  pub rest_regs : Rest → ℕ
  rest_regs (Else k) = stmts_regs k
  rest_regs (Elif c b k) = expr_regs c + (stmts_regs b + rest_regs k)

-- ---- labels that a tree opens, `newlbl`

-- the else part with its end: an else opens one more, for the end
abbrev pub else_labels : Stmts → ℕ → ℕ
else_labels no_stmts k = 0
else_labels (more_stmts s b) k = k + 1

abbrev mutual
  pub stmt_labels : Stmt → ℕ
  stmt_labels (Block b) = stmts_labels b
  stmt_labels (IfStmt c b k) = stmts_labels b + 2 + rest_labels k
  stmt_labels (ForStmt i v s b) = stmts_labels b + 1
  stmt_labels Return = 0
  stmt_labels (ReturnExpr e) = 0
  stmt_labels (ExprStmt e) = 0
  stmt_labels (VarDecl x) = 0
  stmt_labels (VarInit x r) = 0
  stmt_labels (FnDecl f ps b) = stmts_labels b + 1

  pub stmts_labels : Stmts → ℕ
  stmts_labels no_stmts = 0
  stmts_labels (more_stmts s k) = stmt_labels s + stmts_labels k

  -- after the label that every part behind a Block begins with: an Elif, the else, or the end
  pub rest_labels : Rest → ℕ
  rest_labels (Else k) = else_labels k (stmts_labels k)
  rest_labels (Elif c b k) = stmts_labels b + 2 + rest_labels k

-- ---- expressions, right sides: w is where to write, n the label, r the next register

abbrev pub push : Place → ℕ → Op → Event
push w n o = Push w (instr n o)

-- a value into the next register
abbrev pub load : Place → ℕ → Op → List Event
load w n o = Reg ∷ (push w n o ∷ [])

-- a literal in `expr`: True and False give nothing
abbrev pub lower_lit : Place → ℕ → Lit → ℕ → List Event
lower_lit w n (Val b) r = load w n (Ldc r (One (literal (Val b))))
lower_lit w n (Text t) r = load w n (Ldc r (One (literal (Text t))))
lower_lit w n (Truth b) r = []

-- `binarg`: es is what `expr` gives
abbrev pub lower_arg : Place → ℕ → Expr → ℕ → List Event → List Event
lower_arg w n e r es = by_leaf (by_truth (λ b. load w n (Ldc r (One (Bl b)))) es) (λ x. es) es e

-- `assign` of an expression to x: es is what `expr` gives, q the next register after it
abbrev pub lower_assign : Place → ℕ → ℕ → Expr → List Event → ℕ → List Event
lower_assign w n x e es q =
    by_leaf (λ l. push w n (Stc (One (literal l)) x) ∷ []) (λ y. push w n (Stn y x) ∷ [])
    (es ++ (push w n (Str (prev q) x) ∷ [])) e

-- `fncallexpr`: ps are the parameters' events, k their number; q is the next register after them
abbrev pub lower_fn_call : Place → ℕ → ℕ → List Event → ℕ → ℕ → List Event
lower_fn_call w n f ps k q = ps ++ (push w n (Call f k) ∷ load w n (FnStackPop q))

abbrev mutual
  pub lower_expr : Expr → Place → ℕ → ℕ → List Event
  lower_expr (Literal l) w n r = lower_lit w n l r
  lower_expr (Name x) w n r = load w n (Ldn r x)
  -- `binop`
  lower_expr (BinaryExpr t a b) w n r =
      let q = r + arg_regs a (expr_regs a) in
      let p = q + arg_regs b (expr_regs b) in
      lower_arg w n a r (lower_expr a w n r) ++ (ask_below q ++ (lower_arg w n b q (lower_expr b w n q) ++ (ask_below p ++
      load w n (Binary (bin_kind t) (prev q) (prev p) p))))
  -- `unop`
  lower_expr (UnaryExpr t a) w n r =
      let q = r + arg_regs a (expr_regs a) in
      lower_arg w n a r (lower_expr a w n r) ++ (ask_below q ++ load w n (Unary (un_kind t) (prev q) q))
  lower_expr (VarAssign x k) w n r = lower_rhs k x w n r
  -- `arraymutexpr`: the value first, then the index
  lower_expr (ArrayMut x i v) w n r =
      let q = r + expr_regs v in
      lower_expr v w n r ++ (ask_below q ++ (lower_expr i w n q ++ (push w n (Upda x (prev (q + expr_regs i)) (prev q)) ∷ [])))
  lower_expr (FnCall f ps) w n r = lower_fn_call w n f (lower_params ps w n r) (expr_count ps) (r + param_regs ps)

  -- `assign`: a right side, assigned to x
  pub lower_rhs : Rhs → ℕ → Place → ℕ → ℕ → List Event
  lower_rhs (Expression e) x w n r = lower_assign w n x e (lower_expr e w n r) (r + expr_regs e)
  -- `match_table_assign`
  lower_rhs (Table is) x w n r = push w n (Stc (Tab []) x) ∷ lower_items is x w n r
  -- `arraydecl`: under its own name
  lower_rhs (Array a ls) x w n r = push w n (Stc (Arr (map literal ls)) a) ∷ []
  -- `arrayaccess`, and document 02, M-100: "a store to the name after the load", of the load's own register
  lower_rhs (ArrayAccess a i) x w n r = let q = r + expr_regs i in lower_expr i w n r ++ (load w n (Ldav a (prev q) q) ++ (push w n (Str q x) ∷ []))

  pub lower_params : Exprs → Place → ℕ → ℕ → List Event
  lower_params no_exprs w n r = []
  lower_params (more_exprs e ps) w n r =
      let q = r + expr_regs e in
      lower_expr e w n r ++ (push w n (FnStackPush (prev q)) ∷ lower_params ps w n q)

  -- in file order
  pub lower_items : Items → ℕ → Place → ℕ → ℕ → List Event
  lower_items no_items x w n r = []
  lower_items (more_items k e is) x w n r =
      let q = r + expr_regs e in
      lower_expr e w n r ++ (push w n (Tbli x k (prev q)) ∷ lower_items is x w n q)

-- ---- statements

-- `blocks`: an empty list gives a Nop
abbrev pub or_nop : Stmts → Place → ℕ → List Event → List Event
or_nop no_stmts w n es = push w n Nop ∷ []
or_nop (more_stmts s k) w n es = es

-- A condition (events c, next register q) before a Block (events b, label m at its end): where it is false the jump goes to the next label after the
-- Block's, where the Block ends to the label `end`.
abbrev pub lower_arm : Place → ℕ → List Event → ℕ → List Event → ℕ → ℕ → List Event
lower_arm w n c q b m end = c ++ (push w n (JmpCnd Jmpf (prev q) (m + 1)) ∷ (b ++ (push w m (Jmpa end) ∷ [])))

-- what a For goes over: its events from register r on, and its name, which for a call is text 0, `fortmp`
abbrev pub lower_source : Source → Place → ℕ → ℕ → List Event
lower_source (OverName a) w n r = []
lower_source (OverCall f ps) w n r =
    lower_fn_call w n f (lower_params ps w n r) (expr_count ps) (r + param_regs ps) ++ (push w n (Str (prev (r + source_regs (OverCall f ps))) 0) ∷ [])

abbrev pub source_name : Source → ℕ
source_name (OverName a) = a
source_name (OverCall f ps) = 0

-- one For more around
abbrev pub inner : Place → Place
inner w = record { section = w.section; loops = suc w.loops }

-- `forstmt` over the array `over`, with the names i and v: its registers `index`, `size` and `less`, the events of its source and of its Block, and the label
-- `last` at the Block's end. What comes before the label `loop` is done once.
abbrev pub lower_for : Place → ℕ → ℕ → ℕ → ℕ → ℕ → ℕ → ℕ → List Event → List Event → ℕ → List Event
lower_for w n i v over index size less source block last =
    let loop = n + 1 in
    let item = size + 1 in
    Reg ∷ (source ++ (push w n (Stc (One (Num (whole 0))) i) ∷ (Reg ∷ (push w n (Ldas over size) ∷
    (push (inner w) loop (Ldn index i) ∷ (Reg ∷ (push (inner w) loop (Ldav over index item) ∷ (push (inner w) loop (Str item v) ∷ (block ++
    (push (inner w) last (Incrr index) ∷ (push (inner w) last (Str index i) ∷ (Reg ∷ (push (inner w) last (Binary Lt index size less) ∷
    (push (inner w) last (JmpCnd Jmpt less loop) ∷ []))))))))))))))

-- a function's parameters, popped in written order from register r on
abbrev pub lower_pops : List ℕ → Place → ℕ → ℕ → List Event
lower_pops [] w n r = []
lower_pops (x ∷ ps) w n r = push w n (FnStackPop r) ∷ (push w n (Str r x) ∷ lower_pops ps w n (suc r))

-- to the declarations
abbrev pub declaring : Place → Place
declaring w = record { section = Decl; loops = w.loops }

abbrev mutual
  pub lower_stmt : Stmt → Place → ℕ → ℕ → List Event
  lower_stmt (Block b) w n r = or_nop b w n (lower_stmts b w n r)
  -- `ifstmt`
  lower_stmt (IfStmt c b k) w n r =
      let q = r + expr_regs c in
      let m = n + 1 + stmts_labels b in
      let end = m + 1 + rest_labels k in
      lower_arm w n (lower_expr c w n r) q (or_nop b w (n + 1) (lower_stmts b w (n + 1) q)) m end ++ lower_rest k w (m + 1) (q + stmts_regs b) end
  -- `forstmt`
  lower_stmt (ForStmt i v s b) w n r =
      let size = suc r + source_regs s in
      let less = size + 2 + stmts_regs b in
      let last = n + 1 + stmts_labels b in
      lower_for w n i v (source_name s) r size less (lower_source s w n (suc r)) (or_nop b (inner w) (n + 1) (lower_stmts b (inner w) (n + 1) (size + 2))) last
  -- `ret`
  lower_stmt Return w n r = push w n FnRet ∷ []
  lower_stmt (ReturnExpr e) w n r = lower_expr e w n r ++ (push w n (FnStackPush (prev (r + expr_regs e))) ∷ (push w n FnRet ∷ []))
  lower_stmt (ExprStmt e) w n r = lower_expr e w n r
  -- `vardecl`
  lower_stmt (VarDecl x) w n r = push w n (Stc (One Null) x) ∷ []
  lower_stmt (VarInit x k) w n r = lower_rhs k x w n r
  -- `fndecl`: to the declarations; the parameters' registers first, then Fn and their pops
  lower_stmt (FnDecl f ps b) w n r =
      replicate (length ps) Reg ++ (push (declaring w) n (Fn f ps) ∷ (lower_pops ps (declaring w) n r ++
      or_nop b (declaring w) n (lower_stmts b (declaring w) n (r + length ps))))

  pub lower_stmts : Stmts → Place → ℕ → ℕ → List Event
  lower_stmts no_stmts w n r = []
  lower_stmts (more_stmts s k) w n r = lower_stmt s w n r ++ lower_stmts k w (n + stmt_labels s) (r + stmt_regs s)

  -- from label n on; the label `end` is the last, where a Nop stands
  pub lower_rest : Rest → Place → ℕ → ℕ → ℕ → List Event
  lower_rest (Else k) w n r end = lower_stmts k w n r ++ (push w end Nop ∷ [])
  -- `elif`
  lower_rest (Elif c b k) w n r end =
      let q = r + expr_regs c in
      let m = n + 1 + stmts_labels b in
      lower_arm w n (lower_expr c w n r) q (or_nop b w (n + 1) (lower_stmts b w (n + 1) q)) m end ++ lower_rest k w (m + 1) (q + stmts_regs b) end

-- ---- the whole: `compile`

abbrev pub top : Place
top = record { section = Main; loops = 0 }

abbrev pub lower_tree : Stmts → List Event
lower_tree t = or_nop t top 0 (lower_stmts t top 0 0)

-- the first refusal, from r registers taken and k instructions pushed: "6 or 7, the earlier in emission"
abbrev pub refusal : List Event → ℕ → ℕ → ℕ
refusal [] r k = 0
refusal (Reg ∷ es) r k = cond (leb 96 r) script_too_large (refusal es (suc r) k)
refusal (Push w i ∷ es) r k = cond (leb 1024 k) script_too_large (refusal es r (suc k))
refusal (Below ∷ es) r k = no_register

-- the instructions of a section, in the order of pushing
abbrev pub only : Section → Section → Instr → Code → Code
only Decl Decl i c = i ∷ c
only Decl Main i c = c
only Main Decl i c = c
only Main Main i c = i ∷ c

abbrev pub code_of : Section → List Event → Code
code_of s [] = []
code_of s (Reg ∷ es) = code_of s es
code_of s (Push w i ∷ es) = only s w.section i (code_of s es)
code_of s (Below ∷ es) = code_of s es

-- declarations, then code
abbrev pub program_of : List Event → Program
program_of es = record { code = code_of Decl es ++ code_of Main es; code_start = length (code_of Decl es) }

pub data Lowered : Type 0 where
  refused : ℕ → Lowered
  lowered : Program → Lowered

abbrev pub decide : ℕ → Program → Lowered
decide zero p = lowered p
decide (suc k) p = refused (suc k)

abbrev pub lower : Stmts → Lowered
lower t = decide (refusal (lower_tree t) 0 0) (program_of (lower_tree t))
