-- The walk of a plain script's tree by meaning: document 01, "The walk". It neither lowers the tree nor steps the machine. It holds a value or unset per
-- text and a count of steps; what an operation reads or writes is said by the machine's own functions (Operation). Definitions only.
use Rattle.std.specs.Prelude.{ℕ, zero, suc, ◌+◌, pred, Bool, true, false, List, [], map, length}
use Rattle.std.proofs.Math.Option.{some}
use Rattle.sifv.specs.Value.{Single, Num, Null, Value, One, Arr, Tab}
use Rattle.ast.specs.Tree.{Expr, Literal, Name, BinaryExpr, UnaryExpr, VarAssign, ArrayMut, FnCall, Rhs, Expression, Table, Array, ArrayAccess}
use Rattle.ast.specs.Tree.{Items, no_items, more_items, Source, OverName, OverCall}
use Rattle.ast.specs.Tree.{Stmt, Block, IfStmt, ForStmt, Return, ReturnExpr, ExprStmt, VarDecl, VarInit, FnDecl, Stmts, no_stmts, more_stmts, Rest, Else, Elif}
use Rattle.compiler.specs.Literals.{literal, bin_kind, un_kind}
use Rattle.vm.specs.RuntimeErr.{RuntimeErr}
use Rattle.vm.specs.Operation.{Got, Ok, Err, Names, empty, put, or_null, held, array, binary, unary, truth, read, array_item, update, tabled}
use Rattle.vm.specs.Machine.{Answer, Done, Stopped}
use Rattle.numeric.specs.Whole.{whole}

-- what comes of a tree: the steps taken, the names left, and a result or the stop that ended it
pub data Walked (A : Type 0) : Type 0 where
  Fine : ℕ → Names → A → Walked A
  Halt : ℕ → Names → RuntimeErr → Walked A

-- n steps more, before
abbrev pub counting : {A : Type 0} → ℕ → Walked A → Walked A
counting n (Fine m e a) = Fine (n + m) e a
counting n (Halt m e r) = Halt (n + m) e r

infixl 20 ◌>>=◌
abbrev pub ◌>>=◌ : {A B : Type 0} → Walked A → (Names → A → Walked B) → Walked B
Fine n e a >>= f = counting n (f e a)
Halt n e r >>= f = Halt n e r

-- n steps that leave the names e
abbrev pub steps : ℕ → Names → Walked (Unit {0})
steps n e = Fine n e tt

-- what no plain script has there: nothing is done, and the theorems do not speak of it
abbrev pub not_plain : {A : Type 0} → Names → A → Walked A
not_plain e a = Fine 0 e a

-- one step that gets a value, or the stop, which is not counted
abbrev pub gets : Names → Got Value → Walked Value
gets e (Ok v) = Fine 1 e v
gets e (Err r) = Halt 0 e r

-- one step that makes new names, or the stop
abbrev pub makes : Names → Got Names → Walked (Unit {0})
makes e (Ok e₁) = steps 1 e₁
makes e (Err r) = Halt 0 e r

-- ---- expressions: a load for a literal or a name, one step for an operator

abbrev pub walk_expr : Expr → Names → Walked Value
walk_expr (Literal l) e = gets e (Ok (One (literal l)))
walk_expr (Name x) e = gets e (read e x)
walk_expr (BinaryExpr t a b) e = walk_expr a e >>= λ e₁ v. walk_expr b e₁ >>= λ e₂ w. gets e₂ (binary (bin_kind t) v w)
walk_expr (UnaryExpr t a) e = walk_expr a e >>= λ e₁ v. gets e₁ (unary (un_kind t) v)
walk_expr (VarAssign x r) e = not_plain e (One Null)
walk_expr (ArrayMut x i v) e = not_plain e (One Null)
walk_expr (FnCall f ps) e = not_plain e (One Null)

-- ---- right sides, stored under x

-- "Assigning True now stores true." (document 02, M-100) "Copying an unset name stores nothing-value." (document 01)
abbrev pub walk_assign : ℕ → Expr → Walked Value → Names → Walked (Unit {0})
walk_assign x (Literal l) o e = steps 1 (put e x (some (One (literal l))))
walk_assign x (Name y) o e = steps 1 (put e x (or_null (e y)))
walk_assign x (BinaryExpr t a b) o e = o >>= λ e₁ v. steps 1 (put e₁ x (some v))
walk_assign x (UnaryExpr t a) o e = o >>= λ e₁ v. steps 1 (put e₁ x (some v))
walk_assign x (VarAssign y r) o e = not_plain e tt
walk_assign x (ArrayMut y i v) o e = not_plain e tt
walk_assign x (FnCall f ps) o e = not_plain e tt

-- in file order
abbrev pub walk_items : Items → ℕ → Names → Walked (Unit {0})
walk_items no_items x e = steps 0 e
walk_items (more_items k t is) x e = walk_expr t e >>= λ e₁ v. makes e₁ (tabled e₁ x k (some v)) >>= λ e₂ u. walk_items is x e₂

-- An Array stores under its own name. An ArrayAccess is read, then stored: document 02, M-100, "That store adds one step each time it runs".
abbrev pub walk_rhs : Rhs → ℕ → Names → Walked (Unit {0})
walk_rhs (Expression t) x e = walk_assign x t (walk_expr t e) e
walk_rhs (Table is) x e = counting 1 (walk_items is x (put e x (some (Tab []))))
walk_rhs (Array a ls) x e = steps 1 (put e a (some (Arr (map literal ls))))
walk_rhs (ArrayAccess a i) x e = walk_expr i e >>= λ e₁ v. gets e₁ (array_item e₁ a v) >>= λ e₂ w. steps 1 (put e₂ x (some w))

-- an expression as a statement. ArrayMut: the value first, then the index
abbrev pub walk_own : Expr → Names → Walked (Unit {0})
walk_own (Literal l) e = walk_expr (Literal l) e >>= λ e₁ v. steps 0 e₁
walk_own (Name x) e = walk_expr (Name x) e >>= λ e₁ v. steps 0 e₁
walk_own (BinaryExpr t a b) e = walk_expr (BinaryExpr t a b) e >>= λ e₁ v. steps 0 e₁
walk_own (UnaryExpr t a) e = walk_expr (UnaryExpr t a) e >>= λ e₁ v. steps 0 e₁
walk_own (VarAssign x r) e = walk_rhs r x e
walk_own (ArrayMut x i v) e = walk_expr v e >>= λ e₁ w. walk_expr i e₁ >>= λ e₂ k. makes e₂ (update e₂ x k w)
walk_own (FnCall f ps) e = not_plain e tt

-- ---- statements

-- an empty block or script takes one step
abbrev pub or_one : Stmts → Names → Walked (Unit {0}) → Walked (Unit {0})
or_one no_stmts e o = steps 1 e
or_one (more_stmts s k) e o = o

-- the test takes one step; where it holds go on with a, else with b
abbrev pub choose : Got Bool → Names → Walked (Unit {0}) → Walked (Unit {0}) → Walked (Unit {0})
choose (Ok true) e a b = counting 1 a
choose (Ok false) e a b = counting 1 b
choose (Err r) e a b = Halt 0 e r

-- The passes of a For with the index name i, the item name v and the array a: from index k on, `more` of them after this one. Each has 7 steps of its own:
-- 3 before the Block, for index and item, and 4 behind it. The index comes from the loop.
module _ (body : Names → Walked (Unit {0})) (i v a : ℕ) where
  abbrev pub pass : ℕ → Names → Walked (Unit {0})
  pass k e = counting 1 (gets e (array_item e a (One (Num (whole k)))) >>= λ e₁ w. counting 1 (body (put e₁ v (some w)) >>= λ e₂ u. steps 4 (put e₂ i (some (One (Num (whole (suc k))))))))

  abbrev pub passes : ℕ → ℕ → Names → Walked (Unit {0})
  passes zero k e = pass k e
  passes (suc more) k e = pass k e >>= λ e₁ u. passes more (suc k) e₁

-- how many items a name's array has
abbrev pub items_held : Names → ℕ → Got (List Single)
items_held e a = held a (e a) (λ v. array a v (λ l. Ok l))

-- "For reads the size once", after setting the index name to 0: one step each
abbrev pub sized : Names → Got (List Single) → (ℕ → Walked (Unit {0})) → Walked (Unit {0})
sized e (Ok l) f = counting 1 (f (length l))
sized e (Err r) f = Halt 0 e r

abbrev pub walk_for : (Names → Walked (Unit {0})) → ℕ → ℕ → Source → Names → Walked (Unit {0})
walk_for body i v (OverName a) e =
    let e₀ = put e i (some (One (Num (whole 0)))) in
    counting 1 (sized e₀ (items_held e₀ a) (λ n. passes body i v a (pred n) 0 e₀))
walk_for body i v (OverCall f ps) e = not_plain e tt

abbrev mutual
  pub walk_stmt : Stmt → Names → Walked (Unit {0})
  walk_stmt (Block b) e = or_one b e (walk_stmts b e)
  -- the condition, its test, the Block, and 2 steps more: the jump to the end, and the end
  walk_stmt (IfStmt c b k) e = walk_expr c e >>= λ e₁ v. choose (truth v) e₁ (or_one b e₁ (walk_stmts b e₁) >>= λ e₂ u. steps 2 e₂) (walk_rest k e₁)
  walk_stmt (ForStmt i v s b) e = walk_for (λ e₁. or_one b e₁ (walk_stmts b e₁)) i v s e
  walk_stmt Return e = not_plain e tt
  walk_stmt (ReturnExpr t) e = not_plain e tt
  walk_stmt (ExprStmt t) e = walk_own t e
  walk_stmt (VarDecl x) e = steps 1 (put e x (some (One Null)))
  walk_stmt (VarInit x r) e = walk_rhs r x e
  walk_stmt (FnDecl f ps b) e = not_plain e tt

  pub walk_stmts : Stmts → Names → Walked (Unit {0})
  walk_stmts no_stmts e = steps 0 e
  walk_stmts (more_stmts s k) e = walk_stmt s e >>= λ e₁ u. walk_stmts k e₁

  -- the else, with the end's step, or the next condition
  pub walk_rest : Rest → Names → Walked (Unit {0})
  walk_rest (Else k) e = walk_stmts k e >>= λ e₁ u. steps 1 e₁
  walk_rest (Elif c b k) e = walk_expr c e >>= λ e₁ v. choose (truth v) e₁ (or_one b e₁ (walk_stmts b e₁) >>= λ e₂ u. steps 2 e₂) (walk_rest k e₁)

-- the whole script: all names unset at first
abbrev pub walk : Stmts → Walked (Unit {0})
walk t = or_one t empty (walk_stmts t empty)

-- its count of steps, its names, and how it ended
abbrev pub walk_count : Walked (Unit {0}) → ℕ
walk_count (Fine n e u) = n
walk_count (Halt n e r) = n

abbrev pub walk_names : Walked (Unit {0}) → Names
walk_names (Fine n e u) = e
walk_names (Halt n e r) = e

abbrev pub walk_end : Walked (Unit {0}) → Answer
walk_end (Fine n e u) = Done
walk_end (Halt n e r) = Stopped r
