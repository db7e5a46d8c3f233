-- The nodes of the tree file: document 01, "The tree file", the table of kinds; which numbers are finite. Definitions only.
use Rattle.std.specs.Prelude.{ℕ, ◌-◌, Bool, List, [], ◌∷◌, get_or}
use Rattle.std.specs.Float.Ieee.{of_bits}
use Rattle.std.specs.Float.{binary64}
use Rattle.std.specs.Float.Ieee.Scale.{finite}

-- "Statements: 2, 3, 5 to 9. Expressions: 14 to 23. A right side may also be 10, 12, 13. Program is node 0 only."
pub data StmtKind : Type 0 where
  k_block k_if k_for k_return k_expr_stmt k_var_decl k_fn_decl : StmtKind

pub data RightKind : Type 0 where
  k_table k_array k_array_access : RightKind

pub data ExprKind : Type 0 where
  k_array_mut k_call k_assign k_binary k_unary k_num k_text k_name k_true k_false : ExprKind

pub data Kind : Type 0 where
  k_program k_elif k_item : Kind
  k_stmt : StmtKind → Kind
  k_right : RightKind → Kind
  k_expr : ExprKind → Kind

-- kinds 1 to 23
abbrev pub kinds : List Kind
kinds =
    k_program ∷ k_stmt k_block ∷ k_stmt k_if ∷ k_elif ∷ k_stmt k_for ∷ k_stmt k_return ∷ k_stmt k_expr_stmt ∷ k_stmt k_var_decl ∷ k_stmt k_fn_decl ∷
    k_right k_table ∷ k_item ∷ k_right k_array ∷ k_right k_array_access ∷
    k_expr k_array_mut ∷ k_expr k_call ∷ k_expr k_assign ∷ k_expr k_binary ∷ k_expr k_unary ∷ k_expr k_num ∷ k_expr k_text ∷ k_expr k_name ∷ k_expr k_true ∷ k_expr k_false ∷ []

abbrev pub kind_of : ℕ → Kind
kind_of k = get_or kinds (k - 1) k_program

abbrev pub number_of : Kind → ℕ
number_of k_program = 1
number_of (k_stmt k_block) = 2
number_of (k_stmt k_if) = 3
number_of k_elif = 4
number_of (k_stmt k_for) = 5
number_of (k_stmt k_return) = 6
number_of (k_stmt k_expr_stmt) = 7
number_of (k_stmt k_var_decl) = 8
number_of (k_stmt k_fn_decl) = 9
number_of (k_right k_table) = 10
number_of k_item = 11
number_of (k_right k_array) = 12
number_of (k_right k_array_access) = 13
number_of (k_expr k_array_mut) = 14
number_of (k_expr k_call) = 15
number_of (k_expr k_assign) = 16
number_of (k_expr k_binary) = 17
number_of (k_expr k_unary) = 18
number_of (k_expr k_num) = 19
number_of (k_expr k_text) = 20
number_of (k_expr k_name) = 21
number_of (k_expr k_true) = 22
number_of (k_expr k_false) = 23

-- how many bytes the body has, and which of them are text numbers or an operator: the table's column "Body"
pub data Body : Type 0 where
  nothing : Body
  -- the Elif count
  elifs : Body
  -- so many text numbers
  texts : ℕ → Body
  -- an operator from 1 to so many
  operator : ℕ → Body
  -- 8 bytes, binary64
  number64 : Body

abbrev pub body : Kind → Body
body k_program = nothing
body (k_stmt k_block) = nothing
body (k_stmt k_if) = elifs
body k_elif = nothing
body (k_stmt k_for) = texts 2
body (k_stmt k_return) = nothing
body (k_stmt k_expr_stmt) = nothing
body (k_stmt k_var_decl) = texts 1
body (k_stmt k_fn_decl) = texts 1
body (k_right k_table) = nothing
body k_item = texts 1
body (k_right k_array) = texts 1
body (k_right k_array_access) = texts 1
body (k_expr k_array_mut) = texts 1
body (k_expr k_call) = texts 1
body (k_expr k_assign) = texts 1
body (k_expr k_binary) = operator 13
body (k_expr k_unary) = operator 2
body (k_expr k_num) = number64
body (k_expr k_text) = texts 1
body (k_expr k_name) = texts 1
body (k_expr k_true) = nothing
body (k_expr k_false) = nothing

abbrev pub body_size : Body → ℕ
body_size nothing = 0
body_size elifs = 1
body_size (texts n) = n
body_size (operator n) = 1
body_size number64 = 8

-- document 02, M-104: the 8 bytes v of a number are no NaN's and no infinity's, by IEEE 754
abbrev pub finite_number : ℕ → Bool
finite_number v = finite (of_bits binary64 v)

-- a node: its kind, its child count, its body's bytes
pub data Node : Type 0 where
  node : Kind → ℕ → List ℕ → Node
