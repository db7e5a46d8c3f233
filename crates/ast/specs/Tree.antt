-- The tree of a script: ast.rs and token.rs as document 01, "The tree file", has them. A kind of node stands only where it may, so "a node where it
-- may not stand" cannot be written. Names, keys and texts are text numbers; a number is its 8 bytes as one number. Definitions only.
use Rattle.std.specs.Prelude.{ℕ, Bool, List}

-- the operators, in the order of `expr` in compiler.rs: 17 Binary has 1 to 13, 18 Unary has 1 to 2
pub data BinTok : Type 0 where
  Plus Minus Star Slash Percent EqEq LtEq Lt GtEq Gt AmpAmp PipePipe BangEq : BinTok

pub data UnTok : Type 0 where
  Bang Negate : UnTok

-- 19 Num (its binary64 pattern), 20 Text, 22 True and 23 False: what may stand in an Array
pub data Lit : Type 0 where
  Val : ℕ → Lit
  Text : ℕ → Lit
  Truth : Bool → Lit

mutual
  -- expressions: kinds 14 to 23
  pub data Expr : Type 0 where
    Literal : Lit → Expr
    -- 21
    Name : ℕ → Expr
    -- 17, 18
    BinaryExpr : BinTok → Expr → Expr → Expr
    UnaryExpr : UnTok → Expr → Expr
    -- 16: name, right side
    VarAssign : ℕ → Rhs → Expr
    -- 14: name, index, value
    ArrayMut : ℕ → Expr → Expr → Expr
    -- 15: name, parameters
    FnCall : ℕ → Exprs → Expr

  -- right sides: an expression, or kind 10, 12 or 13
  pub data Rhs : Type 0 where
    Expression : Expr → Rhs
    Table : Items → Rhs
    -- name, items
    Array : ℕ → List Lit → Rhs
    -- name, index
    ArrayAccess : ℕ → Expr → Rhs

  pub data Exprs : Type 0 where
    no_exprs : Exprs
    more_exprs : Expr → Exprs → Exprs

  -- 11 Item: key, expression
  pub data Items : Type 0 where
    no_items : Items
    more_items : ℕ → Expr → Items → Items

-- what a For goes over: a Name or a Call
pub data Source : Type 0 where
  OverName : ℕ → Source
  OverCall : ℕ → Exprs → Source

mutual
  -- statements: kinds 2, 3, 5 to 9
  pub data Stmt : Type 0 where
    Block : Stmts → Stmt
    -- condition, Block, and the rest
    IfStmt : Expr → Stmts → Rest → Stmt
    -- index name, item name
    ForStmt : ℕ → ℕ → Source → Stmts → Stmt
    Return : Stmt
    ReturnExpr : Expr → Stmt
    ExprStmt : Expr → Stmt
    VarDecl : ℕ → Stmt
    VarInit : ℕ → Rhs → Stmt
    -- name, parameters, Block
    FnDecl : ℕ → List ℕ → Stmts → Stmt

  pub data Stmts : Type 0 where
    no_stmts : Stmts
    more_stmts : Stmt → Stmts → Stmts

  -- what follows an If's Block: 4 Elif, each with condition and Block, then the else statements
  pub data Rest : Type 0 where
    Else : Stmts → Rest
    Elif : Expr → Stmts → Rest → Rest
