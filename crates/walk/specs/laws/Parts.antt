-- The parts of a plain tree and of its lowered code, case by case.
use Rattle.std.specs.Prelude.{ℕ, Bool, true, false, cond, ◌&&◌, List, [], ◌∷◌, T, eqb}
use Rattle.std.proofs.Math.Facts.{and_yes}
use Rattle.sifv.specs.Value.{One, Bl}
use Rattle.opc.specs.Op.{Ldc}
use Rattle.ast.specs.Tree.{Val, Text, Truth, Expr, Literal, Name, BinaryExpr, UnaryExpr, VarAssign, ArrayMut, FnCall, Stmts, Rest}
use Rattle.ast.specs.Plain.{or_truth, plain_expr, plain, plain_rest}
use Rattle.compiler.specs.Lower.{Place, Event, Below, ask_below, arg_regs, load, lower_arg}

-- a condition, its Block and the rest
pub arm_plain : (c : Expr) (b : Stmts) (k : Rest) → T (plain_expr c && (plain b && plain_rest k)) → T (plain_expr c) × T (plain b) × T (plain_rest k)
arm_plain c b k h =
    let y = and_yes (plain_expr c) (plain b && plain_rest k) h in
    let z = and_yes (plain b) (plain_rest k) y.1 in
    (y.0, z.0, z.1)

-- an operand is True or False, or plain elsewhere too: G holds of its registers and code if it does in both cases
pub operand : (G : Expr → ℕ → List Event → Type 0) (w : Place) (n r : ℕ) (a : Expr) (k : ℕ) (es : List Event) → T (or_truth a (plain_expr a))
    → ((b : Bool) → G (Literal (Truth b)) 1 (load w n (Ldc r (One (Bl b))))) → (T (plain_expr a) → G a k es) → G a (arg_regs a k) (lower_arg w n a r es)
operand G w n r (Literal (Val b)) k es t g f = f tt
operand G w n r (Literal (Text b)) k es t g f = f tt
operand G w n r (Literal (Truth b)) k es t g f = g b
operand G w n r (Name x) k es t g f = f t
operand G w n r (BinaryExpr o a b) k es t g f = f t
operand G w n r (UnaryExpr o a) k es t g f = f t
operand G w n r (VarAssign x y) k es t g f = f t
operand G w n r (ArrayMut x i v) k es t g f = f t
operand G w n r (FnCall h ps) k es t g f = f t

-- where a register before another is asked for, nothing is pushed
pub nothing_pushed : (G : List Event → Type 0) (r : ℕ) → G (Below ∷ []) → G [] → G (ask_below r)
nothing_pushed G r h g = go (eqb r 0)
  where
    go : (t : Bool) → G (cond t (Below ∷ []) [])
    go true = h
    go false = g
