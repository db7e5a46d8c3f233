-- Which kind a node has, and which tree begins with it.
use Prim.Native.Nat.{ℕ, ◌≤◌}
use mathlib.Core.Path.{◌≡◌, refl}
use mathlib.Core.Bool.{true, false}
use mathlib.Core.List.{List}
use native.Mathlib.Omega.{arith}
use lib.ListN.{length, get_or}
use Rattle.ast.specs.Tree.{BinTok, UnTok, Lit, Val, Text, Truth, Expr, Literal, Name, BinaryExpr, UnaryExpr, VarAssign, ArrayMut, FnCall}
use Rattle.ast.specs.Tree.{Rhs, Expression, Table, Array, ArrayAccess, Exprs, Items}
use Rattle.ast.specs.Flat.{flat_expr, flat_rhs}
use Rattle.emit.specs.inner.Made.{Spells, At}
use Rattle.emit.specs.laws.Spell.{expr_size, first_kind, fits_nodes}
use Rattle.expr.specs.inner.Parts.{exprs, rights}

pub data EKind : ℕ → Expr → Type 0 where
  kmut : {x : ℕ} {i v : Expr} → EKind 14 (ArrayMut x i v)
  kcall : {f : ℕ} {ps : Exprs} → EKind 15 (FnCall f ps)
  kasg : {x : ℕ} {r : Rhs} → EKind 16 (VarAssign x r)
  kbin : {t : BinTok} {x y : Expr} → EKind 17 (BinaryExpr t x y)
  kun : {t : UnTok} {x : Expr} → EKind 18 (UnaryExpr t x)
  kval : {b : ℕ} → EKind 19 (Literal (Val b))
  ktext : {t : ℕ} → EKind 20 (Literal (Text t))
  kname : {x : ℕ} → EKind 21 (Name x)
  ktrue : EKind 22 (Literal (Truth true))
  kfalse : EKind 23 (Literal (Truth false))

ekind : (e : Expr) {c b : List ℕ} → Spells (flat_expr e) c b → EKind (get_or c 0 0) e
ekind (Literal (Val x)) h = rw (first_kind h) kval
ekind (Literal (Text t)) h = rw (first_kind h) ktext
ekind (Literal (Truth true)) h = rw (first_kind h) ktrue
ekind (Literal (Truth false)) h = rw (first_kind h) kfalse
ekind (Name x) h = rw (first_kind h) kname
ekind (BinaryExpr t x y) h = rw (first_kind h) kbin
ekind (UnaryExpr t x) h = rw (first_kind h) kun
ekind (VarAssign x r) h = rw (first_kind h) kasg
ekind (ArrayMut x i v) h = rw (first_kind h) kmut
ekind (FnCall f ps) h = rw (first_kind h) kcall

ekind_low : {m : ℕ} {e : Expr} → EKind m e → 14 ≤ m
ekind_low kmut = omega arith
ekind_low kcall = omega arith
ekind_low kasg = omega arith
ekind_low kbin = omega arith
ekind_low kun = omega arith
ekind_low kval = omega arith
ekind_low ktext = omega arith
ekind_low kname = omega arith
ekind_low ktrue = omega arith
ekind_low kfalse = omega arith

pub data RKind : ℕ → Rhs → Type 0 where
  ktab : {is : Items} → RKind 10 (Table is)
  karr : {a : ℕ} {ls : List Lit} → RKind 12 (Array a ls)
  kacc : {a : ℕ} {i : Expr} → RKind 13 (ArrayAccess a i)
  kexp : {m : ℕ} {e : Expr} → EKind m e → RKind m (Expression e)

rkind : (r : Rhs) {c b : List ℕ} → Spells (flat_rhs r) c b → RKind (get_or c 0 0) r
rkind (Expression e) h = kexp (ekind e h)
rkind (Table is) h = rw (first_kind h) ktab
rkind (Array a ls) h = rw (first_kind h) karr
rkind (ArrayAccess a i) h = rw (first_kind h) kacc

-- ---- by the kind that is read

-- an expression of kind m
pub as_kind : {e : Expr} {c b : List ℕ} {m : ℕ} → At exprs e c b → get_or c 0 0 ≡ m → EKind m e
as_kind {e} h q = rw q at (ekind e h.spells)

-- of a kind that is none of these
pub of_kind : {e : Expr} {c b : List ℕ} → At exprs e c b → EKind (get_or c 0 0) e
of_kind {e} h = ekind e h.spells

pub as_right : {x : ℕ} {r : Rhs} {c b : List ℕ} {m : ℕ} → At (rights x) r c b → get_or c 0 0 ≡ m → RKind m r
as_right {r = r} h q = rw q at (rkind r h.spells)

pub of_right : {x : ℕ} {r : Rhs} {c b : List ℕ} → At (rights x) r c b → RKind (get_or c 0 0) r
of_right {r = r} h = rkind r h.spells

module _ (Q : Expr → Type 0) where
  pub only_mut : {e : Expr} → ((x : ℕ) (i v : Expr) → Q (ArrayMut x i v)) → EKind 14 e → Q e
  only_mut f (kmut {x} {i} {v}) = f x i v

  pub only_call : {e : Expr} → ((g : ℕ) (ps : Exprs) → Q (FnCall g ps)) → EKind 15 e → Q e
  only_call f (kcall {f = g} {ps = ps}) = f g ps

  pub only_asg : {e : Expr} → ((x : ℕ) (r : Rhs) → Q (VarAssign x r)) → EKind 16 e → Q e
  only_asg f (kasg {x} {r}) = f x r

  pub only_bin : {e : Expr} → ((t : BinTok) (x y : Expr) → Q (BinaryExpr t x y)) → EKind 17 e → Q e
  only_bin f (kbin {t} {x} {y}) = f t x y

  pub only_un : {e : Expr} → ((t : UnTok) (x : Expr) → Q (UnaryExpr t x)) → EKind 18 e → Q e
  only_un f (kun {t} {x}) = f t x

  pub only_val : {e : Expr} → ((b : ℕ) → Q (Literal (Val b))) → EKind 19 e → Q e
  only_val f (kval {b}) = f b

  pub only_text : {e : Expr} → ((t : ℕ) → Q (Literal (Text t))) → EKind 20 e → Q e
  only_text f (ktext {t}) = f t

  pub only_name : {e : Expr} → ((x : ℕ) → Q (Name x)) → EKind 21 e → Q e
  only_name f (kname {x}) = f x

  pub only_true : {e : Expr} → Q (Literal (Truth true)) → EKind 22 e → Q e
  only_true f ktrue = f

  pub only_false : {e : Expr} → Q (Literal (Truth false)) → EKind 23 e → Q e
  only_false f kfalse = f

module _ (Q : Rhs → Type 0) where
  pub only_tab : {r : Rhs} → ((is : Items) → Q (Table is)) → RKind 10 r → Q r
  only_tab f (ktab {is}) = f is
  only_tab f (kexp k) = absurd (omega (arith, ekind_low k))

  pub only_arr : {r : Rhs} → ((a : ℕ) (ls : List Lit) → Q (Array a ls)) → RKind 12 r → Q r
  only_arr f (karr {a} {ls}) = f a ls
  only_arr f (kexp k) = absurd (omega (arith, ekind_low k))

  pub only_acc : {r : Rhs} → ((a : ℕ) (i : Expr) → Q (ArrayAccess a i)) → RKind 13 r → Q r
  only_acc f (kacc {a} {i}) = f a i
  only_acc f (kexp k) = absurd (omega (arith, ekind_low k))

  -- an expression, from kind 14 on
  pub only_exp : {m : ℕ} {r : Rhs} → 14 ≤ m → ((e : Expr) → EKind m e → Q (Expression e)) → RKind m r → Q r
  only_exp l f ktab = absurd (omega (arith, l))
  only_exp l f karr = absurd (omega (arith, l))
  only_exp l f kacc = absurd (omega (arith, l))
  only_exp l f (kexp {e = e} k) = f e k

  -- none of the three kinds that are no expression
  pub only_rest : {m : ℕ} {r : Rhs} → (m ≡ 10 → ⊥) → (m ≡ 12 → ⊥) → (m ≡ 13 → ⊥) → ((e : Expr) → EKind m e → Q (Expression e)) → RKind m r → Q r
  only_rest a b c f ktab = absurd (a refl)
  only_rest a b c f karr = absurd (b refl)
  only_rest a b c f kacc = absurd (c refl)
  only_rest a b c f (kexp {e = e} k) = f e k

pub expr_room : (e : Expr) {c b : List ℕ} → Spells (flat_expr e) c b → 2 ≤ length c
expr_room e h = omega (arith, fits_nodes h, expr_size e)

pub right_room : (r : Rhs) {c b : List ℕ} → Spells (flat_rhs r) c b → 2 ≤ length c
right_room (Expression e) h = expr_room e h
right_room (Table is) h = omega (arith, fits_nodes h)
right_room (Array a ls) h = omega (arith, fits_nodes h)
right_room (ArrayAccess a i) h = omega (arith, fits_nodes h)
