-- The parts of a tree that are lowered here: statements, lists of them, the arms of an If, what a For goes over; and what leaves emit. Definitions only.
use Rattle.std.specs.Prelude.{ℕ, ◌+◌, ◌*◌, ◌≤◌, ◌<◌, ◌^◌, ◌≡◌, Bool, true, cond, ◌&&◌, List, [], ◌∷◌, ◌++◌, map, T, ltb, eqb, length, replicate}
use Rattle.lent.specs.Bytes.{be_value, be_bytes, part, splice, concat}
use Rattle.sifv.specs.Value.{Num, One, Str}
use Rattle.opc.specs.Op.{Lt, Jmpt, Binary, Ldn, Ldas, Ldav, Stc, Str, JmpCnd, Incrr, Fn}
use Rattle.ast.specs.Tree.{Expr, Source, Stmt, Block, FnDecl, Stmts}
use Rattle.ast.specs.Flat.{flat_expr, flat_source, flat_stmt, flat_stmts, stmt_count}
use Rattle.ast.specs.Limits.{every_expr, every_source, every_stmt, every}
use Rattle.compiler.specs.Lower.{Place, Event, Reg, push, inner, declaring, lower_pops, or_nop, expr_regs, stmt_labels, stmts_labels, lower_expr, lower_arm, lower_source, lower_stmt, lower_stmts}
use Rattle.emit.specs.declared.Low.{Low}
use Rattle.emit.specs.declared.Done.{Done}
use Rattle.emit.specs.inner.Run.{kept, Did}
use Rattle.emit.specs.inner.Made.{Made, Part, At}
use Rattle.numeric.specs.Whole.{whole}
use Rattle.opc.specs.Record.{item_bytes}

-- ---- parts: every number has 8 bytes, as `numbers_fit` says of the whole tree; from label l on, labels are numbers of 8 bytes

abbrev pub any_text : ℕ → Bool
any_text x = true

abbrev pub fits : ℕ → Bool
fits v = ltb v (2 ^ 64)

abbrev pub sources : Part Source
sources = record { nodes = flat_source; ok = λ s. T (every_source any_text fits s); emits = lower_source; next = λ s n. n }

abbrev pub statements : ℕ → Part Stmt
statements l = record { nodes = flat_stmt; ok = λ s. T (every_stmt any_text fits s) × (l + stmt_labels s < 2 ^ 64); emits = lower_stmt; next = λ s n. n + stmt_labels s }

-- m statements, without and with the Nop for none
abbrev pub lists : ℕ → ℕ → Part Stmts
lists l m = record { nodes = flat_stmts; ok = λ k. (m ≡ stmt_count k) × T (every any_text fits k) × (l + stmts_labels k < 2 ^ 64); emits = lower_stmts; next = λ k n. n + stmts_labels k }

abbrev pub bodies : ℕ → ℕ → Part Stmts
bodies l m = record { nodes = flat_stmts; ok = (lists l m).ok; emits = λ k w n r. or_nop k w n (lower_stmts k w n r); next = λ k n. n + stmts_labels k }

-- a condition and its Block alone; what ends the Block jumps to t
pub record HeadPart : Type 0 where
  pub test : Expr
  pub body : Stmts

abbrev pub heads : ℕ → ℕ → Part HeadPart
heads l t = record {
  nodes = λ a. flat_expr a.test ++ flat_stmt (Block a.body);
  ok = λ a. T (every_expr any_text fits a.test) × T (every any_text fits a.body) × (l + 1 + stmts_labels a.body + 1 < 2 ^ 64);
  emits = λ a w n r.
      let q = r + expr_regs a.test in
      lower_arm w n (lower_expr a.test w n r) q (or_nop a.body w (n + 1) (lower_stmts a.body w (n + 1) q)) (n + 1 + stmts_labels a.body) t;
  next = λ a n. n + 1 + stmts_labels a.body + 1;
}

-- ---- leaves: events at the place of p, with no node read; the label behind them is l

pub record Emitted (f : Place → List Event) (l : ℕ) (k : Bool) (p : Done) (buf : List ℕ) (d : Done) (buf' : List ℕ) : Type 0 where
  pub made : (w : Place) → k ≡ kept p.low.decls w.section → Made (f w) p.cont p.body l p.low buf d buf'

-- the target of a jump that was pushed between a and b becomes l, where its record was written
abbrev pub retarget : Low → Low → ℕ → List ℕ → List ℕ
retarget a b l buf = cond (ltb a.recs b.recs) (splice buf (16 * a.recs + 8) (be_bytes 8 l)) buf

-- ---- the jumps of an If that wait for its end: their records, the last first. Each holds, where its target will stand, the one before it, counted from 1

abbrev pub last_waiting : List ℕ → ℕ
last_waiting [] = 0
last_waiting (x ∷ xs) = x + 1

abbrev pub Waits : List ℕ → List ℕ → Type 0
Waits [] buf = Unit {0}
Waits (x ∷ xs) buf = (last_waiting xs ≤ x) × (x < 1024) × (be_value (part buf (16 * x + 8) 8) ≡ last_waiting xs) × Waits xs buf

-- all get their target
abbrev pub targets : List ℕ → ℕ → List ℕ → List ℕ
targets [] l buf = buf
targets (x ∷ xs) l buf = targets xs l (splice buf (16 * x + 8) (be_bytes 8 l))

-- whether the jump that was pushed last, and left s, was written
abbrev pub written : Bool → Low → Bool
written k s = k && eqb s.refused 0

-- behind an arm: the next one stands behind its Elif
abbrev pub next_arm : ℕ → Done → Done
next_arm e p = cond (eqb e 0) p (record { cont = p.cont + 2; body = p.body + 0; lbl = p.lbl; low = p.low })

-- an else opens a label for the end
abbrev pub end_label : ℕ → ℕ → ℕ
end_label m n = cond (eqb m 0) n (n + 1)

-- For: before its Block, with the size in register q, and behind it, with the comparison in register p
abbrev pub for_head : ℕ → ℕ → ℕ → ℕ → ℕ → ℕ → Place → List Event
for_head i v a r n q w =
    push w n (Stc (One (Num (whole 0))) i) ∷ (Reg ∷ (push w n (Ldas a q) ∷
    (push (inner w) (n + 1) (Ldn r i) ∷ (Reg ∷ (push (inner w) (n + 1) (Ldav a r (q + 1)) ∷ (push (inner w) (n + 1) (Str (q + 1) v) ∷ []))))))

abbrev pub for_tail : ℕ → ℕ → ℕ → ℕ → ℕ → ℕ → Place → List Event
for_tail i r q l m p w =
    push w m (Incrr r) ∷ (push w m (Str r i) ∷ (Reg ∷ (push w m (Binary Lt r q p) ∷ (push w m (JmpCnd Jmpt p l) ∷ []))))

-- what a For goes over: the name, which for a call is text 0
abbrev pub source_text : ℕ → ℕ → ℕ
source_text kind x = cond (eqb kind 21) x 0

-- FnDecl: its instruction, with the parameters as items
pub record PushesFn (k : Bool) (s : Low) (n f : ℕ) (ps buf : List ℕ) (s' : Low) (buf' : List ℕ) : Type 0 where
  pub pushes : (w : Place) → k ≡ kept s.decls w.section → Did (push w n (Fn f ps) ∷ []) s buf s' buf'

-- its parameters, popped from register r on; where nothing is refused there are registers for them
pub record Pops (k : Bool) (ps : List ℕ) (r n : ℕ) (s : Low) (buf : List ℕ) (s' : Low) (buf' : List ℕ) : Type 0 where
  pub pops : (w : Place) → k ≡ kept s.decls w.section → (s.refused ≡ 0 → r + length ps ≤ 96) → Did (lower_pops ps w n r) s buf s' buf'

-- what stands before its Block, in the declarations
abbrev pub fn_head : ℕ → List ℕ → ℕ → ℕ → Place → List Event
fn_head f ps n r w = replicate (length ps) Reg ++ (push w n (Fn f ps) ∷ lower_pops ps w n r)

pub record FnHead (c b : List ℕ) (n : ℕ) (s : Low) (buf : List ℕ) (d : Done) (buf' : List ℕ) : Type 0 where
  pub made : (f : ℕ) (ps : List ℕ) (t : Stmts) → At (statements n) (FnDecl f ps t) c b → (w : Place)
      → Made (fn_head f ps n s.reg (declaring w)) (2 + 2 * length ps) (1 + length ps) n s buf d buf'

abbrev pub param_items : List ℕ → List ℕ
param_items ps = concat (map item_bytes (map Str ps))
