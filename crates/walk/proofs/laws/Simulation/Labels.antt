-- The lowered code of a plain script: all of it stands in the main section, each part begins with its label, and labels never decrease.
use Rattle.std.specs.Prelude.{ℕ, ◌+◌, ◌≤◌, ◌<◌, ◌≡◌, refl, List, [], ◌∷◌, T}
use Rattle.std.proofs.Common.{le_refl, le_trans, arith}
use Rattle.std.proofs.Math.Option.{some}
use Rattle.std.proofs.Math.Facts.{and_yes}
use Rattle.opc.specs.Op.{Op, instr}
use Rattle.tables.specs.Tables.{Program, label_at}
use Rattle.ast.specs.Tree.{Source, OverName, OverCall}
use Rattle.ast.specs.Tree.{Stmt, ForStmt, Stmts, Rest}
use Rattle.ast.specs.Plain.{plain_stmt, plain, plain_rest}
use Rattle.compiler.specs.Lower.{Decl, Main, Place, Event, Reg, Push, stmt_labels, stmts_labels, rest_labels}
use Rattle.compiler.specs.Lower.{or_nop, inner, lower_stmt, lower_stmts, lower_rest, code_of}
use Rattle.compiler.proofs.laws.Events as Events
pub use Rattle.compiler.proofs.laws.Events.{end, took, asked, then}
use Rattle.compiler.proofs.laws.Events.{Nests, block_emits, stmt_emits, stmts_emits, rest_emits}
use Rattle.walk.specs.laws.Parts.{arm_plain}
use Rattle.walk.proofs.laws.Bounded.Sum.{Opens, past, at, a_stmt, a_rest, a_script}
use Rattle.walk.proofs.laws.Simulation.Logic.{At, here, reg, below, more}

-- ---- in the main section

pub data InMain : Place → Type 0 where
  main : {d : ℕ} → InMain (record { section = Main; loops = d })

pub in_inner : {w : Place} → InMain w → InMain (inner w)
in_inner main = main

-- labels from a on never decrease, and none is past b
abbrev pub Mono : ℕ → List Event → ℕ → Type 0
Mono a es b = Events.Mono InMain a es b

pub no_declarations : {a b : ℕ} {es : List Event} → Mono a es b → code_of Decl es ≡ []
no_declarations (end h) = refl
no_declarations (took m) = no_declarations m
no_declarations (asked m) = no_declarations m
no_declarations (then main h m) = no_declarations m

-- the last label of code that stands in a program
pub last_le : {P : Program} {p a q b n n' : ℕ} {c : List Event} → At P p a c q b → Mono n c n' → a ≤ n → b ≤ n'
last_le here (end h) l = le_trans l h
last_le (reg s) (took m) l = last_le s m l
last_le (below s) (asked m) l = last_le s m l
last_le (more f g s) (then z h m) l = last_le s m (le_refl _)

-- ---- and the first is n

pub data Lays (n : ℕ) : List Event → ℕ → Type 0 where
  skip : {b : ℕ} {es : List Event} → Lays n es b → Lays n (Reg ∷ es) b
  from : {b : ℕ} {w : Place} {o : Op} {es : List Event} → InMain w → Mono n es b → Lays n (Push w (instr n o) ∷ es) b

pub lays_mono : {n b : ℕ} {c : List Event} → Lays n c b → Mono n c b
lays_mono (skip l) = took (lays_mono l)
lays_mono (from h m) = then h (le_refl _) m

-- a jump to it goes to its place
pub at_head : {P : Program} {p a q b n n' : ℕ} {c : List Event} → At P p a c q b → Lays n c n' → a < n → label_at P.code n ≡ some p
at_head (reg s) (skip l) h = at_head s l h
at_head (more f g s) (from z m) h = g (omega arith)
at_head {P = P} {n = n} (here {p = p} {a = a}) x13 h = elim x13 [ ]
at_head {P = P} {n = n} (below {p = p} {a = a} {q = q} {b = b} {es = es} _) x15 h = elim x15 [ ]

-- ---- a plain script: each part begins with its label, and labels never decrease

lays : {n b : ℕ} {c : List Event} → Opens n c → Mono n c b → Lays n c b
lays (past h) (took m) = skip (lays h m)
lays at (then s h m) = from s m

loop_plain : (i v : ℕ) (s : Source) (b : Stmts) → T (plain_stmt (ForStmt i v s b)) → T (plain b)
loop_plain i v (OverName a) b t = t
loop_plain i v (OverCall f ps) b t = absurd t

nests : Nests InMain (λ w s. InMain w × T (plain_stmt s)) (λ w b. InMain w × T (plain b)) (λ w k. InMain w × T (plain_rest k))
nests = record {
  block = λ w b h. h;
  branches = λ w c b k h. let z = arm_plain c b k h.1 in ((h.0, z.1), (h.0, z.2));
  loop = λ w i v s b h. let g = in_inner h.0 in (g, (g, loop_plain i v s b h.1));
  function = λ w f ps b h. absurd h.1;
  first = λ w s k h. let z = and_yes (plain_stmt s) (plain k) h.1 in ((h.0, z.0), (h.0, z.1));
  otherwise = λ w k h. h;
  elif = λ w c b k h. let z = arm_plain c b k h.1 in ((h.0, z.1), (h.0, z.2));
}

pub lays_stmt : (s : Stmt) {w : Place} → InMain w → (n r : ℕ) → T (plain_stmt s) → Lays n (lower_stmt s w n r) (n + stmt_labels s)
lays_stmt s {w} main n r t = lays ((a_stmt {l = 1} s n r t).opens tt) (stmt_emits {Z = ⊥} nests s absurd w main (main, t) n r absurd).mono

-- the label of the end is the last
pub lays_rest : (k : Rest) {w : Place} → InMain w → (n r end : ℕ) → n + rest_labels k ≡ end → T (plain_rest k) → Lays n (lower_rest k w n r end) end
lays_rest k {w} main n r last g t = lays ((a_rest {l = 1} k n r last g t).opens tt) (rest_emits {Z = ⊥} nests k absurd w main (main, t) n r last g absurd).mono

pub mono_stmts : (k : Stmts) {w : Place} → InMain w → (n r : ℕ) → T (plain k) → Mono n (lower_stmts k w n r) (n + stmts_labels k)
mono_stmts k {w} h n r t = (stmts_emits {Z = ⊥} nests k absurd w h (h, t) n r absurd).mono

pub lays_block : (b : Stmts) {w : Place} → InMain w → (n r : ℕ) → T (plain b) → Lays n (or_nop b w n (lower_stmts b w n r)) (n + stmts_labels b)
lays_block b {w} main n r t = lays ((a_script {l = 1} b n r t).opens tt) (block_emits {Z = ⊥} w main n absurd b (stmts_emits nests b absurd w main (main, t) n r absurd)).mono
