-- The lowered code of a plain script stands in its program, and does what the walk does.
use Rattle.std.specs.Prelude.{ℕ, zero, suc, ◌+◌, ◌^◌, ◌≤◌, ◌≡◌, refl, ◌≢◌, Bool, true, false, cond, not, ◌&&◌, List, T, eqb}
use Rattle.std.proofs.Common.{le_refl, le_trans, add-zero, zero-add, add-suc, suc-add, arith, sym, ap, ap₂, ◌∙◌, subst}
use Rattle.std.proofs.Math.Option.{Option, none, some}
use Rattle.std.proofs.Math.ListN.{get_elem?}
use Rattle.std.proofs.Math.Facts.{and_yes}
use Rattle.sifv.specs.Value.{One, Null}
use Rattle.opc.specs.Op.{label}
use Rattle.tables.specs.Tables.{Program, entered, label_at}
use Rattle.ast.specs.Tree.{OverName, OverCall, Stmt, Block, IfStmt, ForStmt, Return, ReturnExpr, ExprStmt, VarDecl, VarInit, FnDecl, Stmts, no_stmts, more_stmts, Rest, Else, Elif}
use Rattle.ast.specs.Plain.{plain_stmt, plain, plain_rest}
use Rattle.compiler.specs.Lower.{Main, Place, Event, expr_regs, stmt_regs, stmts_regs, stmt_labels, stmts_labels, rest_labels, or_nop, inner, lower_expr, lower_stmt, lower_stmts, lower_rest, top, lower_tree, refusal, code_of, program_of, lowered, decide, lower}
use Rattle.vm.specs.RuntimeErr.{RuntimeErr}
use Rattle.vm.specs.Operation.{Names, empty}
use Rattle.vm.specs.Machine.{Machine, Stops, step, initial}
use Rattle.walk.specs.Walk.{Walked, Fine, Halt, or_one, walk_stmt, walk_stmts, walk_rest, walk}
use Rattle.walk.specs.Bound.{longest_stmt, longest, longest_rest}
use Rattle.walk.specs.laws.Parts.{arm_plain}
use Rattle.walk.proofs.laws.Bounded.{plain_starts, plain_code}
use Rattle.walk.specs.laws.Small.{single, unset}
use Rattle.walk.proofs.laws.Simulation.Logic.{Regs, eqb_same, eqb_other, mk, Run, At, here, reg, below, more, Sim, done, halt}
use Rattle.walk.proofs.laws.Simulation.Labels.{InMain, main, in_inner, Mono, end, took, asked, then, Lays, skip, from, lays_mono, lays_stmt, lays_rest, lays_block}
use Rattle.walk.proofs.laws.Simulation.Exprs.{gives_expr}
use Rattle.walk.proofs.laws.Simulation.Stores.{does_nil, does_constant, does_rhs, does_own}
use Rattle.walk.proofs.laws.Simulation.Stmts.{Does, Closes, does_stores, does_seq, does_block, does_arm, exit_arm, closes_else}
use Rattle.walk.proofs.laws.Simulation.Loop.{does_for}

-- ---- each tree

module _ (P : Program) where
  mutual
    sound : (s : Stmt) {w : Place} → InMain w → (n r : ℕ) → T (plain_stmt s) → longest_stmt s ≤ 2 ^ 53 → Does P r n (lower_stmt s w n r) (walk_stmt s)
    sound (Block b) {w} h n r t z = does_block w b (sounds b h n r t z)
    sound (IfStmt c b k) {w} h n r t z =
        let x = arm_plain c b k t in
        let q = r + expr_regs c in
        let m = n + 1 + stmts_labels b in
        let last = m + 1 + rest_labels k in
        does_arm w n q m last (lower_expr c w n r) (or_nop b w (n + 1) (lower_stmts b w (n + 1) q)) (lower_rest k w (m + 1) (q + stmts_regs b) last)
        (gives_expr w n c r x.0) (does_block w b (sounds b h (n + 1) q x.1 (omega arith))) (omega arith) (closes k h (m + 1) (q + stmts_regs b) last refl x.2 (omega arith))
    sound (ForStmt i v (OverName a) b) {w} h n r t z =
        let q = suc r + 0 in
        does_for w i v a r q (q + 2 + stmts_regs b) n (n + 1 + stmts_labels b) (or_nop b (inner w) (n + 1) (lower_stmts b (inner w) (n + 1) (q + 2))) (λ e. or_one b e (walk_stmts b e))
        (omega arith) (omega arith) (does_block (inner w) b (sounds b (in_inner h) (n + 1) (q + 2) t (omega arith)))
    sound (ForStmt i v (OverCall f ps) b) h n r t z = absurd t
    sound Return h n r t z = absurd t
    sound (ReturnExpr e) h n r t z = absurd t
    sound (ExprStmt e) {w} h n r t z = does_stores (does_own w n e r t z)
    sound (VarDecl x) h n r t z = does_stores (does_constant (One Null) x single)
    sound (VarInit x k) {w} h n r t z = does_stores (does_rhs w n k x r t z)
    sound (FnDecl f ps b) h n r t z = absurd t

    sounds : (k : Stmts) {w : Place} → InMain w → (n r : ℕ) → T (plain k) → longest k ≤ 2 ^ 53 → Does P r n (lower_stmts k w n r) (walk_stmts k)
    sounds no_stmts h n r t z = does_stores does_nil
    sounds (more_stmts s k) h n r t z =
        let x = and_yes (plain_stmt s) (plain k) t in
        does_seq (sound s h n r x.0 (omega arith)) (lays_mono (lays_stmt s h n r x.0)) (omega arith) (sounds k h (n + stmt_labels s) (r + stmt_regs s) x.1 (omega arith))

    closes : (k : Rest) {w : Place} → InMain w → (n r last : ℕ) → n + rest_labels k ≡ last → T (plain_rest k) → longest_rest k ≤ 2 ^ 53 → Closes P r n last (lower_rest k w n r last) (walk_rest k)
    closes (Else k) h n r last g t z = closes_else h k n r last t g (lays_rest (Else k) h n r last g t) (sounds k h n r t z)
    closes (Elif c b k) {w} h n r last g t z =
        let x = arm_plain c b k t in
        let q = r + expr_regs c in
        let m = n + 1 + stmts_labels b in
        let B = or_nop b w (n + 1) (lower_stmts b w (n + 1) q) in
        let K = lower_rest k w (m + 1) (q + stmts_regs b) last in
        let f = closes k h (m + 1) (q + stmts_regs b) last (omega arith) x.2 (omega arith) in
        record {
          lays = lays_rest (Elif c b k) h n r last g t;
          does = does_arm w n q m last (lower_expr c w n r) B K (gives_expr w n c r x.0) (does_block w b (sounds b h (n + 1) q x.1 (omega arith))) (omega arith) f;
          exit = λ i l. exit_arm w n q m last (lower_expr c w n r) B K f i;
        }

-- ---- the label table

-- a label that begins at or after w, which is l or more, is not l unless it goes on
not_again : (x w l p : ℕ) (f : Option ℕ) → l ≤ w → w ≤ x → cond (not (eqb x w) && eqb x l) (some p) f ≡ f
not_again x w l p f h g = go (eqb x w) refl
  where
    go : (t : Bool) → eqb x w ≡ t → cond (not (eqb x w) && eqb x l) (some p) f ≡ f
    go true e = rw e
    go false e =
        let d : x ≢ w = λ o. let z : ◌≡◌ {A = ℕ} 0 1 = cc (eqb_same w) in omega arith in
        rw (e, eqb_other x l (omega arith))

-- once a label is entered, nothing later takes its place
entered_stays : {w b : ℕ} {es : List Event} (l p : ℕ) (f : Option ℕ) → l ≤ w → Mono w es b → entered (code_of Main es) l w p f ≡ f
entered_stays l p f h (end g) = refl
entered_stays l p f h (took m) = entered_stays l p f h m
entered_stays l p f h (asked m) = entered_stays l p f h m
entered_stays {w} l p f h (then {i = i} main g m) = entered_stays l (suc p) (cond (not (eqb (label i) w) && eqb (label i) l) (some p) f) (le_trans h g) m ∙ not_again (label i) w l p f h g

record Stands (P : Program) (p a : ℕ) (es : List Event) : Type 0 where
  q : ℕ
  b : ℕ
  there : At P p a es q b
  over : get_elem? P.code q ≡ none

stands : {a b : ℕ} {es : List Event} (P : Program) (p : ℕ) (f : ℕ → Option ℕ) → ((k : ℕ) → get_elem? P.code (p + k) ≡ get_elem? (code_of Main es) k)
    → ((l : ℕ) → label_at P.code l ≡ entered (code_of Main es) l a p (f l)) → Mono a es b → Stands P p a es
stands {a} P p f g t (end h) = record { q = p; b = a; there = here; over = rw add-zero at (g 0) }
stands P p f g t (took m) = let s = stands P p f g t m in record { q = s.q; b = s.b; there = reg s.there; over = s.over }
stands P p f g t (asked m) = let s = stands P p f g t m in record { q = s.q; b = s.b; there = below s.there; over = s.over }
stands {a} P p f g t (then {i = i} {es = es} main h m) =
    let j = label i in
    let s = stands P (suc p) (λ l. cond (not (eqb j a) && eqb j l) (some p) (f l)) (λ k. ap (get_elem? P.code) (suc-add p k ∙ sym (add-suc p k)) ∙ g (suc k)) t m in
    record {
      q = s.q;
      b = s.b;
      over = s.over;
      there = more (rw add-zero at (g 0))
          (λ d. t j ∙ entered_stays j (suc p) (cond (not (eqb j a) && eqb j j) (some p) (f j)) (le_refl j) m ∙ rw (eqb_other j a d, eqb_same j)) s.there;
    }

-- ---- the whole

table : {n : ℕ} {es : List Event} → Lays 0 es n → (l : ℕ) → label_at (code_of Main es) l ≡ entered (code_of Main es) l 0 0 (cond (eqb l 0) (some 0) none)
table (skip x) l = table x l
table (from main m) l = refl

-- what comes of a walk, for the machine: after the steps the program is over, or the next step stops
pub data Final (P : Program) (m : Machine) : Walked (Unit {0}) → Type 0 where
  finished : {n q : ℕ} {e : Names} {rs : Regs} → Run P n m (mk P q e rs) → get_elem? P.code q ≡ none → Final P m (Fine n e tt)
  stopped : {n p : ℕ} {e : Names} {r : RuntimeErr} {rs : Regs} → Run P n m (mk P p e rs) → step P (mk P p e rs) ≡ Stops r → Final P m (Halt n e r)

final : {P : Program} {m : Machine} {q : ℕ} {post : Names → Unit {0} → Regs → Type 0} {o : Walked (Unit {0})} → get_elem? P.code q ≡ none → Sim P m q post o → Final P m o
final h (done r k) = finished r h
final h (halt r k) = stopped r k

pub program_is : (t : Stmts) {p : Program} → lower t ≡ lowered p → program_of (lower_tree t) ≡ p
program_is t {p} h = go (refusal (lower_tree t) 0 0) h
  where
    go : (k : ℕ) → decide k (program_of (lower_tree t)) ≡ lowered p → program_of (lower_tree t) ≡ p
    go zero h = cc h
    go (suc k) h = let z : ◌≡◌ {A = ℕ} 0 1 = cc h in absurd (omega arith)

-- the lowered program of a plain script: its code starts with its first instruction, and does what the walk does
pub record Script (t : Stmts) : Type 0 where
  pub begins : get_elem? (program_of (lower_tree t)).code (program_of (lower_tree t)).code_start ≡ none → ⊥
  pub does : Final (program_of (lower_tree t)) (initial (program_of (lower_tree t))) (walk t)

begins_with : {n b : ℕ} {es : List Event} → Lays n es b → get_elem? (code_of Main es) 0 ≡ none → ⊥
begins_with (skip l) h = begins_with l h
begins_with (from main m) h = let z : ◌≡◌ {A = ℕ} 0 1 = cc h in omega arith

pub script : (t : Stmts) → T (plain t) → longest t ≤ 2 ^ 53 → Script t
script t h z =
    let es = lower_tree t in
    let P = program_of es in
    let l = lays_block t {w = top} main 0 0 h in
    let m = lays_mono l in
    let c = plain_code t h in
    let start = plain_starts t h in
    let s = stands P 0 (λ x. cond (eqb x 0) (some 0) none) (λ k. ap (get_elem? P.code) (zero-add k) ∙ ap (λ d. get_elem? d k) c) (λ x. ap (λ d. label_at d x) c ∙ table l x) m in
    let d = (does_block top t (sounds P t {w = top} main 0 0 h z)).does s.there (le_refl 0) empty empty (record { small = λ x. unset }) in
    record { begins = λ g. begins_with l (sym (ap₂ get_elem? c start) ∙ g); does = subst (λ x. Final P (mk P x empty empty) (walk t)) (sym start) (final s.over d) }
