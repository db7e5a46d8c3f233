-- Expressions: a section for each function.
use Prim.Native.Nat.{ℕ, suc, ◌+◌, ◌-◌, ◌*◌, ◌^◌, ◌≤◌, ◌<◌}
use mathlib.Core.Path.{◌≡◌, refl, ap, sym, ◌∙◌}
use mathlib.Core.Bool.{Bool, true, false, cond, ◌||◌}
use mathlib.Core.List.{List, [], ◌∷◌, ◌++◌, append_assoc}
use native.Mathlib.Omega.{arith}
use mir.Facts.{and_yes}
use lib.Dec.{eqb, ltb, ltb→lt}
use lib.ListN.{length, length-drop, drop, get_or}
use Rattle.lent.specs.Bytes.{be_value, part}
use Rattle.lent.specs.laws.Numbers.{be_value_be_bytes}
use Rattle.sifv.specs.Value.{One}
use Rattle.opc.specs.Op.{Op, Ldc, Binary, Unary, Upda, Call, FnStackPush, FnStackPop, instr}
use Rattle.opc.specs.Record.{Fields, fields, field_bytes, bin_number, un_number}
use Rattle.ast.specs.Node.{Kind, Node, node}
use Rattle.ast.specs.Tree.{BinTok, Plus, Minus, Star, Slash, Percent, EqEq, LtEq, Lt, GtEq, Gt, AmpAmp, PipePipe, BangEq, UnTok, Bang, Negate}
use Rattle.ast.specs.Tree.{Val, Expr, Literal, Name, BinaryExpr, UnaryExpr, VarAssign, ArrayMut, FnCall, Rhs, Exprs, no_exprs, more_exprs}
use Rattle.ast.specs.Flat as Flat
use Rattle.ast.specs.Flat.{flat_expr, flat_exprs, expr_count, entry_bytes, body_bytes}
use Rattle.ast.specs.Limits.{every_expr, every_exprs}
use Rattle.compiler.specs.Literals.{bin_kind, un_kind}
use Rattle.compiler.specs.Lower.{Place, Event, Below, ask_below, prev, push, load, arg_regs, expr_regs, param_regs, lower_arg, lower_expr, lower_params, lower_rhs}
use Rattle.compiler.proofs.laws.Accepted.{regs_in}
use Rattle.emit.specs.declared.Low.{Low}
use Rattle.emit.specs.declared.Done.{Done}
use Rattle.emit.specs.inner.Run.{kept, after_events, wrote, Ready, Did, PushesOp, Loads}
use Rattle.emit.specs.inner.Literals.{lit_size, value_at}
use Rattle.emit.specs.inner.Made.{Spells, Made, bin_code, Part, At, Reads, Front, ReadsAt, Goes}
use Rattle.emit.specs.laws.Laws.{did_if, refused_stays, some_place}
use Rattle.emit.specs.laws.Spell.{entries_both, bodies_both, expr_size, from, in_node, fits_nodes, fits_bodies, first, second_from, first_body}
use Rattle.emit.specs.laws.Regs.{regs_append, before_regs, arg_regs_lem, expr_regs_lem, param_regs_lem}
use Rattle.emit.specs.laws.Places.{made_as, made_start, made_ready, made_reg, made_push, made_load, made_reads, made_goes, goes_unrefused, at_from, reads_from, at_within}
use Rattle.expr.specs.inner.Parts.{exprs, args, operands, stored_parts, rights, param_parts}
use Rattle.expr.proofs.Views.{EKind, kmut, kcall, kasg, kbin, kun, kval, ktext, kname, ktrue, kfalse, as_kind, of_kind, expr_room}
use Rattle.expr.proofs.Views.{only_mut, only_call, only_asg, only_bin, only_un, only_val, only_text, only_name}

bin_number_lem : (t : BinTok) → bin_code (Flat.bin_tok_number t) ≡ bin_number (bin_kind t)
bin_number_lem Plus = refl
bin_number_lem Minus = refl
bin_number_lem Star = refl
bin_number_lem Slash = refl
bin_number_lem Percent = refl
bin_number_lem EqEq = refl
bin_number_lem LtEq = refl
bin_number_lem Lt = refl
bin_number_lem GtEq = refl
bin_number_lem Gt = refl
bin_number_lem AmpAmp = refl
bin_number_lem PipePipe = refl
bin_number_lem BangEq = refl

un_number_lem : (t : UnTok) → Flat.un_tok_number t ≡ un_number (un_kind t)
un_number_lem Bang = refl
un_number_lem Negate = refl

abbrev fit : Expr → Bool
fit e = every_expr (λ x. true) (λ v. ltb v (2 ^ 64)) e

abbrev fits : Exprs → Bool
fits ps = every_exprs (λ x. true) (λ v. ltb v (2 ^ 64)) ps

abbrev pub E : Expr → ℕ
E e = length (entry_bytes (flat_expr e))

abbrev pub B : Expr → ℕ
B e = length (body_bytes (flat_expr e))

-- what is made of t at the front
abbrev pub Makes : {X : Type 0} → Part X → X → Bool → ℕ → Low → List ℕ → Done → List ℕ → Type 0
Makes P t k n s buf d buf' =
    (w : Place) → k ≡ kept s.decls w.section → Made (P.emits t w n s.reg) (length (entry_bytes (P.nodes t))) (length (body_bytes (P.nodes t))) (P.next t n) s buf d buf'

-- the child count
pub first_count : {k : Kind} {n : ℕ} {d : List ℕ} {ns : List Node} {c b : List ℕ} → Spells (node k n d ∷ ns) c b → get_or c 1 0 ≡ n
first_count h = ap (λ (l : List ℕ). get_or l 1 0) h.nodes

-- ---- the parts of an expression are the same where only its events differ

pub as_arg : {e : Expr} {c b : List ℕ} → At exprs e c b → At args e c b
as_arg h = record { spells = h.spells; ok = h.ok }

pub of_operand : {e : Expr} {c b : List ℕ} → At operands e c b → At exprs e c b
of_operand h = record { spells = h.spells; ok = h.ok }

pub of_arg : {e : Expr} {c b : List ℕ} → At args e c b → At exprs e c b
of_arg h = record { spells = h.spells; ok = h.ok }

pub of_stored : {x : ℕ} {e : Expr} {c b : List ℕ} → At (stored_parts x) e c b → At exprs e c b
of_stored h = record { spells = h.spells; ok = h.ok }

-- ---- a child at u and v, from the start

module _ {X : Type 0} (P : Part X) (t : X) (u v : ℕ) (c b : List ℕ) (a : At P t (drop u c) (drop v b)) (i : u ≤ length c) (j : v ≤ length b)
    {n : ℕ} {s : Low} {buf : List ℕ} (rdy : Ready s buf) {p₀ : Done} (e₀ : p₀ ≡ record { cont = u; body = v; lbl = n; low = s }) where
  pub child_reads : ReadsAt P c b p₀ buf
  child_reads = made_reads (made_start e₀) P t c b a rdy i j

  module _ {k : Bool} {r₁ : Done} {buf₁ : List ℕ} (g : Goes P c b k p₀ buf r₁ buf₁) where
    pub child_made : (w : Place) → k ≡ kept s.decls w.section
        → Made (P.emits t w n s.reg) (u + length (entry_bytes (P.nodes t))) (v + length (body_bytes (P.nodes t))) (P.next t n) s buf r₁ buf₁
    child_made w kw = made_goes (made_start e₀) P t c b a g w kw s.reg (omega arith)

    pub child_ready : Ready r₁.low buf₁
    child_ready = let w = some_place k s.decls in made_ready (child_made w.0 w.1) rdy

-- ---- a node with a body of one byte, then one child

pub record Child {X : Type 0} (P : Part X) (c b : List ℕ) : Type 0 where
  pub cont : 2 ≤ length c
  pub body : 1 ≤ length b
  pub tree : X
  pub child : At P tree (drop 2 c) (drop 1 b)

abbrev pub one_of : {X : Type 0} (P : Part X) (t : X) {k : Kind} {n x : ℕ} {c b : List ℕ} → Spells (node k n (x ∷ []) ∷ P.nodes t) c b → P.ok t → Child P c b
one_of P t h o = record { cont = omega (arith, fits_nodes h); body = omega (arith, fits_bodies h); tree = t; child = record { spells = in_node h; ok = o } }

module _ {X : Type 0} {P : Part X} {c b : List ℕ} (o : Child P c b) {n : ℕ} {s : Low} {buf : List ℕ} (rdy : Ready s buf) {p₀ : Done} (e₀ : p₀ ≡ record { cont = 2; body = 1; lbl = n; low = s }) where
  pub one_reads : ReadsAt P c b p₀ buf
  one_reads = child_reads P o.tree 2 1 c b o.child o.cont o.body rdy e₀

  -- less is left for the child, by the measure of the functions that call one another
  pub one_asks : (j : ℕ) {t : ℕ} → length c * 8 + 0 ≡ t → j < 16 → ((length c - p₀.cont) * 8 + j < t) × ReadsAt P c b p₀ buf
  one_asks j m l = (omega (arith, m, l, o.cont, ap (λ (d : Done). d.cont) e₀), one_reads)

  module _ {k : Bool} {r₁ : Done} {buf₁ : List ℕ} (g : Goes P c b k p₀ buf r₁ buf₁) where
    pub one_made : (w : Place) → k ≡ kept s.decls w.section
        → Made (P.emits o.tree w n s.reg) (2 + length (entry_bytes (P.nodes o.tree))) (1 + length (body_bytes (P.nodes o.tree))) (P.next o.tree n) s buf r₁ buf₁
    one_made = child_made P o.tree 2 1 c b o.child o.cont o.body rdy e₀ g

    pub one_ready : Ready r₁.low buf₁
    one_ready = child_ready P o.tree 2 1 c b o.child o.cont o.body rdy e₀ g

-- ---- Unary

arg_takes : (e : Expr) (w : Place) (n r : ℕ) → r + arg_regs e (expr_regs e) ≡ r + regs_in (operands.emits e w n r)
arg_takes e w n r =
    let q = r + arg_regs e (expr_regs e) in
    omega (arith, regs_append (lower_arg w n e r (lower_expr e w n r)) (ask_below q), before_regs q, arg_regs_lem e w n r (expr_regs_lem e w n r))

module _ {t : UnTok} {x : Expr} {c b : List ℕ} (h : At exprs (UnaryExpr t x) c b) where
  abbrev un_one : Child operands c b
  un_one = one_of operands x h.spells h.ok

  module _ {n : ℕ} {s : Low} {buf : List ℕ} (rdy : Ready s buf) {p₀ : Done} (e₀ : p₀ ≡ record { cont = 2; body = 1; lbl = n; low = s })
      {k : Bool} {r₁ : Done} {buf₁ : List ℕ} (g : Goes operands c b k p₀ buf r₁ buf₁) where
    pub un_made : {f : Fields} {r₂ : Done} {buf₂ : List ℕ} → f ≡ fields n 2 (get_or b 0 0) (prev r₁.low.reg) r₁.low.reg 0 0 0
        → (r₂.cont ≡ r₁.cont) × (r₂.body ≡ r₁.body) × (r₂.lbl ≡ r₁.lbl) × Loads k r₁.low (field_bytes f) buf₁ r₂.low buf₂ → Makes exprs (UnaryExpr t x) k n s buf r₂ buf₂
    un_made ef l w kw =
        let m = one_made un_one rdy e₀ g w kw in
        let q = s.reg + arg_regs x (expr_regs x) in
        let A = lower_arg w n x s.reg (lower_expr x w n s.reg) in
        let o : ℕ → Op = λ z. Unary (un_kind t) (prev z) z in
        let m₂ = made_load m w kw (instr n (o r₁.low.reg)) (instr n (o q)) l refl (ap field_bytes (rw (first_body h.spells, un_number_lem t) at ef))
        (λ z. ap (λ (i : ℕ). instr n (o i)) (made_reg m q (arg_takes x w n s.reg) z)) in
        made_as (append_assoc A (ask_below q) (load w n (o q))) (omega arith) (omega arith) refl m₂

-- ---- Binary

module _ {t : BinTok} {x y : Expr} {c b : List ℕ} (h : At exprs (BinaryExpr t x y) c b) where
  pub bin_room : 2 + (E x + E y) ≤ length c
  bin_room = omega (arith, fits_nodes h.spells, entries_both (flat_expr x) (flat_expr y))

  pub bin_roomb : 1 + (B x + B y) ≤ length b
  bin_roomb = omega (arith, fits_bodies h.spells, bodies_both (flat_expr x) (flat_expr y))

  bin_left : At operands x (drop 2 c) (drop 1 b)
  bin_left = record { spells = first (flat_expr x) (flat_expr y) (in_node h.spells); ok = (and_yes (fit x) (fit y) h.ok).0 }

  bin_right : At operands y (drop (2 + E x) c) (drop (1 + B x) b)
  bin_right = record { spells = second_from (flat_expr x) (flat_expr y) 2 1 c b (in_node h.spells); ok = (and_yes (fit x) (fit y) h.ok).1 }

  module _ {n : ℕ} {s : Low} {buf : List ℕ} (rdy : Ready s buf) {p₀ : Done} (e₀ : p₀ ≡ record { cont = 2; body = 1; lbl = n; low = s }) where
    pub bin_reads₁ : ReadsAt operands c b p₀ buf
    bin_reads₁ = child_reads operands x 2 1 c b bin_left (omega (arith, bin_room)) (omega (arith, bin_roomb)) rdy e₀

    module _ {k : Bool} {r₁ : Done} {buf₁ : List ℕ} (g₁ : Goes operands c b k p₀ buf r₁ buf₁) where
      bin_made₁ : (w : Place) → k ≡ kept s.decls w.section → Made (operands.emits x w n s.reg) (2 + E x) (1 + B x) n s buf r₁ buf₁
      bin_made₁ = child_made operands x 2 1 c b bin_left (omega (arith, bin_room)) (omega (arith, bin_roomb)) rdy e₀ g₁

      pub bin_cont₁ : r₁.cont ≡ 2 + E x
      bin_cont₁ = let w = some_place k s.decls in (bin_made₁ w.0 w.1).cont

      pub bin_reads₂ : ReadsAt operands c b r₁ buf₁
      bin_reads₂ = let w = some_place k s.decls in made_reads (bin_made₁ w.0 w.1) operands y c b bin_right rdy (omega (arith, bin_room)) (omega (arith, bin_roomb))

      module _ {r₂ : Done} {buf₂ : List ℕ} (g₂ : Goes operands c b k r₁ buf₁ r₂ buf₂) where
        bin_made₂ : (w : Place) → k ≡ kept s.decls w.section
            → Made (operands.emits x w n s.reg ++ operands.emits y w n (s.reg + arg_regs x (expr_regs x))) (2 + E x + E y) (1 + B x + B y) n s buf r₂ buf₂
        bin_made₂ w kw = made_goes (bin_made₁ w kw) operands y c b bin_right g₂ w kw (s.reg + arg_regs x (expr_regs x)) (arg_takes x w n s.reg)

        pub bin_ready₂ : Ready r₂.low buf₂
        bin_ready₂ = let w = some_place k s.decls in made_ready (bin_made₂ w.0 w.1) rdy

        pub bin_made : {f : Fields} {r₃ : Done} {buf₃ : List ℕ} → f ≡ fields n 1 (bin_code (get_or b 0 0)) (prev r₁.low.reg) (prev r₂.low.reg) r₂.low.reg 0 0
            → (r₃.cont ≡ r₂.cont) × (r₃.body ≡ r₂.body) × (r₃.lbl ≡ r₂.lbl) × Loads k r₂.low (field_bytes f) buf₂ r₃.low buf₃ → Makes exprs (BinaryExpr t x y) k n s buf r₃ buf₃
        bin_made ef l w kw =
            let m₁ = bin_made₁ w kw in
            let m₂ = bin_made₂ w kw in
            let q = s.reg + arg_regs x (expr_regs x) in
            let p = q + arg_regs y (expr_regs y) in
            let A = lower_arg w n x s.reg (lower_expr x w n s.reg) in
            let C = lower_arg w n y q (lower_expr y w n q) in
            let o : ℕ → ℕ → Op = λ i z. Binary (bin_kind t) (prev i) (prev z) z in
            let is_q : r₂.low.refused ≡ 0 → r₁.low.reg ≡ q = λ z. made_reg m₁ q (arg_takes x w n s.reg) (goes_unrefused m₁ operands y c b bin_right g₂ w kw z) in
            let is_p : r₂.low.refused ≡ 0 → r₂.low.reg ≡ p =
            λ z. made_reg m₂ p (omega (arith, arg_takes x w n s.reg, arg_takes y w n q, regs_append (operands.emits x w n s.reg) (operands.emits y w n q))) z in
            let m₃ = made_load m₂ w kw (instr n (o r₁.low.reg r₂.low.reg)) (instr n (o q p)) l refl (ap field_bytes (rw (first_body h.spells, bin_number_lem t) at ef))
            (λ z. rw (is_q z, is_p z)) in
            made_as
            (append_assoc (A ++ ask_below q) (C ++ ask_below p) (load w n (o q p)) ∙ append_assoc A (ask_below q) ((C ++ ask_below p) ++ load w n (o q p))
            ∙ ap (λ (l : List Event). A ++ (ask_below q ++ l)) (append_assoc C (ask_below p) (load w n (o q p))))
            (omega (arith, entries_both (flat_expr x) (flat_expr y))) (omega (arith, bodies_both (flat_expr x) (flat_expr y))) refl m₃

-- ---- the register before

before_wrote : (z : ℕ) (s : Low) (buf : List ℕ) → wrote (ask_below z) s buf ≡ buf
before_wrote z s buf = by_test (eqb z 0)
  where
    by_test : (t : Bool) → wrote (cond t (Below ∷ []) []) s buf ≡ buf
    by_test true = refl
    by_test false = refl

made_below : {es : List Event} {u v l : ℕ} {s : Low} {buf : List ℕ} {d : Done} {buf₁ : List ℕ} → Made es u v l s buf d buf₁ → (q : ℕ) → q ≡ s.reg + regs_in es
    → {x y m : ℕ} {p : Done} → p ≡ record { cont = x; body = y; lbl = m; low = after_events (ask_below d.low.reg) d.low } → Made (es ++ ask_below q) x y m s buf p buf₁
made_below {d = d} {buf₁ = buf₁} m q f e =
    let g : Did (ask_below d.low.reg) d.low buf₁ (after_events (ask_below d.low.reg) d.low) buf₁ = record { state = refl; buffer = sym (before_wrote d.low.reg d.low buf₁) } in
    rw e (record { cont = refl; body = refl; lbl = refl; did = did_if m.did (λ z. ap ask_below (made_reg m q f z)) g })

-- `binarg` at a place
pub operand_goes : (c b : List ℕ) (k : Bool) (p : Done) (buf : List ℕ) {r q : Done} {buf' : List ℕ} → Front args (from p.cont c) (from p.body b) k p.lbl p.low buf r buf'
    → q ≡ record { cont = p.cont + r.cont; body = p.body + r.body; lbl = r.lbl; low = after_events (ask_below r.low.reg) r.low } → Goes operands c b k p buf q buf'
operand_goes c b k p buf {r} {q} {buf'} f e = record {
  goes = λ t h w kw.
      let m = f.front t (as_arg (at_from exprs t p.cont p.body c b (of_operand h))) w kw in
      let z = p.low.reg + arg_regs t (expr_regs t) in
      made_as refl (ap (λ (i : ℕ). p.cont + i) m.cont) (ap (λ (i : ℕ). p.body + i) m.body) m.lbl
      (made_below m z (ap (λ (i : ℕ). p.low.reg + i) (sym (arg_regs_lem t w p.lbl p.low.reg (expr_regs_lem t w p.lbl p.low.reg)))) e);
}

pub operand_reads : {c b : List ℕ} {p : Done} {buf : List ℕ} → ReadsAt operands c b p buf → Reads exprs (from p.cont c) (from p.body b) p.low buf
operand_reads h = let r = reads_from operands h in record { ready = r.ready; tree = r.tree; spelt = of_operand r.spelt }

pub operand_within : (c b : List ℕ) (p : Done) {k : Bool} {buf : List ℕ} {d : Done} {buf' : List ℕ} → ReadsAt operands c b p buf → Front args (from p.cont c) (from p.body b) k p.lbl p.low buf d buf'
    → (p.cont + d.cont ≤ length c) × (p.body + d.body ≤ length b)
operand_within c b p h f =
    at_within args c b p (record { ready = h.ready; cont = h.cont; body = h.body; tree = h.tree; spelt = as_arg (of_operand h.spelt) }) f

-- ---- ArrayMut: the value, then the index

module _ {x : ℕ} {i v : Expr} {c b : List ℕ} (h : At exprs (ArrayMut x i v) c b) where
  pub mut_room : 2 + (E i + E v) ≤ length c
  mut_room = omega (arith, fits_nodes h.spells, entries_both (flat_expr i) (flat_expr v))

  pub mut_roomb : 1 + (B i + B v) ≤ length b
  mut_roomb = omega (arith, fits_bodies h.spells, bodies_both (flat_expr i) (flat_expr v))

  mut_index : At exprs i (drop 2 c) (drop 1 b)
  mut_index = record { spells = first (flat_expr i) (flat_expr v) (in_node h.spells); ok = (and_yes (fit i) (fit v) h.ok).0 }

  mut_value : At exprs v (drop (2 + E i) c) (drop (1 + B i) b)
  mut_value = record { spells = second_from (flat_expr i) (flat_expr v) 2 1 c b (in_node h.spells); ok = (and_yes (fit i) (fit v) h.ok).1 }

  -- what is skipped
  pub mut_skips : Spells (flat_expr i) (from 2 c) (from 1 b)
  mut_skips = (at_from exprs i 2 1 c b mut_index).spells

  module _ {n : ℕ} {s : Low} {buf : List ℕ} (rdy : Ready s buf) {y z : ℕ} (ey : y ≡ E i) (ez : z ≡ B i)
      {p₀ : Done} (e₀ : p₀ ≡ record { cont = 2 + y; body = 1 + z; lbl = n; low = s }) where
    mut_start : p₀ ≡ record { cont = 2 + E i; body = 1 + B i; lbl = n; low = s }
    mut_start = rw (← ey, ← ez) e₀

    pub mut_reads₁ : ReadsAt exprs c b p₀ buf
    mut_reads₁ = child_reads exprs v (2 + E i) (1 + B i) c b mut_value (omega (arith, mut_room)) (omega (arith, mut_roomb)) rdy mut_start

    module _ {k : Bool} {r₁ : Done} {buf₁ : List ℕ} (g₁ : Goes exprs c b k p₀ buf r₁ buf₁) where
      mut_made₁ : (w : Place) → k ≡ kept s.decls w.section → Made (lower_expr v w n s.reg) (2 + E i + E v) (1 + B i + B v) n s buf r₁ buf₁
      mut_made₁ = child_made exprs v (2 + E i) (1 + B i) c b mut_value (omega (arith, mut_room)) (omega (arith, mut_roomb)) rdy mut_start g₁

      module _ {l : Low} (el : l ≡ after_events (ask_below r₁.low.reg) r₁.low) {p₂ : Done} (e₂ : p₂ ≡ record { cont = 2; body = 1; lbl = n; low = l }) where
        mut_made₂ : (w : Place) → k ≡ kept s.decls w.section → Made (lower_expr v w n s.reg ++ ask_below (s.reg + expr_regs v)) 2 1 n s buf p₂ buf₁
        mut_made₂ w kw = made_below (mut_made₁ w kw) (s.reg + expr_regs v) (ap (λ (j : ℕ). s.reg + j) (sym (expr_regs_lem v w n s.reg))) (rw el at e₂)

        pub mut_reads₂ : ReadsAt exprs c b p₂ buf₁
        mut_reads₂ = let w = some_place k s.decls in made_reads (mut_made₂ w.0 w.1) exprs i c b mut_index rdy (omega (arith, mut_room)) (omega (arith, mut_roomb))

        module _ {r₃ : Done} {buf₃ : List ℕ} (g₃ : Goes exprs c b k p₂ buf₁ r₃ buf₃) where
          mut_takes : (w : Place) → s.reg + expr_regs v ≡ s.reg + regs_in (lower_expr v w n s.reg ++ ask_below (s.reg + expr_regs v))
          mut_takes w =
              let q = s.reg + expr_regs v in
              omega (arith, regs_append (lower_expr v w n s.reg) (ask_below q), before_regs q, expr_regs_lem v w n s.reg)

          mut_made₃ : (w : Place) → k ≡ kept s.decls w.section
              → Made ((lower_expr v w n s.reg ++ ask_below (s.reg + expr_regs v)) ++ lower_expr i w n (s.reg + expr_regs v)) (2 + E i) (1 + B i) n s buf r₃ buf₃
          mut_made₃ w kw = made_goes (mut_made₂ w kw) exprs i c b mut_index g₃ w kw (s.reg + expr_regs v) (mut_takes w)

          pub mut_ready₃ : Ready r₃.low buf₃
          mut_ready₃ = let w = some_place k s.decls in made_ready (mut_made₃ w.0 w.1) rdy

          pub mut_made : {f : Fields} {u : Low} {d : Done} {buf₄ : List ℕ} → f ≡ fields n 8 0 (get_or b 0 0) (prev r₃.low.reg) (prev r₁.low.reg) 0 0
              → PushesOp k r₃.low (field_bytes f) buf₃ u buf₄ → d ≡ record { cont = r₁.cont; body = r₁.body; lbl = r₁.lbl; low = u } → Makes exprs (ArrayMut x i v) k n s buf d buf₄
          mut_made {f} {u} {d} {buf₄} ef l ed w kw =
              let m₁ = mut_made₁ w kw in
              let m₂ = mut_made₂ w kw in
              let m₃ = mut_made₃ w kw in
              let q = s.reg + expr_regs v in
              let p = q + expr_regs i in
              let Z = lower_expr v w n s.reg in
              let I = lower_expr i w n q in
              let o : ℕ → ℕ → Op = λ a z. Upda x (prev a) (prev z) in
              let r₄ : Done = record { cont = r₃.cont; body = r₃.body; lbl = r₃.lbl; low = u } in
              let un₂ : r₃.low.refused ≡ 0 → p₂.low.refused ≡ 0 = λ z. goes_unrefused m₂ exprs i c b mut_index g₃ w kw z in
              let is_q : r₃.low.refused ≡ 0 → r₁.low.reg ≡ q = λ z. made_reg m₁ q (ap (λ (j : ℕ). s.reg + j) (sym (expr_regs_lem v w n s.reg))) (below_unrefused r₁ (rw (e₂, el) at (un₂ z))) in
              let is_p : r₃.low.refused ≡ 0 → r₃.low.reg ≡ p =
              λ z. made_reg m₃ p (omega (arith, mut_takes w, expr_regs_lem i w n q, regs_append (Z ++ ask_below q) I)) z in
              let m₄ : Made (((Z ++ ask_below q) ++ I) ++ (push w n (o p q) ∷ [])) (2 + E i) (1 + B i) n s buf r₄ buf₄ =
              made_push m₃ w kw (instr n (o r₃.low.reg r₁.low.reg)) (instr n (o p q)) (refl, refl, refl, l) refl (ap field_bytes (rw (first_body h.spells) at ef))
              (λ z. rw (is_p z, is_q z)) in
              rw ed (record {
                cont = m₁.cont ∙ omega (arith, entries_both (flat_expr i) (flat_expr v));
                body = m₁.body ∙ omega (arith, bodies_both (flat_expr i) (flat_expr v));
                lbl = m₁.lbl;
                did = (made_as {u = 2 + E i} {v = 1 + B i} {l = n}
                    (append_assoc (Z ++ ask_below q) I (push w n (o p q) ∷ []) ∙ append_assoc Z (ask_below q) (I ++ (push w n (o p q) ∷ []))) refl refl refl m₄).did;
              })
            where
              below_unrefused : (d : Done) → (after_events (ask_below d.low.reg) d.low).refused ≡ 0 → d.low.refused ≡ 0
              below_unrefused d z = refused_stays (ask_below d.low.reg) d.low z

-- ---- Call

first_is_none : {m : ℕ} (ps : Exprs) → m ≡ expr_count ps → m ≡ 0 → ps ≡ no_exprs
first_is_none no_exprs e z = refl
first_is_none (more_exprs e ps) f z = absurd (omega (arith, f, z))

pub params_none : {m : ℕ} {c b : List ℕ} {k : Bool} {p : Done} {buf : List ℕ} → m ≡ 0 → Goes (param_parts m) c b k p buf p buf
params_none z = record {
  goes = λ ps h w kw. rw (first_is_none ps h.ok.0 z) (record { cont = omega arith; body = omega arith; lbl = refl; did = record { state = refl; buffer = refl } });
}

module _ {m : ℕ} {e : Expr} {ps : Exprs} (u v : ℕ) (c b : List ℕ) (h : At (param_parts m) (more_exprs e ps) (drop u c) (drop v b)) where
  pub par_first : At exprs e (drop u c) (drop v b)
  par_first = record { spells = first (flat_expr e) (flat_exprs ps) h.spells; ok = (and_yes (fit e) (fits ps) h.ok.1).0 }

  par_rest : {k : ℕ} → m ≡ suc k → At (param_parts k) ps (drop (u + E e) c) (drop (v + B e) b)
  par_rest {k} f = record { spells = second_from (flat_expr e) (flat_exprs ps) u v c b h.spells; ok = (omega (arith, f, h.ok.0), (and_yes (fit e) (fits ps) h.ok.1).1) }

  par_room : u ≤ length c → u + E e ≤ length c
  par_room i = omega (arith, fits_nodes par_first.spells, length-drop u c, i)

  par_roomb : v ≤ length b → v + B e ≤ length b
  par_roomb j = omega (arith, fits_bodies par_first.spells, length-drop v b, j)

pub par_reads : {m : ℕ} {c b : List ℕ} {p : Done} {buf : List ℕ} → (m ≡ 0 → ⊥) → ReadsAt (param_parts m) c b p buf → ReadsAt exprs c b p buf
par_reads {m} {c} {b} {p} {buf} z h = by h.tree h.spelt
  where
    by : (ps : Exprs) → At (param_parts m) ps (drop p.cont c) (drop p.body b) → ReadsAt exprs c b p buf
    by no_exprs a = absurd (z a.ok.0)
    by (more_exprs e ps) a = record { ready = h.ready; cont = h.cont; body = h.body; tree = e; spelt = par_first p.cont p.body c b a }

-- nothing so far, from p on
pub made_here : {p : Done} {buf : List ℕ} → Made [] p.cont p.body p.lbl p.low buf p buf
made_here = record { cont = refl; body = refl; lbl = refl; did = record { state = refl; buffer = refl } }

pub par_ready : {m : ℕ} {c b : List ℕ} {k : Bool} {p : Done} {buf : List ℕ} {r₁ : Done} {buf₁ : List ℕ} → Goes exprs c b k p buf r₁ buf₁ → (m ≡ 0 → ⊥) → ReadsAt (param_parts m) c b p buf → Ready r₁.low buf₁
par_ready {k = k} {p = p} g z r =
    let q = par_reads z r in
    let w = some_place k p.low.decls in
    made_ready (g.goes q.tree q.spelt w.0 w.1) q.ready

-- one parameter, pushed, then the others
module _ {m : ℕ} {c b : List ℕ} {k : Bool} {p : Done} {buf : List ℕ} {r₁ : Done} {buf₁ : List ℕ} (g₁ : Goes exprs c b k p buf r₁ buf₁)
    {f : Fields} {r₂ : Done} {buf₂ : List ℕ} (ef : f ≡ fields p.lbl 19 0 (prev r₁.low.reg) 0 0 0 0)
    (l : (r₂.cont ≡ r₁.cont) × (r₂.body ≡ r₁.body) × (r₂.lbl ≡ r₁.lbl) × PushesOp k r₁.low (field_bytes f) buf₁ r₂.low buf₂) where
  module _ {e : Expr} {ps : Exprs} (h : At (param_parts m) (more_exprs e ps) (drop p.cont c) (drop p.body b)) (w : Place) (kw : k ≡ kept p.low.decls w.section) where
    par_made₁ : Made (lower_expr e w p.lbl p.low.reg) (p.cont + E e) (p.body + B e) p.lbl p.low buf r₁ buf₁
    par_made₁ = made_goes made_here exprs e c b (par_first p.cont p.body c b h) g₁ w kw p.low.reg (omega arith)

    par_q : p.low.reg + expr_regs e ≡ p.low.reg + regs_in (lower_expr e w p.lbl p.low.reg)
    par_q = ap (λ (i : ℕ). p.low.reg + i) (sym (expr_regs_lem e w p.lbl p.low.reg))

    par_made₂ : Made (lower_expr e w p.lbl p.low.reg ++ (push w p.lbl (FnStackPush (prev (p.low.reg + expr_regs e))) ∷ [])) (p.cont + E e) (p.body + B e) p.lbl p.low buf r₂ buf₂
    par_made₂ =
        made_push par_made₁ w kw (instr p.lbl (FnStackPush (prev r₁.low.reg))) (instr p.lbl (FnStackPush (prev (p.low.reg + expr_regs e)))) l refl (ap field_bytes ef)
        (λ z. ap (λ (i : ℕ). instr p.lbl (FnStackPush (prev i))) (made_reg par_made₁ (p.low.reg + expr_regs e) par_q z))

  par_rest_reads : {j : ℕ} (ps : Exprs) → m ≡ suc j → ReadsAt (param_parts m) c b p buf → At (param_parts m) ps (drop p.cont c) (drop p.body b) → (p.cont < r₂.cont) × ReadsAt (param_parts j) c b r₂ buf₂
  par_rest_reads no_exprs z r a = absurd (omega (arith, z, a.ok.0))
  par_rest_reads (more_exprs e ps) z r a =
      let w = some_place k p.low.decls in
      let m₂ = par_made₂ a w.0 w.1 in
      (omega (arith, m₂.cont, expr_size e), made_reads m₂ (param_parts _) ps c b (par_rest p.cont p.body c b a z) r.ready (par_room p.cont p.body c b a r.cont) (par_roomb p.cont p.body c b a r.body))

  pub par_next : {j : ℕ} → m ≡ suc j → ReadsAt (param_parts m) c b p buf → (p.cont < r₂.cont) × ReadsAt (param_parts j) c b r₂ buf₂
  par_next z r = par_rest_reads r.tree z r r.spelt

  pub par_goes : {j : ℕ} {r₃ : Done} {buf₃ : List ℕ} → m ≡ suc j → Goes (param_parts j) c b k r₂ buf₂ r₃ buf₃ → Goes (param_parts m) c b k p buf r₃ buf₃
  par_goes {j} {r₃} {buf₃} z g = record { goes = by }
    where
      by : (ps : Exprs) → At (param_parts m) ps (drop p.cont c) (drop p.body b) → (w : Place) → k ≡ kept p.low.decls w.section
          → Made (lower_params ps w p.lbl p.low.reg) (p.cont + length (entry_bytes (flat_exprs ps))) (p.body + length (body_bytes (flat_exprs ps))) p.lbl p.low buf r₃ buf₃
      by no_exprs a w kw = absurd (omega (arith, z, a.ok.0))
      by (more_exprs e ps) a w kw =
          let q = p.low.reg + expr_regs e in
          let X = lower_expr e w p.lbl p.low.reg in
          let o = push w p.lbl (FnStackPush (prev q)) ∷ [] in
          made_as (append_assoc X o (lower_params ps w p.lbl q))
          (omega (arith, entries_both (flat_expr e) (flat_exprs ps))) (omega (arith, bodies_both (flat_expr e) (flat_exprs ps))) refl
          (made_goes (par_made₂ a w kw) (param_parts j) ps c b (par_rest p.cont p.body c b a z) g w kw q (par_q a w kw ∙ omega (arith, regs_append X o)))

module _ {g : ℕ} {ps : Exprs} {c b : List ℕ} (h : At exprs (FnCall g ps) c b) where
  abbrev pub call_one : Child (param_parts (get_or c 1 0)) c b
  call_one = one_of (param_parts (get_or c 1 0)) ps h.spells (first_count h.spells, h.ok)

  module _ {n : ℕ} {s : Low} {buf : List ℕ} (rdy : Ready s buf) {p₀ : Done} (e₀ : p₀ ≡ record { cont = 2; body = 1; lbl = n; low = s })
      {k : Bool} {r₁ : Done} {buf₁ : List ℕ} (a : Goes (param_parts (get_or c 1 0)) c b k p₀ buf r₁ buf₁) where
    module _ {f : Fields} {word : ℕ} (ew : word ≡ get_or c 1 0) (ef : f ≡ fields n 17 0 (get_or b 0 0) 0 0 0 word) {r₂ : Done} {buf₂ : List ℕ}
        (l : (r₂.cont ≡ r₁.cont) × (r₂.body ≡ r₁.body) × (r₂.lbl ≡ r₁.lbl) × PushesOp k r₁.low (field_bytes f) buf₁ r₂.low buf₂) where
      call_made₂ : (w : Place) → k ≡ kept s.decls w.section
          → Made (lower_params ps w n s.reg ++ (push w n (Call g (expr_count ps)) ∷ [])) (2 + length (entry_bytes (flat_exprs ps))) (1 + length (body_bytes (flat_exprs ps))) n s buf r₂ buf₂
      call_made₂ w kw =
          made_push (one_made call_one rdy e₀ a w kw) w kw
          (instr n (Call g (expr_count ps))) (instr n (Call g (expr_count ps))) l refl (ap field_bytes (rw (first_body h.spells, ew ∙ first_count h.spells) at ef)) (λ z. refl)

      pub call_ready₂ : Ready r₂.low buf₂
      call_ready₂ = let w = some_place k s.decls in made_ready (call_made₂ w.0 w.1) rdy

      pub call_made : {j : Fields} {r₃ : Done} {buf₃ : List ℕ} → j ≡ fields n 20 0 r₂.low.reg 0 0 0 0
          → (r₃.cont ≡ r₂.cont) × (r₃.body ≡ r₂.body) × (r₃.lbl ≡ r₂.lbl) × Loads k r₂.low (field_bytes j) buf₂ r₃.low buf₃ → Makes exprs (FnCall g ps) k n s buf r₃ buf₃
      call_made ej o w kw =
          let m = call_made₂ w kw in
          let q = s.reg + param_regs ps in
          let X = lower_params ps w n s.reg in
          let call = push w n (Call g (expr_count ps)) ∷ [] in
          made_as (append_assoc X call (load w n (FnStackPop q))) (omega arith) (omega arith) refl
          (made_load m w kw (instr n (FnStackPop r₂.low.reg)) (instr n (FnStackPop q)) o refl (ap field_bytes ej)
          (λ z. ap (λ (i : ℕ). instr n (FnStackPop i)) (made_reg m q (omega (arith, regs_append X call, param_regs_lem ps w n s.reg)) z)))

-- ---- Assign

module _ {x : ℕ} {r : Rhs} {c b : List ℕ} (h : At exprs (VarAssign x r) c b) where
  abbrev asg_one : (y : ℕ) → Child (rights y) c b
  asg_one y = one_of (rights y) r h.spells h.ok

  module _ {n : ℕ} {s : Low} {buf : List ℕ} (rdy : Ready s buf) {p₀ : Done} (e₀ : p₀ ≡ record { cont = 2; body = 1; lbl = n; low = s }) where
    pub asg_made : {k : Bool} {d : Done} {buf' : List ℕ} → Goes (rights (get_or b 0 0)) c b k p₀ buf d buf' → Makes exprs (VarAssign x r) k n s buf d buf'
    asg_made g w kw =
        let m = one_made (asg_one (get_or b 0 0)) rdy e₀ g w kw in
        made_as (ap (λ (i : ℕ). lower_rhs r i w n s.reg) (first_body h.spells)) (omega arith) (omega arith) refl m

-- ---- which kind it is

module _ {c b : List ℕ} {s : Low} {buf : List ℕ} (r : Reads exprs c b s buf) where
  pub reads_room : 2 ≤ length c
  reads_room = expr_room r.tree r.spelt.spells

  pub num_asks : get_or c 0 0 ≡ 19 → 8 ≤ length b
  num_asks q = only_val (λ e. At exprs e c b → 8 ≤ length b) (λ x h. fits_bodies h.spells) (as_kind r.spelt q) r.spelt

  pub text_asks : get_or c 0 0 ≡ 20 → 1 ≤ length b
  text_asks q = only_text (λ e. At exprs e c b → 1 ≤ length b) (λ x h. fits_bodies h.spells) (as_kind r.spelt q) r.spelt

  pub name_asks : get_or c 0 0 ≡ 21 → 1 ≤ length b
  name_asks q = only_name (λ e. At exprs e c b → 1 ≤ length b) (λ x h. fits_bodies h.spells) (as_kind r.spelt q) r.spelt

module _ {c b : List ℕ} {s : Low} {buf : List ℕ} where
  pub mut_asks : Reads exprs c b s buf × (get_or c 0 0 ≡ 14) → (x : ℕ) × (i : Expr) × (v : Expr) × At exprs (ArrayMut x i v) c b
  mut_asks (r, q) = only_mut (λ e. At exprs e c b → (x : ℕ) × (i : Expr) × (v : Expr) × At exprs (ArrayMut x i v) c b) (λ x i v h. (x, i, v, h)) (as_kind r.spelt q) r.spelt

  pub call_asks : Reads exprs c b s buf × (get_or c 0 0 ≡ 15) → (g : ℕ) × (ps : Exprs) × At exprs (FnCall g ps) c b
  call_asks (r, q) = only_call (λ e. At exprs e c b → (g : ℕ) × (ps : Exprs) × At exprs (FnCall g ps) c b) (λ g ps h. (g, ps, h)) (as_kind r.spelt q) r.spelt

  pub asg_asks : (y : ℕ) → Reads exprs c b s buf × (get_or c 0 0 ≡ 16) → Child (rights y) c b
  asg_asks y (r, q) = only_asg (λ e. At exprs e c b → Child (rights y) c b) (λ x k h. asg_one h y) (as_kind r.spelt q) r.spelt

  pub bin_asks : Reads exprs c b s buf × (get_or c 0 0 ≡ 17) → (t : BinTok) × (x : Expr) × (y : Expr) × At exprs (BinaryExpr t x y) c b
  bin_asks (r, q) = only_bin (λ e. At exprs e c b → (t : BinTok) × (x : Expr) × (y : Expr) × At exprs (BinaryExpr t x y) c b) (λ t x y h. (t, x, y, h)) (as_kind r.spelt q) r.spelt

  pub un_asks : Reads exprs c b s buf × (get_or c 0 0 ≡ 18) → Child operands c b
  un_asks (r, q) = only_un (λ e. At exprs e c b → Child operands c b) (λ t x h. un_one h) (as_kind r.spelt q) r.spelt

pub num_read : {x : ℕ} {c b : List ℕ} → At exprs (Literal (Val x)) c b → x ≡ be_value (part b 0 8)
num_read {x} a = rw a.spells.bodies (sym (be_value_be_bytes 8 x (ltb→lt x (2 ^ 64) a.ok)))

module _ {c b : List ℕ} {k : Bool} {n : ℕ} {s : Low} {buf : List ℕ} {d : Done} {buf' : List ℕ} where
  pub mut_front : get_or c 0 0 ≡ 14 → ((x : ℕ) (i v : Expr) → At exprs (ArrayMut x i v) c b → Makes exprs (ArrayMut x i v) k n s buf d buf') → Front exprs c b k n s buf d buf'
  mut_front q f = record { front = λ e h. only_mut (λ e. At exprs e c b → Makes exprs e k n s buf d buf') f (as_kind h q) h }

  pub call_front : get_or c 0 0 ≡ 15 → ((g : ℕ) (ps : Exprs) → At exprs (FnCall g ps) c b → Makes exprs (FnCall g ps) k n s buf d buf') → Front exprs c b k n s buf d buf'
  call_front q f = record { front = λ e h. only_call (λ e. At exprs e c b → Makes exprs e k n s buf d buf') f (as_kind h q) h }

  pub asg_front : get_or c 0 0 ≡ 16 → ((x : ℕ) (r : Rhs) → At exprs (VarAssign x r) c b → Makes exprs (VarAssign x r) k n s buf d buf') → Front exprs c b k n s buf d buf'
  asg_front q f = record { front = λ e h. only_asg (λ e. At exprs e c b → Makes exprs e k n s buf d buf') f (as_kind h q) h }

  pub bin_front : get_or c 0 0 ≡ 17 → ((t : BinTok) (x y : Expr) → At exprs (BinaryExpr t x y) c b → Makes exprs (BinaryExpr t x y) k n s buf d buf') → Front exprs c b k n s buf d buf'
  bin_front q f = record { front = λ e h. only_bin (λ e. At exprs e c b → Makes exprs e k n s buf d buf') f (as_kind h q) h }

  pub un_front : get_or c 0 0 ≡ 18 → ((t : UnTok) (x : Expr) → At exprs (UnaryExpr t x) c b → Makes exprs (UnaryExpr t x) k n s buf d buf') → Front exprs c b k n s buf d buf'
  un_front q f = record { front = λ e h. only_un (λ e. At exprs e c b → Makes exprs e k n s buf d buf') f (as_kind h q) h }

  pub lit_front : (eqb (get_or c 0 0) 19 || eqb (get_or c 0 0) 20) ≡ true
      → ((w : Place) → k ≡ kept s.decls w.section → Made (load w n (Ldc s.reg (One (value_at (get_or c 0 0) b 0)))) 2 (lit_size (get_or c 0 0)) n s buf d buf') → Front exprs c b k n s buf d buf'
  lit_front q f = record { front = λ e h. by (of_kind h) q f h }
    where
      by : {m : ℕ} {e : Expr} → EKind m e → (eqb m 19 || eqb m 20) ≡ true → ((w : Place) → k ≡ kept s.decls w.section → Made (load w n (Ldc s.reg (One (value_at m b 0)))) 2 (lit_size m) n s buf d buf')
          → At exprs e c b → Makes exprs e k n s buf d buf'
      by kmut q f h = cc
      by kcall q f h = cc
      by kasg q f h = cc
      by kbin q f h = cc
      by kun q f h = cc
      by kval q f h = λ w kw. rw (← num_read h) at (f w kw)
      by ktext q f h = λ w kw. rw (first_body h.spells) at (f w kw)
      by kname q f h = cc
      by ktrue q f h = cc
      by kfalse q f h = cc

  pub name_front : get_or c 0 0 ≡ 21
      → ((x : ℕ) → x ≡ get_or b 0 0 → (w : Place) → k ≡ kept s.decls w.section → Made (lower_expr (Name x) w n s.reg) 2 1 n s buf d buf') → Front exprs c b k n s buf d buf'
  name_front q f = record { front = λ e h. only_name (λ e. At exprs e c b → Makes exprs e k n s buf d buf') (λ x a w kw. f x (sym (first_body a.spells)) w kw) (as_kind h q) h }

  -- True and False in `binarg`
  pub truth_front : (eqb (get_or c 0 0) 22 || eqb (get_or c 0 0) 23) ≡ true
      → ((w : Place) → k ≡ kept s.decls w.section → Made (load w n (Ldc s.reg (One (value_at (get_or c 0 0) b 0)))) 2 (lit_size (get_or c 0 0)) n s buf d buf') → Front args c b k n s buf d buf'
  truth_front q f = record { front = λ e h. by (of_kind (of_arg h)) q f }
    where
      by : {m : ℕ} {e : Expr} → EKind m e → (eqb m 22 || eqb m 23) ≡ true → ((w : Place) → k ≡ kept s.decls w.section → Made (load w n (Ldc s.reg (One (value_at m b 0)))) 2 (lit_size m) n s buf d buf')
          → Makes args e k n s buf d buf'
      by kmut q f = cc
      by kcall q f = cc
      by kasg q f = cc
      by kbin q f = cc
      by kun q f = cc
      by kval q f = cc
      by ktext q f = cc
      by kname q f = cc
      by ktrue q f = f
      by kfalse q f = f

  -- another kind in `binarg`: as in `expr`
  pub arg_front : (eqb (get_or c 0 0) 22 || eqb (get_or c 0 0) 23) ≡ false → Front exprs c b k n s buf d buf' → Front args c b k n s buf d buf'
  arg_front q m = record { front = λ e h. other (of_kind (of_arg h)) q (m.front e (of_arg h)) }
    where
      other : {j : ℕ} {e : Expr} → EKind j e → (eqb j 22 || eqb j 23) ≡ false → Makes exprs e k n s buf d buf' → Makes args e k n s buf d buf'
      other kmut q m = m
      other kcall q m = m
      other kasg q m = m
      other kbin q m = m
      other kun q m = m
      other kval q m = m
      other ktext q m = m
      other kname q m = m
      other ktrue q m = cc
      other kfalse q m = cc

-- True and False in `expr`: nothing
none_made : {n : ℕ} {s : Low} {buf : List ℕ} {d : Done} → d ≡ record { cont = 2; body = 0; lbl = n; low = s } → (w : Place) → Made [] 2 0 n s buf d buf
none_made e w = made_start e

module _ {c b : List ℕ} {k : Bool} {n : ℕ} {s : Low} {buf : List ℕ} {d : Done} (e₀ : d ≡ record { cont = 2; body = 0; lbl = n; low = s }) where
  pub none_front : (get_or c 0 0 ≡ 14 → ⊥) → (get_or c 0 0 ≡ 15 → ⊥) → (get_or c 0 0 ≡ 16 → ⊥) → (get_or c 0 0 ≡ 17 → ⊥) → (get_or c 0 0 ≡ 18 → ⊥) → (eqb (get_or c 0 0) 19 || eqb (get_or c 0 0) 20) ≡ false → (get_or c 0 0 ≡ 21 → ⊥)
      → Front exprs c b k n s buf d buf
  none_front f₁ f₂ f₃ f₄ f₅ f₆ f₇ = record { front = λ e h. rest (of_kind h) f₁ f₂ f₃ f₄ f₅ f₆ f₇ }
    where
      rest : {m : ℕ} {e : Expr} → EKind m e → (m ≡ 14 → ⊥) → (m ≡ 15 → ⊥) → (m ≡ 16 → ⊥) → (m ≡ 17 → ⊥) → (m ≡ 18 → ⊥) → (eqb m 19 || eqb m 20) ≡ false → (m ≡ 21 → ⊥) → Makes exprs e k n s buf d buf
      rest kmut f₁ f₂ f₃ f₄ f₅ f₆ f₇ = absurd (f₁ refl)
      rest kcall f₁ f₂ f₃ f₄ f₅ f₆ f₇ = absurd (f₂ refl)
      rest kasg f₁ f₂ f₃ f₄ f₅ f₆ f₇ = absurd (f₃ refl)
      rest kbin f₁ f₂ f₃ f₄ f₅ f₆ f₇ = absurd (f₄ refl)
      rest kun f₁ f₂ f₃ f₄ f₅ f₆ f₇ = absurd (f₅ refl)
      rest kval f₁ f₂ f₃ f₄ f₅ f₆ f₇ = cc
      rest ktext f₁ f₂ f₃ f₄ f₅ f₆ f₇ = cc
      rest kname f₁ f₂ f₃ f₄ f₅ f₆ f₇ = absurd (f₇ refl)
      rest ktrue f₁ f₂ f₃ f₄ f₅ f₆ f₇ = λ w kw. none_made e₀ w
      rest kfalse f₁ f₂ f₃ f₄ f₅ f₆ f₇ = λ w kw. none_made e₀ w
