-- A whole FnDecl: its registers, its instruction, its pops, and its Block.
use Rattle.std.specs.Prelude.{ℕ, zero, suc, ◌+◌, ◌*◌, ◌-◌, ◌≤◌, ◌<◌, ◌^◌, ◌≡◌, refl, Bool, true, false, List, [], ◌∷◌, ◌++◌, length, drop, take, get_or, replicate}
use Rattle.std.proofs.Common.{sym, ap, ◌∙◌, append_assoc, arith, take_at}
use Rattle.std.proofs.Math.Facts.{and_yes}
use Rattle.opc.specs.Op.{Fn}
use Rattle.ast.specs.Tree.{Stmt, Block, FnDecl, Stmts}
use Rattle.ast.specs.Node.{Node}
use Rattle.ast.specs.Flat.{flat_names, flat_stmt, entry_bytes, body_bytes}
use Rattle.ast.specs.Limits.{every_name, every}
use Rattle.compiler.specs.Lower.{Decl, Reg, push, declaring, or_nop, lower_pops, lower_stmts}
use Rattle.emit.specs.declared.Low.{Low}
use Rattle.emit.specs.declared.Done.{Done}
use Rattle.emit.specs.inner.Run.{kept, step_event, after_events, wrote, Ready, Did}
use Rattle.emit.specs.inner.Made.{Spells, Made, At, Reads, Front, ReadsAt, Goes}
use Rattle.emit.specs.laws.Laws.{did_as, did_then, kept_did, unrefused, reg_is, ready_did, some_place}
use Rattle.emit.specs.laws.Spell.{in_node, first, second_from, first_body, fits_nodes, fits_bodies}
use Rattle.emit.specs.laws.Regs.{regs_append}
use Rattle.emit.specs.laws.Places.{made_reads, made_goes}
use Rattle.stmt.specs.inner.Parts.{any_text, fits, PushesFn, Pops, fn_head, FnHead, statements}
use Rattle.stmt.specs.laws.Regs.{replicate_regs, pops_regs}
use Rattle.stmt.specs.laws.Kinds.{Is, is_fn_lem, Whole, read_as, made_as_kind, block_kind, entries_both, bodies_both, count_here}

abbrev E : List Node → ℕ
E ns = length (entry_bytes ns)

abbrev B : List Node → ℕ
B ns = length (body_bytes ns)

-- ---- its parts

names_bytes : (ps : List ℕ) → body_bytes (flat_names ps) ≡ ps
names_bytes [] = refl
names_bytes (x ∷ ps) = ap (λ (l : List ℕ). x ∷ l) (names_bytes ps)

names_entries : (ps : List ℕ) → E (flat_names ps) ≡ 2 * length ps
names_entries [] = omega arith
names_entries (x ∷ ps) = omega (arith, names_entries ps)

decl_kept : (d : Bool) → d ≡ kept d Decl
decl_kept true = refl
decl_kept false = refl

module _ (n : ℕ) {c b : List ℕ} {f : ℕ} {ps : List ℕ} {t : Stmts} (h : At (statements n) (FnDecl f ps t) c b) where
  fn_behind : Spells (flat_names ps ++ flat_stmt (Block t)) (drop 2 c) (drop 1 b)
  fn_behind = in_node h.spells

  fn_count : get_or c 1 0 ≡ suc (length ps)
  fn_count = count_here h.spells

  fn_names : take (get_or c 1 0 - 1) (drop 1 b) ≡ ps
  fn_names =
      let g = first (flat_names ps) (flat_stmt (Block t)) fn_behind in
      let z : get_or c 1 0 - 1 ≡ length ps = omega (arith, fn_count) in
      ap (λ (i : ℕ). take i (drop 1 b)) z ∙ ap (take (length ps)) (g.bodies ∙ ap (λ (y : List ℕ). y ++ g.restb) (names_bytes ps)) ∙ take_at ps g.restb (length ps) refl

  fn_block : (l : ℕ) → l ≡ n → At (statements l) (Block t) (drop (2 + 2 * length ps) c) (drop (1 + length ps) b)
  fn_block l q =
      let g = second_from (flat_names ps) (flat_stmt (Block t)) 2 1 c b fn_behind in
      let eu : 2 + E (flat_names ps) ≡ 2 + 2 * length ps = omega (arith, names_entries ps) in
      let ev : 1 + B (flat_names ps) ≡ 1 + length ps = omega (arith, ap length (names_bytes ps)) in
      record { spells = rw (eu, ev) at g; ok = ((and_yes (every_name any_text fits ps) (every any_text fits t) h.ok.0).1, omega (arith, q, h.ok.1)) }

pub record IsFn (c b : List ℕ) (n : ℕ) : Type 0 where
  pub name : ℕ
  pub names : List ℕ
  pub body : Stmts
  pub spelt : At (statements n) (FnDecl name names body) c b

pub is_a_fn : (n : ℕ) {c b : List ℕ} {s : Low} {buf : List ℕ} → get_or c 0 0 ≡ 9 → Reads (statements n) c b s buf → IsFn c b n
is_a_fn n {c} {b} z h = read_as n z (λ t i. by_kind i) h
  where
    by_kind : {t : Stmt} → Is 9 t → At (statements n) t c b → IsFn c b n
    by_kind (is_fn_lem {f = f} {ps = ps} {b = t}) d = record { name = f; names = ps; body = t; spelt = d }

module _ {c b : List ℕ} {n : ℕ} (f : IsFn c b n) where
  fn_sizes : (2 + 2 * length f.names + E (flat_stmt (Block f.body)) ≤ length c) × (1 + length f.names + B (flat_stmt (Block f.body)) ≤ length b)
  fn_sizes = (
    omega (arith, fits_nodes f.spelt.spells, entries_both (flat_names f.names) (flat_stmt (Block f.body)), names_entries f.names),
    omega (arith, fits_bodies f.spelt.spells, bodies_both (flat_names f.names) (flat_stmt (Block f.body)), ap length (names_bytes f.names)),
  )

  -- the count, and room for the names
  pub fn_names_length : length (take (get_or c 1 0 - 1) (drop 1 b)) ≡ length f.names
  fn_names_length = ap length (fn_names n f.spelt)

  pub fn_room : (get_or c 1 0 ≡ suc (length f.names)) × (2 + 2 * length f.names ≤ length c) × (1 + length f.names ≤ length b)
  fn_room = (fn_count n f.spelt, omega (arith, fn_sizes.0), omega (arith, fn_sizes.1))

  module _ {s : Low} {buf : List ℕ} {h : Done} {buf₁ : List ℕ} (rdy : Ready s buf) (g : FnHead c b n s buf h buf₁) where
    head_made : Made (fn_head f.name f.names n s.reg (declaring (record { section = Decl; loops = 0 }))) (2 + 2 * length f.names) (1 + length f.names) n s buf h buf₁
    head_made = g.made f.name f.names f.body f.spelt (record { section = Decl; loops = 0 })

    block_here : At (statements h.lbl) (Block f.body) (drop (2 + 2 * length f.names) c) (drop (1 + length f.names) b)
    block_here = fn_block n f.spelt h.lbl head_made.lbl

    pub fn_block_reads : ReadsAt (statements h.lbl) c b h buf₁
    fn_block_reads = made_reads head_made (statements h.lbl) (Block f.body) c b block_here rdy (omega (arith, fn_sizes.0)) (omega (arith, fn_sizes.1))

    pub fn_block_kind : get_or c h.cont 0 ≡ 2
    fn_block_kind =
        let d : At (statements h.lbl) (Block f.body) (drop h.cont c) (drop h.body b) = rw (head_made.cont, head_made.body) block_here in
        block_kind f.body c b h.cont h.body d.spells

    pub fn_falls : (0 < h.cont) × (h.cont ≤ length c)
    fn_falls = (omega (arith, head_made.cont), omega (arith, head_made.cont, fn_sizes.0))

    pub fn_label : {k : Bool} {d : Done} {buf₂ : List ℕ} → Goes (statements h.lbl) c b k h buf₁ d buf₂ → d.lbl + 1 < 2 ^ 64
    fn_label {k} q =
        let w = some_place k h.low.decls in
        let m = q.goes (Block f.body) (rw (head_made.cont, head_made.body) block_here) w.0 w.1 in
        omega (arith, m.lbl, head_made.lbl, f.spelt.ok.1)

-- ---- what they give, for any FnDecl

-- the head, from its three parts
pub head_goes : {c b : List ℕ} {n : ℕ} {s s₁ s₂ s₃ : Low} {d : Done} {buf buf₁ buf₂ : List ℕ} → Ready s buf → s₁ ≡ after_events (replicate (get_or c 1 0 - 1) Reg) s → PushesFn s.decls s₁ n (get_or b 0 0) (take (get_or c 1 0 - 1) (drop 1 b)) buf s₂ buf₁
    → Pops s.decls (take (get_or c 1 0 - 1) (drop 1 b)) s.reg n s₂ buf₁ s₃ buf₂ → d ≡ record { cont = 2 * get_or c 1 0; body = get_or c 1 0; lbl = n; low = s₃ } → FnHead c b n s buf d buf₂
head_goes {c} {b} {n} {s} {s₁} {s₂} {s₃} {d} {buf} {buf₁} {buf₂} rdy e₁ g₂ g₃ e₄ = record {
  made = λ f ps t h w.
      let v = declaring w in
      let r = s.reg in
      let en = fn_count n h in
      let q : get_or c 1 0 - 1 ≡ length ps = omega (arith, en) in
      let x : take (get_or c 1 0 - 1) (drop 1 b) ≡ ps = fn_names n h in
      let y : get_or b 0 0 ≡ f = first_body h.spells in
      let d₁ : Did (replicate (length ps) Reg) s buf s₁ buf =
      record { state = e₁ ∙ ap (λ (i : ℕ). after_events (replicate i Reg) s) q; buffer = sym (regs_wrote (length ps) s buf) } in
      let k₁ = kept_did v (decl_kept s.decls) d₁ in
      let d₂ : Did (push v n (Fn f ps) ∷ []) s₁ buf s₂ buf₁ = (rw (y, x) at g₂).pushes v k₁ in
      let k₂ = kept_did v k₁ d₂ in
      let room : s₂.refused ≡ 0 → r + length ps ≤ 96 =
      λ z. omega (arith, reg_is d₁ (unrefused d₂ z), replicate_regs (length ps), (ready_did rdy d₁).registers) in
      let d₃ : Did (lower_pops ps v n r) s₂ buf₁ s₃ buf₂ = (rw x at g₃).pops v k₂ room in
      rw e₄ (record { cont = omega (arith, en); body = omega (arith, en); lbl = refl; did = did_then d₁ (did_then d₂ d₃) });
}
  where
    regs_wrote : (i : ℕ) (s : Low) (e : List ℕ) → wrote (replicate i Reg) s e ≡ e
    regs_wrote zero s e = refl
    regs_wrote (suc i) s e = regs_wrote i (step_event Reg s) e

pub fn_front : {c b : List ℕ} {n : ℕ} {s : Low} {buf : List ℕ} {k : Bool} {h d r : Done} {buf₁ buf₂ : List ℕ} → get_or c 0 0 ≡ 9 → FnHead c b n s buf h buf₁ → Goes (statements h.lbl) c b s.decls h buf₁ d buf₂
    → r ≡ record { cont = d.cont; body = d.body; lbl = d.lbl + 1; low = d.low } → Front (statements n) c b k n s buf r buf₂
fn_front {c} {b} {n} {s} {buf} {k} {h} {d} {r} {buf₁} {buf₂} z g₁ g₂ e = made_as_kind n z (λ t i. by_kind i)
  where
    by_kind : {t : Stmt} → Is 9 t → At (statements n) t c b → Whole k n s buf r buf₂ t
    by_kind (is_fn_lem {f = f} {ps = ps} {b = t}) a w kw =
        let v = declaring w in
        let q = s.reg in
        let H = lower_pops ps v n q in
        let R = replicate (length ps) Reg in
        let Bk = or_nop t v n (lower_stmts t v n (q + length ps)) in
        let m₁ = g₁.made f ps t a w in
        let m₂ = made_goes m₁ (statements h.lbl) (Block t) c b (fn_block n a h.lbl m₁.lbl) g₂ v (decl_kept s.decls) (q + length ps)
        (omega (arith, regs_append R (push v n (Fn f ps) ∷ H), replicate_regs (length ps), pops_regs ps v n q)) in
        rw e (record {
          cont = m₂.cont ∙ omega (arith, entries_both (flat_names ps) (flat_stmt (Block t)), names_entries ps);
          body = m₂.body ∙ omega (arith, bodies_both (flat_names ps) (flat_stmt (Block t)), ap length (names_bytes ps));
          lbl = ap (λ (i : ℕ). i + 1) m₂.lbl ∙ omega arith;
          did = did_as (append_assoc R (push v n (Fn f ps) ∷ H) Bk) m₂.did;
        })
