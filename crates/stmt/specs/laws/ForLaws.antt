-- A whole For: its source, what stands before its Block, the Block, and what stands behind.
use Rattle.std.specs.Prelude.{ℕ, suc, ◌+◌, ◌≤◌, ◌<◌, ◌^◌, ◌≡◌, refl, Bool, List, [], ◌∷◌, ◌++◌, length, drop, get_or}
use Rattle.std.proofs.Common.{sym, ap, ◌∙◌, append_assoc, arith, length-drop}
use Rattle.std.proofs.Math.Facts.{and_yes}
use Rattle.ast.specs.Tree.{Source, Stmt, Block, ForStmt, Stmts}
use Rattle.ast.specs.Node.{Node}
use Rattle.ast.specs.Flat.{flat_source, flat_stmt, entry_bytes, body_bytes}
use Rattle.ast.specs.Limits.{every_source, every}
use Rattle.compiler.specs.Lower.{Place, Event, Reg, inner, or_nop, source_regs, stmts_regs, stmts_labels, lower_source, source_name, lower_stmts}
use Rattle.emit.specs.declared.Low.{Low}
use Rattle.emit.specs.declared.Done.{Done}
use Rattle.emit.specs.inner.Run.{step_event, Ready}
use Rattle.emit.specs.inner.Made.{Made, At, Reads, Front, ReadsAt, Goes}
use Rattle.emit.specs.laws.Laws.{did_if, did_as, unrefused, some_place}
use Rattle.emit.specs.laws.Spell.{in_node, first, second_from, first_body, fits_nodes, fits_bodies}
use Rattle.emit.specs.laws.Places.{made_reads, made_goes, made_ready, made_kept, made_reg}
use Rattle.stmt.specs.inner.Parts.{any_text, fits, Emitted, for_head, for_tail, source_text, sources, statements}
use Rattle.stmt.specs.laws.Regs.{source_regs_lem, block_regs}
use Rattle.emit.specs.laws.Regs.{regs_append}
use Rattle.stmt.specs.laws.Fors.{source_node, source_named}
use Rattle.stmt.specs.laws.Leaves.{emitted_ready, emitted_lbl, emitted_cont, emitted_body}
use Rattle.stmt.specs.laws.Kinds.{Is, is_for, Whole, read_as, made_as_kind, block_kind, entries_both, bodies_both, body_next, goes_ready}
use Rattle.lent.specs.laws.Parts.{byte_here}

abbrev E : List Node → ℕ
E ns = length (entry_bytes ns)

abbrev B : List Node → ℕ
B ns = length (body_bytes ns)

-- ---- its parts

module _ (n : ℕ) {c b : List ℕ} {i j : ℕ} {o : Source} {t : Stmts} (h : At (statements n) (ForStmt i j o t) c b) where
  for_source : At sources o (drop 2 c) (drop 2 b)
  for_source = record {
    spells = first (flat_source o) (flat_stmt (Block t)) (in_node h.spells);
    ok = (and_yes (every_source any_text fits o) (every any_text fits t) h.ok.0).0;
  }

  for_block : (l : ℕ) → l ≡ n + 1 → At (statements l) (Block t) (drop (2 + E (flat_source o)) c) (drop (2 + B (flat_source o)) b)
  for_block l q = record {
    spells = second_from (flat_source o) (flat_stmt (Block t)) 2 2 c b (in_node h.spells);
    ok = ((and_yes (every_source any_text fits o) (every any_text fits t) h.ok.0).1, omega (arith, q, h.ok.1));
  }

  for_name : source_text (get_or c 2 0) (get_or b 2 0) ≡ source_name o
  for_name = ap (λ (x : ℕ). source_text x (get_or b 2 0)) (sym (byte_here c 2)) ∙ ap (source_text (get_or (drop 2 c) 0 0)) (sym (byte_here b 2)) ∙ source_named for_source

  for_sizes : (2 + (E (flat_source o) + E (flat_stmt (Block t))) ≤ length c) × (2 + (B (flat_source o) + B (flat_stmt (Block t))) ≤ length b)
  for_sizes = (omega (arith, fits_nodes h.spells, entries_both (flat_source o) (flat_stmt (Block t))), omega (arith, fits_bodies h.spells, bodies_both (flat_source o) (flat_stmt (Block t))))

-- a register for the index, then the source
from_start : {n : ℕ} (s : Low) {a : Low} {p : Done} {buf : List ℕ} → a ≡ step_event Reg s → p ≡ record { cont = 2; body = 2; lbl = n; low = a } → Made (Reg ∷ []) 2 2 n s buf p buf
from_start s ea e = rw e (record { cont = refl; body = refl; lbl = refl; did = record { state = ea; buffer = refl } })

-- ---- what its steps ask, for the For that is read

pub record IsFor (c b : List ℕ) (n : ℕ) : Type 0 where
  pub index : ℕ
  pub item : ℕ
  pub over : Source
  pub body : Stmts
  pub spelt : At (statements n) (ForStmt index item over body) c b

pub is_a_for : (n : ℕ) {c b : List ℕ} {s : Low} {buf : List ℕ} → get_or c 0 0 ≡ 5 → Reads (statements n) c b s buf → IsFor c b n
is_a_for n {c} {b} z h = read_as n z (λ t i. by_kind i) h
  where
    by_kind : {t : Stmt} → Is 5 t → At (statements n) t c b → IsFor c b n
    by_kind (is_for {i = i} {v = j} {s = o} {b = t}) d = record { index = i; item = j; over = o; body = t; spelt = d }

module _ {c b : List ℕ} {n : ℕ} (f : IsFor c b n) where
  -- there is a node and a byte behind the For's own
  pub for_room : (4 ≤ length c) × (3 ≤ length b)
  for_room =
      let q = source_node (for_source n f.spelt) in
      (omega (arith, q.0, length-drop 2 c, (for_sizes n f.spelt).0), omega (arith, q.1, length-drop 2 b, (for_sizes n f.spelt).1))

  module _ {s a : Low} {p : Done} {buf : List ℕ} (rdy : Ready s buf) (ea : a ≡ step_event Reg s) (e : p ≡ record { cont = 2; body = 2; lbl = n; low = a }) where
    pub for_source_reads : ReadsAt sources c b p buf
    for_source_reads = made_reads (from_start s ea e) sources f.over c b (for_source n f.spelt) rdy (omega (arith, (for_sizes n f.spelt).0)) (omega (arith, (for_sizes n f.spelt).1))

    module _ {k : Bool} {q : Done} {buf₁ : List ℕ} (g₁ : Goes sources c b k p buf q buf₁) where
      source_made : (w : Place) × Made ((Reg ∷ []) ++ lower_source f.over w n (suc s.reg)) (2 + E (flat_source f.over)) (2 + B (flat_source f.over)) n s buf q buf₁
      source_made =
          let w = some_place k s.decls in
          (w.0, made_goes (from_start s ea e) sources f.over c b (for_source n f.spelt) g₁ w.0 w.1 (suc s.reg) (omega arith))

      pub head_asks : Ready q.low buf₁ × (q.lbl + 1 < 2 ^ 64)
      head_asks = (made_ready source_made.1 rdy, omega (arith, source_made.1.lbl, f.spelt.ok.1))

      module _ {i v x r : ℕ} {h : Done} {buf₂ : List ℕ} (g₂ : Emitted (for_head i v x r q.lbl q.low.reg) (q.lbl + 1) k q buf₁ h buf₂) where
        head_cont : h.cont ≡ 2 + E (flat_source f.over)
        head_cont = emitted_cont g₂ ∙ source_made.1.cont

        head_body : h.body ≡ 2 + B (flat_source f.over)
        head_body = emitted_body g₂ ∙ source_made.1.body

        block_here : At (statements h.lbl) (Block f.body) (drop h.cont c) (drop h.body b)
        block_here = rw (head_cont, head_body) (for_block n f.spelt h.lbl (emitted_lbl g₂ ∙ ap (λ (y : ℕ). y + 1) source_made.1.lbl))

        pub for_block_reads : ReadsAt (statements h.lbl) c b h buf₂
        for_block_reads = record {
          ready = emitted_ready g₂ head_asks.0;
          cont = omega (arith, head_cont, (for_sizes n f.spelt).0);
          body = omega (arith, head_body, (for_sizes n f.spelt).1);
          tree = Block f.body;
          spelt = block_here;
        }

        pub for_block_kind : get_or c h.cont 0 ≡ 2
        for_block_kind = block_kind f.body c b h.cont h.body block_here.spells

        pub for_falls : (0 < h.cont) × (h.cont ≤ length c)
        for_falls = (omega (arith, head_cont), for_block_reads.cont)

        pub tail_asks : {d : Done} {buf₃ : List ℕ} → Goes (statements h.lbl) c b k h buf₂ d buf₃ → Ready d.low buf₃
        tail_asks g = goes_ready (statements h.lbl) for_block_reads g

-- ---- what they give, for any For

module _ {c b : List ℕ} {n : ℕ} {buf : List ℕ} (z : get_or c 0 0 ≡ 5) {s a : Low} {p : Done} (ea : a ≡ step_event Reg s) (e₀ : p ≡ record { cont = 2; body = 2; lbl = n; low = a })
    {k : Bool} {x : ℕ} {q h d r : Done} {buf₁ buf₂ buf₃ buf₄ : List ℕ} (ex : x ≡ source_text (get_or c 2 0) (get_or b 2 0)) (g₁ : Goes sources c b k p buf q buf₁)
    (g₂ : Emitted (for_head (get_or b 0 0) (get_or b 1 0) x s.reg q.lbl q.low.reg) (q.lbl + 1) k q buf₁ h buf₂) (g₃ : Goes (statements h.lbl) c b k h buf₂ d buf₃)
    (g₄ : Emitted (for_tail (get_or b 0 0) s.reg q.low.reg h.lbl d.lbl d.low.reg) d.lbl k d buf₃ r buf₄) where
  for_made : (i v : ℕ) (o : Source) (t : Stmts) → At (statements n) (ForStmt i v o t) c b → Whole k n s buf r buf₄ (ForStmt i v o t)
  for_made i v o t e w kw =
      let u = s.reg in
      let y = suc u + source_regs o in
      let l = n + 1 + stmts_labels t in
      let S = lower_source o w n (suc u) in
      let bi : get_or b 0 0 ≡ i = first_body e.spells in
      let bv : get_or b 1 0 ≡ v = body_next e.spells in
      let bx : x ≡ source_name o = ex ∙ for_name n e in
      let m₁ = made_goes (from_start s ea e₀) sources o c b (for_source n e) g₁ w kw (suc u) (omega arith) in
      let k₁ = made_kept m₁ w kw in
      let r₁ : q.low.refused ≡ 0 → q.low.reg ≡ y = made_reg m₁ y (omega (arith, source_regs_lem o w n (suc u))) in
      let f₂ = g₂.made w k₁ in
      let H = for_head i v (source_name o) u n y w in
      let m₂ : Made ((Reg ∷ S) ++ H) (2 + E (flat_source o)) (2 + B (flat_source o)) (n + 1) s buf h buf₂ =
      record {
        cont = f₂.cont ∙ m₁.cont;
        body = f₂.body ∙ m₁.body;
        lbl = f₂.lbl ∙ ap (λ (z : ℕ). z + 1) m₁.lbl;
        did = did_if m₁.did (λ z. rw (bi, bv, bx, m₁.lbl, r₁ z)) f₂.did;
      } in
      let k₂ = made_kept m₂ w kw in
      let P = statements h.lbl in
      let at_block = for_block n e h.lbl m₂.lbl in
      let m₃ = made_goes m₂ P (Block t) c b at_block g₃ (inner w) kw (y + 2) (omega (arith, regs_append S H, source_regs_lem o w n (suc u))) in
      let Bk = or_nop t (inner w) (n + 1) (lower_stmts t (inner w) (n + 1) (y + 2)) in
      let k₃ = made_kept m₃ w kw in
      let r₃ : d.low.refused ≡ 0 → d.low.reg ≡ y + 2 + stmts_regs t =
      made_reg m₃ (y + 2 + stmts_regs t) (omega (arith, regs_append ((Reg ∷ S) ++ H) Bk, regs_append S H, source_regs_lem o w n (suc u), block_regs t (inner w) (n + 1) (y + 2))) in
      let back : d.low.refused ≡ 0 → q.low.refused ≡ 0 =
      λ z. unrefused f₂.did (unrefused (g₃.goes (Block t) (rw (m₂.cont, m₂.body) at_block) w k₂).did z) in
      let f₄ = g₄.made (inner w) k₃ in
      let U = for_tail i u y (n + 1) l (y + 2 + stmts_regs t) (inner w) in
      let d₄ = did_if {gs = U} m₃.did (λ z. rw (bi, r₁ (back z), m₂.lbl, m₃.lbl, r₃ z)) f₄.did in
      record {
        cont = f₄.cont ∙ m₃.cont ∙ omega (arith, entries_both (flat_source o) (flat_stmt (Block t)));
        body = f₄.body ∙ m₃.body ∙ omega (arith, bodies_both (flat_source o) (flat_stmt (Block t)));
        lbl = f₄.lbl ∙ m₃.lbl ∙ omega arith;
        did = did_as (append_assoc ((Reg ∷ S) ++ H) Bk U ∙ ap (λ (z : List Event). Reg ∷ z) (append_assoc S H (Bk ++ U))) d₄;
      }

  pub for_front : Front (statements n) c b k n s buf r buf₄
  for_front = made_as_kind n z (λ t i. by_kind i)
    where
      by_kind : {t : Stmt} → Is 5 t → At (statements n) t c b → Whole k n s buf r buf₄ t
      by_kind (is_for {i = i} {v = v} {s = o} {b = t}) e = for_made i v o t e
