-- If: its arms and their rest.
use Rattle.std.specs.Prelude.{ℕ, suc, ◌+◌, ◌-◌, ◌*◌, ◌≤◌, ◌<◌, ◌^◌, ◌≡◌, refl, Bool, true, false, cond, ◌&&◌, List, [], ◌∷◌, ◌++◌, T, length, drop, get_or}
use Rattle.std.proofs.Common.{sym, ◌∙◌, append_assoc, arith, eq-eqb, ne_eqb}
use Rattle.std.proofs.Math.Path.{ap}
use Rattle.std.proofs.Math.Facts.{and_yes}
use Rattle.lent.specs.Bytes.{be_value, be_bytes, part, splice}
use Rattle.opc.specs.Op.{Jmpf, JmpCnd, Jmpa, Nop, instr}
use Rattle.ast.specs.Tree.{Expr, Stmt, Block, IfStmt, Stmts, no_stmts, more_stmts, Rest, Else, Elif}
use Rattle.ast.specs.Node.{Node}
use Rattle.ast.specs.Flat.{flat_expr, flat_stmt, flat_rest, stmt_count, elif_count, entry_bytes, body_bytes}
use Rattle.ast.specs.Limits.{every_expr, every, every_rest}
use Rattle.compiler.specs.Lower.{Place, Event, push, prev, or_nop, expr_regs, stmts_regs, stmt_labels, stmts_labels, rest_labels, else_labels, lower_expr, lower_stmt, lower_stmts, lower_rest}
use Rattle.emit.specs.declared.Low.{Low}
use Rattle.emit.specs.declared.Done.{Done}
use Rattle.emit.specs.inner.Run.{kept, after_events, wrote, Ready, Did}
use Rattle.emit.specs.inner.Made.{Spells, Made, At, Reads, Front, ReadsAt, Goes}
use Rattle.emit.specs.laws.Laws.{did_then, did_as, ready_did, after_decls, some_place}
use Rattle.emit.specs.laws.Spell.{in_node, first, second_from, first_body, fits_bodies}
use Rattle.emit.specs.laws.Regs.{expr_regs_lem}
use Rattle.emit.specs.laws.Places.{made_as, made_start, made_reads, made_goes, made_ready, made_kept}
use Rattle.expr.specs.inner.Parts.{exprs}
use Rattle.stmt.specs.inner.Parts.{any_text, fits, HeadPart, Emitted, retarget, written, end_label, statements, lists, heads}
use Rattle.stmt.specs.laws.ArmParts.{ArmPart, whole_if, arms, rests}
use Rattle.stmt.specs.laws.Regs.{block_regs}
use Rattle.stmt.specs.laws.Patch.{Next, did_at, next_did, did_first, head_did, end_did, retarget_last, written_word}
use Rattle.stmt.specs.laws.Ends.{Same, did_same, did_grows}
use Rattle.stmt.specs.laws.Leaves.{emitted_ready, emitted_lbl, emitted_cont, emitted_body}
use Rattle.stmt.specs.laws.Kinds.{Is, is_if, Whole, read_as, made_as_kind, stmt_room, block_kind, expr_size, entries_both, bodies_both, in_at, count_here, reads_nodes, reads_bodies, goes_ready, goes_cont, goes_body, goes_lbl}
use Rattle.compiler.proofs.laws.Events.{regs_in, regs_append, else_labels_lem}

-- ---- the parts of an arm alone

abbrev E : List Node → ℕ
E ns = length (entry_bytes ns)

abbrev B : List Node → ℕ
B ns = length (body_bytes ns)

module _ (c b : List ℕ) (u v l x : ℕ) (t : HeadPart) (h : At (heads l x) t (drop u c) (drop v b)) where
  head_test : At exprs t.test (drop u c) (drop v b)
  head_test = record { spells = first (flat_expr t.test) (flat_stmt (Block t.body)) h.spells; ok = h.ok.0 }

  -- its Block, from the label n on
  head_block : (n : ℕ) → n ≡ l + 1 → At (statements n) (Block t.body) (drop (u + E (flat_expr t.test)) c) (drop (v + B (flat_expr t.test)) b)
  head_block n q = record { spells = second_from (flat_expr t.test) (flat_stmt (Block t.body)) u v c b h.spells; ok = (h.ok.1, omega (arith, q, h.ok.2)) }

-- ---- `arm`: what its steps ask, for the arm that is read

module _ (x : ℕ) (c b : List ℕ) (p : Done) {buf : List ℕ} (h : ReadsAt (heads p.lbl x) c b p buf) where
  pub arm_reads : ReadsAt exprs c b p buf
  arm_reads = record { ready = h.ready; cont = h.cont; body = h.body; tree = h.tree.test; spelt = head_test c b p.cont p.body p.lbl x h.tree h.spelt }

  arm_label : p.lbl + 1 < 2 ^ 64
  arm_label = omega (arith, h.spelt.ok.2)

  module _ {k : Bool} {t : Done} {buf₁ : List ℕ} (g₁ : Goes exprs c b k p buf t buf₁) where
    pub test_ready : Ready t.low buf₁
    test_ready = goes_ready exprs arm_reads g₁

    pub test_label : t.lbl + 1 < 2 ^ 64
    unfolding arm_reads
    test_label = omega (arith, goes_lbl exprs arm_reads g₁, arm_label)

    module _ {j : Done} {buf₂ : List ℕ} (g₂ : Emitted (λ w. push w t.lbl (JmpCnd Jmpf (prev t.low.reg) 0) ∷ []) (t.lbl + 1) k t buf₁ j buf₂) where
      jump_label : j.lbl ≡ p.lbl + 1
      unfolding arm_reads
      jump_label = emitted_lbl g₂ ∙ ap (λ (i : ℕ). i + 1) (goes_lbl exprs arm_reads g₁)

      jump_cont : j.cont ≡ p.cont + E (flat_expr h.tree.test)
      unfolding arm_reads
      jump_cont = emitted_cont g₂ ∙ goes_cont exprs arm_reads g₁

      jump_body : j.body ≡ p.body + B (flat_expr h.tree.test)
      unfolding arm_reads
      jump_body = emitted_body g₂ ∙ goes_body exprs arm_reads g₁

      pub jump_ready : Ready j.low buf₂
      jump_ready = emitted_ready g₂ test_ready

      arm_sizes : (p.cont + (E (flat_expr h.tree.test) + E (flat_stmt (Block h.tree.body))) ≤ length c) × (p.body + (B (flat_expr h.tree.test) + B (flat_stmt (Block h.tree.body))) ≤ length b)
      arm_sizes =
          let t = flat_expr h.tree.test in
          let s = flat_stmt (Block h.tree.body) in
          (omega (arith, reads_nodes (heads p.lbl x) h, entries_both t s), omega (arith, reads_bodies (heads p.lbl x) h, bodies_both t s))

      arm_block_at : At (statements j.lbl) (Block h.tree.body) (drop j.cont c) (drop j.body b)
      arm_block_at = rw (jump_cont, jump_body) (head_block c b p.cont p.body p.lbl x h.tree h.spelt j.lbl jump_label)

      pub arm_block_reads : ReadsAt (statements j.lbl) c b j buf₂
      arm_block_reads = record {
        ready = jump_ready;
        cont = omega (arith, jump_cont, arm_sizes.0);
        body = omega (arith, jump_body, arm_sizes.1);
        tree = Block h.tree.body;
        spelt = arm_block_at;
      }

      pub arm_block_kind : get_or c j.cont 0 ≡ 2
      arm_block_kind = block_kind h.tree.body c b j.cont j.body arm_block_at.spells

      -- the Block stands behind the condition
      pub arm_falls : (p.cont < j.cont) × (j.cont ≤ length c)
      arm_falls = (omega (arith, jump_cont, expr_size h.tree.test), arm_block_reads.cont)

      module _ {d : Done} {buf₃ : List ℕ} (g₃ : Goes (statements j.lbl) c b k j buf₂ d buf₃) where
        block_label : d.lbl ≡ p.lbl + 1 + stmts_labels h.tree.body
        unfolding arm_block_reads
        block_label = goes_lbl (statements j.lbl) arm_block_reads g₃ ∙ ap (λ (i : ℕ). i + stmts_labels h.tree.body) jump_label

        pub block_ready : Ready d.low buf₃
        block_ready = goes_ready (statements j.lbl) arm_block_reads g₃

        pub block_room : d.lbl + 1 < 2 ^ 64
        block_room = omega (arith, block_label, h.spelt.ok.2)

        pub end_ready : {e : Done} {buf₄ : List ℕ} → Emitted (λ w. push w d.lbl (Jmpa x) ∷ []) (d.lbl + 1) k d buf₃ e buf₄ → Ready e.low buf₄
        end_ready g₄ = emitted_ready g₄ block_ready

-- ---- what they give, for any arm

module _ (x : ℕ) (c b : List ℕ) (p : Done) {buf : List ℕ} (rdy : Ready p.low buf) {k : Bool} {t j d e : Done} {buf₁ buf₂ buf₃ buf₄ buf₅ : List ℕ}
    (g₁ : Goes exprs c b k p buf t buf₁) (g₂ : Emitted (λ w. push w t.lbl (JmpCnd Jmpf (prev t.low.reg) 0) ∷ []) (t.lbl + 1) k t buf₁ j buf₂)
    (g₃ : Goes (statements j.lbl) c b k j buf₂ d buf₃) (g₄ : Emitted (λ w. push w d.lbl (Jmpa x) ∷ []) (d.lbl + 1) k d buf₃ e buf₄)
    (e₅ : buf₅ ≡ retarget t.low j.low e.lbl buf₄) where
  arm_made : (a : HeadPart) → At (heads p.lbl x) a (drop p.cont c) (drop p.body b) → (w : Place) → k ≡ kept p.low.decls w.section
      → Made ((heads p.lbl x).emits a w p.lbl p.low.reg) (p.cont + E ((heads p.lbl x).nodes a)) (p.body + B ((heads p.lbl x).nodes a)) ((heads p.lbl x).next a p.lbl) p.low buf e buf₅
  arm_made a h w kw =
      let n = p.lbl in
      let q = p.low.reg + expr_regs a.test in
      let l = n + 1 + stmts_labels a.body in
      let m₁ = g₁.goes a.test (head_test c b p.cont p.body n x a h) w kw in
      let k₁ = made_kept m₁ w kw in
      let x₁ : Next t.low q = next_did {q = p.low.reg} (λ z. refl) (ap (λ (i : ℕ). p.low.reg + i) (sym (expr_regs_lem a.test w n p.low.reg))) m₁.did in
      let m₂ = g₂.made w k₁ in
      let k₂ = made_kept m₂ w k₁ in
      let d₂ : Did (push w n (JmpCnd Jmpf (prev q) 0) ∷ []) t.low buf₁ j.low buf₂ =
      did_at (λ i. push w n (JmpCnd Jmpf (prev i) 0) ∷ []) x₁ (rw m₁.lbl at m₂.did) in
      let x₂ : Next j.low q = next_did {q = q} x₁ (omega arith) d₂ in
      let l₂ : j.lbl ≡ n + 1 = m₂.lbl ∙ ap (λ (i : ℕ). i + 1) m₁.lbl in
      let c₂ : j.cont ≡ p.cont + E (flat_expr a.test) = m₂.cont ∙ m₁.cont in
      let b₂ : j.body ≡ p.body + B (flat_expr a.test) = m₂.body ∙ m₁.body in
      let m₃ = g₃.goes (Block a.body) (rw (c₂, b₂) (head_block c b p.cont p.body n x a h j.lbl l₂)) w k₂ in
      let k₃ = made_kept m₃ w k₂ in
      let bs : ℕ → ℕ → List Event = λ i z. or_nop a.body w i (lower_stmts a.body w i z) in
      let d₃ : Did (bs (n + 1) q) j.low buf₂ d.low buf₃ = did_at (λ i. bs (n + 1) i) x₂ (rw l₂ at m₃.did) in
      let l₃ : d.lbl ≡ l = m₃.lbl ∙ ap (λ (i : ℕ). i + stmts_labels a.body) l₂ in
      let m₄ = g₄.made w k₃ in
      let d₄ : Did (push w l (Jmpa x) ∷ []) d.low buf₃ e.low buf₄ = rw l₃ at m₄.did in
      let l₄ : e.lbl ≡ l + 1 = m₄.lbl ∙ ap (λ (i : ℕ). i + 1) l₃ in
      let run = head_did w n (prev q) l (l + 1) x Jmpf (made_ready m₁ rdy) d₂ d₃ d₄ (e₅ ∙ ap (λ (i : ℕ). retarget t.low j.low i buf₄) l₄) in
      record {
        cont = m₄.cont ∙ m₃.cont ∙ ap (λ (i : ℕ). i + E (flat_stmt (Block a.body))) c₂ ∙ omega (arith, entries_both (flat_expr a.test) (flat_stmt (Block a.body)));
        body = m₄.body ∙ m₃.body ∙ ap (λ (i : ℕ). i + B (flat_stmt (Block a.body))) b₂ ∙ omega (arith, bodies_both (flat_expr a.test) (flat_stmt (Block a.body)));
        lbl = l₄;
        did = did_then m₁.did run;
      }

  pub arm_goes : Goes (heads p.lbl x) c b k p buf e buf₅
  arm_goes = record { goes = arm_made }

-- ---- an arm and its rest

module _ (c b : List ℕ) (u v l e m : ℕ) (t : ArmPart) (h : At (arms l e m) t (drop u c) (drop v b)) where
  arm_fits : T (every_expr any_text fits t.test) × T (every any_text fits t.body) × T (every_rest any_text fits t.rest)
  arm_fits =
      let p = and_yes (every_expr any_text fits t.test) (every any_text fits t.body && every_rest any_text fits t.rest) h.ok.2 in
      let q = and_yes (every any_text fits t.body) (every_rest any_text fits t.rest) p.1 in
      (p.0, q.0, q.1)

  arm_split : Spells ((flat_expr t.test ++ flat_stmt (Block t.body)) ++ flat_rest t.rest) (drop u c) (drop v b)
  arm_split = rw (append_assoc (flat_expr t.test) (flat_stmt (Block t.body)) (flat_rest t.rest)) h.spells

  pub arm_head : (x : ℕ) → At (heads l x) (record { test = t.test; body = t.body }) (drop u c) (drop v b)
  arm_head x = record { spells = first (flat_expr t.test ++ flat_stmt (Block t.body)) (flat_rest t.rest) arm_split; ok = (arm_fits.0, arm_fits.1, omega (arith, h.ok.3)) }

  pub arm_rest : (n : ℕ) → n ≡ l + 1 + stmts_labels t.body + 1
      → At (rests n e m) t.rest (drop (u + E (flat_expr t.test ++ flat_stmt (Block t.body))) c) (drop (v + B (flat_expr t.test ++ flat_stmt (Block t.body))) b)
  arm_rest n q = record {
    spells = second_from (flat_expr t.test ++ flat_stmt (Block t.body)) (flat_rest t.rest) u v c b arm_split;
    ok = (h.ok.0, h.ok.1, arm_fits.2, omega (arith, q, h.ok.3));
  }

module _ (e m x : ℕ) {c b : List ℕ} {p : Done} {buf : List ℕ} where
  pub head_reads : ReadsAt (arms p.lbl e m) c b p buf → ReadsAt (heads p.lbl x) c b p buf
  head_reads h = record { ready = h.ready; cont = h.cont; body = h.body; tree = record { test = h.tree.test; body = h.tree.body }; spelt = arm_head c b p.cont p.body p.lbl e m h.tree h.spelt x }

  module _ {k : Bool} {a : Done} {buf₁ : List ℕ} (g : Goes (heads p.lbl x) c b k p buf a buf₁) where
    pub rest_reads : ReadsAt (arms p.lbl e m) c b p buf → ReadsAt (rests a.lbl e m) c b a buf₁
    unfolding head_reads
    rest_reads h =
        let P = heads p.lbl x in
        let f = head_reads h in
        let ns = flat_expr h.tree.test ++ flat_stmt (Block h.tree.body) in
        let ec : a.cont ≡ p.cont + E ns = goes_cont P f g in
        let eb : a.body ≡ p.body + B ns = goes_body P f g in
        record {
          ready = goes_ready P f g;
          cont = omega (arith, ec, reads_nodes P f);
          body = omega (arith, eb, reads_bodies P f);
          tree = h.tree.rest;
          spelt = rw (ec, eb) (arm_rest c b p.cont p.body p.lbl e m h.tree h.spelt a.lbl (goes_lbl P f g));
        }

    -- the jump to the end gets its target behind all the others
    pub arms_goes : Ready p.low buf → {r : Done} {buf₂ : List ℕ} → Goes (rests a.lbl e m) c b k a buf₁ r buf₂
        → Goes (arms p.lbl e m) c b k p buf r (cond (written k a.low) (splice buf₂ (16 * (a.low.recs - 1) + 8) (be_bytes 8 r.lbl)) buf₂)
    arms_goes rdy {r} {buf₂} g₂ = record { goes = λ t h w kw. by_tree t h w kw }
      where
        by_tree : (t : ArmPart) → At (arms p.lbl e m) t (drop p.cont c) (drop p.body b) → (w : Place) → k ≡ kept p.low.decls w.section
            → Made (lower_stmt (whole_if t) w p.lbl p.low.reg) (p.cont + E ((arms p.lbl e m).nodes t)) (p.body + B ((arms p.lbl e m).nodes t)) (p.lbl + stmt_labels (whole_if t)) p.low buf r
            (cond (written k a.low) (splice buf₂ (16 * (a.low.recs - 1) + 8) (be_bytes 8 r.lbl)) buf₂)
        by_tree t h w kw =
            let n = p.lbl in
            let q₀ = p.low.reg in
            let q = q₀ + expr_regs t.test in
            let l = n + 1 + stmts_labels t.body in
            let bs = or_nop t.body w (n + 1) (lower_stmts t.body w (n + 1) q) in
            let C = lower_expr t.test w n q₀ in
            let J = push w n (JmpCnd Jmpf (prev q) (l + 1)) in
            let H = C ++ (J ∷ bs) in
            let m₁ = g.goes (record { test = t.test; body = t.body }) (arm_head c b p.cont p.body n e m t h x) w kw in
            let d₁ : Did (H ++ (push w l (Jmpa x) ∷ [])) p.low buf a.low buf₁ = did_as (sym (append_assoc C (J ∷ bs) (push w l (Jmpa x) ∷ []))) m₁.did in
            let es : regs_in (C ++ (J ∷ (bs ++ (push w l (Jmpa x) ∷ [])))) ≡ expr_regs t.test + stmts_regs t.body =
            omega (arith, regs_append C (J ∷ (bs ++ (push w l (Jmpa x) ∷ []))), regs_append bs (push w l (Jmpa x) ∷ []), expr_regs_lem t.test w n q₀, block_regs t.body w (n + 1) q) in
            let x₁ : Next a.low (q + stmts_regs t.body) = next_did {q = q₀} (λ z. refl) (omega (arith, es)) m₁.did in
            let k₁ = made_kept m₁ w kw in
            let ns = flat_expr t.test ++ flat_stmt (Block t.body) in
            let m₂ = g₂.goes t.rest (rw (m₁.cont, m₁.body) (arm_rest c b p.cont p.body n e m t h a.lbl m₁.lbl)) w k₁ in
            let end = l + 1 + rest_labels t.rest in
            let rs : ℕ → ℕ → List Event = λ i z. lower_rest t.rest w i z (i + rest_labels t.rest) in
            let R = rs (l + 1) (q + stmts_regs t.body) in
            let d₂ : Did R a.low buf₁ r.low buf₂ = did_at (λ z. rs (l + 1) z) x₁ (rw m₁.lbl at m₂.did) in
            let l₂ : r.lbl ≡ end = m₂.lbl ∙ ap (λ (i : ℕ). i + rest_labels t.rest) m₁.lbl in
            let A = push w l (Jmpa end) in
            let last : Did (push w l (Jmpa x) ∷ []) (after_events H p.low) (wrote H p.low buf) a.low buf₁ = did_first H (push w l (Jmpa x) ∷ []) d₁ in
            let kh : k ≡ kept (after_events H p.low).decls w.section = kw ∙ ap (λ (z : Bool). kept z w.section) (sym (after_decls H p.low)) in
            let patch = ap (λ (i : ℕ). cond (written k a.low) (splice buf₂ (16 * (a.low.recs - 1) + 8) (be_bytes 8 i)) buf₂) l₂ ∙ sym (retarget_last w (instr l (Jmpa x)) refl kh last end buf₂) in
            let run : Did (H ++ (A ∷ R)) p.low buf r.low _ = end_did w l x end H rdy d₁ d₂ patch in
            record {
              cont = m₂.cont ∙ ap (λ (i : ℕ). i + E (flat_rest t.rest)) m₁.cont ∙ omega (arith, entries_both ns (flat_rest t.rest), entries_both (flat_expr t.test) (flat_stmt (Block t.body)), entries_both (flat_expr t.test) (flat_stmt (Block t.body) ++ flat_rest t.rest), entries_both (flat_stmt (Block t.body)) (flat_rest t.rest));
              body = m₂.body ∙ ap (λ (i : ℕ). i + B (flat_rest t.rest)) m₁.body ∙ omega (arith, bodies_both ns (flat_rest t.rest), bodies_both (flat_expr t.test) (flat_stmt (Block t.body)), bodies_both (flat_expr t.test) (flat_stmt (Block t.body) ++ flat_rest t.rest), bodies_both (flat_stmt (Block t.body)) (flat_rest t.rest));
              lbl = l₂ ∙ omega arith;
              did = did_as (sym (append_assoc H (A ∷ []) R) ∙ ap (λ (y : List Event). y ++ R) (append_assoc C (J ∷ bs) (A ∷ []))) run;
            }

    -- what it leaves behind: the words of the records before it, and of its own jump
    pub arm_leaves : ReadsAt (heads p.lbl x) c b p buf → x < 2 ^ 64 → (p.low.recs ≤ a.low.recs) × Same p.low.recs buf buf₁
        × (written k a.low ≡ true → (p.low.recs + 1 ≤ a.low.recs) × (a.low.recs - 1 < 1024) × (be_value (part buf₁ (16 * (a.low.recs - 1) + 8) 8) ≡ x))
    arm_leaves f lt =
        let w = some_place k p.low.decls in
        let t = f.tree in
        let n = p.lbl in
        let q = p.low.reg + expr_regs t.test in
        let l = n + 1 + stmts_labels t.body in
        let C = lower_expr t.test w.0 n p.low.reg in
        let bs = or_nop t.body w.0 (n + 1) (lower_stmts t.body w.0 (n + 1) q) in
        let J = push w.0 n (JmpCnd Jmpf (prev q) (l + 1)) in
        let H = C ++ (J ∷ bs) in
        let A = push w.0 l (Jmpa x) in
        let d = (g.goes t f.spelt w.0 w.1).did in
        let d₁ : Did (H ++ (A ∷ [])) p.low buf a.low buf₁ = did_as (sym (append_assoc C (J ∷ bs) (A ∷ []))) d in
        let front : Did H p.low buf (after_events H p.low) (wrote H p.low buf) = record { state = refl; buffer = refl } in
        let kh : k ≡ kept (after_events H p.low).decls w.0.section = w.1 ∙ ap (λ (z : Bool). kept z w.0.section) (sym (after_decls H p.low)) in
        let word = written_word w.0 (instr l (Jmpa x)) refl kh (did_first H (A ∷ []) d₁) x (ready_did f.ready front) (λ y. refl) lt in
        (did_grows d, did_same f.ready d, λ h. let y = word h in (omega (arith, did_grows front, y.0), y.1, y.2))

-- ---- an If: its node, then its first arm

if_arm : {c b : List ℕ} {n : ℕ} {s : Low} {a : Done} → a ≡ record { cont = 2; body = 1; lbl = n; low = s } → (e m : ℕ) → e ≡ get_or b 0 0 → 2 + e + m ≡ get_or c 1 0 → (t : ArmPart) → At (statements n) (whole_if t) c b
    → At (arms a.lbl e m) t (drop 2 c) (drop 1 b)
if_arm q e m ee em t d =
    let x : e ≡ elif_count t.rest = ee ∙ first_body d.spells in
    record { spells = in_node d.spells; ok = (x, omega (arith, x, em, count_here d.spells), d.ok.0, rw q d.ok.1) }

module _ (n : ℕ) {c b : List ℕ} {s : Low} {buf : List ℕ} (z : get_or c 0 0 ≡ 3) where
  -- the numbers of the Elifs and of the else statements
  pub if_counts : Reads (statements n) c b s buf → (2 + get_or b 0 0 ≤ get_or c 1 0) × (1 ≤ length b)
  if_counts h = read_as n z (λ t i. by_kind i) h
    where
      by_kind : {t : Stmt} → Is 3 t → At (statements n) t c b → (2 + get_or b 0 0 ≤ get_or c 1 0) × (1 ≤ length b)
      by_kind is_if d = (omega (arith, first_body d.spells, count_here d.spells), omega (arith, fits_bodies d.spells))

  module _ {a : Done} (q : a ≡ record { cont = 2; body = 1; lbl = n; low = s }) (e m : ℕ) (ee : e ≡ get_or b 0 0) (em : 2 + e + m ≡ get_or c 1 0) where
    pub if_reads : Reads (statements n) c b s buf → ReadsAt (arms a.lbl e m) c b a buf
    if_reads h = read_as n z (λ t i. by_kind i) h
      where
        by_kind : {t : Stmt} → Is 3 t → At (statements n) t c b → ReadsAt (arms a.lbl e m) c b a buf
        by_kind (is_if {c = x} {b = y} {k = i}) d =
            let r : ArmPart = record { test = x; body = y; rest = i } in
            made_reads (made_start q) (arms a.lbl e m) r c b (if_arm q e m ee em r d) h.ready (stmt_room n h) (if_counts h).1

    pub if_front : {k : Bool} {r : Done} {buf' : List ℕ} → Goes (arms a.lbl e m) c b k a buf r buf' → Front (statements n) c b k n s buf r buf'
    if_front {k} {r} {buf'} g = made_as_kind n z (λ t i. by_kind i)
      where
        by_kind : {t : Stmt} → Is 3 t → At (statements n) t c b → Whole k n s buf r buf' t
        by_kind (is_if {c = x} {b = y} {k = i}) d w kw =
            let v : ArmPart = record { test = x; body = y; rest = i } in
            made_as refl (omega arith) (omega arith) (omega arith) (made_goes (made_start q) (arms a.lbl e m) v c b (if_arm q e m ee em v d) g w kw s.reg (omega arith))

-- ---- what follows a Block: an Elif is an arm, and else statements are a list

elif_end : (c : Expr) (s : Stmts) (k : Rest) (w : Place) (n r : ℕ) → lower_stmt (IfStmt c s k) w n r ≡ lower_rest (Elif c s k) w n r (n + rest_labels (Elif c s k))
elif_end c s k w n r = ap (λ (i : ℕ). lower_rest (Elif c s k) w n r i) (omega arith)

elif_arm : (c b : List ℕ) (p : Done) {a : Done} → a ≡ record { cont = p.cont + 2; body = p.body + 0; lbl = p.lbl; low = p.low } → (e j m : ℕ) → suc j ≡ e → (x : Expr) (s : Stmts) (k : Rest)
    → At (rests p.lbl e m) (Elif x s k) (drop p.cont c) (drop p.body b) → At (arms a.lbl j m) (record { test = x; body = s; rest = k }) (drop (p.cont + 2) c) (drop (p.body + 0) b)
elif_arm c b p q e j m ej x s k d =
    let f = and_yes (every_expr any_text fits x && every any_text fits s) (every_rest any_text fits k) d.ok.2 in
    let g = and_yes (every_expr any_text fits x) (every any_text fits s) f.0 in
    record {
      spells = in_at p.cont p.body c b d.spells;
      ok = (omega (arith, ej, d.ok.0), d.ok.1, and_both (every_expr any_text fits x) (every any_text fits s && every_rest any_text fits k) g.0 (and_both (every any_text fits s) (every_rest any_text fits k) g.1 f.1), rw q (omega (arith, d.ok.3)));
    }
  where
    and_both : (y z : Bool) → T y → T z → T (y && z)
    and_both true true h i = tt
    and_both true false h i = i
    and_both false z h i = absurd h

else_list : (c b : List ℕ) (p : Done) (e m : ℕ) (k : Stmts) → At (rests p.lbl e m) (Else k) (drop p.cont c) (drop p.body b) → At (lists p.lbl m) k (drop p.cont c) (drop p.body b)
else_list c b p e m k d = record { spells = d.spells; ok = (d.ok.1, d.ok.2, omega (arith, d.ok.3, else_labels_lem k)) }

else_end : (m : ℕ) (k : Stmts) (n : ℕ) → m ≡ stmt_count k → end_label m (n + stmts_labels k) ≡ n + else_labels k (stmts_labels k)
else_end m no_stmts n h = rw (eq-eqb m 0 h) (omega arith)
else_end m (more_stmts s k) n h = rw (ne_eqb m 0 (λ q. omega (arith, q, h))) (omega arith)

module _ (c b : List ℕ) (p : Done) {buf : List ℕ} (e m : ℕ) where
  module _ {a : Done} (z : e ≡ 0 → ⊥) (q : a ≡ record { cont = p.cont + 2; body = p.body + 0; lbl = p.lbl; low = p.low }) (j : ℕ) (ej : suc j ≡ e) where
    pub elif_reads : ReadsAt (rests p.lbl e m) c b p buf → ReadsAt (arms a.lbl j m) c b a buf
    elif_reads h = by_tree h.tree h.spelt (reads_nodes (rests p.lbl e m) h)
      where
        by_tree : (t : Rest) → At (rests p.lbl e m) t (drop p.cont c) (drop p.body b) → p.cont + E (flat_rest t) ≤ length c → ReadsAt (arms a.lbl j m) c b a buf
        by_tree (Else k) d l = absurd (z d.ok.0)
        by_tree (Elif x s k) d l = made_reads (made_start q) (arms a.lbl j m) (record { test = x; body = s; rest = k }) c b (elif_arm c b p q e j m ej x s k d) h.ready (omega (arith, l)) (omega (arith, h.body))

    pub elif_goes : {k : Bool} {r : Done} {buf' : List ℕ} → Goes (arms a.lbl j m) c b k a buf r buf' → Goes (rests p.lbl e m) c b k p buf r buf'
    elif_goes {k} {r} {buf'} g = record { goes = λ t d w kw. by_tree t d w kw }
      where
        by_tree : (t : Rest) → At (rests p.lbl e m) t (drop p.cont c) (drop p.body b) → (w : Place) → k ≡ kept p.low.decls w.section
            → Made ((rests p.lbl e m).emits t w p.lbl p.low.reg) (p.cont + E (flat_rest t)) (p.body + B (flat_rest t)) ((rests p.lbl e m).next t p.lbl) p.low buf r buf'
        by_tree (Else t) d w kw = absurd (z d.ok.0)
        by_tree (Elif x s t) d w kw =
            let y : ArmPart = record { test = x; body = s; rest = t } in
            let f = made_goes (made_start q) (arms a.lbl j m) y c b (elif_arm c b p q e j m ej x s t d) g w kw p.low.reg (omega arith) in
            made_as (elif_end x s t w p.lbl p.low.reg) (omega arith) (omega arith) (omega arith) f

  module _ (z : e ≡ 0) where
    pub else_reads : ReadsAt (rests p.lbl e m) c b p buf → ReadsAt (lists p.lbl m) c b p buf
    else_reads h = by_tree h.tree h.spelt
      where
        by_tree : (t : Rest) → At (rests p.lbl e m) t (drop p.cont c) (drop p.body b) → ReadsAt (lists p.lbl m) c b p buf
        by_tree (Else k) d = record { ready = h.ready; cont = h.cont; body = h.body; tree = k; spelt = else_list c b p e m k d }
        by_tree (Elif x s k) d = absurd (omega (arith, z, d.ok.0))

    module _ {k : Bool} {a : Done} {buf₁ : List ℕ} (g : Goes (lists p.lbl m) c b k p buf a buf₁) where
      pub else_asks : ReadsAt (rests p.lbl e m) c b p buf → Ready a.low buf₁ × (end_label m a.lbl < 2 ^ 64)
      else_asks h = by_tree h.tree h.spelt
        where
          by_tree : (t : Rest) → At (rests p.lbl e m) t (drop p.cont c) (drop p.body b) → Ready a.low buf₁ × (end_label m a.lbl < 2 ^ 64)
          by_tree (Else t) d =
              let f : ReadsAt (lists p.lbl m) c b p buf = record { ready = h.ready; cont = h.cont; body = h.body; tree = t; spelt = else_list c b p e m t d } in
              (goes_ready (lists p.lbl m) f g, rw (goes_lbl (lists p.lbl m) f g, else_end m t p.lbl d.ok.1) d.ok.3)
          by_tree (Elif x s t) d = absurd (omega (arith, z, d.ok.0))

      pub else_goes : {r : Done} {buf₂ : List ℕ} → Emitted (λ w. push w (end_label m a.lbl) Nop ∷ []) (end_label m a.lbl) k a buf₁ r buf₂ → Goes (rests p.lbl e m) c b k p buf r buf₂
      else_goes {r} {buf₂} f = record { goes = λ t d w kw. by_tree t d w kw }
        where
          by_tree : (t : Rest) → At (rests p.lbl e m) t (drop p.cont c) (drop p.body b) → (w : Place) → k ≡ kept p.low.decls w.section
              → Made ((rests p.lbl e m).emits t w p.lbl p.low.reg) (p.cont + E (flat_rest t)) (p.body + B (flat_rest t)) ((rests p.lbl e m).next t p.lbl) p.low buf r buf₂
          by_tree (Else t) d w kw =
              let m₁ = g.goes t (else_list c b p e m t d) w kw in
              let l : end_label m a.lbl ≡ p.lbl + else_labels t (stmts_labels t) = ap (end_label m) m₁.lbl ∙ else_end m t p.lbl d.ok.1 in
              let m₂ = (rw l at f).made w (made_kept m₁ w kw) in
              record { cont = m₂.cont ∙ m₁.cont; body = m₂.body ∙ m₁.body; lbl = m₂.lbl; did = did_then m₁.did m₂.did }
          by_tree (Elif x s t) d w kw = absurd (omega (arith, z, d.ok.0))
