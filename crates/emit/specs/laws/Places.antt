-- Parts of a tree, one after the other: what is made of the first, then of the next.
use Rattle.std.specs.Prelude.{ℕ, ◌+◌, ◌≤◌, ◌≡◌, refl, Bool, List, [], ◌∷◌, ◌++◌, length, drop}
use Rattle.std.proofs.Common.{ap, sym, ◌∙◌, arith}
use Rattle.ast.specs.Flat.{entry_bytes, body_bytes}
use Rattle.opc.specs.Op.{Instr, op}
use Rattle.opc.specs.Record.{items_of, encode_instr}
use Rattle.compiler.specs.Lower.{Place, Event, Reg, Push}
use Rattle.compiler.proofs.laws.Accepted.{regs_in}
use Rattle.emit.specs.declared.Low.{Low}
use Rattle.emit.specs.declared.Done.{Done}
use Rattle.emit.specs.inner.Run.{kept, Ready, PushesOp, Loads}
use Rattle.emit.specs.inner.Made.{Made, Part, At, Reads, Front, ReadsAt, Goes}
use Rattle.emit.specs.laws.Laws.{did_if, did_as, reg_is, unrefused, ready_did, kept_did, some_place}
use Rattle.emit.specs.laws.Spell.{from, from_drop, length_from, fits_nodes, fits_bodies}

-- the same events, bytes and label
pub made_as : {es fs : List Event} {u v l x y m : ℕ} {s : Low} {buf : List ℕ} {d : Done} {buf' : List ℕ}
    → es ≡ fs → u ≡ x → v ≡ y → l ≡ m → Made es u v l s buf d buf' → Made fs x y m s buf d buf'
made_as e f g h k = record { cont = k.cont ∙ f; body = k.body ∙ g; lbl = k.lbl ∙ h; did = did_as e k.did }

-- no events so far
pub made_start : {u v l : ℕ} {s : Low} {buf : List ℕ} {p : Done} → p ≡ record { cont = u; body = v; lbl = l; low = s } → Made [] u v l s buf p buf
made_start e = rw e (record { cont = refl; body = refl; lbl = refl; did = record { state = refl; buffer = refl } })

-- ---- after the events

module _ {es : List Event} {u v l : ℕ} {s : Low} {buf : List ℕ} {d : Done} {buf₁ : List ℕ} (m : Made es u v l s buf d buf₁) where
  pub made_ready : Ready s buf → Ready d.low buf₁
  made_ready r = ready_did r m.did

  pub made_kept : {k : Bool} (w : Place) → k ≡ kept s.decls w.section → k ≡ kept d.low.decls w.section
  made_kept w e = kept_did w e m.did

  -- the register, where nothing is refused
  pub made_reg : (q : ℕ) → q ≡ s.reg + regs_in es → d.low.refused ≡ 0 → d.low.reg ≡ q
  made_reg q e z = reg_is m.did z ∙ sym e

  -- an instruction: i is pushed, which is j where nothing is refused
  pub made_push : {k : Bool} (w : Place) → k ≡ kept s.decls w.section → {r : Done} {bs buf₂ : List ℕ} (i j : Instr)
      → (r.cont ≡ d.cont) × (r.body ≡ d.body) × (r.lbl ≡ d.lbl) × PushesOp k d.low bs buf₁ r.low buf₂
      → items_of (op i) ≡ [] → bs ≡ encode_instr i d.low.items → (d.low.refused ≡ 0 → i ≡ j) → Made (es ++ (Push w j ∷ [])) u v l s buf r buf₂
  made_push w e i j h n b f = record {
    cont = h.0 ∙ m.cont;
    body = h.1 ∙ m.body;
    lbl = h.2 ∙ m.lbl;
    did = did_if m.did (λ z. ap (λ (o : Instr). Push w o ∷ []) (f z)) (h.3 w i n b (made_kept w e));
  }

  pub made_load : {k : Bool} (w : Place) → k ≡ kept s.decls w.section → {r : Done} {bs buf₂ : List ℕ} (i j : Instr)
      → (r.cont ≡ d.cont) × (r.body ≡ d.body) × (r.lbl ≡ d.lbl) × Loads k d.low bs buf₁ r.low buf₂
      → items_of (op i) ≡ [] → bs ≡ encode_instr i d.low.items → (d.low.refused ≡ 0 → i ≡ j) → Made (es ++ (Reg ∷ (Push w j ∷ []))) u v l s buf r buf₂
  made_load w e i j h n b f = record {
    cont = h.0 ∙ m.cont;
    body = h.1 ∙ m.body;
    lbl = h.2 ∙ m.lbl;
    did = did_if m.did (λ z. ap (λ (o : Instr). Reg ∷ (Push w o ∷ [])) (f z)) (h.3 w i n b (made_kept w e));
  }

  module _ {X : Type 0} (P : Part X) (t : X) (c b : List ℕ) (a : At P t (drop u c) (drop v b)) where
    at_reached : At P t (drop d.cont c) (drop d.body b)
    at_reached = rw (m.cont, m.body) a

    -- the next part may be read
    pub made_reads : Ready s buf → u ≤ length c → v ≤ length b → ReadsAt P c b d buf₁
    made_reads r i j = record { ready = made_ready r; cont = omega (arith, m.cont, i); body = omega (arith, m.body, j); tree = t; spelt = at_reached }

    -- the next part is made
    pub made_goes : {k : Bool} {r : Done} {buf₂ : List ℕ} → Goes P c b k d buf₁ r buf₂ → (w : Place) → k ≡ kept s.decls w.section → (q : ℕ) → q ≡ s.reg + regs_in es
        → Made (es ++ P.emits t w l q) (u + length (entry_bytes (P.nodes t))) (v + length (body_bytes (P.nodes t))) (P.next t l) s buf r buf₂
    made_goes g w e q f =
        let h = g.goes t at_reached w (made_kept w e) in
        record {
          cont = h.cont ∙ ap (λ (i : ℕ). i + length (entry_bytes (P.nodes t))) m.cont;
          body = h.body ∙ ap (λ (i : ℕ). i + length (body_bytes (P.nodes t))) m.body;
          lbl = h.lbl ∙ ap (P.next t) m.lbl;
          did = did_if m.did (λ z. rw (m.lbl, made_reg q f z)) h.did;
        }

    -- nothing is refused behind it, so nothing before it
    pub goes_unrefused : {k : Bool} {r : Done} {buf₂ : List ℕ} → Goes P c b k d buf₁ r buf₂ → (w : Place) → k ≡ kept s.decls w.section → r.low.refused ≡ 0 → d.low.refused ≡ 0
    goes_unrefused g w e z = unrefused (g.goes t at_reached w (made_kept w e)).did z

-- ---- a function at a place, by the function at the front

module _ {X : Type 0} (P : Part X) where
  pub at_from : (t : X) (u v : ℕ) (c b : List ℕ) → At P t (drop u c) (drop v b) → At P t (from u c) (from v b)
  at_from t u v c b h = rw (from_drop u c, from_drop v b) h

  pub reads_from : {c b : List ℕ} {p : Done} {buf : List ℕ} → ReadsAt P c b p buf → Reads P (from p.cont c) (from p.body b) p.low buf
  reads_from {c} {b} {p} h = record { ready = h.ready; tree = h.tree; spelt = at_from h.tree p.cont p.body c b h.spelt }

  -- what is read there ends within
  pub front_within : {c b : List ℕ} {k : Bool} {n : ℕ} {s : Low} {buf : List ℕ} {d : Done} {buf' : List ℕ} → Reads P c b s buf → Front P c b k n s buf d buf'
      → (d.cont ≤ length c) × (d.body ≤ length b)
  front_within {k = k} {s = s} h f =
      let w = some_place k s.decls in
      let m = f.front h.tree h.spelt w.0 w.1 in
      (omega (arith, m.cont, fits_nodes h.spelt.spells), omega (arith, m.body, fits_bodies h.spelt.spells))

  pub at_within : (c b : List ℕ) (p : Done) {k : Bool} {buf : List ℕ} {d : Done} {buf' : List ℕ} → ReadsAt P c b p buf → Front P (from p.cont c) (from p.body b) k p.lbl p.low buf d buf'
      → (p.cont + d.cont ≤ length c) × (p.body + d.body ≤ length b)
  at_within c b p h f =
      let q = front_within (reads_from h) f in
      (omega (arith, q.0, length_from p.cont c, h.cont), omega (arith, q.1, length_from p.body b, h.body))

  pub at_goes : (c b : List ℕ) (k : Bool) (p : Done) (buf : List ℕ) {r q : Done} {buf' : List ℕ} → Front P (from p.cont c) (from p.body b) k p.lbl p.low buf r buf'
      → q ≡ record { cont = p.cont + r.cont; body = p.body + r.body; lbl = r.lbl; low = r.low } → Goes P c b k p buf q buf'
  at_goes c b k p buf {r} {q} {buf'} f e = record {
    goes = λ t h w kw.
        let m = f.front t (at_from t p.cont p.body c b h) w kw in
        rw e (record { cont = ap (λ (i : ℕ). p.cont + i) m.cont; body = ap (λ (i : ℕ). p.body + i) m.body; lbl = m.lbl; did = m.did });
  }
