-- Laws of events that are carried out: appended, after a refusal, the register and the room that they leave.
use Rattle.std.specs.Prelude.{ℕ, ◌+◌, ◌*◌, ◌≤◌, ◌<◌, ◌≡◌, refl, Bool, true, false, cond, not, ◌&&◌, ◌||◌, List, [], ◌∷◌, ◌++◌, map, leb, ltb, eqb, length}
use Rattle.std.proofs.Common.{sym, ap, ◌∙◌, arith, length-append, leb-false, ltb-false, eqb-true, eq-eqb, ne_eqb}
use Rattle.std.proofs.lemmas.Bool.{eqb-false}
use Rattle.lent.specs.Bytes.{splice, concat}
use Rattle.lent.specs.laws.Parts.{length_splice, splice_none}
use Rattle.sifv.specs.Value.{Single}
use Rattle.opc.specs.Op.{Instr, op}
use Rattle.opc.specs.Record.{items_of, item_bytes, encode_instr}
use Rattle.compiler.specs.Lower.{Decl, Main, Place, Event, Reg, Push, Below}
use Rattle.compiler.proofs.laws.Accepted.{regs_in}
use Rattle.emit.specs.declared.Low.{Low}
use Rattle.emit.specs.inner.Run.{kept, refuse, no_room, counted, instr_items, act, step_event, after_events, put_instr, goes, write, wrote, Ready, Did, PushesOp}
pub use Rattle.tables.specs.laws.ProgramLaws.{length_record}

-- a test, and what it says
pub data Is (b : Bool) : Type 0 where
  yes : b ≡ true → Is b
  no : b ≡ false → Is b

pub is : (b : Bool) → Is b
is true = yes refl
is false = no refl

-- ---- after a refusal nothing changes

pub after_refused : (es : List Event) (s : Low) → (s.refused ≡ 0 → ⊥) → after_events es s ≡ s
after_refused [] s h = refl
after_refused (e ∷ es) s h = rw (ne_eqb s.refused 0 h) (after_refused es s h)

pub wrote_refused : (es : List Event) (s : Low) (buf : List ℕ) → (s.refused ≡ 0 → ⊥) → wrote es s buf ≡ buf
wrote_refused [] s buf h = refl
wrote_refused (Reg ∷ es) s buf h = rw (ne_eqb s.refused 0 h) (wrote_refused es s buf h)
wrote_refused (Push w i ∷ es) s buf h = rw (ne_eqb s.refused 0 h) (wrote_refused es s buf h)
wrote_refused (Below ∷ es) s buf h = rw (ne_eqb s.refused 0 h) (wrote_refused es s buf h)

-- ---- one lot after the other

pub after_append : (es fs : List Event) (s : Low) → after_events (es ++ fs) s ≡ after_events fs (after_events es s)
after_append [] fs s = refl
after_append (e ∷ es) fs s = after_append es fs (step_event e s)

pub wrote_append : (es fs : List Event) (s : Low) (buf : List ℕ) → wrote (es ++ fs) s buf ≡ wrote fs (after_events es s) (wrote es s buf)
wrote_append [] fs s buf = refl
wrote_append (e ∷ es) fs s buf = wrote_append es fs (step_event e s) (write e s buf)

-- ---- what a state keeps

counted_decls : (k : Bool) (s : Low) (n : ℕ) → (counted k s n).decls ≡ s.decls
counted_decls true s n = refl
counted_decls false s n = refl

pub counted_reg : (k : Bool) (s : Low) (n : ℕ) → (counted k s n).reg ≡ s.reg
counted_reg true s n = refl
counted_reg false s n = refl

cond_decls : (b : Bool) (s t u : Low) → t.decls ≡ s.decls → u.decls ≡ s.decls → (cond b t u).decls ≡ s.decls
cond_decls true s t u p q = p
cond_decls false s t u p q = q

act_decls : (e : Event) (s : Low) → (act e s).decls ≡ s.decls
act_decls Reg s = cond_decls (leb 96 s.reg) s _ _ refl refl
act_decls (Push w i) s = cond_decls (no_room (kept s.decls w.section) s (instr_items i)) s _ _ refl (counted_decls (kept s.decls w.section) s (instr_items i))
act_decls Below s = refl

pub after_decls : (es : List Event) (s : Low) → (after_events es s).decls ≡ s.decls
after_decls [] s = refl
after_decls (e ∷ es) s = after_decls es (step_event e s) ∙ cond_decls (eqb s.refused 0) s _ _ (act_decls e s) refl

pub refused_stays : (es : List Event) (s : Low) → (after_events es s).refused ≡ 0 → s.refused ≡ 0
refused_stays es s h = by_test (is (eqb s.refused 0))
  where
    by_test : Is (eqb s.refused 0) → s.refused ≡ 0
    by_test (yes e) = eqb-true s.refused 0 e
    by_test (no e) = sym (ap (λ (t : Low). t.refused) (after_refused es s (eqb-false s.refused 0 e))) ∙ h

-- ---- one event, where nothing is refused so far

-- one register more
abbrev pub one_more : Low → Low
one_more s = record { reg = s.reg + 1; count = s.count; recs = s.recs; items = s.items; refused = s.refused; decls = s.decls }

pub reg_over : (s : Low) → s.refused ≡ 0 → leb 96 s.reg ≡ true → step_event Reg s ≡ refuse 7 s
reg_over s z e = rw (eq-eqb s.refused 0 z, e)

pub reg_in : (s : Low) → s.refused ≡ 0 → leb 96 s.reg ≡ false → step_event Reg s ≡ one_more s
reg_in s z e = rw (eq-eqb s.refused 0 z, e)

pub push_over : (w : Place) (i : Instr) (s : Low) → s.refused ≡ 0 → no_room (kept s.decls w.section) s (instr_items i) ≡ true → step_event (Push w i) s ≡ refuse 7 s
push_over w i s z e = rw (eq-eqb s.refused 0 z, e)

pub push_in : (w : Place) (i : Instr) (s : Low) → s.refused ≡ 0 → no_room (kept s.decls w.section) s (instr_items i) ≡ false → step_event (Push w i) s ≡ counted (kept s.decls w.section) s (instr_items i)
push_in w i s z e = rw (eq-eqb s.refused 0 z, e)

pub below_in : (s : Low) → s.refused ≡ 0 → step_event Below s ≡ refuse 6 s
below_in s z = rw (eq-eqb s.refused 0 z)

pub stays : (es : List Event) (n : ℕ) (s : Low) → 0 < n → (after_events es (refuse n s)).refused ≡ n
stays es n s h = ap (λ (q : Low). q.refused) (after_refused es (refuse n s) (λ e. omega (arith, e)))

-- ---- what holds of events, the state before them and the state after them, where none is refused

module _ (Q : List Event → Low → Low → Type 0) (none : (s : Low) → Q [] s s)
    (reg : (es : List Event) (s t : Low) → s.refused ≡ 0 → leb 96 s.reg ≡ false → Q es (one_more s) t → Q (Reg ∷ es) s t)
    (push : (w : Place) (i : Instr) (es : List Event) (s t : Low) → s.refused ≡ 0 → no_room (kept s.decls w.section) s (instr_items i) ≡ false
    → Q es (counted (kept s.decls w.section) s (instr_items i)) t → Q (Push w i ∷ es) s t) where
  carried : (e : Event) (es : List Event) (s u : Low) → step_event e s ≡ u → ((after_events es u).refused ≡ 0 → Q (e ∷ es) s (after_events es u))
      → (after_events es (step_event e s)).refused ≡ 0 → Q (e ∷ es) s (after_events es (step_event e s))
  carried e es s u q f = rw q f

  stopped : (e : Event) (es : List Event) (n : ℕ) (s : Low) → 0 < n → step_event e s ≡ refuse n s → (after_events es (step_event e s)).refused ≡ 0 → Q (e ∷ es) s (after_events es (step_event e s))
  stopped e es n s h q = carried e es s (refuse n s) q (λ z. absurd (omega (arith, z, stays es n s h)))

  ran_reg : (es : List Event) (s : Low) → ((t : Low) → (after_events es t).refused ≡ 0 → Q es t (after_events es t)) → s.refused ≡ 0 → Is (leb 96 s.reg)
      → (after_events es (step_event Reg s)).refused ≡ 0 → Q (Reg ∷ es) s (after_events es (step_event Reg s))
  ran_reg es s ih o (yes e) = stopped Reg es 7 s (omega arith) (reg_over s o e)
  ran_reg es s ih o (no e) = carried Reg es s (one_more s) (reg_in s o e) (λ z. reg es s (after_events es (one_more s)) o e (ih (one_more s) z))

  ran_push : (w : Place) (i : Instr) (es : List Event) (s : Low) → ((t : Low) → (after_events es t).refused ≡ 0 → Q es t (after_events es t)) → s.refused ≡ 0
      → Is (no_room (kept s.decls w.section) s (instr_items i)) → (after_events es (step_event (Push w i) s)).refused ≡ 0 → Q (Push w i ∷ es) s (after_events es (step_event (Push w i) s))
  ran_push w i es s ih o (yes e) = stopped (Push w i) es 7 s (omega arith) (push_over w i s o e)
  ran_push w i es s ih o (no e) =
      let t = counted (kept s.decls w.section) s (instr_items i) in
      carried (Push w i) es s t (push_in w i s o e) (λ z. push w i es s (after_events es t) o e (ih t z))

  pub ran : (es : List Event) (s : Low) → (after_events es s).refused ≡ 0 → Q es s (after_events es s)
  ran [] s z = none s
  ran (Reg ∷ es) s z = ran_reg es s (λ t. ran es t) (refused_stays (Reg ∷ es) s z) (is (leb 96 s.reg)) z
  ran (Push w i ∷ es) s z = ran_push w i es s (λ t. ran es t) (refused_stays (Push w i ∷ es) s z) (is (no_room (kept s.decls w.section) s (instr_items i))) z
  ran (Below ∷ es) s z = stopped Below es 6 s (omega arith) (below_in s (refused_stays (Below ∷ es) s z)) z

pub reg_after : (es : List Event) (s : Low) → (after_events es s).refused ≡ 0 → (after_events es s).reg ≡ s.reg + regs_in es
reg_after =
    ran (λ es s t. t.reg ≡ s.reg + regs_in es) (λ s. omega arith) (λ es s t o e q. omega (arith, q))
    (λ w i es s t o e q. q ∙ ap (λ (n : ℕ). n + regs_in es) (counted_reg (kept s.decls w.section) s (instr_items i)))

-- ---- THE law: events that start from the register that the others leave

pub did_then : {es fs : List Event} {s : Low} {buf : List ℕ} {s₁ : Low} {buf₁ : List ℕ} {s₂ : Low} {buf₂ : List ℕ}
    → Did es s buf s₁ buf₁ → Did fs s₁ buf₁ s₂ buf₂ → Did (es ++ fs) s buf s₂ buf₂
did_then {es} {fs} {s} {buf} a b = record {
  state = b.state ∙ ap (after_events fs) a.state ∙ sym (after_append es fs s);
  buffer = b.buffer ∙ rw (a.state, a.buffer) (sym (wrote_append es fs s buf));
}

-- ---- the room

pub length_items : (l : List Single) → length (concat (map item_bytes l)) ≡ 16 * length l
length_items [] = omega arith
length_items (x ∷ l) = omega (arith, length-append (item_bytes x) (concat (map item_bytes l)), length_items l)

pub length_put : (i : Instr) (s : Low) (buf : List ℕ) → s.items + instr_items i ≤ 1024 → s.recs < 1024 → 40960 ≤ length buf → length (put_instr i s buf) ≡ length buf
length_put i s buf h g r =
    let e = length_splice buf (16384 + 16 * s.items) (concat (map item_bytes (items_of (op i)))) (omega (arith, length_items (items_of (op i)))) in
    length_splice (splice buf (16384 + 16 * s.items) (concat (map item_bytes (items_of (op i))))) (16 * s.recs) (encode_instr i s.items) (omega (arith, length_record i s.items, e)) ∙ e

-- what the test says where it fails
pub roomy : (k : Bool) (s : Low) (n : ℕ) → no_room k s n ≡ false → (s.count < 1024) × (k ≡ true → (s.recs < 1024) × (s.items + n ≤ 1024))
roomy k s n h = by_count (leb 1024 s.count) refl h
  where
    by_recs : (a b : Bool) → leb 1024 s.recs ≡ a → ltb 1024 (s.items + n) ≡ b → (a || b) ≡ false → (s.recs < 1024) × (s.items + n ≤ 1024)
    by_recs true b p q e = let z : ◌≡◌ {A = ℕ} 1 0 = ap (λ (x : Bool). cond x 1 0) e in absurd (omega (arith, z))
    by_recs false true p q e = let z : ◌≡◌ {A = ℕ} 1 0 = ap (λ (x : Bool). cond x 1 0) e in absurd (omega (arith, z))
    by_recs false false p q e = (leb-false 1024 s.recs p, ltb-false 1024 (s.items + n) q)

    by_keep : (k : Bool) → (k && (leb 1024 s.recs || ltb 1024 (s.items + n))) ≡ false → k ≡ true → (s.recs < 1024) × (s.items + n ≤ 1024)
    by_keep false e t = let z : ◌≡◌ {A = ℕ} 0 1 = ap (λ (x : Bool). cond x 1 0) t in absurd (omega (arith, z))
    by_keep true e t = by_recs (leb 1024 s.recs) (ltb 1024 (s.items + n)) refl refl e

    by_count : (a : Bool) → leb 1024 s.count ≡ a → (a || (k && (leb 1024 s.recs || ltb 1024 (s.items + n)))) ≡ false → (s.count < 1024) × (k ≡ true → (s.recs < 1024) × (s.items + n ≤ 1024))
    by_count true p e = let z : ◌≡◌ {A = ℕ} 1 0 = ap (λ (x : Bool). cond x 1 0) e in absurd (omega (arith, z))
    by_count false p e = (leb-false 1024 s.count p, by_keep k e)

-- a state and a buffer to start from, after the events too
ready_counted : (k : Bool) (s : Low) (n : ℕ) {buf buf' : List ℕ} → Ready s buf → (s.count < 1024) × (k ≡ true → (s.recs < 1024) × (s.items + n ≤ 1024)) → 40960 ≤ length buf' → Ready (counted k s n) buf'
ready_counted true s n r h l = record { registers = r.registers; pushed = omega (arith, h.0); records = omega (arith, (h.1 refl).0); pool = omega (arith, (h.1 refl).1); room = l }
ready_counted false s n r h l = record { registers = r.registers; pushed = omega (arith, h.0); records = r.records; pool = r.pool; room = l }

ready_refuse : (n : ℕ) (s : Low) {buf : List ℕ} → Ready s buf → Ready (refuse n s) buf
ready_refuse n s r = record { registers = r.registers; pushed = r.pushed; records = r.records; pool = r.pool; room = r.room }

ready_reg : (s : Low) (buf : List ℕ) → Ready s buf → Is (leb 96 s.reg) → Ready (act Reg s) buf
ready_reg s buf r (yes e) = rw e (ready_refuse 7 s r)
ready_reg s buf r (no e) = rw e (record { registers = omega (arith, leb-false 96 s.reg e); pushed = r.pushed; records = r.records; pool = r.pool; room = r.room })

room_put : (i : Instr) (s : Low) (buf : List ℕ) (k : Bool) → Ready s buf → (s.count < 1024) × (k ≡ true → (s.recs < 1024) × (s.items + instr_items i ≤ 1024)) → 40960 ≤ length (cond k (put_instr i s buf) buf)
room_put i s buf true r h = omega (arith, length_put i s buf (h.1 refl).1 (h.1 refl).0 r.room, r.room)
room_put i s buf false r h = r.room

ready_push : (w : Place) (i : Instr) (s : Low) (buf : List ℕ) → Ready s buf → s.refused ≡ 0 → Is (no_room (kept s.decls w.section) s (instr_items i))
    → Ready (act (Push w i) s) (write (Push w i) s buf)
ready_push w i s buf r z (yes e) = rw (e, eq-eqb s.refused 0 z) (ready_refuse 7 s r)
ready_push w i s buf r z (no e) =
    let k = kept s.decls w.section in
    let h = roomy k s (instr_items i) e in
    rw (e, eq-eqb s.refused 0 z) (ready_counted k s (instr_items i) r h (room_put i s buf k r h))

ready_act : (e : Event) (s : Low) (buf : List ℕ) → Ready s buf → s.refused ≡ 0 → Ready (act e s) (write e s buf)
ready_act Reg s buf r z = ready_reg s buf r (is (leb 96 s.reg))
ready_act (Push w i) s buf r z = ready_push w i s buf r z (is (no_room (kept s.decls w.section) s (instr_items i)))
ready_act Below s buf r z = ready_refuse 6 s r

write_refused : (e : Event) (s : Low) (buf : List ℕ) → eqb s.refused 0 ≡ false → write e s buf ≡ buf
write_refused Reg s buf h = refl
write_refused (Push w i) s buf h = rw h
write_refused Below s buf h = refl

ready_step : (e : Event) (s : Low) (buf : List ℕ) → Ready s buf → Is (eqb s.refused 0) → Ready (step_event e s) (write e s buf)
ready_step e s buf r (yes z) = rw z (ready_act e s buf r (eqb-true s.refused 0 z))
ready_step e s buf r (no z) = rw (write_refused e s buf z, z) r

ready_run : (es : List Event) (s : Low) (buf : List ℕ) → Ready s buf → Ready (after_events es s) (wrote es s buf)
ready_run [] s buf r = r
ready_run (e ∷ es) s buf r = ready_run es (step_event e s) (write e s buf) (ready_step e s buf r (is (eqb s.refused 0)))

pub ready_did : {es : List Event} {s : Low} {buf : List ℕ} {s₁ : Low} {buf₁ : List ℕ} → Ready s buf → Did es s buf s₁ buf₁ → Ready s₁ buf₁
ready_did {es} {s} {buf} r d = rw (d.state, d.buffer) (ready_run es s buf r)

pub kept_did : {es : List Event} {s : Low} {buf : List ℕ} {s₁ : Low} {buf₁ : List ℕ} {k : Bool} (w : Place) → k ≡ kept s.decls w.section → Did es s buf s₁ buf₁ → k ≡ kept s₁.decls w.section
kept_did {es} {s} w e d = e ∙ ap (λ (b : Bool). kept b w.section) (sym (ap (λ (t : Low). t.decls) d.state ∙ after_decls es s))

-- ---- pushing

pub push_refused : (w : Place) (i : Instr) (s : Low) (buf : List ℕ) → (s.refused ≡ 0 → ⊥) → Did (Push w i ∷ []) s buf s buf
push_refused w i s buf h = record { state = sym (after_refused (Push w i ∷ []) s h); buffer = sym (wrote_refused (Push w i ∷ []) s buf h) }

pub push_full : (w : Place) (i : Instr) (s : Low) (buf : List ℕ) {k : Bool} {s' : Low} → s.refused ≡ 0 → k ≡ kept s.decls w.section → items_of (op i) ≡ [] → no_room k s 0 ≡ true → s' ≡ refuse 7 s → Did (Push w i ∷ []) s buf s' buf
push_full w i s buf z e n f q =
    let g : no_room (kept s.decls w.section) s (instr_items i) ≡ true = rw (← e, n) f in
    record { state = rw (g, eq-eqb s.refused 0 z) q; buffer = rw (g, eq-eqb s.refused 0 z) }

pub push_put : (w : Place) (i : Instr) (s : Low) (buf : List ℕ) {k : Bool} {s' : Low} {buf' : List ℕ} → s.refused ≡ 0 → k ≡ kept s.decls w.section → items_of (op i) ≡ [] → no_room k s 0 ≡ false
    → s' ≡ counted k s 0 → buf' ≡ cond k (splice buf (16 * s.recs) (encode_instr i s.items)) buf → Did (Push w i ∷ []) s buf s' buf'
push_put w i s buf z e n f q b =
    let g : no_room (kept s.decls w.section) s (instr_items i) ≡ false = rw (← e, n) f in
    record {
      state = rw (g, eq-eqb s.refused 0 z, ← e, n) q;
      buffer = rw (g, eq-eqb s.refused 0 z, ← e, n, splice_none buf (16384 + 16 * s.items)) b;
    }

pub ready_next : {s : Low} {buf : List ℕ} {a : Low} → Ready s buf → a ≡ step_event Reg s → Ready a buf
ready_next {s} {buf} r e = rw e (ready_step Reg s buf r (is (eqb s.refused 0)))

reg_items : (s : Low) (a b : Bool) → (cond a (cond b (refuse 7 s) (one_more s)) s).items ≡ s.items
reg_items s true true = refl
reg_items s true false = refl
reg_items s false b = refl

pub did_load : (w : Place) (i : Instr) (s : Low) (buf bs : List ℕ) {k : Bool} {a : Low} {s' : Low} {buf' : List ℕ}
    → a ≡ step_event Reg s → items_of (op i) ≡ [] → bs ≡ encode_instr i s.items → k ≡ kept s.decls w.section → PushesOp k a bs buf s' buf' → Did (Reg ∷ (Push w i ∷ [])) s buf s' buf'
did_load w i s buf bs e n b q f =
    let d : Did (Reg ∷ []) s buf _ buf = record { state = e; buffer = refl } in
    did_then d (f w i n (b ∙ ap (encode_instr i) (sym (ap (λ (t : Low). t.items) e ∙ reg_items s (eqb s.refused 0) (leb 96 s.reg)))) (kept_did w q d))

-- ---- THE law, where the events depend on more than one register

pub reg_is : {es : List Event} {s : Low} {buf : List ℕ} {s₁ : Low} {buf₁ : List ℕ} → Did es s buf s₁ buf₁ → s₁.refused ≡ 0 → s₁.reg ≡ s.reg + regs_in es
reg_is {es} {s} a z = ap (λ (t : Low). t.reg) a.state ∙ reg_after es s (ap (λ (t : Low). t.refused) (sym a.state) ∙ z)

pub unrefused : {es : List Event} {s : Low} {buf : List ℕ} {s₁ : Low} {buf₁ : List ℕ} → Did es s buf s₁ buf₁ → s₁.refused ≡ 0 → s.refused ≡ 0
unrefused {es} {s} a z = refused_stays es s (ap (λ (t : Low). t.refused) (sym a.state) ∙ z)

pub did_if : {es fs gs : List Event} {s : Low} {buf : List ℕ} {s₁ : Low} {buf₁ : List ℕ} {s₂ : Low} {buf₂ : List ℕ}
    → Did es s buf s₁ buf₁ → (s₁.refused ≡ 0 → fs ≡ gs) → Did fs s₁ buf₁ s₂ buf₂ → Did (es ++ gs) s buf s₂ buf₂
did_if {es} {fs} {gs} {s} {buf} {s₁} {buf₁} {s₂} {buf₂} a f b = did_then a (by_test (is (eqb s₁.refused 0)))
  where
    by_test : Is (eqb s₁.refused 0) → Did gs s₁ buf₁ s₂ buf₂
    by_test (yes z) = rw (← f (eqb-true s₁.refused 0 z)) b
    by_test (no z) =
        let h = eqb-false s₁.refused 0 z in
        record {
          state = b.state ∙ after_refused fs s₁ h ∙ sym (after_refused gs s₁ h);
          buffer = b.buffer ∙ wrote_refused fs s₁ buf₁ h ∙ sym (wrote_refused gs s₁ buf₁ h);
        }

pub did_as : {es fs : List Event} {s : Low} {buf : List ℕ} {s₁ : Low} {buf₁ : List ℕ} → es ≡ fs → Did es s buf s₁ buf₁ → Did fs s buf s₁ buf₁
did_as e d = rw (← e) d

-- some place is kept, or is not
pub some_place : (k d : Bool) → (w : Place) × (k ≡ kept d w.section)
some_place true true = (record { section = Decl; loops = 0 }, refl)
some_place true false = (record { section = Main; loops = 0 }, refl)
some_place false true = (record { section = Main; loops = 0 }, refl)
some_place false false = (record { section = Decl; loops = 0 }, refl)

-- ---- for patches

pub ready_one : (e : Event) (s : Low) (buf : List ℕ) → Ready s buf → Ready (step_event e s) (write e s buf)
ready_one e s buf r = ready_step e s buf r (is (eqb s.refused 0))

-- an instruction that is written has room
pub goes_room : (k : Bool) (s : Low) (n : ℕ) → goes k s n ≡ true → (s.recs < 1024) × (s.items + n ≤ 1024)
goes_room k s n h = by_tests (eqb s.refused 0) (no_room k s n) k refl refl h
  where
    by_tests : (a f q : Bool) → no_room k s n ≡ f → k ≡ q → (a && (not f && q)) ≡ true → (s.recs < 1024) × (s.items + n ≤ 1024)
    by_tests true false true e g z = (roomy k s n e).1 g
    by_tests true false false e g z = let o : ◌≡◌ {A = ℕ} 0 1 = ap (λ (x : Bool). cond x 1 0) z in absurd (omega (arith, o))
    by_tests true true q e g z = let o : ◌≡◌ {A = ℕ} 0 1 = ap (λ (x : Bool). cond x 1 0) z in absurd (omega (arith, o))
    by_tests false f q e g z = let o : ◌≡◌ {A = ℕ} 0 1 = ap (λ (x : Bool). cond x 1 0) z in absurd (omega (arith, o))

-- records only grow
cond_recs : (b : Bool) (s t u : Low) → s.recs ≤ t.recs → s.recs ≤ u.recs → s.recs ≤ (cond b t u).recs
cond_recs true s t u p q = p
cond_recs false s t u p q = q

counted_recs : (k : Bool) (s : Low) (n : ℕ) → s.recs ≤ (counted k s n).recs
counted_recs true s n = omega arith
counted_recs false s n = omega arith

act_recs : (e : Event) (s : Low) → s.recs ≤ (act e s).recs
act_recs Reg s = cond_recs (leb 96 s.reg) s _ _ (omega arith) (omega arith)
act_recs (Push w i) s = cond_recs (no_room (kept s.decls w.section) s (instr_items i)) s _ _ (omega arith) (counted_recs (kept s.decls w.section) s (instr_items i))
act_recs Below s = omega arith

pub step_recs : (e : Event) (s : Low) → s.recs ≤ (step_event e s).recs
step_recs e s = cond_recs (eqb s.refused 0) s _ _ (act_recs e s) (omega arith)
