-- Parts of a run that start from the register that the others leave, and jumps whose targets are written later.
use Rattle.std.specs.Prelude.{ℕ, ◌+◌, ◌-◌, ◌*◌, ◌<◌, ◌^◌, ◌≡◌, refl, Bool, true, false, cond, not, ◌&&◌, List, [], ◌∷◌, ◌++◌, map, ltb, eqb, length}
use Rattle.std.proofs.Common.{sym, ap, ◌∙◌, arith, lt-ltb, le-ltb, ltb-true}
use Rattle.lent.specs.Bytes.{be_value, be_bytes, part, splice, concat}
use Rattle.lent.specs.laws.Parts.{length_splice, part_splice_within}
use Rattle.lent.specs.laws.Numbers.{be_value_be_bytes}
use Rattle.sifv.specs.Value.{Single}
use Rattle.opc.specs.Op.{Jmpa, JmpCnd, JmpOpKind, Instr, instr, op}
use Rattle.opc.specs.Record.{items_of, item_bytes, encode_instr}
use Rattle.compiler.specs.Lower.{Place, Event, Push, push}
use Rattle.compiler.proofs.laws.Accepted.{regs_in}
use Rattle.emit.specs.declared.Low.{Low}
use Rattle.emit.specs.inner.Run.{kept, refuse, no_room, counted, instr_items, step_event, after_events, put_instr, goes, write, wrote, Ready, Did}
use Rattle.emit.specs.laws.Laws.{Is, yes, no, is, after_append, wrote_append, did_then, did_if, reg_is, unrefused, ready_did, goes_room, length_record}
use Rattle.emit.specs.laws.Rewrites.{patched, same_after, jump_target, test_target}
use Rattle.stmt.specs.inner.Parts.{retarget, written}

-- ---- the next register, where nothing is refused

abbrev pub Next : Low → ℕ → Type 0
Next s q = s.refused ≡ 0 → s.reg ≡ q

-- events that start from it
pub did_at : (f : ℕ → List Event) {s : Low} {q : ℕ} {buf : List ℕ} {s' : Low} {buf' : List ℕ} → Next s q → Did (f s.reg) s buf s' buf' → Did (f q) s buf s' buf'
did_at f {s} {q} {buf} e d = did_if {es = []} (record { state = refl; buffer = refl }) (λ z. ap f (e z)) d

-- and the one that they leave
pub next_did : {es : List Event} {s : Low} {q q' : ℕ} {buf : List ℕ} {s' : Low} {buf' : List ℕ} → Next s q → q' ≡ q + regs_in es → Did es s buf s' buf' → Next s' q'
next_did {es} {s} e h d z = reg_is d z ∙ omega (arith, e (unrefused d z), h)

-- ---- a jump that is written grows the records

no_true : false ≡ true → ⊥
no_true z = let o : ◌≡◌ {A = ℕ} 0 1 = ap (λ (x : Bool). cond x 1 0) z in omega (arith, o)

grown : (k : Bool) (s : Low) (n : ℕ) → goes k s n ≡ ltb s.recs (cond (eqb s.refused 0) (cond (no_room k s n) (refuse 7 s) (counted k s n)) s).recs
grown k s n = by_tests (eqb s.refused 0) (no_room k s n) k
  where
    by_tests : (a f q : Bool) → (a && (not f && q)) ≡ ltb s.recs (cond a (cond f (refuse 7 s) (counted q s n)) s).recs
    by_tests true false true = sym (lt-ltb s.recs (s.recs + 1) (omega arith))
    by_tests true false false = sym (le-ltb s.recs s.recs (omega arith))
    by_tests true true q = sym (le-ltb s.recs s.recs (omega arith))
    by_tests false f q = sym (le-ltb s.recs s.recs (omega arith))

-- ---- THE law: the jump i, pushed between a and b, has become j

module _ (i j : Instr) (l : ℕ) (ni : items_of (op i) ≡ []) (nj : items_of (op j) ≡ []) (e : (p : ℕ) → splice (encode_instr i p) 8 (be_bytes 8 l) ≡ encode_instr j p) where
  retargeted : (w : Place) (es : List Event) (s : Low) (buf : List ℕ) → Ready s buf → Is (goes (kept s.decls w.section) s 0)
      → cond (goes (kept s.decls w.section) s 0) (splice (wrote (Push w i ∷ es) s buf) (16 * s.recs + 8) (be_bytes 8 l)) (wrote (Push w i ∷ es) s buf) ≡ wrote (Push w j ∷ es) s buf
  retargeted w es s buf r (yes g) =
      let zi : instr_items i ≡ 0 = ap length ni in
      let h : ltb s.recs (step_event (Push w i) s).recs ≡ true = sym (grown (kept s.decls w.section) s (instr_items i)) ∙ ap (goes (kept s.decls w.section) s) zi ∙ g in
      ap (λ (t : Bool). cond t (splice (wrote (Push w i ∷ es) s buf) (16 * s.recs + 8) (be_bytes 8 l)) (wrote (Push w i ∷ es) s buf)) g
      ∙ patched i j (be_bytes 8 l) ni nj refl e w es s buf r (ltb-true s.recs (step_event (Push w i) s).recs h) g
  retargeted w es s buf r (no g) =
      let zi : instr_items i ≡ 0 = ap length ni in
      let zj : instr_items j ≡ 0 = ap length nj in
      let wi : write (Push w i) s buf ≡ buf = rw (zi, g) in
      let wj : write (Push w j) s buf ≡ buf = rw (zj, g) in
      let q : step_event (Push w i) s ≡ step_event (Push w j) s = rw (ni, nj) in
      ap (λ (t : Bool). cond t (splice (wrote (Push w i ∷ es) s buf) (16 * s.recs + 8) (be_bytes 8 l)) (wrote (Push w i ∷ es) s buf)) g
      ∙ ap (wrote es (step_event (Push w i) s)) (wi ∙ sym wj)
      ∙ ap (λ (x : Low). wrote es x (write (Push w j) s buf)) q

  pub patch_did : (w : Place) {es : List Event} {a b s : Low} {buf buf₁ buf₂ buf₃ : List ℕ} → Ready a buf → Did (Push w i ∷ []) a buf b buf₁ → Did es b buf₁ s buf₂
      → buf₃ ≡ retarget a b l buf₂ → Did (Push w j ∷ es) a buf s buf₃
  patch_did w {es} {a} {b} {s} {buf} {buf₁} {buf₂} {buf₃} r d₁ d₂ q =
      let d : Did (Push w i ∷ es) a buf s buf₂ = did_then d₁ d₂ in
      let k = kept a.decls w.section in
      let zi : instr_items i ≡ 0 = ap length ni in
      let g : ltb a.recs b.recs ≡ goes k a 0 =
      ap (λ (x : Low). ltb a.recs x.recs) d₁.state ∙ sym (grown k a (instr_items i)) ∙ ap (goes k a) zi in
      record {
        state = d.state ∙ same_after i j (be_bytes 8 l) ni nj refl e w es a;
        buffer = q
            ∙ ap (λ (t : Bool). cond t (splice buf₂ (16 * a.recs + 8) (be_bytes 8 l)) buf₂) g
            ∙ ap (λ (x : List ℕ). cond (goes k a 0) (splice x (16 * a.recs + 8) (be_bytes 8 l)) x) d.buffer
            ∙ retargeted w es a buf r (is (goes k a 0));
      }

-- a part of a run, and what follows it
pub did_first : (es fs : List Event) {s s₂ : Low} {buf buf₂ : List ℕ} → Did (es ++ fs) s buf s₂ buf₂ → Did fs (after_events es s) (wrote es s buf) s₂ buf₂
did_first es fs {s} {s₂} {buf} {buf₂} d = record { state = d.state ∙ after_append es fs s; buffer = d.buffer ∙ wrote_append es fs s buf }

-- ---- an arm: the test jumps behind the Block, and its target is written when it is known

pub head_did : (w : Place) (n r m l t : ℕ) (k : JmpOpKind) {bs : List Event} {c j b e : Low} {buf₁ buf₂ buf₃ buf₄ buf₅ : List ℕ} → Ready c buf₁
    → Did (push w n (JmpCnd k r 0) ∷ []) c buf₁ j buf₂ → Did bs j buf₂ b buf₃ → Did (push w m (Jmpa t) ∷ []) b buf₃ e buf₄ → buf₅ ≡ retarget c j l buf₄
    → Did (push w n (JmpCnd k r l) ∷ (bs ++ (push w m (Jmpa t) ∷ []))) c buf₁ e buf₅
head_did w n r m l t k rdy dj db de q =
    let f = test_target n r l in
    patch_did (instr n (JmpCnd k r 0)) (instr n (JmpCnd k r l)) l refl refl (λ p. f p k) w rdy dj (did_then db de) q

-- what ends its Block jumps to the end: the jump to t, pushed behind hs, goes to l once all the others are written
pub end_did : (w : Place) (m t l : ℕ) (hs : List Event) {rs : List Event} {s x e : Low} {buf buf₁ buf₂ buf₃ : List ℕ} → Ready s buf → Did (hs ++ (push w m (Jmpa t) ∷ [])) s buf x buf₁ → Did rs x buf₁ e buf₂
    → buf₃ ≡ retarget (after_events hs s) x l buf₂ → Did (hs ++ (push w m (Jmpa l) ∷ rs)) s buf e buf₃
end_did w m t l hs {rs} {s} {x} {e} {buf} rdy d dr q =
    let front : Did hs s buf (after_events hs s) (wrote hs s buf) = record { state = refl; buffer = refl } in
    did_then front (patch_did (instr m (Jmpa t)) (instr m (Jmpa l)) l refl refl (jump_target m t l) w (ready_did rdy front) (did_first hs (push w m (Jmpa t) ∷ []) d) dr q)

-- ---- whether it was written, by the state that it left

left_by : (k : Bool) (s : Low) (n : ℕ) → written k (cond (eqb s.refused 0) (cond (no_room k s n) (refuse 7 s) (counted k s n)) s) ≡ goes k s n
left_by k s n = by_tests (eqb s.refused 0) (no_room k s n) k refl
  where
    by_tests : (a f q : Bool) → eqb s.refused 0 ≡ a → written q (cond a (cond f (refuse 7 s) (counted q s n)) s) ≡ (a && (not f && q))
    by_tests true false true e = e
    by_tests true false false e = refl
    by_tests true true true e = refl
    by_tests true true false e = refl
    by_tests false f true e = e
    by_tests false f false e = refl

next_rec : (k : Bool) (s : Low) (n : ℕ) → goes k s n ≡ true → (cond (eqb s.refused 0) (cond (no_room k s n) (refuse 7 s) (counted k s n)) s).recs ≡ s.recs + 1
next_rec k s n = by_tests (eqb s.refused 0) (no_room k s n) k
  where
    by_tests : (a f q : Bool) → (a && (not f && q)) ≡ true → (cond a (cond f (refuse 7 s) (counted q s n)) s).recs ≡ s.recs + 1
    by_tests true false true e = refl
    by_tests true false false e = absurd (no_true e)
    by_tests true true q e = absurd (no_true e)
    by_tests false f q e = absurd (no_true e)

module _ (w : Place) (i : Instr) (ni : items_of (op i) ≡ []) {k : Bool} {a b : Low} {buf buf₁ : List ℕ} (ek : k ≡ kept a.decls w.section) (d : Did (Push w i ∷ []) a buf b buf₁) where
  left_state : b ≡ cond (eqb a.refused 0) (cond (no_room k a 0) (refuse 7 a) (counted k a 0)) a
  left_state = rw (ek) (d.state ∙ ap (λ (z : ℕ). cond (eqb a.refused 0) (cond (no_room (kept a.decls w.section) a z) (refuse 7 a) (counted (kept a.decls w.section) a z)) a) (ap length ni))

  written_goes : written k b ≡ goes k a 0
  written_goes = ap (written k) left_state ∙ left_by k a 0

  written_next : written k b ≡ true → b.recs ≡ a.recs + 1
  written_next h = ap (λ (x : Low). x.recs) left_state ∙ next_rec k a 0 (sym written_goes ∙ h)

  -- the place of its target
  pub retarget_last : (l : ℕ) (x : List ℕ) → retarget a b l x ≡ cond (written k b) (splice x (16 * (b.recs - 1) + 8) (be_bytes 8 l)) x
  retarget_last l x = by_test (is (written k b))
    where
      grows : ltb a.recs b.recs ≡ written k b
      grows = ap (λ (y : Low). ltb a.recs y.recs) left_state ∙ sym (grown k a 0) ∙ sym written_goes

      by_test : Is (written k b) → retarget a b l x ≡ cond (written k b) (splice x (16 * (b.recs - 1) + 8) (be_bytes 8 l)) x
      by_test (yes h) =
          let e : a.recs ≡ b.recs - 1 = omega (arith, written_next h) in
          rw (grows, h) (ap (λ (z : ℕ). splice x (16 * z + 8) (be_bytes 8 l)) e)
      by_test (no h) = rw (grows, h)

  -- and what it holds there
  pub written_word : (t : ℕ) → Ready a buf → ((p : ℕ) → part (encode_instr i p) 8 8 ≡ be_bytes 8 t) → t < 2 ^ 64 → written k b ≡ true → (b.recs ≡ a.recs + 1) × (b.recs - 1 < 1024) × (be_value (part buf₁ (16 * (b.recs - 1) + 8) 8) ≡ t)
  written_word t r f lt h =
      let g : goes k a 0 ≡ true = sym written_goes ∙ h in
      let q = goes_room k a 0 g in
      let e : a.recs ≡ b.recs - 1 = omega (arith, written_next h) in
      let v = concat (map item_bytes (items_of (op i))) in
      let z : length v ≡ 0 = ap (λ (y : List Single). length (concat (map item_bytes y))) ni in
      let D = splice buf (16384 + 16 * a.items) v in
      let ld = length_splice buf (16384 + 16 * a.items) v (omega (arith, z, r.room, q.1)) in
      let g₀ : goes (kept a.decls w.section) a (instr_items i) ≡ true = rw (← ek, ni) g in
      let u : buf₁ ≡ splice D (16 * a.recs) (encode_instr i a.items) = d.buffer ∙ ap (λ (c : Bool). cond c (put_instr i a buf) buf) g₀ in
      let p : part buf₁ (16 * a.recs + 8) 8 ≡ be_bytes 8 t =
      ap (λ (y : List ℕ). part y (16 * a.recs + 8) 8) u ∙ part_splice_within D (16 * a.recs) (encode_instr i a.items) 8 8 (omega (arith, length_record i a.items)) (omega (arith, ld, r.room, q.0)) ∙ f a.items in
      (written_next h, omega (arith, e, q.0), ap (λ (y : ℕ). be_value (part buf₁ (16 * y + 8) 8)) (sym e) ∙ ap be_value p ∙ be_value_be_bytes 8 t lt)
