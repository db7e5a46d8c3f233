-- A record that is written is rewritten: before the later events or after them.
use Rattle.std.specs.Prelude.{ℕ, ◌+◌, ◌*◌, ◌≤◌, ◌<◌, ◌≡◌, refl, true, List, [], ◌∷◌, map, length}
use Rattle.std.proofs.Common.{sym, ap, ◌∙◌, arith}
use Rattle.lent.specs.Bytes.{be_bytes, splice, concat}
use Rattle.lent.specs.laws.Parts.{length_splice, part_splice, splice_comm, splice_splice, splice_around}
use Rattle.sifv.specs.Value.{Single}
use Rattle.opc.specs.Op.{Jmpa, JmpCnd, JmpOpKind, Instr, instr, op}
use Rattle.opc.specs.Record.{items_of, item_bytes, encode_instr}
use Rattle.compiler.specs.Lower.{Place, Event, Reg, Push, Below}
use Rattle.emit.specs.declared.Low.{Low}
use Rattle.emit.specs.inner.Run.{kept, instr_items, step_event, after_events, put_instr, goes, write, wrote, Ready}
use Rattle.emit.specs.laws.Laws.{Is, yes, no, is, length_items, length_record, goes_room, step_recs, ready_one}

module _ (at : ℕ) (t : List ℕ) where
  -- one instruction behind it
  patch_put : (i : Instr) (s : Low) (buf : List ℕ) → at + length t ≤ 16 * s.recs → s.items + instr_items i ≤ 1024 → s.recs < 1024 → 40960 ≤ length buf
      → put_instr i s (splice buf at t) ≡ splice (put_instr i s buf) at t
  patch_put i s buf h p r l =
      let is = concat (map item_bytes (items_of (op i))) in
      let a = 16384 + 16 * s.items in
      let li = length_items (items_of (op i)) in
      ap (λ (d : List ℕ). splice d (16 * s.recs) (encode_instr i s.items)) (splice_comm buf at t a is (omega arith) (omega (arith, li)))
      ∙ splice_comm (splice buf a is) at t (16 * s.recs) (encode_instr i s.items) h (omega (arith, length_record i s.items, length_splice buf a is (omega (arith, li))))

  patch_write : (e : Event) (s : Low) (buf : List ℕ) → at + length t ≤ 16 * s.recs → 40960 ≤ length buf → write e s (splice buf at t) ≡ splice (write e s buf) at t
  patch_write Reg s buf h l = refl
  patch_write (Push w i) s buf h l = by_test (is (goes (kept s.decls w.section) s (instr_items i)))
    where
      by_test : Is (goes (kept s.decls w.section) s (instr_items i)) → write (Push w i) s (splice buf at t) ≡ splice (write (Push w i) s buf) at t
      by_test (yes g) = let q = goes_room (kept s.decls w.section) s (instr_items i) g in rw g (patch_put i s buf h q.1 q.0 l)
      by_test (no g) = rw g
  patch_write Below s buf h l = refl

  -- THE law of patches
  pub patch_wrote : (es : List Event) (s : Low) (buf : List ℕ) → at + length t ≤ 16 * s.recs → Ready s buf → wrote es s (splice buf at t) ≡ splice (wrote es s buf) at t
  patch_wrote [] s buf h r = refl
  patch_wrote (e ∷ es) s buf h r =
      ap (wrote es (step_event e s)) (patch_write e s buf h r.room) ∙ patch_wrote es (step_event e s) (write e s buf) (omega (arith, step_recs e s, h)) (ready_one e s buf r)

-- ---- a jump's target

-- the record of i, with t from byte 8 on, is that of j
module _ (i j : Instr) (t : List ℕ) (ni : items_of (op i) ≡ []) (nj : items_of (op j) ≡ []) (lt : length t ≡ 8) (e : (p : ℕ) → splice (encode_instr i p) 8 t ≡ encode_instr j p) where
  put_patched : (s : Low) (buf : List ℕ) → s.recs < 1024 → s.items ≤ 1024 → 40960 ≤ length buf → splice (put_instr i s buf) (16 * s.recs + 8) t ≡ put_instr j s buf
  put_patched s buf r p l =
      let is = concat (map item_bytes (items_of (op i))) in
      let d = splice buf (16384 + 16 * s.items) is in
      let a = 16 * s.recs in
      let x = encode_instr i s.items in
      let li : length is ≡ 0 = ap (λ (q : List Single). length (concat (map item_bytes q))) ni in
      let ld = length_splice buf (16384 + 16 * s.items) is (omega (arith, li)) in
      let lx = length_record i s.items in
      let lp = length_splice d a x (omega (arith, lx, ld)) in
      let same : concat (map item_bytes (items_of (op i))) ≡ concat (map item_bytes (items_of (op j))) = rw (ni, nj) in
      sym (splice_around (splice d a x) a 16 8 t (omega (arith, lt)) (omega (arith, lp, ld)))
      ∙ ap (λ (q : List ℕ). splice (splice d a x) a (splice q 8 t)) (part_splice d a x 16 lx (omega (arith, ld)))
      ∙ splice_splice d a x (splice x 8 t) (lx ∙ sym (length_splice x 8 t (omega (arith, lx, lt)) ∙ lx)) (omega (arith, ld))
      ∙ ap (splice d a) (e s.items)
      ∙ ap (λ (q : List ℕ). splice (splice buf (16384 + 16 * s.items) q) a (encode_instr j s.items)) same

  same_step : (w : Place) (s : Low) → step_event (Push w i) s ≡ step_event (Push w j) s
  same_step w s = rw (ni, nj)

  pub same_after : (w : Place) (es : List Event) (s : Low) → after_events (Push w i ∷ es) s ≡ after_events (Push w j ∷ es) s
  same_after w es s = ap (after_events es) (same_step w s)

  -- written: rewritten it is the other
  pub patched : (w : Place) (es : List Event) (s : Low) (buf : List ℕ) → Ready s buf → s.recs < (step_event (Push w i) s).recs → goes (kept s.decls w.section) s 0 ≡ true
      → splice (wrote (Push w i ∷ es) s buf) (16 * s.recs + 8) t ≡ wrote (Push w j ∷ es) s buf
  patched w es s buf r h g =
      let q = goes_room (kept s.decls w.section) s 0 g in
      let zi : instr_items i ≡ 0 = ap length ni in
      let zj : instr_items j ≡ 0 = ap length nj in
      let wi : write (Push w i) s buf ≡ put_instr i s buf = rw (zi, g) in
      let wj : write (Push w j) s buf ≡ put_instr j s buf = rw (zj, g) in
      sym (patch_wrote (16 * s.recs + 8) t es (step_event (Push w i) s) (write (Push w i) s buf) (omega (arith, h, lt)) (ready_one (Push w i) s buf r))
      ∙ ap (λ (d : List ℕ). wrote es (step_event (Push w i) s) (splice d (16 * s.recs + 8) t)) wi
      ∙ ap (wrote es (step_event (Push w i) s)) (put_patched s buf q.0 r.pool r.room ∙ sym wj)
      ∙ ap (λ (x : Low). wrote es x (write (Push w j) s buf)) (same_step w s)

-- the two jumps: their targets are the number at byte 8
pub jump_target : (n t l p : ℕ) → splice (encode_instr (instr n (Jmpa t)) p) 8 (be_bytes 8 l) ≡ encode_instr (instr n (Jmpa l)) p
jump_target n t l p = refl

pub test_target : (n r l p : ℕ) (k : JmpOpKind) → splice (encode_instr (instr n (JmpCnd k r 0)) p) 8 (be_bytes 8 l) ≡ encode_instr (instr n (JmpCnd k r l)) p
test_target n r l p k = refl
