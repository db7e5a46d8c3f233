-- A record with items: the items are written by the caller, where a record was.
use Rattle.std.specs.Prelude.{ℕ, ◌+◌, ◌*◌, ◌≤◌, ◌<◌, ◌≡◌, refl, Bool, true, false, cond, List, [], map, ltb, length}
use Rattle.std.proofs.Common.{ap, sym, ◌∙◌, arith, lt-ltb, le-ltb, eq-eqb}
use Rattle.lent.specs.Bytes.{splice, concat}
use Rattle.lent.specs.laws.Parts.{splice_none, splice_comm}
use Rattle.opc.specs.Op.{Instr, op}
use Rattle.opc.specs.Record.{items_of, item_bytes, encode_instr}
use Rattle.emit.specs.declared.Low.{Low}
use Rattle.emit.specs.inner.Run.{kept, refuse, no_room, counted, instr_items, put_instr, Ready, PushesItems, PushesOp}
use Rattle.emit.specs.laws.Laws.{push_refused, roomy, length_items, length_record}

items_buffer : (k : Bool) (s : Low) (n : ℕ) (i : Instr) (buf its : List ℕ) → its ≡ concat (map item_bytes (items_of (op i))) → length its ≡ 16 * n → (k ≡ true → (s.recs < 1024) × (s.items + n ≤ 1024)) → 40960 ≤ length buf
    → cond (ltb s.recs (counted k s n).recs) (splice (cond k (splice buf (16 * s.recs) (encode_instr i s.items)) buf) (16384 + 16 * s.items) its) (cond k (splice buf (16 * s.recs) (encode_instr i s.items)) buf)
    ≡ cond k (put_instr i s buf) buf
items_buffer true s n i buf its ei li h l =
    rw (lt-ltb s.recs (s.recs + 1) (omega arith))
    (ap (λ (t : List ℕ). splice (splice buf (16 * s.recs) (encode_instr i s.items)) (16384 + 16 * s.items) t) ei
    ∙ sym (splice_comm' (concat (map item_bytes (items_of (op i)))) (ap length (sym ei) ∙ li)))
  where
    splice_comm' : (t : List ℕ) → length t ≡ 16 * n → splice (splice buf (16384 + 16 * s.items) t) (16 * s.recs) (encode_instr i s.items) ≡ splice (splice buf (16 * s.recs) (encode_instr i s.items)) (16384 + 16 * s.items) t
    splice_comm' t lt =
        let r = length_record i s.items in
        sym (splice_comm buf (16 * s.recs) (encode_instr i s.items) (16384 + 16 * s.items) t (omega (arith, r, (h refl).0)) (omega (arith, lt, (h refl).1, l)))
items_buffer false s n i buf its ei li h l = rw (le-ltb s.recs s.recs (omega arith))

-- no record was written
none_kept : (s : Low) (x y : List ℕ) → cond (ltb s.recs s.recs) x y ≡ y
none_kept s x y = rw (le-ltb s.recs s.recs (omega arith))

some_room : (t : Bool) (s : Low) (n : ℕ) → (t ≡ true → (s.recs < 1024) × (s.items + n ≤ 1024)) → ltb s.recs (counted t s n).recs ≡ true → s.items + n ≤ 1024
some_room true s n h e = (h refl).1
some_room false s n h e = let z : ◌≡◌ {A = ℕ} 0 1 = ap (λ (x : Bool). cond x 1 0) (sym (le-ltb s.recs s.recs (omega arith)) ∙ e) in absurd (omega (arith, z))

module _ (k : Bool) (s : Low) (n : ℕ) (bs buf : List ℕ) where
  pub items_refused : (s.refused ≡ 0 → ⊥) → PushesItems k s n bs buf s buf
  items_refused h = record {
    did = λ w i c b e d q. rw (q ∙ none_kept s _ buf) (push_refused w i s buf h);
    room = λ e. let z : ◌≡◌ {A = ℕ} 0 1 = ap (λ (x : Bool). cond x 1 0) (sym (le-ltb s.recs s.recs (omega arith)) ∙ e) in absurd (omega (arith, z));
  }

  pub items_full : {s' : Low} → s.refused ≡ 0 → no_room k s n ≡ true → s' ≡ refuse 7 s → PushesItems k s n bs buf s' buf
  items_full {s'} z f q = rw q (record {
    did = λ w i c b e d p.
        let g : no_room (kept s.decls w.section) s (instr_items i) ≡ true = rw (← e, c) f in
        record { state = rw (g, eq-eqb s.refused 0 z); buffer = rw (g, eq-eqb s.refused 0 z) (p ∙ none_kept s _ buf) };
    room = λ e. let o : ◌≡◌ {A = ℕ} 0 1 = ap (λ (x : Bool). cond x 1 0) (sym (le-ltb s.recs s.recs (omega arith)) ∙ e) in absurd (omega (arith, o));
  })

  pub items_put : {s' : Low} {buf₁ : List ℕ} → s.refused ≡ 0 → no_room k s n ≡ false → Ready s buf → s' ≡ counted k s n → buf₁ ≡ cond k (splice buf (16 * s.recs) bs) buf → PushesItems k s n bs buf s' buf₁
  items_put {s'} {buf₁} z f r q p = rw (q, p) (record {
    did = λ w i c b e d t.
        let g : no_room (kept s.decls w.section) s (instr_items i) ≡ false = rw (← e, c) f in
        record {
          state = rw (g, eq-eqb s.refused 0 z, ← e, c);
          buffer = rw (g, eq-eqb s.refused 0 z, ← e) (t ∙ rw b (items_buffer k s n i buf (concat (map item_bytes (items_of (op i)))) refl (length_items (items_of (op i)) ∙ ap (λ (j : ℕ). 16 * j) c) (roomy k s n f).1 r.room));
        };
    room = λ e. some_room k s n (roomy k s n f).1 e;
  })

-- no items
pub push_none : {k : Bool} {s : Low} {bs buf : List ℕ} {s' : Low} {buf' : List ℕ} → PushesItems k s 0 bs buf s' buf' → PushesOp k s bs buf s' buf'
push_none {s = s} {s' = s'} {buf' = buf'} h w i n b e = h.did w i (ap length n) b e buf' (rw n (same (ltb s.recs s'.recs)))
  where
    same : (t : Bool) → buf' ≡ cond t (splice buf' (16384 + 16 * s.items) []) buf'
    same true = sym (splice_none buf' (16384 + 16 * s.items))
    same false = refl
