-- Events carried out, as refusal, records and pool of what they push.
use Rattle.std.specs.Prelude.{ℕ, suc, ◌+◌, ◌*◌, ◌≤◌, ◌<◌, ◌≡◌, refl, Bool, true, false, cond, List, [], ◌∷◌, ◌++◌, map, leb, length}
use Rattle.std.proofs.Common.{sym, ap, ◌∙◌, append_assoc, arith, length-append, le-ltb, leb-false, eq-eqb}
use Rattle.std.proofs.lemmas.Bool.{lt-leb}
use Rattle.lent.specs.Bytes.{splice, concat}
use Rattle.lent.specs.laws.Parts.{length_splice, splice_none, splice_append, splice_comm}
use Rattle.opc.specs.Op.{Instr, op, Code}
use Rattle.opc.specs.Record.{items_of, item_bytes, encode_instr}
use Rattle.tables.specs.ProgramBytes.{record_bytes, pool_bytes}
use Rattle.compiler.specs.Lower.{Section, Decl, Main, Place, Event, Reg, Push, Below, refusal, only, code_of}
use Rattle.emit.specs.declared.Low.{Low}
use Rattle.emit.specs.inner.Run.{kept, no_room, counted, instr_items, after_events, put_instr, write, wrote}
use Rattle.emit.specs.laws.Laws.{Is, yes, no, is, one_more, reg_over, reg_in, push_over, push_in, below_in, stays, ran, length_items, length_record, length_put}
pub use Rattle.emit.specs.laws.Laws.{counted_reg}

-- the section that a pass writes
abbrev pub section_of : Bool → Section
section_of true = Decl
section_of false = Main

-- the pool entries of some code
abbrev pub pool_count : Code → ℕ
pool_count [] = 0
pool_count (i ∷ c) = instr_items i + pool_count c

-- ---- appended

only_append : (s t : Section) (i : Instr) (c d : Code) → only s t i (c ++ d) ≡ only s t i c ++ d
only_append Decl Decl i c d = refl
only_append Decl Main i c d = refl
only_append Main Decl i c d = refl
only_append Main Main i c d = refl

pub pushed_append : (s : Section) (es fs : List Event) → code_of s (es ++ fs) ≡ code_of s es ++ code_of s fs
pushed_append s [] fs = refl
pushed_append s (Reg ∷ es) fs = pushed_append s es fs
pushed_append s (Push w i ∷ es) fs = ap (only s w.section i) (pushed_append s es fs) ∙ only_append s w.section i (code_of s es) (code_of s fs)
pushed_append s (Below ∷ es) fs = pushed_append s es fs

pub record_append : (c d : Code) (p : ℕ) → record_bytes (c ++ d) p ≡ record_bytes c p ++ record_bytes d (p + pool_count c)
record_append [] d p = ap (record_bytes d) (omega arith)
record_append (i ∷ c) d p =
    ap (λ (l : List ℕ). encode_instr i p ++ l) (record_append c d (p + instr_items i) ∙ ap (λ (q : ℕ). record_bytes c (p + instr_items i) ++ record_bytes d q) (omega arith))
    ∙ sym (append_assoc (encode_instr i p) (record_bytes c (p + instr_items i)) (record_bytes d (p + (instr_items i + pool_count c))))

pub pool_append : (c d : Code) → pool_bytes (c ++ d) ≡ pool_bytes c ++ pool_bytes d
pool_append [] d = refl
pool_append (i ∷ c) d = ap (λ (l : List ℕ). concat (map item_bytes (items_of (op i))) ++ l) (pool_append c d) ∙ sym (append_assoc (concat (map item_bytes (items_of (op i)))) (pool_bytes c) (pool_bytes d))

-- ---- the refusal

-- there is room for what is kept: the rest of the pass is within the buffer
pub record Room (es : List Event) (s : Low) : Type 0 where
  pub recs : s.recs + length (code_of (section_of s.decls) es) ≤ 1024
  pub items : s.items + pool_count (code_of (section_of s.decls) es) ≤ 1024

pub only_kept : (d : Bool) (t : Section) (i : Instr) (c : Code) → only (section_of d) t i c ≡ cond (kept d t) (i ∷ c) c
only_kept true Decl i c = refl
only_kept true Main i c = refl
only_kept false Decl i c = refl
only_kept false Main i c = refl

room_full : (k : Bool) (s : Low) (i : Instr) (c : Code) → s.count < 1024 → s.recs + length (cond k (i ∷ c) c) ≤ 1024 → s.items + pool_count (cond k (i ∷ c) c) ≤ 1024 → no_room k s (instr_items i) ≡ false
room_full true s i c h r p = rw (lt-leb 1024 s.count h, lt-leb 1024 s.recs (omega (arith, r)), le-ltb 1024 (s.items + instr_items i) (omega (arith, p)))
room_full false s i c h r p = rw (lt-leb 1024 s.count h)

room_next : (k : Bool) (w : Place) (i : Instr) (es : List Event) (s : Low) → k ≡ kept s.decls w.section → Room (Push w i ∷ es) s → Room es (counted k s (instr_items i))
room_next true w i es s e r =
    let g = only_kept s.decls w.section i (code_of (section_of s.decls) es) in
    let a = rw (g, ← e) at r.recs in
    let b = rw (g, ← e) at r.items in
    record { recs = omega (arith, a); items = omega (arith, b) }
room_next false w i es s e r =
    let g = only_kept s.decls w.section i (code_of (section_of s.decls) es) in
    record { recs = rw (g, ← e) at r.recs; items = rw (g, ← e) at r.items }

pub counted_refused : (k : Bool) (s : Low) (n : ℕ) → (counted k s n).refused ≡ s.refused
counted_refused true s n = refl
counted_refused false s n = refl

pub counted_count : (k : Bool) (s : Low) (n : ℕ) → (counted k s n).count ≡ suc s.count
counted_count true s n = omega arith
counted_count false s n = omega arith

-- events carried out from a state of which P holds, where P leaves room for what is kept: the refusal is that of the events
module _ (P : List Event → Low → Type 0) (reg : (es : List Event) (s : Low) → P (Reg ∷ es) s → P es (one_more s))
    (fits : (w : Place) (i : Instr) (es : List Event) (s : Low) → s.count < 1024 → P (Push w i ∷ es) s → no_room (kept s.decls w.section) s (instr_items i) ≡ false)
    (next : (w : Place) (i : Instr) (es : List Event) (s : Low) → P (Push w i ∷ es) s → P es (counted (kept s.decls w.section) s (instr_items i))) where
  refused_reg : (es : List Event) (s : Low) → ((t : Low) → t.refused ≡ 0 → P es t → (after_events es t).refused ≡ refusal es t.reg t.count) → s.refused ≡ 0 → P (Reg ∷ es) s → Is (leb 96 s.reg)
      → (after_events (Reg ∷ es) s).refused ≡ refusal (Reg ∷ es) s.reg s.count
  refused_reg es s ih z r (yes e) =
      let rhs : ◌≡◌ {A = ℕ} 7 (refusal (Reg ∷ es) s.reg s.count) = rw e in
      ap (λ (q : Low). (after_events es q).refused) (reg_over s z e) ∙ stays es 7 s (omega arith) ∙ rhs
  refused_reg es s ih z r (no e) =
      let n : s.reg + 1 ≡ suc s.reg = omega arith in
      let rhs : refusal es (s.reg + 1) s.count ≡ refusal (Reg ∷ es) s.reg s.count = rw e (ap (λ (q : ℕ). refusal es q s.count) n) in
      ap (λ (q : Low). (after_events es q).refused) (reg_in s z e) ∙ ih (one_more s) z (reg es s r) ∙ rhs

  refused_push : (w : Place) (i : Instr) (es : List Event) (s : Low) → ((t : Low) → t.refused ≡ 0 → P es t → (after_events es t).refused ≡ refusal es t.reg t.count) → s.refused ≡ 0
      → P (Push w i ∷ es) s → Is (leb 1024 s.count) → (after_events (Push w i ∷ es) s).refused ≡ refusal (Push w i ∷ es) s.reg s.count
  refused_push w i es s ih z r (yes e) =
      let rhs : ◌≡◌ {A = ℕ} 7 (refusal (Push w i ∷ es) s.reg s.count) = rw e in
      ap (λ (q : Low). (after_events es q).refused) (push_over w i s z (rw e)) ∙ stays es 7 s (omega arith) ∙ rhs
  refused_push w i es s ih z r (no e) =
      let k = kept s.decls w.section in
      let rhs : refusal es s.reg (suc s.count) ≡ refusal (Push w i ∷ es) s.reg s.count = rw e in
      ap (λ (q : Low). (after_events es q).refused) (push_in w i s z (fits w i es s (leb-false 1024 s.count e) r))
      ∙ ih (counted k s (instr_items i)) (counted_refused k s (instr_items i) ∙ z) (next w i es s r)
      ∙ ap (λ (q : ℕ). refusal es q (counted k s (instr_items i)).count) (counted_reg k s (instr_items i))
      ∙ ap (refusal es s.reg) (counted_count k s (instr_items i))
      ∙ rhs

  pub refused_as : (es : List Event) (s : Low) → s.refused ≡ 0 → P es s → (after_events es s).refused ≡ refusal es s.reg s.count
  refused_as [] s z r = z
  refused_as (Reg ∷ es) s z r = refused_reg es s (λ t. refused_as es t) z r (is (leb 96 s.reg))
  refused_as (Push w i ∷ es) s z r = refused_push w i es s (λ t. refused_as es t) z r (is (leb 1024 s.count))
  refused_as (Below ∷ es) s z r = ap (λ (q : Low). (after_events es q).refused) (below_in s z) ∙ stays es 6 s (omega arith)

pub refused_is : (es : List Event) (s : Low) → s.refused ≡ 0 → Room es s → (after_events es s).refused ≡ refusal es s.reg s.count
refused_is =
    refused_as Room (λ es s r. record { recs = r.recs; items = r.items })
    (λ w i es s h r.
    let c = code_of (section_of s.decls) es in
    let g = only_kept s.decls w.section i c in
    room_full (kept s.decls w.section) s i c h (rw g at r.recs) (rw g at r.items))
    (λ w i es s r. room_next (kept s.decls w.section) w i es s refl r)

-- ---- the bytes

-- records from record r on, and their items from entry p on
abbrev pub written : List ℕ → ℕ → ℕ → Code → List ℕ
written buf r p c = splice (splice buf (16384 + 16 * p) (pool_bytes c)) (16 * r) (record_bytes c p)

pub length_pool : (c : Code) → length (pool_bytes c) ≡ 16 * pool_count c
length_pool [] = omega arith
length_pool (i ∷ c) = omega (arith, length-append (concat (map item_bytes (items_of (op i)))) (pool_bytes c), length_items (items_of (op i)), length_pool c)

pub length_records : (c : Code) (p : ℕ) → length (record_bytes c p) ≡ 16 * length c
length_records [] p = omega arith
length_records (i ∷ c) p = omega (arith, length-append (encode_instr i p) (record_bytes c (p + instr_items i)), length_record i p, length_records c (p + instr_items i))

-- one instruction, then the others
put_written : (i : Instr) (c : Code) (s : Low) (buf : List ℕ) → s.recs + suc (length c) ≤ 1024 → s.items + (instr_items i + pool_count c) ≤ 1024 → 40960 ≤ length buf
    → written (put_instr i s buf) (s.recs + 1) (s.items + instr_items i) c ≡ written buf s.recs s.items (i ∷ c)
put_written i c s buf h g l =
    let is = concat (map item_bytes (items_of (op i))) in
    let a = 16384 + 16 * s.items in
    let r = encode_instr i s.items in
    let cs = record_bytes c (s.items + instr_items i) in
    let li = length_items (items_of (op i)) in
    let lb = length_splice buf a is (omega (arith, li)) in
    let lp = length_splice (splice buf a is) (a + length is) (pool_bytes c) (omega (arith, li, lb, length_pool c)) in
    let e₁ : 16384 + 16 * (s.items + instr_items i) ≡ a + length is = omega (arith, li) in
    let e₂ : 16 * (s.recs + 1) ≡ 16 * s.recs + length r = omega (arith, length_record i s.items) in
    ap (λ (x : ℕ). splice (splice (splice (splice buf a is) (16 * s.recs) r) x (pool_bytes c)) (16 * (s.recs + 1)) cs) e₁
    ∙ ap (λ (d : List ℕ). splice d (16 * (s.recs + 1)) cs) (splice_comm (splice buf a is) (16 * s.recs) r (a + length is) (pool_bytes c) (omega (arith, length_record i s.items)) (omega (arith, li, lb, length_pool c)))
    ∙ ap (λ (x : ℕ). splice (splice (splice (splice buf a is) (a + length is) (pool_bytes c)) (16 * s.recs) r) x cs) e₂
    ∙ sym (splice_append (splice (splice buf a is) (a + length is) (pool_bytes c)) (16 * s.recs) r cs (omega (arith, lb, lp)))
    ∙ ap (λ (d : List ℕ). splice d (16 * s.recs) (r ++ cs)) (sym (splice_append buf a is (pool_bytes c) (omega arith)))

-- what is written after the events
abbrev Written : List Event → Low → Type 0
Written es s = (d : List ℕ) → Room es s → 40960 ≤ length d → wrote es s d ≡ written d s.recs s.items (code_of (section_of s.decls) es)

written_push : (k : Bool) (w : Place) (i : Instr) (es : List Event) (s : Low) (buf : List ℕ) → Written es (counted k s (instr_items i)) → k ≡ kept s.decls w.section → Room (Push w i ∷ es) s → 40960 ≤ length buf
    → wrote es (counted k s (instr_items i)) (cond k (put_instr i s buf) buf) ≡ written buf s.recs s.items (cond k (i ∷ code_of (section_of s.decls) es) (code_of (section_of s.decls) es))
written_push true w i es s buf ih e r l =
    let c = code_of (section_of s.decls) es in
    let g = only_kept s.decls w.section i c in
    let a = rw (g, ← e) at r.recs in
    let b = rw (g, ← e) at r.items in
    ih (put_instr i s buf) (room_next true w i es s e r) (omega (arith, length_put i s buf (omega (arith, b)) (omega (arith, a)) l))
    ∙ put_written i c s buf (omega (arith, a)) (omega (arith, b)) l
written_push false w i es s buf ih e r l = ih buf (room_next false w i es s e r) l

written_in : (w : Place) (i : Instr) (es : List Event) (s : Low) → s.refused ≡ 0 → no_room (kept s.decls w.section) s (instr_items i) ≡ false
    → Written es (counted (kept s.decls w.section) s (instr_items i)) → Written (Push w i ∷ es) s
written_in w i es s o f ih buf r l =
    let k = kept s.decls w.section in
    let b : write (Push w i) s buf ≡ cond k (put_instr i s buf) buf = rw (eq-eqb s.refused 0 o, f) in
    ap (λ (x : Low). wrote es x (write (Push w i) s buf)) (push_in w i s o f)
    ∙ ap (wrote es (counted k s (instr_items i))) b
    ∙ written_push k w i es s buf ih refl r l
    ∙ ap (written buf s.recs s.items) (sym (only_kept s.decls w.section i (code_of (section_of s.decls) es)))

-- the bytes are those of the instructions pushed
pub wrote_is : (es : List Event) (s : Low) (buf : List ℕ) → Room es s → 40960 ≤ length buf → (after_events es s).refused ≡ 0 → wrote es s buf ≡ written buf s.recs s.items (code_of (section_of s.decls) es)
wrote_is es s buf r l z =
    ran (λ es s t. Written es s) (λ s d r l. sym (splice_none (splice d (16384 + 16 * s.items) []) (16 * s.recs) ∙ splice_none d (16384 + 16 * s.items)))
    (λ es s t o e q d r l. ap (λ (x : Low). wrote es x d) (reg_in s o e) ∙ q d (record { recs = r.recs; items = r.items }) l)
    (λ w i es s t. written_in w i es s) es s z buf r l
