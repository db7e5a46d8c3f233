-- A function's instruction, its registers and its pops.
use Rattle.std.specs.Prelude.{ℕ, zero, suc, ◌+◌, ◌*◌, ◌-◌, ◌%◌, ◌≤◌, ◌<◌, ◌≡◌, refl, Bool, true, false, cond, List, [], ◌∷◌, ◌++◌, map, leb, ltb, eqb, length, take, drop, get_or, replicate}
use Rattle.std.proofs.Common.{sym, ap, ◌∙◌, arith, add-one, drop-cons, take-suc, take_all, length-take-le, mod-eq_of_lt, eq-eqb, leb-false}
use Rattle.std.proofs.lemmas.List.{length-map}
use Rattle.lent.specs.Bytes.{splice}
use Rattle.lent.specs.laws.Parts.{length_splice, splice_append, splice_none}
use Rattle.sifv.specs.Value.{Single, Str}
use Rattle.opc.specs.Op as Op
use Rattle.opc.specs.Op.{instr, Fn, FnStackPop}
use Rattle.opc.specs.Record.{Fields, fields, field_bytes, item_bytes}
use Rattle.compiler.specs.Lower.{Place, Event, Reg, push, lower_pops}
use Rattle.emit.specs.declared.Low.{Low}
use Rattle.emit.specs.inner.Run.{kept, refuse, no_room, counted, instr_items, step_event, after_events, put_instr, Did, Ready, PushesItems}
use Rattle.emit.specs.laws.Laws.{length_items, after_refused, wrote_refused, did_if, did_as, ready_next, unrefused, ready_did, kept_did, some_place}
use Rattle.stmt.specs.inner.Parts.{PushesFn, Pops, param_items}

-- ---- registers

reg_bound : (s : Low) (a b : Bool) → (b ≡ false → s.reg < 96) → s.reg ≤ 96
    → (cond a (cond b (refuse 7 s) (record { reg = s.reg + 1; count = s.count; recs = s.recs; items = s.items; refused = s.refused; decls = s.decls })) s).reg ≤ 96
reg_bound s true true f h = h
reg_bound s true false f h = omega (arith, f refl)
reg_bound s false b f h = h

pub step_bound : (s : Low) {a : Low} → a ≡ step_event Reg s → s.reg ≤ 96 → a.reg ≤ 96
step_bound s e h = rw e (reg_bound s (eqb s.refused 0) (leb 96 s.reg) (leb-false 96 s.reg) h)

pub regs_turn : (n i : ℕ) (s : Low) {a : Low} → i < n → a ≡ step_event Reg s → after_events (replicate (n - i) Reg) s ≡ after_events (replicate (n - (i + 1)) Reg) a
regs_turn n i s h e =
    let g : n - i ≡ suc (n - (i + 1)) = omega arith in
    ap (λ (k : ℕ). after_events (replicate k Reg) s) g ∙ ap (after_events (replicate (n - (i + 1)) Reg)) (sym e)

pub regs_end : (n i : ℕ) (s : Low) → n ≤ i → after_events (replicate (n - i) Reg) s ≡ s
regs_end n i s h = let g : n - i ≡ 0 = omega arith in ap (λ (k : ℕ). after_events (replicate k Reg) s) g

-- ---- the parameters as items

pub items_turn : (d : List ℕ) (k i : ℕ) (ps : List ℕ) {x : ℕ} {d' : List ℕ} → i < length ps → 16384 + 16 * (k + i) ≤ length d → x ≡ get_or ps i 0
    → d' ≡ splice d (16384 + 16 * (k + i)) (item_bytes (Str x)) → splice d' (16384 + 16 * (k + (i + 1))) (param_items (drop (i + 1) ps)) ≡ splice d (16384 + 16 * (k + i)) (param_items (drop i ps))
items_turn d k i ps {x} {d'} h l e q =
    let a = 16384 + 16 * (k + i) in
    let b : 16384 + 16 * (k + (i + 1)) ≡ a + 16 = omega arith in
    let g : drop i ps ≡ x ∷ drop (i + 1) ps = rw (e, add-one i) (drop-cons ps i 0 h) in
    ap (λ (t : List ℕ). splice t (16384 + 16 * (k + (i + 1))) (param_items (drop (i + 1) ps))) q
    ∙ ap (λ (t : ℕ). splice (splice d a (item_bytes (Str x))) t (param_items (drop (i + 1) ps))) b
    ∙ sym (splice_append d a (item_bytes (Str x)) (param_items (drop (i + 1) ps)) l)
    ∙ ap (λ (t : List ℕ). splice d a (param_items t)) (sym g)

pub items_end : (d : List ℕ) (k i : ℕ) (ps : List ℕ) → length ps ≤ i → splice d (16384 + 16 * (k + i)) (param_items (drop i ps)) ≡ d
items_end d k i ps h = ap (λ (t : List ℕ). splice d (16384 + 16 * (k + i)) (param_items t)) (drop_none i ps h) ∙ splice_none d (16384 + 16 * (k + i))
  where
    drop_none : (j : ℕ) (l : List ℕ) → length l ≤ j → drop j l ≡ []
    drop_none zero [] g = refl
    drop_none zero (y ∷ l) g = absurd (omega (arith, g))
    drop_none (suc j) [] g = refl
    drop_none (suc j) (y ∷ l) g = drop_none j l (omega (arith, g))

-- ---- the instruction

module _ {k : Bool} {s : Low} {n f : ℕ} {ps : List ℕ} {buf : List ℕ} where
  pub fn_refused : (s.refused ≡ 0 → ⊥) → PushesFn k s n f ps buf s buf
  fn_refused h = record { pushes = λ w e. record { state = sym (after_refused (push w n (Fn f ps) ∷ []) s h); buffer = sym (wrote_refused (push w n (Fn f ps) ∷ []) s buf h) } }

  pub fn_full : {s' : Low} → s.refused ≡ 0 → no_room k s (length ps) ≡ true → s' ≡ refuse 7 s → PushesFn k s n f ps buf s' buf
  fn_full z h q = record {
    pushes = λ w e.
        let g : no_room (kept s.decls w.section) s (instr_items (instr n (Fn f ps))) ≡ true = rw (← e, length-map ps Str) h in
        record { state = rw (g, eq-eqb s.refused 0 z) q; buffer = rw (g, eq-eqb s.refused 0 z) };
  }

  pub fn_put : {s' : Low} {buf' : List ℕ} → s.refused ≡ 0 → no_room k s (length ps) ≡ false → s' ≡ counted k s (length ps) → buf' ≡ cond k (put_instr (instr n (Fn f ps)) s buf) buf → PushesFn k s n f ps buf s' buf'
  fn_put z h q b = record {
    pushes = λ w e.
        let c : instr_items (instr n (Fn f ps)) ≡ length ps = length-map ps Str in
        let g : no_room (kept s.decls w.section) s (instr_items (instr n (Fn f ps))) ≡ false = rw (← e, c) h in
        record { state = rw (g, eq-eqb s.refused 0 z, ← e, c) q; buffer = rw (g, eq-eqb s.refused 0 z, ← e) b };
  }

  -- the record first, the parameters where one was written
  pub fn_items : {r : Fields} {s' : Low} {buf₁ buf₂ : List ℕ} → r ≡ fields n 16 0 f 0 0 (length ps) s.items → PushesItems k s (length ps) (field_bytes r) buf s' buf₁
      → buf₂ ≡ cond (ltb s.recs s'.recs) (splice buf₁ (16384 + 16 * s.items) (param_items ps)) buf₁ → PushesFn k s n f ps buf s' buf₂
  fn_items {buf₂ = buf₂} h p q = record { pushes = λ w e. p.did w (instr n (Fn f ps)) (length-map ps Str) (ap field_bytes h) e buf₂ q }

-- ---- the pops

pops_snoc : (ps : List ℕ) (x : ℕ) (w : Place) (n r : ℕ) → lower_pops (ps ++ (x ∷ [])) w n r ≡ lower_pops ps w n r ++ (push w n (FnStackPop (r + length ps)) ∷ (push w n (Op.Str (r + length ps) x) ∷ []))
pops_snoc [] x w n r = ap (λ (i : ℕ). push w n (FnStackPop i) ∷ (push w n (Op.Str i x) ∷ [])) (omega arith)
pops_snoc (y ∷ ps) x w n r =
    ap (λ (l : List Event). push w n (FnStackPop r) ∷ (push w n (Op.Str r y) ∷ l)) (pops_snoc ps x w n (suc r)
    ∙ ap (λ (i : ℕ). lower_pops ps w n (suc r) ++ (push w n (FnStackPop i) ∷ (push w n (Op.Str i x) ∷ []))) (omega arith))

-- i of them
pub record Popped (k : Bool) (ps : List ℕ) (r n : ℕ) (s : Low) (buf : List ℕ) (i : ℕ) (q : Low) (out : List ℕ) : Type 0 where
  pub popped : (w : Place) → k ≡ kept s.decls w.section → (s.refused ≡ 0 → r + length ps ≤ 96) → Did (lower_pops (take i ps) w n r) s buf q out

pub pops_start : (k : Bool) (ps : List ℕ) (r n : ℕ) (s : Low) (buf : List ℕ) → Popped k ps r n s buf 0 s buf
pops_start k ps r n s buf = record { popped = λ w kw h. record { state = refl; buffer = refl } }

pub pops_turn : {k : Bool} {ps : List ℕ} {r n : ℕ} {s : Low} {buf : List ℕ} {i : ℕ} {q : Low} {out : List ℕ} (g x : ℕ) {q' : Low} {out' : List ℕ} → Popped k ps r n s buf i q out → i < length ps
    → g ≡ (r + i) % 256 → x ≡ get_or ps i 0 → ((w : Place) → k ≡ kept q.decls w.section → Did (push w n (FnStackPop g) ∷ (push w n (Op.Str g x) ∷ [])) q out q' out')
    → Popped k ps r n s buf (i + 1) q' out'
pops_turn {k} {ps} {r} {n} {s} {buf} {i} {q} {out} g x {q'} {out'} h l eg ex f = record {
  popped = λ w kw m.
      let d = h.popped w kw m in
      let o : ℕ → List Event = λ y. push w n (FnStackPop y) ∷ (push w n (Op.Str y x) ∷ []) in
      let t : take (i + 1) ps ≡ take i ps ++ (x ∷ []) = rw (add-one i, ex) (take-suc ps i 0 l) in
      let e : length (take i ps) ≡ i = length-take-le i ps (omega arith) in
      let j = did_if {gs = o (r + i)} d (λ z. ap o (eg ∙ small (r + i) (omega (arith, m (unrefused d z))))) (f w (kept_did w kw d)) in
      did_as (ap (λ (y : ℕ). lower_pops (take i ps) w n r ++ o (r + y)) (sym e) ∙ sym (pops_snoc (take i ps) x w n r) ∙ ap (λ (y : List ℕ). lower_pops y w n r) (sym t)) j;
}
  where
    small : (y : ℕ) → y < 256 → y % 256 ≡ y
    small y v = mod-eq_of_lt v

pub pops_end : {k : Bool} {ps : List ℕ} {r n : ℕ} {s : Low} {buf : List ℕ} (i : ℕ) {q : Low} {out : List ℕ} → Popped k ps r n s buf i q out → length ps ≤ i → Pops k ps r n s buf q out
pops_end {ps = ps} {r = r} {n = n} i h l = record { pops = λ w kw m. did_as (ap (λ (y : List ℕ). lower_pops y w n r) (take_all i ps l)) (h.popped w kw m) }

pub pop_ready : {k : Bool} {n g x : ℕ} {q : Low} {out : List ℕ} {q' : Low} {out' : List ℕ} → Ready q out → ((w : Place) → k ≡ kept q.decls w.section → Did (push w n (FnStackPop g) ∷ (push w n (Op.Str g x) ∷ [])) q out q' out') → Ready q' out'
pop_ready {k} {q = q} r f = let w = some_place k q.decls in ready_did r (f w.0 w.1)

-- the items keep the length
pub length_params : (k : ℕ) (ps buf : List ℕ) → k + length ps ≤ 1024 → 40960 ≤ length buf → length (splice buf (16384 + 16 * k) (param_items ps)) ≡ length buf
length_params k ps buf h l = length_splice buf (16384 + 16 * k) (param_items ps) (omega (arith, length_items (map Str ps), length-map ps Str))

pub items_start : (d : List ℕ) (k : ℕ) (ps : List ℕ) → splice d (16384 + 16 * (k + 0)) (param_items (drop 0 ps)) ≡ splice d (16384 + 16 * k) (param_items ps)
items_start d k ps = let e : k + 0 ≡ k = omega arith in ap (λ (i : ℕ). splice d (16384 + 16 * i) (param_items ps)) e

pub item_length_lem : (d : List ℕ) (k : ℕ) (s : Single) {d' : List ℕ} → 16384 + 16 * k + 16 ≤ length d → d' ≡ splice d (16384 + 16 * k) (item_bytes s) → length d' ≡ length d
item_length_lem d k s h e = ap length e ∙ length_splice d (16384 + 16 * k) (item_bytes s) (omega arith)

pub regs_start : (n : ℕ) (s : Low) → after_events (replicate (n - 0) Reg) s ≡ after_events (replicate n Reg) s
regs_start n s = let e : n - 0 ≡ n = omega arith in ap (λ (k : ℕ). after_events (replicate k Reg) s) e

pub regs_ready : (n : ℕ) {s s₁ : Low} {buf : List ℕ} → Ready s buf → s₁ ≡ after_events (replicate n Reg) s → Ready s₁ buf
regs_ready zero r e = rw e r
regs_ready (suc n) {s} r e = regs_ready n (ready_next r refl) e

pub fn_ready : {k : Bool} {s : Low} {n f : ℕ} {ps buf : List ℕ} {s' : Low} {buf' : List ℕ} → Ready s buf → PushesFn k s n f ps buf s' buf' → Ready s' buf'
fn_ready {k} {s} r g = let w = some_place k s.decls in ready_did r (g.pushes w.0 w.1)
