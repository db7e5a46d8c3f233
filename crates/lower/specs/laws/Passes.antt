-- Passes over a tree, for the declarations and for the code: each gives the refusal, and after each the records and the items are counted.
use Rattle.std.specs.Prelude.{suc, ◌+◌, ◌≤◌, ◌<◌, ◌≡◌, refl, Bool, true, false, cond, List, ◌∷◌, length}
use Rattle.std.proofs.Common.{arith, le-ltb}
use Rattle.std.proofs.lemmas.Bool.{lt-leb}
use Rattle.opc.specs.Op.{Instr, Code}
use Rattle.compiler.specs.Lower.{Section, Decl, Main, Place, Event, Push, refusal, only, code_of}
use Rattle.emit.specs.declared.Low.{Low}
use Rattle.emit.specs.inner.Run.{kept, no_room, counted, instr_items, after_events}
use Rattle.emit.specs.laws.Laws.{ran}
use Rattle.emit.specs.laws.Joins.{section_of, pool_count, only_kept, refused_as, counted_count}

-- the items fit; the records are among the instructions counted
pub record Fresh (es : List Event) (s : Low) : Type 0 where
  pub few : s.recs ≤ s.count
  pub room : s.items + pool_count (code_of (section_of s.decls) es) ≤ 1024

-- ---- the refusal of the first pass

fresh_full : (k : Bool) (s : Low) (i : Instr) (c : Code) → s.count < 1024 → s.recs ≤ s.count → s.items + pool_count (cond k (i ∷ c) c) ≤ 1024 → no_room k s (instr_items i) ≡ false
fresh_full true s i c h r p = rw (lt-leb 1024 s.count h, lt-leb 1024 s.recs (omega arith), le-ltb 1024 (s.items + instr_items i) (omega (arith, p)))
fresh_full false s i c h r p = rw (lt-leb 1024 s.count h)

fresh_next : (k : Bool) (w : Place) (i : Instr) (es : List Event) (s : Low) → k ≡ kept s.decls w.section → Fresh (Push w i ∷ es) s → Fresh es (counted k s (instr_items i))
fresh_next true w i es s e r =
    let g = only_kept s.decls w.section i (code_of (section_of s.decls) es) in
    let b = rw (g, ← e) at r.room in
    record { few = omega (arith, r.few); room = omega (arith, b) }
fresh_next false w i es s e r =
    let g = only_kept s.decls w.section i (code_of (section_of s.decls) es) in
    record { few = omega (arith, r.few); room = rw (g, ← e) at r.room }

-- the refusal is that of the events, however many instructions are pushed
pub refused_first : (es : List Event) (s : Low) → s.refused ≡ 0 → Fresh es s → (after_events es s).refused ≡ refusal es s.reg s.count
refused_first =
    refused_as Fresh (λ es s r. record { few = r.few; room = r.room })
    (λ w i es s h r.
    let c = code_of (section_of s.decls) es in
    fresh_full (kept s.decls w.section) s i c h r.few (rw (only_kept s.decls w.section i c) at r.room))
    (λ w i es s r. fresh_next (kept s.decls w.section) w i es s refl r)

-- ---- the counts after a pass

-- what a pass adds where nothing is refused
pub record Ended (es : List Event) (s t : Low) : Type 0 where
  pub recs : t.recs ≡ s.recs + length (code_of (section_of s.decls) es)
  pub items : t.items ≡ s.items + pool_count (code_of (section_of s.decls) es)

ended_push : (k : Bool) (w : Place) (i : Instr) (es : List Event) (s t : Low) → k ≡ kept s.decls w.section → Ended es (counted k s (instr_items i)) t → Ended (Push w i ∷ es) s t
ended_push true w i es s t e d =
    let g = only_kept s.decls w.section i (code_of (section_of s.decls) es) in
    record { recs = rw (g, ← e) (omega (arith, d.recs)); items = rw (g, ← e) (omega (arith, d.items)) }
ended_push false w i es s t e d =
    let g = only_kept s.decls w.section i (code_of (section_of s.decls) es) in
    record { recs = rw (g, ← e) d.recs; items = rw (g, ← e) d.items }

pub ended : (es : List Event) (s : Low) → (after_events es s).refused ≡ 0 → Ended es s (after_events es s)
ended =
    ran Ended (λ s. record { recs = omega arith; items = omega arith }) (λ es s t o e d. record { recs = d.recs; items = d.items })
    (λ w i es s t o e d. ended_push (kept s.decls w.section) w i es s t refl d)

-- ---- the count of a pass: the instructions of both sections

counted_one : (s : Section) (i : Instr) (es : List Event) → length (only Decl s i (code_of Decl es)) + length (only Main s i (code_of Main es)) ≡ suc (length (code_of Decl es) + length (code_of Main es))
counted_one Decl i es = omega arith
counted_one Main i es = omega arith

pub counts : (es : List Event) (s : Low) → (after_events es s).refused ≡ 0 → (after_events es s).count ≡ s.count + (length (code_of Decl es) + length (code_of Main es))
counts =
    ran (λ es s t. t.count ≡ s.count + (length (code_of Decl es) + length (code_of Main es))) (λ s. omega arith) (λ es s t o e q. q)
    (λ w i es s t o e q. omega (arith, q, counted_count (kept s.decls w.section) s (instr_items i), counted_one w.section i es))
