-- Instructions at a place of the tree.
use Rattle.std.specs.Prelude.{ℕ, ◌+◌, ◌≡◌, refl, Bool, List, [], ◌∷◌}
use Rattle.std.proofs.Common.{ap}
use Rattle.opc.specs.Op.{Op, instr}
use Rattle.opc.specs.Record.{items_of, encode_instr}
use Rattle.compiler.specs.Lower.{Place, Event, push}
use Rattle.emit.specs.declared.Done.{Done}
use Rattle.emit.specs.inner.Run.{Ready, PushesOp, Loads}
use Rattle.emit.specs.inner.Made.{Made}
use Rattle.emit.specs.laws.Laws.{ready_did, some_place}
use Rattle.emit.specs.laws.Places.{made_push}
use Rattle.stmt.specs.inner.Parts.{Emitted}

-- what `push_at` and `load_at` ensure
abbrev pub Pushed : Bool → Done → List ℕ → List ℕ → Done → List ℕ → Type 0
Pushed k p bs buf r buf' = (r.cont ≡ p.cont) × (r.body ≡ p.body) × (r.lbl ≡ p.lbl) × PushesOp k p.low bs buf r.low buf'

abbrev pub Loaded : Bool → Done → List ℕ → List ℕ → Done → List ℕ → Type 0
Loaded k p bs buf r buf' = (r.cont ≡ p.cont) × (r.body ≡ p.body) × (r.lbl ≡ p.lbl) × Loads k p.low bs buf r.low buf'

-- nothing yet
pub here : (p : Done) (buf : List ℕ) → Made [] p.cont p.body p.lbl p.low buf p buf
here p buf = record { cont = refl; body = refl; lbl = refl; did = record { state = refl; buffer = refl } }

-- one instruction
pub emit_one : {k : Bool} {p r : Done} {bs buf buf' : List ℕ} (n : ℕ) (o : Op) → items_of o ≡ [] → ((j : ℕ) → bs ≡ encode_instr (instr n o) j) → Pushed k p bs buf r buf'
    → Emitted (λ w. push w n o ∷ []) p.lbl k p buf r buf'
emit_one {p = p} {buf = buf} n o i b h = record { made = λ w kw. made_push (here p buf) w kw (instr n o) (instr n o) h i (b p.low.items) (λ z. refl) }

-- then a label is opened
pub label_next : {f : Place → List Event} {l : ℕ} {k : Bool} {p j r : Done} {buf buf' : List ℕ} → Emitted f l k p buf j buf' → r ≡ record { cont = j.cont; body = j.body; lbl = j.lbl + 1; low = j.low }
    → Emitted f (l + 1) k p buf r buf'
label_next h e = record { made = λ w kw. let m = h.made w kw in rw e (record { cont = m.cont; body = m.body; lbl = ap (λ (i : ℕ). i + 1) m.lbl; did = m.did }) }

-- a label is opened first
pub label_first : {f : Place → List Event} {l n : ℕ} {k : Bool} {p e r : Done} {buf buf' : List ℕ} → e ≡ record { cont = p.cont; body = p.body; lbl = n; low = p.low } → Emitted f l k e buf r buf' → Emitted f l k p buf r buf'
label_first q h = record { made = λ w kw. let m = (rw q at h).made w kw in record { cont = m.cont; body = m.body; lbl = m.lbl; did = m.did } }

module _ {f : Place → List Event} {l : ℕ} {k : Bool} {p d : Done} {buf buf' : List ℕ} (h : Emitted f l k p buf d buf') where
  pub emitted_some : (w : Place) × Made (f w) p.cont p.body l p.low buf d buf'
  emitted_some = let w = some_place k p.low.decls in (w.0, h.made w.0 w.1)

  pub emitted_ready : Ready p.low buf → Ready d.low buf'
  emitted_ready r = ready_did r emitted_some.1.did

  pub emitted_lbl : d.lbl ≡ l
  emitted_lbl = emitted_some.1.lbl

  pub emitted_cont : d.cont ≡ p.cont
  emitted_cont = emitted_some.1.cont

  pub emitted_body : d.body ≡ p.body
  emitted_body = emitted_some.1.body
