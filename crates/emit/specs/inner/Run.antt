-- Events, carried out one after the other on a state and a program buffer. Definitions only.
use Rattle.std.specs.Prelude.{ℕ, ◌+◌, ◌*◌, ◌≤◌, ◌≡◌, Bool, true, false, cond, not, ◌&&◌, ◌||◌, List, [], ◌∷◌, map, leb, ltb, eqb, length}
use Rattle.lent.specs.Bytes.{splice, concat}
use Rattle.opc.specs.Op.{Instr, op}
use Rattle.opc.specs.Record.{items_of, item_bytes, encode_instr}
use Rattle.compiler.specs.Lower.{Section, Decl, Main, Place, Event, Reg, Push, Below}
use Rattle.emit.specs.declared.Low.{Low}

-- whether the pass writes the instructions of a section: the first the declarations, the second the code
abbrev pub kept : Bool → Section → Bool
kept true Decl = true
kept true Main = false
kept false Decl = false
kept false Main = true

abbrev pub refuse : ℕ → Low → Low
refuse n s = record { reg = s.reg; count = s.count; recs = s.recs; items = s.items; refused = n; decls = s.decls }

-- no room for one instruction more, with n items
abbrev pub no_room : Bool → Low → ℕ → Bool
no_room k s n = leb 1024 s.count || (k && (leb 1024 s.recs || ltb 1024 (s.items + n)))

abbrev pub counted : Bool → Low → ℕ → Low
counted k s n =
    cond k
    (record { reg = s.reg; count = s.count + 1; recs = s.recs + 1; items = s.items + n; refused = s.refused; decls = s.decls })
    (record { reg = s.reg; count = s.count + 1; recs = s.recs; items = s.items; refused = s.refused; decls = s.decls })

abbrev pub instr_items : Instr → ℕ
instr_items i = length (items_of (op i))

-- an event where nothing is refused so far
abbrev pub act : Event → Low → Low
act Reg s = cond (leb 96 s.reg) (refuse 7 s) (record { reg = s.reg + 1; count = s.count; recs = s.recs; items = s.items; refused = s.refused; decls = s.decls })
act (Push w i) s = cond (no_room (kept s.decls w.section) s (instr_items i)) (refuse 7 s) (counted (kept s.decls w.section) s (instr_items i))
act Below s = refuse 6 s

abbrev pub step_event : Event → Low → Low
step_event e s = cond (eqb s.refused 0) (act e s) s

abbrev pub after_events : List Event → Low → Low
after_events [] s = s
after_events (e ∷ es) s = after_events es (step_event e s)

-- an instruction's record and items, behind those written so far
abbrev pub put_instr : Instr → Low → List ℕ → List ℕ
put_instr i s buf = splice (splice buf (16384 + 16 * s.items) (concat (map item_bytes (items_of (op i))))) (16 * s.recs) (encode_instr i s.items)

abbrev pub goes : Bool → Low → ℕ → Bool
goes k s n = eqb s.refused 0 && (not (no_room k s n) && k)

abbrev pub write : Event → Low → List ℕ → List ℕ
write Reg s buf = buf
write (Push w i) s buf = cond (goes (kept s.decls w.section) s (instr_items i)) (put_instr i s buf) buf
write Below s buf = buf

abbrev pub wrote : List Event → Low → List ℕ → List ℕ
wrote [] s buf = buf
wrote (e ∷ es) s buf = wrote es (step_event e s) (write e s buf)

-- a state and a buffer to start from
pub record Ready (s : Low) (buf : List ℕ) : Type 0 where
  pub registers : s.reg ≤ 96
  pub pushed : s.count ≤ 1024
  pub records : s.recs ≤ 1024
  pub pool : s.items ≤ 1024
  pub room : 40960 ≤ length buf

-- the state and the buffer after the events
pub record Did (es : List Event) (s : Low) (buf : List ℕ) (s' : Low) (buf' : List ℕ) : Type 0 where
  pub state : s' ≡ after_events es s
  pub buffer : buf' ≡ wrote es s buf

-- an instruction with n items is pushed, once they are written to the pool where a record was; bs are the bytes of the record
pub record PushesItems (k : Bool) (s : Low) (n : ℕ) (bs buf : List ℕ) (s' : Low) (buf₁ : List ℕ) : Type 0 where
  pub did : (w : Place) (i : Instr) → length (items_of (op i)) ≡ n → bs ≡ encode_instr i s.items → k ≡ kept s.decls w.section → (buf₂ : List ℕ)
      → buf₂ ≡ cond (ltb s.recs s'.recs) (splice buf₁ (16384 + 16 * s.items) (concat (map item_bytes (items_of (op i))))) buf₁ → Did (Push w i ∷ []) s buf s' buf₂
  pub room : ltb s.recs s'.recs ≡ true → s.items + n ≤ 1024

-- what `push_op` and `load` ensure: bs are the bytes of the record
abbrev pub PushesOp : Bool → Low → List ℕ → List ℕ → Low → List ℕ → Type 0
PushesOp k s bs buf s' buf' =
    (w : Place) (i : Instr) → items_of (op i) ≡ [] → bs ≡ encode_instr i s.items → k ≡ kept s.decls w.section → Did (Push w i ∷ []) s buf s' buf'

abbrev pub Loads : Bool → Low → List ℕ → List ℕ → Low → List ℕ → Type 0
Loads k s bs buf s' buf' =
    (w : Place) (i : Instr) → items_of (op i) ≡ [] → bs ≡ encode_instr i s.items → k ≡ kept s.decls w.section → Did (Reg ∷ (Push w i ∷ [])) s buf s' buf'
