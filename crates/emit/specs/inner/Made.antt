-- What a function that reads a tree and emits its events ensures, and what it reads. Definitions only.
use Rattle.std.specs.Prelude.{ℕ, ◌+◌, ◌≤◌, ◌≡◌, Bool, cond, List, ◌++◌, ltb, eqb, length, drop}
use Rattle.ast.specs.Node.{Node}
use Rattle.ast.specs.Flat.{entry_bytes, body_bytes}
use Rattle.compiler.specs.Lower.{Place, Event}
use Rattle.emit.specs.declared.Low.{Low}
use Rattle.emit.specs.declared.Done.{Done}
use Rattle.emit.specs.inner.Run.{kept, Ready, Did}

-- ---- what is read

-- c and b start with the entries and the bodies of the nodes
pub record Spells (ns : List Node) (c b : List ℕ) : Type 0 where
  pub rest : List ℕ
  pub restb : List ℕ
  pub nodes : c ≡ entry_bytes ns ++ rest
  pub bodies : b ≡ body_bytes ns ++ restb

-- ---- what is made

-- the events are carried out; u bytes of the entries and v of the bodies are read; the label behind them is l
pub record Made (es : List Event) (u v l : ℕ) (s : Low) (buf : List ℕ) (d : Done) (buf' : List ℕ) : Type 0 where
  pub cont : d.cont ≡ u
  pub body : d.body ≡ v
  pub lbl : d.lbl ≡ l
  pub did : Did es s buf d.low buf'

-- an operator of the tree as a kind of the operation
abbrev pub bin_code : ℕ → ℕ
bin_code t = cond (ltb t 7) t (cond (ltb t 12) (t + 1) (cond (eqb t 12) 14 13))

-- ---- parts of a tree: what stands somewhere, with the nodes that spell it, and what is emitted for it

-- ok: what it is known to be; emits: its events in a place, from a label and a register on; next: the label behind it
pub record Part (X : Type 0) : Type 1 where
  pub nodes : X → List Node
  pub ok : X → Type 0
  pub emits : X → Place → ℕ → ℕ → List Event
  pub next : X → ℕ → ℕ

-- c and b start with t
pub record At {X : Type 0} (P : Part X) (t : X) (c b : List ℕ) : Type 0 where
  pub spells : Spells (P.nodes t) c b
  pub ok : P.ok t

-- asked at the front: a state to start from, and some part that is spelt
pub record Reads {X : Type 0} (P : Part X) (c b : List ℕ) (s : Low) (buf : List ℕ) : Type 0 where
  pub ready : Ready s buf
  pub tree : X
  pub spelt : At P tree c b

-- given there: whatever part is spelt, it is made
pub record Front {X : Type 0} (P : Part X) (c b : List ℕ) (k : Bool) (n : ℕ) (s : Low) (buf : List ℕ) (d : Done) (buf' : List ℕ) : Type 0 where
  pub front : (t : X) → At P t c b → (w : Place) → k ≡ kept s.decls w.section
      → Made (P.emits t w n s.reg) (length (entry_bytes (P.nodes t))) (length (body_bytes (P.nodes t))) (P.next t n) s buf d buf'

-- the same at the place that p has reached
pub record ReadsAt {X : Type 0} (P : Part X) (c b : List ℕ) (p : Done) (buf : List ℕ) : Type 0 where
  pub ready : Ready p.low buf
  pub cont : p.cont ≤ length c
  pub body : p.body ≤ length b
  pub tree : X
  pub spelt : At P tree (drop p.cont c) (drop p.body b)

pub record Goes {X : Type 0} (P : Part X) (c b : List ℕ) (k : Bool) (p : Done) (buf : List ℕ) (d : Done) (buf' : List ℕ) : Type 0 where
  pub goes : (t : X) → At P t (drop p.cont c) (drop p.body b) → (w : Place) → k ≡ kept p.low.decls w.section
      → Made (P.emits t w p.lbl p.low.reg) (p.cont + length (entry_bytes (P.nodes t))) (p.body + length (body_bytes (P.nodes t))) (P.next t p.lbl)
      p.low buf d buf'
