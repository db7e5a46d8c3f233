-- Leaves: an instruction that loads a value.
use Rattle.std.specs.Prelude.{ℕ, ◌≡◌, refl, Bool, true, false, cond, List, [], ◌∷◌, Float}
use Rattle.std.proofs.Common.{ap, sym}
use Rattle.std.specs.Float.Ieee.{of_bits, to_bits}
use Rattle.std.specs.Float.{binary64}
use Rattle.sifv.specs.Value.{Single, One, Bl, Num, Str}
use Rattle.sifv.specs.Slot.{single_kind, word_of}
use Rattle.sifv.specs.inner.Seen.{single_seen, word_in}
use Rattle.sifv.specs.declared.SifVal.{SifVal}
use Rattle.sifv.specs.declared.SifVal.TheVariants as show
use Rattle.opc.specs.Op.{Op, Ldc, Ldn, Stc, Stn, instr}
use Rattle.opc.specs.Record.{Fields, fields, field_bytes, items_of, encode_instr}
use Rattle.compiler.specs.Lower.{Place, push, load}
use Rattle.emit.specs.declared.Low.{Low}
use Rattle.emit.specs.declared.Done.{Done}
use Rattle.emit.specs.inner.Run.{kept, Ready, PushesOp, Loads}
use Rattle.emit.specs.inner.Made.{Made}

pub ready_start : {p : Done} {u v l : ℕ} {s : Low} {buf : List ℕ} → p ≡ record { cont = u; body = v; lbl = l; low = s } → Ready s buf → Ready p.low buf
ready_start e r = rw e r

pub loaded : {p r : Done} {u v l : ℕ} {s : Low} {buf bs buf' : List ℕ} {k : Bool} (w : Place) (n : ℕ) (o : Op)
    → p ≡ record { cont = u; body = v; lbl = l; low = s } → (r.cont ≡ p.cont) × (r.body ≡ p.body) × (r.lbl ≡ p.lbl) × Loads k p.low bs buf r.low buf'
    → items_of o ≡ [] → ((j : ℕ) → bs ≡ encode_instr (instr n o) j) → k ≡ kept s.decls w.section → Made (load w n o) u v l s buf r buf'
loaded {s = s} w n o e h i b q =
    let h' = rw e at h in
    record { cont = h'.0; body = h'.1; lbl = h'.2; did = h'.3 w (instr n o) i (b s.items) q }

pub bl_bytes : {f : Fields} {n r v : ℕ} (b : Bool) → v ≡ cond b 1 0 → f ≡ fields n 3 3 r 0 0 0 v → (j : ℕ) → field_bytes f ≡ encode_instr (instr n (Ldc r (One (Bl b)))) j
bl_bytes true e g j = ap field_bytes (rw e at g)
bl_bytes false e g j = ap field_bytes (rw e at g)

pub text_bytes : {f : Fields} {n r v t : ℕ} → v ≡ t → f ≡ fields n 3 2 r 0 0 0 v → (j : ℕ) → field_bytes f ≡ encode_instr (instr n (Ldc r (One (Str t)))) j
text_bytes e g j = ap field_bytes (rw e at g)

pub name_bytes : {f : Fields} {n r v x : ℕ} → x ≡ v → f ≡ fields n 4 0 r v 0 0 0 → (j : ℕ) → field_bytes f ≡ encode_instr (instr n (Ldn r x)) j
name_bytes e g j = rw e (ap field_bytes g)

pub num_bytes : {f : Fields} {n r word b v : ℕ} {x : Float} → b ≡ v → x ≡ of_bits binary64 v → word ≡ to_bits binary64 x → f ≡ fields n 3 1 r 0 0 0 word
    → (j : ℕ) → field_bytes f ≡ encode_instr (instr n (Ldc r (One (Num (of_bits binary64 b))))) j
num_bytes e h g k j = rw e (ap field_bytes (rw (g, h) at k))

pub stored : {p r : Done} {u v l : ℕ} {s : Low} {buf bs buf' : List ℕ} {k : Bool} (w : Place) (n : ℕ) (o : Op)
    → p ≡ record { cont = u; body = v; lbl = l; low = s } → (r.cont ≡ p.cont) × (r.body ≡ p.body) × (r.lbl ≡ p.lbl) × PushesOp k p.low bs buf r.low buf'
    → items_of o ≡ [] → ((j : ℕ) → bs ≡ encode_instr (instr n o) j) → k ≡ kept s.decls w.section → Made (push w n o ∷ []) u v l s buf r buf'
stored {s = s} w n o e h i b q =
    let h' = rw e at h in
    record { cont = h'.0; body = h'.1; lbl = h'.2; did = h'.3 w (instr n o) i (b s.items) q }

pub bl_stored : {f : Fields} {n x v : ℕ} {t : Bool} (b : Bool) → b ≡ t → v ≡ cond t 1 0 → f ≡ fields n 9 3 x 0 0 0 v → (j : ℕ) → field_bytes f ≡ encode_instr (instr n (Stc (One (Bl b)) x)) j
bl_stored true e h g j = ap field_bytes (rw (h, sym e) at g)
bl_stored false e h g j = ap field_bytes (rw (h, sym e) at g)

pub text_stored : {f : Fields} {n x v t : ℕ} → v ≡ t → f ≡ fields n 9 2 x 0 0 0 v → (j : ℕ) → field_bytes f ≡ encode_instr (instr n (Stc (One (Str t)) x)) j
text_stored e g j = ap field_bytes (rw e at g)

pub name_stored : {f : Fields} {n x v y : ℕ} → y ≡ v → f ≡ fields n 10 0 v x 0 0 0 → (j : ℕ) → field_bytes f ≡ encode_instr (instr n (Stn y x)) j
name_stored e g j = rw e (ap field_bytes g)

pub num_stored : {f : Fields} {n x word b v : ℕ} {z : Float} → b ≡ v → z ≡ of_bits binary64 v → word ≡ to_bits binary64 z → f ≡ fields n 9 1 x 0 0 0 word
    → (j : ℕ) → field_bytes f ≡ encode_instr (instr n (Stc (One (Num (of_bits binary64 b))) x)) j
num_stored e h g k j = rw e (ap field_bytes (rw (g, h) at k))

-- a single value's number is that of what it shows
word_shown : (v : SifVal) → word_in v ≡ word_of (single_seen v)
word_shown show.Empty = refl
word_shown (show.Num x) = refl
word_shown (show.Str t) = refl
word_shown (show.Bl b) = refl
word_shown show.Null = refl
word_shown (show.Arr n) = refl
word_shown (show.Tab n) = refl

-- a literal loaded, and stored
pub literal_bytes : {f : Fields} {n r kind word : ℕ} {x : Single} (v : SifVal) → single_seen v ≡ x → kind ≡ single_kind (single_seen v) → word ≡ word_in v
    → f ≡ fields n 3 kind r 0 0 0 word → (j : ℕ) → field_bytes f ≡ encode_instr (instr n (Ldc r (One x))) j
literal_bytes v e k q g j = rw (← e) (ap field_bytes (rw (k, q, word_shown v) at g))

pub literal_stored : {f : Fields} {n r kind word : ℕ} {x : Single} (v : SifVal) → single_seen v ≡ x → kind ≡ single_kind (single_seen v) → word ≡ word_in v
    → f ≡ fields n 9 kind r 0 0 0 word → (j : ℕ) → field_bytes f ≡ encode_instr (instr n (Stc (One x) r)) j
literal_stored v e k q g j = rw (← e) (ap field_bytes (rw (k, q, word_shown v) at g))
