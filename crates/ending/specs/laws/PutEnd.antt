-- Laws of writing the end line and the names at a place of a buffer.
use Rattle.std.specs.Prelude.{◌≡◌, refl, Bool, true, false, cond, List, [], ◌∷◌, ◌++◌, map, ℕ, ◌+◌, ◌*◌, ◌≤◌, ◌<◌, eqb, length, get_or, take}
use Rattle.std.proofs.Common.{sym, ap, ◌∙◌, arith}
use Rattle.std.proofs.Math.Option.{Option, none, some}
use Rattle.lent.specs.Bytes.{be_value, part}
use Rattle.sifv.specs.Value.{Value, One}
use Rattle.sifv.specs.Value as model
use Rattle.sifv.specs.Slot.{decode_slot}
use Rattle.sifv.specs.inner.Seen.{seen, kind_in}
use Rattle.sifv.specs.declared.SifVal.{SifVal}
use Rattle.stored.specs.StateBytes.{slots_at}
use Rattle.vm_laws.specs.laws.StateLaws.{slot_at}
use Rattle.text.specs.Text.{ascii, decimal, number_fields, line_of}
use Rattle.text.specs.Put.{Put}
use Rattle.text.specs.laws.PutLaws.{put_none, put_then, put_within}
use Rattle.text.specs.laws.PutJoined.{put_field, put_fields, put_end, put_turn}
use Rattle.values.specs.inner.SlotText.{slot_text}
use Rattle.listing_text.specs.Ending.{signed, name_line, name_lines}
use Rattle.ending.specs.inner.EndBytes.{signed_of, detail_count, stop_in}

-- ---- 0, 1 or 3 details

no_third : (a b c d e : Bool) → let n : ℕ = cond a 3 (cond b 1 (cond c 1 (cond d 1 (cond e 1 0)))) in (n ≡ 0 → ⊥) → (n ≡ 1 → ⊥) → n ≡ 3
no_third true b c d e h g = refl
no_third false true c d e h g = absurd (g refl)
no_third false false true d e h g = absurd (g refl)
no_third false false false true e h g = absurd (g refl)
no_third false false false false true h g = absurd (g refl)
no_third false false false false false h g = absurd (h refl)

pub three_details : (k : ℕ) {n : ℕ} → n ≡ detail_count k → (n ≡ 0 → ⊥) → (n ≡ 1 → ⊥) → detail_count k ≡ 3
three_details k e h g = no_third (eqb k 31) (eqb k 20) (eqb k 26) (eqb k 28) (eqb k 29) (λ z. h (e ∙ z)) (λ z. g (e ∙ z))

-- ---- a name

name_none : (x : ℕ) (o : Option Value) → kind_in (seen o) ≡ 0 → [] ≡ name_line x o
name_none x none e = refl
name_none x (some (One (model.Num y))) e = absurd (omega arith)
name_none x (some (One (model.Str t))) e = absurd (omega arith)
name_none x (some (One (model.Bl b))) e = absurd (omega arith)
name_none x (some (One model.Null)) e = absurd (omega arith)
name_none x (some (model.Arr l)) e = absurd (omega arith)
name_none x (some (model.Tab t)) e = absurd (omega arith)

name_some : (x : ℕ) (o : Option Value) → (kind_in (seen o) ≡ 0 → ⊥) → line_of (ascii "name" ∷ (decimal x ∷ (slot_text o ∷ []))) ≡ name_line x o
name_some x none h = absurd (h refl)
name_some x (some v) h = refl

-- ---- written

module _ {out : List ℕ} {at : ℕ} (h : at ≤ length out) where
  pub stop_put : (b : List ℕ) (k : ℕ) {n w : ℕ} {out₁ : List ℕ} {r₁ : ℕ} {out₂ : List ℕ} {r₂ : ℕ} {out₃ : List ℕ} {r₃ : ℕ} {out₄ : List ℕ} {r₄ : ℕ} {out₅ : List ℕ} {r₅ : ℕ} {out₆ : List ℕ} {r₆ : ℕ}
      → n ≡ get_or b 1 0 → w ≡ be_value (part b 8 8) → Put out at (ascii "end stopped") out₁ r₁ → Put out₁ r₁ (ascii " " ++ decimal k) out₂ r₂ → Put out₂ r₂ (ascii " " ++ decimal n) out₃ r₃
      → Put out₃ r₃ (ascii " " ++ signed (signed_of w)) out₄ r₄
      → Put out₄ r₄ (number_fields (take (detail_count n) (be_value (part b 16 8) ∷ (be_value (part b 24 8) ∷ (be_value (part b 32 8) ∷ []))))) out₅ r₅ → Put out₅ r₅ (ascii "\n") out₆ r₆
      → Put out at (stop_in b k) out₆ r₆
  stop_put b k {n} {w} e f p1 p2 p3 p4 p5 p6 =
      let c = get_or b 1 0 in
      let l = be_value (part b 8 8) in
      let ds = be_value (part b 16 8) ∷ (be_value (part b 24 8) ∷ (be_value (part b 32 8) ∷ [])) in
      let s = ascii "stopped" in
      let q2 = put_field h (ascii "end") (s ∷ []) p1 p2 in
      let q3 = put_field h (ascii "end") (s ∷ (decimal k ∷ [])) q2 (rw e at p3) in
      let q4 = put_field h (ascii "end") (s ∷ (decimal k ∷ (decimal c ∷ []))) q3 (rw f at p4) in
      let q5 = put_fields h (ascii "end") (s ∷ (decimal k ∷ (decimal c ∷ (signed (signed_of l) ∷ [])))) (take (detail_count c) ds) q4 (rw e at p5) in
      put_end h (ascii "end" ∷ (s ∷ (decimal k ∷ (decimal c ∷ (signed (signed_of l) ∷ map decimal (take (detail_count c) ds)))))) q5 p6

  -- what the slot of a name shows, v, and its kind
  module _ (x : ℕ) (o : Option Value) {v : SifVal} {k : ℕ} (e : v ≡ seen o) (f : k ≡ kind_in v) where
    pub name_absent : k ≡ 0 → Put out at (name_line x o) out at
    name_absent g = rw (← name_none x o (sym (f ∙ ap kind_in e) ∙ g)) (put_none out at h)

    pub name_put : {out₁ : List ℕ} {r₁ : ℕ} {out₂ : List ℕ} {r₂ : ℕ} {out₃ : List ℕ} {r₃ : ℕ} {out₄ : List ℕ} {r₄ : ℕ} {out₅ : List ℕ} {r₅ : ℕ} → (k ≡ 0 → ⊥)
        → Put out at (ascii "name") out₁ r₁ → Put out₁ r₁ (ascii " " ++ decimal x) out₂ r₂ → Put out₂ r₂ (ascii " ") out₃ r₃ → Put out₃ r₃ (slot_text o) out₄ r₄
        → Put out₄ r₄ (ascii "\n") out₅ r₅ → Put out at (name_line x o) out₅ r₅
    name_put g p1 p2 p3 p4 p5 =
        let q2 = put_field h (ascii "name") [] p1 p2 in
        let q4 = put_field h (ascii "name") (decimal x ∷ []) q2 (put_then (put_within h q2) p3 p4) in
        rw (← name_some x o (λ z. g (f ∙ ap kind_in e ∙ z))) (put_end h (ascii "name" ∷ (decimal x ∷ (slot_text o ∷ []))) q4 p5)

  -- one name more
  pub names_turn : (b : List ℕ) (x : ℕ) {out₁ : List ℕ} {r₁ : ℕ} {out₂ : List ℕ} {r₂ : ℕ} → x < 64 → Put out at (name_lines 0 x (slots_at b 24576 64)) out₁ r₁
      → Put out₁ r₁ (name_line x (decode_slot (part b (24576 + x * 256) 256))) out₂ r₂ → Put out at (name_lines 0 (x + 1) (slots_at b 24576 64)) out₂ r₂
  names_turn b x l p q =
      let f = slots_at b 24576 64 in
      put_turn h (λ (i : ℕ). name_line i (f i)) (λ (i n : ℕ). name_lines i n f) (λ i. refl) (λ i n. refl) x p
      (rw (slot_at b 24576 64 x l) q)
