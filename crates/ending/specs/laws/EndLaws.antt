-- Laws of writing the end line and the names.
use Rattle.std.specs.Prelude.{◌≡◌, refl, Bool, true, false, cond, List, [], ◌∷◌, ◌++◌, map, ℕ, ◌+◌, ◌*◌, ◌≤◌, ◌<◌, eqb, get_or, take}
use Rattle.std.proofs.Common.{sym, arith}
use Rattle.std.proofs.Math.Option.{Option, none, some}
use Rattle.lent.specs.Bytes.{be_value, part}
use Rattle.lent.specs.Lists.{tabulate}
use Rattle.sifv.specs.Value.{Value}
use Rattle.sifv.specs.Slot.{decode_slot}
use Rattle.sifv.specs.inner.Seen.{seen}
use Rattle.sifv.specs.declared.SifVal.{SifVal}
use Rattle.sifv.specs.declared.SifVal.TheVariants.{Empty}
use Rattle.stored.specs.StateBytes.{slots_at}
use Rattle.vm_laws.specs.laws.StateLaws.{slot_at}
use Rattle.text.specs.Text.{ascii, decimal, joined, number_fields, line_of}
use Rattle.text.specs.declared.Writer.{Writer}
use Rattle.text.specs.inner.Appended.{Appended}
use Rattle.text.specs.laws.Writing.{appended_as, appended_then}
use Rattle.text.specs.laws.Joined.{appended_field, appended_fields, appended_turn}
use Rattle.values.specs.inner.SlotText.{slot_text}
use Rattle.listing_text.specs.Ending.{signed, name_line, name_lines}
use Rattle.ending.specs.inner.EndBytes.{signed_of, detail_count, details_in, stop_in}

-- ---- 0, 1 or 3 details

-- detail i of a report
abbrev pub detail_at : List ℕ → ℕ → ℕ
detail_at b i = be_value (part b (16 + 8 * i) 8)

module _ (b : List ℕ) where
  row : (p q r s t : Bool)
      → let n : ℕ = cond p 3 (cond q 1 (cond r 1 (cond s 1 (cond t 1 0)))) in (n ≤ 3) × (take n (detail_at b 0 ∷ (detail_at b 1 ∷ (detail_at b 2 ∷ []))) ≡ tabulate 0 n (detail_at b))
  row true q r s t = (omega arith, refl)
  row false true r s t = (omega arith, refl)
  row false false true s t = (omega arith, refl)
  row false false false true t = (omega arith, refl)
  row false false false false true = (omega arith, refl)
  row false false false false false = (omega arith, refl)

  pub details_row : (k : ℕ) → (detail_count k ≤ 3) × (take (detail_count k) (detail_at b 0 ∷ (detail_at b 1 ∷ (detail_at b 2 ∷ []))) ≡ tabulate 0 (detail_count k) (detail_at b))
  details_row k = row (eqb k 31) (eqb k 20) (eqb k 26) (eqb k 28) (eqb k 29)

-- ---- a name

name_some : (x : ℕ) (o : Option Value) {s : SifVal} → s ≡ seen o → (s ≡ Empty → ⊥) → line_of (ascii "name" ∷ (decimal x ∷ (slot_text o ∷ []))) ≡ name_line x o
name_some x none e h = absurd (h e)
name_some x (some v) e h = refl

-- ---- written

pub stop_put : (b : List ℕ) (k : ℕ) {v w₁ w₂ w₃ w₄ : Writer} → Appended v (joined (ascii " ") (ascii "end stopped" ∷ map decimal (k ∷ (get_or b 1 0 ∷ [])))) w₁
    → Appended w₁ (ascii " " ++ signed (signed_of (be_value (part b 8 8)))) w₂ → Appended w₂ (number_fields (details_in b)) w₃ → Appended w₃ (ascii "\n") w₄ → Appended v (stop_in b k) w₄
stop_put b k p₁ p₂ p₃ p₄ =
    let fs = ascii "stopped" ∷ (decimal k ∷ (decimal (get_or b 1 0) ∷ [])) in
    let l = signed (signed_of (be_value (part b 8 8))) in
    appended_then (appended_fields (ascii "end") (fs ++ (l ∷ [])) (details_in b) (appended_field (ascii "end") fs p₁ p₂) p₃) p₄

-- what the slot of a name shows, s
module _ (x : ℕ) (o : Option Value) {s : SifVal} (e : s ≡ seen o) where
  pub name_put : {v w₁ w₂ w₃ w₄ : Writer} → (s ≡ Empty → ⊥) → Appended v (joined (ascii " ") (ascii "name" ∷ map decimal (x ∷ []))) w₁ → Appended w₁ (ascii " ") w₂ → Appended w₂ (slot_text o) w₃
      → Appended w₃ (ascii "\n") w₄ → Appended v (name_line x o) w₄
  name_put f p₁ p₂ p₃ p₄ = appended_as (sym (name_some x o e f)) (appended_then (appended_field (ascii "name") (decimal x ∷ []) p₁ (appended_then p₂ p₃)) p₄)

-- one name more
pub names_turn : (b : List ℕ) (x : ℕ) {v w y : Writer} → x < 64 → Appended v (name_lines 0 x (slots_at b 24576 64)) w → Appended w (name_line x (decode_slot (part b (24576 + x * 256) 256))) y
    → Appended v (name_lines 0 (x + 1) (slots_at b 24576 64)) y
names_turn b x l p q =
    let f = slots_at b 24576 64 in
    appended_turn (λ (i : ℕ). name_line i (f i)) (λ (i n : ℕ). name_lines i n f) (λ i. refl) (λ i n. refl) x p
    (rw (slot_at b 24576 64 x l) q)
