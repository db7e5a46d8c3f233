-- A slot's value as text at a place of a buffer, by what the slot shows; items and entries one by one.
use Rattle.std.specs.Prelude.{◌≡◌, refl, List, [], ◌++◌, map, ℕ, ◌+◌, ◌≤◌, ◌<◌, length, get_or}
use Rattle.std.proofs.Common.{sym, ap, ap₂, ◌∙◌, arith}
use Rattle.std.proofs.Math.Option.{Option, none, some}
use Rattle.lent.specs.Bytes.{part}
use Rattle.lent.specs.laws.Parts.{get_d_part}
use Rattle.sifv.specs.Value.{entry, Value, One}
use Rattle.sifv.specs.Value as model
use Rattle.sifv.specs.Slot.{contents, decode_slot}
use Rattle.sifv.specs.inner.Seen.{shown, seen, single_seen, kind_in, slot_item, entries_in}
use Rattle.sifv.specs.laws.Laws.{length_singles, length_entries}
use Rattle.sifv.specs.laws.Items.{contents_more}
use Rattle.sifv.specs.declared.SifVal.{SifVal}
use Rattle.sifv.specs.declared.SifVal.TheVariants.{Empty, Arr, Tab}
use Rattle.text.specs.Text.{ascii, decimal, single_text, entry_text, joined, value_text, separator}
use Rattle.text.specs.Put.{Put}
use Rattle.text.specs.laws.PutLaws.{put_as, put_none}
use Rattle.text.specs.laws.PutJoined.{put_three, put_element}
use Rattle.values.specs.inner.SlotText.{slot_text}
use Rattle.values.specs.laws.SlotTextLaws.{seen_text, text_one, arr_shown, tab_shown, entries_more}

text_none : (o : Option Value) → Empty ≡ seen o → [] ≡ slot_text o
text_none none e = refl
text_none (some (One (model.Num x))) e = absurd (let z = ap kind_in e in omega arith)
text_none (some (One (model.Str t))) e = absurd (let z = ap kind_in e in omega arith)
text_none (some (One (model.Bl b))) e = absurd (let z = ap kind_in e in omega arith)
text_none (some (One model.Null)) e = absurd (let z = ap kind_in e in omega arith)
text_none (some (model.Arr l)) e = absurd (let z = ap kind_in e in omega arith)
text_none (some (model.Tab t)) e = absurd (let z = ap kind_in e in omega arith)

-- ---- written

module _ {out : List ℕ} {at : ℕ} (h : at ≤ length out) {out₁ : List ℕ} {r₁ : ℕ} {out₂ : List ℕ} {r₂ : ℕ} {out₃ : List ℕ} {r₃ : ℕ} where
  pub items_turn : (b : List ℕ) (i : ℕ) {v : SifVal} → i < 24 → Put out at (joined (ascii ",") (map single_text (contents i b))) out₁ r₁ → Put out₁ r₁ (separator (ascii ",") i) out₂ r₂
      → v ≡ shown (slot_item b i) → Put out₂ r₂ (single_text (single_seen v)) out₃ r₃ → Put out at (joined (ascii ",") (map single_text (contents (i + 1) b))) out₃ r₃
  items_turn b i g p q e r =
      put_element h single_text (ascii ",") (contents i b) (contents (i + 1) b) (slot_item b i) (sym (length_singles i (part b 16 24) (part b 40 192))) (contents_more i b g) p q
      (put_as (seen_text (slot_item b i) e) r)

  pub entries_turn : (b : List ℕ) (i : ℕ) → i < 16 → Put out at (joined (ascii ",") (map entry_text (entries_in i b))) out₁ r₁ → Put out₁ r₁ (separator (ascii ",") i) out₂ r₂
      → Put out₂ r₂ (entry_text (entry (get_or b (232 + i) 0) (slot_item b i))) out₃ r₃ → Put out at (joined (ascii ",") (map entry_text (entries_in (i + 1) b))) out₃ r₃
  entries_turn b i g p q r =
      put_element h entry_text (ascii ",") (entries_in i b) (entries_in (i + 1) b) (entry (get_or b (232 + i) 0) (slot_item b i))
      (sym (length_entries (part b 232 16) (contents i b) ∙ length_singles i (part b 16 24) (part b 40 192))) (entries_more i b g) p q r

  -- a key, `=` and a value
  pub entry_put : (s : List ℕ) (from i : ℕ) {k : ℕ} {v : SifVal} → k ≡ get_or s (from + (232 + i)) 0 → i < 16 → Put out at (decimal k) out₁ r₁ → Put out₁ r₁ (ascii "=") out₂ r₂
      → v ≡ shown (slot_item (part s from 256) i) → Put out₂ r₂ (single_text (single_seen v)) out₃ r₃
      → Put out at (entry_text (entry (get_or (part s from 256) (232 + i) 0) (slot_item (part s from 256) i))) out₃ r₃
  entry_put s from i e g p q f r =
      put_as (ap₂ (λ (j : ℕ) (t : List ℕ). decimal j ++ (ascii "=" ++ t)) (get_d_part s from 256 (232 + i) 0 (omega arith) ∙ sym e) (seen_text (slot_item (part s from 256) i) f)) (put_three h p q r)

-- what the slot b shows, v, by its variant
module _ {out : List ℕ} {at : ℕ} (b : List ℕ) {v : SifVal} (e : v ≡ seen (decode_slot b)) where
  pub value_none : at ≤ length out → v ≡ Empty → Put out at (slot_text (decode_slot b)) out at
  value_none h f = put_as (sym (text_none (decode_slot b) (sym f ∙ e))) (put_none out at h)

  module _ {out' : List ℕ} {r : ℕ} where
    pub value_one : {w : SifVal} → v ≡ w → 0 < kind_in w → kind_in w ≤ 4 → Put out at (single_text (single_seen v)) out' r → Put out at (slot_text (decode_slot b)) out' r
    value_one f h g p = let k = ap kind_in f in put_as (sym (text_one (decode_slot b) v e (omega arith) (omega arith))) p

    pub value_arr : {n : ℕ} → v ≡ Arr n → Put out at (value_text (model.Arr (contents n b))) out' r → Put out at (slot_text (decode_slot b)) out' r
    value_arr f p = put_as (ap slot_text (arr_shown b (sym f ∙ e)).1) p

    pub value_tab : {n : ℕ} → v ≡ Tab n → Put out at (value_text (model.Tab (entries_in n b))) out' r → Put out at (slot_text (decode_slot b)) out' r
    value_tab f p = put_as (ap slot_text (tab_shown b (sym f ∙ e)).1) p
