-- A slot's value as text, by what the slot shows; items and entries one by one.
use Rattle.std.specs.Prelude.{◌≡◌, refl, Bool, true, false, List, [], ◌∷◌, ◌++◌, map, ℕ, suc, ◌+◌, ◌≤◌, ◌<◌, min, leb, eqb, length, get_or, drop}
use Rattle.std.proofs.Common.{sym, ap, ap₂, ◌∙◌, arith, leb-true, leb-false, eqb-true, get_or-drop}
use Rattle.std.proofs.Math.Option.{Option, none, some}
use Rattle.std.proofs.lemmas.Bool.{eqb-false}
use Rattle.lent.specs.Bytes.{be_value, part}
use Rattle.lent.specs.laws.Parts.{get_d_part}
use Rattle.sifv.specs.Value.{Single, Entry, entry, Value, One}
use Rattle.sifv.specs.Value as model
use Rattle.sifv.specs.Slot.{single_of, entries_of, contents, decode_slot}
use Rattle.sifv.specs.inner.Seen.{shown, seen, single_seen, kind_in, slot_item, entries_in}
use Rattle.sifv.specs.laws.Laws.{plain_shown, length_singles, length_entries, decode_empty, decode_single, decode_arr, decode_tab, decode_other}
use Rattle.sifv.specs.laws.Items.{contents_more}
use Rattle.sifv.specs.declared.SifVal.{SifVal}
use Rattle.sifv.specs.declared.SifVal.TheVariants.{Arr, Tab}
use Rattle.text.specs.Text.{ascii, decimal, single_text, entry_text, joined, value_text, separator}
use Rattle.text.specs.declared.Writer.{Writer}
use Rattle.text.specs.inner.Appended.{Appended}
use Rattle.text.specs.laws.Writing.{appended_as}
use Rattle.text.specs.laws.Joined.{appended_three, appended_element}
use Rattle.values.specs.inner.SlotText.{slot_text}
use Rattle.sifv.specs.inner.Forms.{len_in}

-- ---- what a slot shows

pub seen_text : (x : Single) {v : SifVal} → v ≡ shown x → single_text x ≡ single_text (single_seen v)
seen_text x e = ap single_text (sym (ap single_seen e ∙ plain_shown x))

pub text_one : (o : Option Value) (v : SifVal) → v ≡ seen o → 0 < kind_in v → kind_in v ≤ 4 → single_text (single_seen v) ≡ slot_text o
text_one none v e h g = absurd (let z = ap kind_in e in omega arith)
text_one (some (One x)) v e h g = sym (seen_text x e)
text_one (some (model.Arr l)) v e h g = absurd (let z = ap kind_in e in omega arith)
text_one (some (model.Tab t)) v e h g = absurd (let z = ap kind_in e in omega arith)

small_shown : (x : Single) → kind_in (shown x) ≤ 4
small_shown (model.Num x) = omega arith
small_shown (model.Str t) = omega arith
small_shown (model.Bl b) = omega arith
small_shown model.Null = omega arith

module _ (b : List ℕ) where
  -- an array and a table are told by the first byte
  first_byte : 4 < kind_in (seen (decode_slot b)) → get_or b 0 0 ≡ kind_in (seen (decode_slot b))
  first_byte h = by (eqb (get_or b 0 0) 0) refl (leb (get_or b 0 0) 4) refl (eqb (get_or b 0 0) 5) refl (eqb (get_or b 0 0) 6) refl
    where
      shows : {o : Option Value} → decode_slot b ≡ o → kind_in (seen (decode_slot b)) ≡ kind_in (seen o)
      shows e = ap (λ (o : Option Value). kind_in (seen o)) e

      by : (s : Bool) → eqb (get_or b 0 0) 0 ≡ s → (t : Bool) → leb (get_or b 0 0) 4 ≡ t → (u : Bool) → eqb (get_or b 0 0) 5 ≡ u → (v : Bool) → eqb (get_or b 0 0) 6 ≡ v
          → get_or b 0 0 ≡ kind_in (seen (decode_slot b))
      by true p t q u r v s = absurd (omega (arith, shows (decode_empty b (eqb-true (get_or b 0 0) 0 p))))
      by false p true q u r v s =
          let x = single_of (get_or b 0 0) (be_value (part b 8 8)) in
          absurd (omega (arith, shows (decode_single b (eqb-false (get_or b 0 0) 0 p) (leb-true (get_or b 0 0) 4 q)), small_shown x))
      by false p false q true r v s = let e = eqb-true (get_or b 0 0) 5 r in e ∙ sym (shows (decode_arr b e))
      by false p false q false r true s = let e = eqb-true (get_or b 0 0) 6 s in e ∙ sym (shows (decode_tab b e))
      by false p false q false r false s =
          absurd (omega (arith, shows (decode_other b (omega (arith, leb-false (get_or b 0 0) 4 q, eqb-false (get_or b 0 0) 5 r, eqb-false (get_or b 0 0) 6 s)))))

  pub arr_shown : {n : ℕ} → Arr n ≡ seen (decode_slot b) → (n ≤ 24) × (decode_slot b ≡ some (model.Arr (contents n b)))
  arr_shown {n} e =
      let m = min (get_or b 1 0) 24 in
      let k : 5 ≡ kind_in (seen (decode_slot b)) = ap kind_in e in
      let p : decode_slot b ≡ some (model.Arr (contents m b)) = decode_arr b (first_byte (omega arith) ∙ sym k) in
      let q : n ≡ m = ap len_in e ∙ ap (λ (o : Option Value). len_in (seen o)) p ∙ length_singles m (part b 16 24) (part b 40 192) in
      (omega arith, p ∙ ap (λ (i : ℕ). some (model.Arr (contents i b))) (sym q))

  pub tab_shown : {n : ℕ} → Tab n ≡ seen (decode_slot b) → (n ≤ 16) × (decode_slot b ≡ some (model.Tab (entries_in n b)))
  tab_shown {n} e =
      let m = min (get_or b 1 0) 16 in
      let k : 6 ≡ kind_in (seen (decode_slot b)) = ap kind_in e in
      let p : decode_slot b ≡ some (model.Tab (entries_in m b)) = decode_tab b (first_byte (omega arith) ∙ sym k) in
      let q : n ≡ m = ap len_in e ∙ ap (λ (o : Option Value). len_in (seen o)) p ∙ length_entries (part b 232 16) (contents m b) ∙ length_singles m (part b 16 24) (part b 40 192) in
      (omega arith, p ∙ ap (λ (i : ℕ). some (model.Tab (entries_in i b))) (sym q))

-- ---- entries one by one

entries_end : (ks : List ℕ) (l : List Single) (x : Single) → entries_of ks (l ++ (x ∷ [])) ≡ entries_of ks l ++ (entry (get_or ks (length l) 0) x ∷ [])
entries_end ks [] x = refl
entries_end ks (y ∷ l) x =
    let e : 1 + length l ≡ suc (length l) = omega arith in
    ap (λ (t : List Entry). entry (get_or ks 0 0) y ∷ t)
    (entries_end (drop 1 ks) l x ∙ ap (λ (k : ℕ). entries_of (drop 1 ks) l ++ (entry k x ∷ [])) (get_or-drop 1 ks (length l) 0 ∙ ap (λ (i : ℕ). get_or ks i 0) e))

pub entries_more : (n : ℕ) (b : List ℕ) → n < 16 → entries_in (n + 1) b ≡ entries_in n b ++ (entry (get_or b (232 + n) 0) (slot_item b n) ∷ [])
entries_more n b h =
    let l = contents n b in
    let m : length l ≡ n = length_singles n (part b 16 24) (part b 40 192) in
    ap (entries_of (part b 232 16)) (contents_more n b (omega arith)) ∙ entries_end (part b 232 16) l (slot_item b n)
    ∙ ap (λ (k : ℕ). entries_in n b ++ (entry k (slot_item b n) ∷ [])) (ap (λ (i : ℕ). get_or (part b 232 16) i 0) m ∙ get_d_part b 232 16 n 0 h)

-- ---- written

module _ {v w x y : Writer} where
  pub items_turn : (b : List ℕ) (i : ℕ) {s : SifVal} → i < 24 → Appended v (joined (ascii ",") (map single_text (contents i b))) w → Appended w (separator (ascii ",") i) x
      → s ≡ shown (slot_item b i) → Appended x (single_text (single_seen s)) y → Appended v (joined (ascii ",") (map single_text (contents (i + 1) b))) y
  items_turn b i g p q e r =
      appended_element single_text (ascii ",") (contents i b) (contents (i + 1) b) (slot_item b i) (sym (length_singles i (part b 16 24) (part b 40 192))) (contents_more i b g) p q
      (appended_as (seen_text (slot_item b i) e) r)

  pub entries_turn : (b : List ℕ) (i : ℕ) → i < 16 → Appended v (joined (ascii ",") (map entry_text (entries_in i b))) w → Appended w (separator (ascii ",") i) x
      → Appended x (entry_text (entry (get_or b (232 + i) 0) (slot_item b i))) y → Appended v (joined (ascii ",") (map entry_text (entries_in (i + 1) b))) y
  entries_turn b i g p q r =
      appended_element entry_text (ascii ",") (entries_in i b) (entries_in (i + 1) b) (entry (get_or b (232 + i) 0) (slot_item b i))
      (sym (length_entries (part b 232 16) (contents i b) ∙ length_singles i (part b 16 24) (part b 40 192))) (entries_more i b g) p q r

  -- a key, `=` and a value
  pub entry_put : (b : List ℕ) (from i : ℕ) {s : SifVal} → i < 16 → Appended v (decimal (get_or b (from + (232 + i)) 0)) w → Appended w (ascii "=") x
      → s ≡ shown (slot_item (part b from 256) i) → Appended x (single_text (single_seen s)) y
      → Appended v (entry_text (entry (get_or (part b from 256) (232 + i) 0) (slot_item (part b from 256) i))) y
  entry_put b from i g p q f r =
      appended_as (ap₂ (λ (j : ℕ) (t : List ℕ). decimal j ++ (ascii "=" ++ t)) (get_d_part b from 256 (232 + i) 0 (omega arith)) (seen_text (slot_item (part b from 256) i) f)) (appended_three p q r)

-- what the slot b shows, s, by its variant
module _ (b : List ℕ) {s : SifVal} (e : s ≡ seen (decode_slot b)) where
  pub value_one : {v w : Writer} {t : SifVal} → s ≡ t → 0 < kind_in t → kind_in t ≤ 4 → Appended v (single_text (single_seen s)) w → Appended v (slot_text (decode_slot b)) w
  value_one f h g p = let k = ap kind_in f in appended_as (sym (text_one (decode_slot b) s e (omega arith) (omega arith))) p

  pub value_arr : {v w : Writer} {n : ℕ} → s ≡ Arr n → Appended v (value_text (model.Arr (contents n b))) w → Appended v (slot_text (decode_slot b)) w
  value_arr f p = appended_as (ap slot_text (arr_shown b (sym f ∙ e)).1) p

  pub value_tab : {v w : Writer} {n : ℕ} → s ≡ Tab n → Appended v (value_text (model.Tab (entries_in n b))) w → Appended v (slot_text (decode_slot b)) w
  value_tab f p = appended_as (ap slot_text (tab_shown b (sym f ∙ e)).1) p
