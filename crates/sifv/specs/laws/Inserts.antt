-- A key that is put into a table's slot, or whose value is set; the value that a key has.
use Rattle.std.specs.Prelude.{◌≡◌, refl, Bool, true, false, List, [], ◌∷◌, ◌++◌, map, ℕ, zero, suc, ◌+◌, ◌*◌, ◌-◌, ◌%◌, ◌≤◌, ◌<◌, min, leb, length, get_or, take, drop, set}
use Rattle.std.proofs.Common.{sym, ap, ap₂, ◌∙◌, not-suc-le-zero, le_of_suc-le-suc, add-zero, arith, length-append, length-set, length-drop, length-take-le, get_or-drop, leb-true, leb-false}
use Rattle.std.proofs.Math.Option.{Option, some}
use Rattle.std.proofs.lemmas.List.{length-map}
use Rattle.std.proofs.Math.Seq.{take-append-add, drop-append-add, map-set_same}
use Rattle.lent.specs.Bytes.{part, splice, concat}
use Rattle.lent.specs.laws.Parts.{length_part, length_splice, part_splice_before, part_splice_behind, splice_one}
use Rattle.lent.specs.laws.Slots.{map_set}
use Rattle.sifv.specs.Value.{Single, Null, Entry, entry, Value, Tab, lookup, insert}
use Rattle.sifv.specs.Slot.{single_kind, word_bytes, key, value, contents, encode_slot, decode_slot}
use Rattle.sifv.specs.laws.Layout.{Sized, end, field, field_at, length_pad}
use Rattle.sifv.specs.laws.SlotLaws.{length_words}
use Rattle.sifv.specs.inner.Seen.{seen, kind_in, slot_item, set_item, box_bytes, entries_in}
use Rattle.sifv.specs.laws.Laws.{length_singles, length_entries, decode_tab}
use Rattle.sifv.specs.laws.Items.{put_item_law, set_item_lem, length_set_item, length_box}
use Rattle.sifv.specs.laws.Places.{place_le, insert_open, insert_set, key_found_at}
use Rattle.sifv.specs.laws.Tables.{entry_in}
use Rattle.sifv.specs.laws.Formed.{formed_kind}
use Rattle.sifv.specs.laws.Gaps.{gap_set, gap_length, slot_sized, write_field, splice_in, opened_length, open_length}
use Rattle.lent.specs.Lists.{zeros, pad}
use Rattle.sifv.specs.inner.Forms.{joined_parts, Formed, len_in, place, key_there, opening, opened}

-- ---- one thing more among others

map_in : {A B : Type 0} (f : A → B) (l : List A) (i : ℕ) (x : A) → map f (take i l ++ (x ∷ drop i l)) ≡ take i (map f l) ++ (f x ∷ drop i (map f l))
map_in f l zero x = refl
map_in f [] (suc i) x = refl
map_in {B = B} f (y ∷ l) (suc i) x = ap (λ (r : List B). f y ∷ r) (map_in f l i x)

length_in : {A : Type 0} (l : List A) (i : ℕ) (x : A) → i ≤ length l → length (take i l ++ (x ∷ drop i l)) ≡ length l + 1
length_in l i x h = length-append (take i l) (x ∷ drop i l) ∙ ap₂ (λ (a c : ℕ). a + suc c) (length-take-le i l h) (length-drop i l) ∙ omega arith

words_in : (l : List Single) (i : ℕ) (x : Single) → i ≤ length l
    → concat (map word_bytes (take i l ++ (x ∷ drop i l))) ≡ take (i * 8) (concat (map word_bytes l)) ++ (word_bytes x ++ drop (i * 8) (concat (map word_bytes l)))
words_in l zero x h = refl
words_in [] (suc i) x h = absurd (not-suc-le-zero h)
words_in (y ∷ l) (suc i) x h =
    let a = word_bytes y in
    let w = concat (map word_bytes l) in
    let e : suc i * 8 ≡ length a + i * 8 = omega arith in
    ap (λ (r : List ℕ). a ++ r) (words_in l i x (le_of_suc-le-suc h))
    ∙ ap₂ (λ (u v : List ℕ). u ++ (word_bytes x ++ v))
    (sym (ap (λ (k : ℕ). take k (a ++ w)) e ∙ take-append-add a w (i * 8)))
    (sym (ap (λ (k : ℕ). drop k (a ++ w)) e ∙ drop-append-add a w (i * 8)))

map_twice : {A B C : Type 0} (g : B → C) (f : A → B) (l : List A) → map (λ (a : A). g (f a)) l ≡ map g (map f l)
map_twice g f [] = refl
map_twice {C = C} g f (a ∷ l) = ap (λ (r : List C). g (f a) ∷ r) (map_twice g f l)

-- ---- a table's bytes by its values and its keys

pub tab_form : (t : List Entry) → encode_slot (some (Tab t)) ≡ box_bytes 6 (length t) (map value t) (map key t)
unfolding encode_slot
tab_form t = rw (map_twice single_kind value t, map_twice word_bytes value t)

module _ (b : List ℕ) {n : ℕ} (f : Formed b) (h : kind_in (seen (decode_slot b)) ≡ 6) (e : n ≡ len_in (seen (decode_slot b))) where
  pub tab_is : (decode_slot b ≡ some (Tab (entries_in n b))) × (n ≤ 16)
  tab_is =
      let m = min (get_or b 1 0) 16 in
      let p : decode_slot b ≡ some (Tab (entries_in m b)) = decode_tab b (formed_kind b f ∙ h) in
      let q : n ≡ m = e ∙ ap (λ (o : Option Value). len_in (seen o)) p ∙ length_entries (part b 232 16) (contents m b) ∙ length_singles m (part b 16 24) (part b 40 192) in
      (p ∙ ap (λ (k : ℕ). some (Tab (entries_in k b))) (sym q), omega arith)

  pub tab_length : length (entries_in n b) ≡ n
  tab_length = length_entries (part b 232 16) (contents n b) ∙ length_singles n (part b 16 24) (part b 40 192)

  tab_bytes : b ≡ box_bytes 6 n (map value (entries_in n b)) (map key (entries_in n b))
  tab_bytes =
      let t = entries_in n b in
      sym f ∙ ap encode_slot tab_is.0 ∙ tab_form t ∙ ap (λ (k : ℕ). box_bytes 6 k (map value t) (map key t)) tab_length

-- ---- the gap of a table's slot

module _ (n : ℕ) (l : List Single) (ys : List ℕ) (ll : length l ≡ n) (ly : length ys ≡ n) (m : n < 16) where
  box_sized : Sized ((6 ∷ (n ∷ zeros 14)) ∷ pad 24 (map single_kind l) ∷ pad 192 (concat (map word_bytes l)) ∷ pad 16 ys ∷ zeros 8 ∷ []) (16 ∷ 24 ∷ 192 ∷ 16 ∷ 8 ∷ [])
  box_sized =
      field refl
      (field (length_pad 24 (map single_kind l) (omega (arith, length-map l single_kind)))
      (field (length_pad 192 (concat (map word_bytes l)) (omega (arith, length_words (λ (s : Single). s) l)))
      (field (length_pad 16 ys (omega arith)) (field refl end))))

  opened_box : (i : ℕ) (b : List ℕ) → b ≡ box_bytes 6 n l ys
      → opened b i n ≡ joined_parts ((6 ∷ (n ∷ zeros 14)) ∷ opening (pad 24 (map single_kind l)) i 1 (n - i) ∷ opening (pad 192 (concat (map word_bytes l))) (i * 8) 8 ((n - i) * 8) ∷ opening (pad 16 ys) i 1 (n - i) ∷ []) (zeros 8)
  opened_box i b e =
      let k = pad 24 (map single_kind l) in
      let w = pad 192 (concat (map word_bytes l)) in
      let h : List ℕ = 6 ∷ (n ∷ zeros 14) in
      let p₀ : part b 0 16 ≡ h = ap (λ (r : List ℕ). part r 0 16) e ∙ field_at box_sized 0 [] (omega arith) in
      let p₁ : part b 16 24 ≡ k = ap (λ (r : List ℕ). part r 16 24) e ∙ field_at box_sized 1 [] (omega arith) in
      let p₂ : part b 40 192 ≡ w = ap (λ (r : List ℕ). part r 40 192) e ∙ field_at box_sized 2 [] (omega arith) in
      let p₃ : part b 232 16 ≡ pad 16 ys = ap (λ (r : List ℕ). part r 232 16) e ∙ field_at box_sized 3 [] (omega arith) in
      let p₄ : part b 248 8 ≡ zeros 8 = ap (λ (r : List ℕ). part r 248 8) e ∙ field_at box_sized 4 [] (omega arith) in
      ap₂ (λ (x y : List ℕ). joined_parts (x ∷ opening y i 1 (n - i) ∷ opening (part b 40 192) (i * 8) 8 ((n - i) * 8) ∷ opening (part b 232 16) i 1 (n - i) ∷ []) (part b 248 8)) p₀ p₁
      ∙ ap₂ (λ (x y : List ℕ). joined_parts (h ∷ opening k i 1 (n - i) ∷ opening x (i * 8) 8 ((n - i) * 8) ∷ opening y i 1 (n - i) ∷ []) (part b 248 8)) p₂ p₃
      ∙ ap (joined_parts (h ∷ opening k i 1 (n - i) ∷ opening w (i * 8) 8 ((n - i) * 8) ∷ opening (pad 16 ys) i 1 (n - i) ∷ [])) p₄

  -- the gap is filled: key, kind, number and length are written
  filled : (d : List ℕ) (at i k : ℕ) (x : Single) {e₁ e₂ e₃ e₄ : List ℕ} → at + 256 ≤ length d → part d at 256 ≡ box_bytes 6 n l ys → i ≤ n
      → e₁ ≡ splice d at (opened (part d at 256) i n) → e₂ ≡ set e₁ (at + (232 + i)) k → e₃ ≡ splice e₂ at (set_item (part e₂ at 256) i x) → e₄ ≡ set e₃ (at + 1) (n + 1)
      → e₄ ≡ splice d at (box_bytes 6 (n + 1) (take i l ++ (x ∷ drop i l)) (take i ys ++ (k ∷ drop i ys)))
  filled d at i k x {e₁} {e₂} {e₃} {e₄} h c g r₁ r₂ r₃ r₄ =
      let ks = map single_kind l in
      let ws = concat (map word_bytes l) in
      let lk : length ks ≡ n = length-map l single_kind ∙ ll in
      let lw : length ws ≡ n * 8 = length_words (λ (s : Single). s) l ∙ ap (λ (j : ℕ). j * 8) ll in
      let f : List ℕ = 6 ∷ (n ∷ zeros 14) in
      let z = zeros 8 in
      let pk = length_pad 24 ks (omega arith) in
      let pw = length_pad 192 ws (omega arith) in
      let py = length_pad 16 ys (omega arith) in
      let k₁ = opening (pad 24 ks) i 1 (n - i) in
      let w₁ = opening (pad 192 ws) (i * 8) 8 ((n - i) * 8) in
      let y₁ = opening (pad 16 ys) i 1 (n - i) in
      let lk₁ : length k₁ ≡ 24 = gap_length (pad 24 ks) i 1 (n - i) (omega arith) ∙ pk in
      let lw₁ : length w₁ ≡ 192 = gap_length (pad 192 ws) (i * 8) 8 ((n - i) * 8) (omega arith) ∙ pw in
      let ly₁ : length y₁ ≡ 16 = gap_length (pad 16 ys) i 1 (n - i) (omega arith) ∙ py in
      let y₂ = splice y₁ i (k ∷ []) in
      let k₂ = splice k₁ i (single_kind x ∷ []) in
      let w₂ = splice w₁ (i * 8) (word_bytes x) in
      let m8 : length (word_bytes x) ≡ 8 = refl in
      let ly₂ : length y₂ ≡ 16 = length_splice y₁ i (k ∷ []) (omega arith) ∙ ly₁ in
      let lk₂ : length k₂ ≡ 24 = length_splice k₁ i (single_kind x ∷ []) (omega arith) ∙ lk₁ in
      let lw₂ : length w₂ ≡ 192 = length_splice w₁ (i * 8) (word_bytes x) (omega arith) ∙ lw₁ in
      let le₁ : length e₁ ≡ length d = open_length d at i n h m g r₁ in
      let le₂ : length e₂ ≡ length d = ap length r₂ ∙ length-set e₁ (at + (232 + i)) k ∙ le₁ in
      let e₅ = set e₂ (at + (16 + i)) (single_kind x) in
      let le₅ : length e₅ ≡ length d = length-set e₂ (at + (16 + i)) (single_kind x) ∙ le₂ in
      let s₃ : e₃ ≡ splice e₅ (at + (40 + i * 8)) (word_bytes x) = r₃ ∙ sym (put_item_law e₂ at i x (omega arith) (omega arith) refl refl refl refl) in
      let le₃ : length e₃ ≡ length d = ap length s₃ ∙ length_splice e₅ (at + (40 + i * 8)) (word_bytes x) (omega arith) ∙ le₅ in
      let q₁ : e₁ ≡ splice d at (joined_parts (f ∷ k₁ ∷ w₁ ∷ y₁ ∷ []) z) = r₁ ∙ ap (splice d at) (opened_box i (part d at 256) c) in
      let q₂ : e₂ ≡ splice d at (joined_parts (f ∷ k₁ ∷ w₁ ∷ y₂ ∷ []) z) =
      write_field d at (slot_sized f k₁ w₁ y₁ refl lk₁ lw₁ ly₁) z h q₁ 3 i (k ∷ []) (omega arith) (omega arith) (omega arith) (r₂ ∙ sym (splice_one e₁ (at + (232 + i)) k (omega arith))) in
      let q₅ : e₅ ≡ splice d at (joined_parts (f ∷ k₂ ∷ w₁ ∷ y₂ ∷ []) z) =
      write_field d at (slot_sized f k₁ w₁ y₂ refl lk₁ lw₁ ly₂) z h q₂ 1 i (single_kind x ∷ []) (omega arith) (omega arith) (omega arith) (sym (splice_one e₂ (at + (16 + i)) (single_kind x) (omega arith))) in
      let q₃ : e₃ ≡ splice d at (joined_parts (f ∷ k₂ ∷ w₂ ∷ y₂ ∷ []) z) =
      write_field d at (slot_sized f k₂ w₁ y₂ refl lk₂ lw₁ ly₂) z h q₅ 2 (i * 8) (word_bytes x) (omega arith) (omega arith) (omega arith) s₃ in
      let q₄ : e₄ ≡ splice d at (joined_parts ((6 ∷ ((n + 1) ∷ zeros 14)) ∷ k₂ ∷ w₂ ∷ y₂ ∷ []) z) =
      write_field d at (slot_sized f k₂ w₂ y₂ refl lk₂ lw₂ ly₂) z h q₃ 0 1 ((n + 1) ∷ []) (omega arith) (omega arith) (omega arith) (r₄ ∙ sym (splice_one e₃ (at + 1) (n + 1) (omega arith))) in
      let u₁ : n - i ≡ length ks - i = omega arith in
      let u₂ : (n - i) * 8 ≡ length ws - i * 8 = omega arith in
      let u₃ : n - i ≡ length ys - i = omega arith in
      let v₁ : k₂ ≡ pad 24 (map single_kind (take i l ++ (x ∷ drop i l))) =
      ap (λ (j : ℕ). splice (opening (pad 24 ks) i 1 j) i (single_kind x ∷ [])) u₁ ∙ gap_set 24 ks (single_kind x ∷ []) i 1 (omega arith) refl (omega arith) ∙ ap (pad 24) (sym (map_in single_kind l i x)) in
      let v₂ : w₂ ≡ pad 192 (concat (map word_bytes (take i l ++ (x ∷ drop i l)))) =
      ap (λ (j : ℕ). splice (opening (pad 192 ws) (i * 8) 8 j) (i * 8) (word_bytes x)) u₂ ∙ gap_set 192 ws (word_bytes x) (i * 8) 8 (omega arith) m8 (omega arith) ∙ ap (pad 192) (sym (words_in l i x (omega arith))) in
      let v₃ : y₂ ≡ pad 16 (take i ys ++ (k ∷ drop i ys)) =
      ap (λ (j : ℕ). splice (opening (pad 16 ys) i 1 j) i (k ∷ [])) u₃ ∙ gap_set 16 ys (k ∷ []) i 1 (omega arith) refl (omega arith) in
      let t : List ℕ = 6 ∷ ((n + 1) ∷ zeros 14) in
      q₄
      ∙ ap₂ (λ (a b : List ℕ). splice d at (joined_parts (t ∷ a ∷ b ∷ y₂ ∷ []) z)) v₁ v₂
      ∙ ap (λ (a : List ℕ). splice d at (joined_parts (t ∷ pad 24 (map single_kind (take i l ++ (x ∷ drop i l))) ∷ pad 192 (concat (map word_bytes (take i l ++ (x ∷ drop i l)))) ∷ a ∷ []) z)) v₃

-- ---- a key that the table does not have

-- a number that is a byte
pub low_same : (k : ℕ) {r : ℕ} → r ≡ k % 256 → k < 256 → r ≡ k
low_same k e h = omega arith

-- another slot stays
pub far_slot : (d : List ℕ) (at from : ℕ) (s : List ℕ) → at + 256 ≤ length d → length s ≡ 256 → from % 256 ≡ at % 256 → (from ≡ at → ⊥) → part (splice d at s) from 256 ≡ part d from 256
far_slot d at from s h l m n = beside (leb from at) refl
  where
    beside : (t : Bool) → leb from at ≡ t → part (splice d at s) from 256 ≡ part d from 256
    beside true e = part_splice_before d at s from 256 (omega (arith, leb-true from at e, n)) (omega arith)
    beside false e = part_splice_behind d at s from 256 (omega (arith, leb-false from at e, n)) (omega arith)

module _ (d : List ℕ) (at n i k : ℕ) (h : at + 256 ≤ length d) (f : Formed (part d at 256)) (o : kind_in (seen (decode_slot (part d at 256))) ≡ 6)
    (e : n ≡ len_in (seen (decode_slot (part d at 256)))) (m : n < 16) (p : i ≡ place (entries_in n (part d at 256)) k) where
  pub new_place : i ≤ n
  new_place = omega (arith, place_le (entries_in n (part d at 256)) k, tab_length (part d at 256) f o e)

  -- `open_entry` and the key leave the slot that the value comes from
  pub new_from : (from : ℕ) {e₁ e₂ : List ℕ} → from % 256 ≡ at % 256 → kind_in (seen (decode_slot (part d from 256))) ≤ 4 → e₁ ≡ splice d at (opened (part d at 256) i n) → e₂ ≡ set e₁ (at + (232 + i)) k
      → (part e₂ from 256 ≡ part d from 256) × (length e₂ ≡ length d)
  new_from from {e₁} {e₂} q g r₁ r₂ =
      let t = entries_in n (part d at 256) in
      let l = new_place in
      let le₁ : length e₁ ≡ length d = open_length d at i n h m l r₁ in
      let le₂ : length e₂ ≡ length d = ap length r₂ ∙ length-set e₁ (at + (232 + i)) k ∙ le₁ in
      let a : from ≡ at → ⊥ = λ y. let z : kind_in (seen (decode_slot (part d from 256))) ≡ 6 = ap (λ (j : ℕ). kind_in (seen (decode_slot (part d j 256)))) y ∙ o in omega arith in
      let b = set (opened (part d at 256) i n) (232 + i) k in
      let lo : length (opened (part d at 256) i n) ≡ 256 = opened_length d at i n h m l in
      let lb : length b ≡ 256 = length-set (opened (part d at 256) i n) (232 + i) k ∙ lo in
      let c : e₂ ≡ splice d at b =
      r₂ ∙ sym (splice_one e₁ (at + (232 + i)) k (omega arith)) ∙ ap (λ (x : List ℕ). splice x (at + (232 + i)) (k ∷ [])) r₁
      ∙ splice_in d at (opened (part d at 256) i n) (232 + i) (k ∷ []) (omega arith) (omega arith)
      ∙ ap (splice d at) (splice_one (opened (part d at 256) i n) (232 + i) k (omega arith)) in
      (ap (λ (x : List ℕ). part x from 256) c ∙ far_slot d at from b h lb q a, le₂)

  pub new_length : (x : Single) {e₁ e₂ e₃ : List ℕ} → e₁ ≡ splice d at (opened (part d at 256) i n) → e₂ ≡ set e₁ (at + (232 + i)) k → e₃ ≡ splice e₂ at (set_item (part e₂ at 256) i x) → length e₃ ≡ length d
  new_length x {e₁} {e₂} {e₃} r₁ r₂ r₃ =
      let l = new_place in
      let le₁ : length e₁ ≡ length d = open_length d at i n h m l r₁ in
      let le₂ : length e₂ ≡ length d = ap length r₂ ∙ length-set e₁ (at + (232 + i)) k ∙ le₁ in
      let lb : length (part e₂ at 256) ≡ 256 = length_part e₂ at 256 (omega arith) in
      let ls = length_set_item (part e₂ at 256) i x lb (omega arith) in
      ap length r₃ ∙ length_splice e₂ at (set_item (part e₂ at 256) i x) (omega arith) ∙ le₂

  pub new_law : (x : Single) {e₁ e₂ e₃ e₄ : List ℕ} → key_there (entries_in n (part d at 256)) k ≡ false
      → e₁ ≡ splice d at (opened (part d at 256) i n) → e₂ ≡ set e₁ (at + (232 + i)) k → e₃ ≡ splice e₂ at (set_item (part e₂ at 256) i x) → e₄ ≡ set e₃ (at + 1) (n + 1)
      → e₄ ≡ splice d at (encode_slot (some (Tab (insert (entries_in n (part d at 256)) k x))))
  new_law x y r₁ r₂ r₃ r₄ =
      let b = part d at 256 in
      let t = entries_in n b in
      let lt : length t ≡ n = tab_length b f o e in
      let u = take i t ++ (entry k x ∷ drop i t) in
      let q : insert t k x ≡ u = insert_open t k x y ∙ ap (λ (j : ℕ). take j t ++ (entry k x ∷ drop j t)) (sym p) in
      let lu : length u ≡ n + 1 = length_in t i (entry k x) (omega (arith, new_place)) ∙ ap (λ (j : ℕ). j + 1) lt in
      filled n (map value t) (map key t) (length-map t value ∙ lt) (length-map t key ∙ lt) m d at i k x h (tab_bytes b f o e) new_place r₁ r₂ r₃ r₄
      ∙ ap₂ (λ (l : List Single) (ys : List ℕ). splice d at (box_bytes 6 (n + 1) l ys)) (sym (map_in value t i (entry k x))) (sym (map_in key t i (entry k x)))
      ∙ ap (λ (j : ℕ). splice d at (box_bytes 6 j (map value u) (map key u))) (sym lu)
      ∙ ap (splice d at) (sym (tab_form u) ∙ ap (λ (r : List Entry). encode_slot (some (Tab r))) (sym q))

pub new_size : (t : List Entry) (k : ℕ) (x : Single) → key_there t k ≡ false → length t < 16 → length (encode_slot (some (Tab (insert t k x)))) ≡ 256
new_size t k x y h =
    let i = place t k in
    let u = take i t ++ (entry k x ∷ drop i t) in
    let lu : length u ≡ length t + 1 = length_in t i (entry k x) (place_le t k) in
    ap (λ (r : List Entry). length (encode_slot (some (Tab r)))) (insert_open t k x y)
    ∙ ap length (tab_form u)
    ∙ length_box 6 (length u) (map value u) (map key u) (omega (arith, length-map u value)) (omega (arith, length-map u key))

-- ---- a key that it has

module _ (b : List ℕ) {n : ℕ} (i k : ℕ) (f : Formed b) (o : kind_in (seen (decode_slot b)) ≡ 6) (e : n ≡ len_in (seen (decode_slot b))) (p : i ≡ place (entries_in n b) k) (y : key_there (entries_in n b) k ≡ true) where
  pub key_in : i < n
  key_in = omega (arith, (key_found_at (entries_in n b) k (entry 0 Null) y).0, tab_length b f o e)

  pub key_value : lookup (entries_in n b) k ≡ some (slot_item b i)
  key_value =
      let t = entries_in n b in
      let q = key_found_at t k (entry 0 Null) y in
      q.1
      ∙ ap (λ (j : ℕ). some (value (get_or t j (entry 0 Null)))) (sym p)
      ∙ ap (λ (x : Entry). some (value x)) (ap (λ (j : ℕ). get_or t j (entry 0 Null)) (sym (add-zero i)) ∙ sym (get_or-drop i t 0 (entry 0 Null)) ∙ ap (λ (r : List Entry). get_or r 0 (entry 0 Null)) (entry_in b n i (tab_is b f o e).1 key_in))

  pub set_table : (x : Single) → (set_item b i x ≡ encode_slot (some (Tab (insert (entries_in n b) k x)))) × (length (encode_slot (some (Tab (insert (entries_in n b) k x)))) ≡ 256)
  set_table x =
      let t = entries_in n b in
      let l = map value t in
      let ys = map key t in
      let lt : length t ≡ n = tab_length b f o e in
      let ll : length l ≡ n = length-map t value ∙ lt in
      let ly : length ys ≡ n = length-map t key ∙ lt in
      let n16 = (tab_is b f o e).1 in
      let q = key_found_at t k (entry 0 Null) y in
      let u = set t i (entry k x) in
      let lu : length u ≡ n = length-set t i (entry k x) ∙ lt in
      let a : insert t k x ≡ u = insert_set t k x y ∙ ap (λ (j : ℕ). set t j (entry k x)) (sym p) in
      let v : map value u ≡ set l i x = map_set value t i (entry k x) in
      let w : map key u ≡ ys = map-set_same key t i (entry k x) (entry 0 Null) (sym (ap (λ (j : ℕ). key (get_or t j (entry 0 Null))) p ∙ q.2)) in
      let c : encode_slot (some (Tab (insert t k x))) ≡ box_bytes 6 n (set l i x) ys =
      ap (λ (r : List Entry). encode_slot (some (Tab r))) a ∙ tab_form u ∙ ap (λ (j : ℕ). box_bytes 6 j (map value u) (map key u)) lu ∙ ap₂ (box_bytes 6 n) v w in
      let ls : length (set l i x) ≡ n = length-set l i x ∙ ll in
      (ap (λ (r : List ℕ). set_item r i x) (tab_bytes b f o e) ∙ set_item_lem 6 n l x ys i (omega (arith, key_in)) (omega arith) ∙ sym c, ap length c ∙ length_box 6 n (set l i x) ys (omega arith) (omega arith))
