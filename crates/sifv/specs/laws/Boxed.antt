-- Items of a slot in its one form: their kinds and numbers lie there as they are stored.
use Rattle.std.specs.Prelude.{◌≡◌, refl, Bool, true, false, cond, List, [], ◌∷◌, ◌⊎◌, ℕ, ◌+◌, ◌*◌, ◌≤◌, ◌<◌, min, eqb, length, get_or, take, set}
use Rattle.std.proofs.Common.{sym, ap, ◌∙◌, inl, inr, add-zero, arith}
use Rattle.std.proofs.Math.Option.{Option, none, some}
use Rattle.std.proofs.lemmas.List.{set-get_or}
use Rattle.std.specs.Float.{binary64}
use Rattle.std.specs.Float.Ieee.{to_bits, of_bits}
use Rattle.std.specs.Float.Ieee.Bits.{to_bits-lt, of_bits-fits}
use Rattle.lent.specs.Bytes.{be_value, be_bytes, part, splice}
use Rattle.lent.specs.laws.Parts.{length_part, length_splice, get_d_part, part_part, part_splice, get_d_splice, get_d_splice_before}
use Rattle.lent.specs.laws.Numbers.{be_value_be_bytes}
use Rattle.sifv.specs.Value.{Single, Value, One}
use Rattle.sifv.specs.Value as model
use Rattle.sifv.specs.Slot.{single_kind, word_of, word_bytes, single_of, contents, encode_slot, decode_slot}
use Rattle.sifv.specs.inner.Seen.{shown, seen, kind_in, word_in, slot_item, set_item, box_bytes}
use Rattle.sifv.specs.laws.Laws.{length_singles, length_entries, decode_arr, decode_tab}
use Rattle.sifv.specs.laws.Items.{contents_item, set_item_lem}
use Rattle.sifv.specs.laws.Checks.{arr_box, tab_box}
use Rattle.sifv.specs.laws.Formed.{formed_kind}
use Rattle.sifv.specs.inner.StoredForm.{stored_of}
use Rattle.sifv.specs.declared.Stored.{Stored}
use Rattle.sifv.specs.inner.Forms.{Formed, len_in}

-- what has items is an array or a table
has_items : (v : Option Value) (i : ℕ) → i < len_in (seen v) → (kind_in (seen v) ≡ 5) ⊎ (kind_in (seen v) ≡ 6)
has_items none i h = absurd (omega arith)
has_items (some (One (model.Num x))) i h = absurd (omega arith)
has_items (some (One (model.Str t))) i h = absurd (omega arith)
has_items (some (One (model.Bl b))) i h = absurd (omega arith)
has_items (some (One model.Null)) i h = absurd (omega arith)
has_items (some (model.Arr l)) i h = inl refl
has_items (some (model.Tab t)) i h = inr refl

-- item i, written again
box_same : (b : List ℕ) (k n i : ℕ) (keys : List ℕ) → i < n → n ≤ 24 → b ≡ box_bytes k n (contents n b) keys → b ≡ set_item b i (slot_item b i)
box_same b k n i keys h g e =
    let l = contents n b in
    let m : length l ≡ n = length_singles n (part b 16 24) (part b 40 192) in
    let x : slot_item b i ≡ get_or l i (slot_item b i) = sym (contents_item n i b (slot_item b i) h g) in
    e
    ∙ ap (λ (t : List Single). box_bytes k n t keys) (sym (ap (set l i) x ∙ set-get_or l i (slot_item b i)))
    ∙ sym (set_item_lem k n l (slot_item b i) keys i (omega arith) (omega arith))
    ∙ ap (λ (t : List ℕ). set_item t i (slot_item b i)) (sym e)

item_same : (b : List ℕ) (i : ℕ) → Formed b → length b ≡ 256 → i < len_in (seen (decode_slot b)) → (i < 24) × (b ≡ set_item b i (slot_item b i))
item_same b i f lb h = by_kind (has_items (decode_slot b) i h)
  where
    by_kind : (kind_in (seen (decode_slot b)) ≡ 5) ⊎ (kind_in (seen (decode_slot b)) ≡ 6) → (i < 24) × (b ≡ set_item b i (slot_item b i))
    by_kind (inl k) =
        let n = min (get_or b 1 0) 24 in
        let l = contents n b in
        let m : length l ≡ n = length_singles n (part b 16 24) (part b 40 192) in
        let d = decode_arr b (formed_kind b f ∙ k) in
        let g : i < n = omega (arith, ap (λ (o : Option Value). len_in (seen o)) d) in
        (omega arith, box_same b 5 n i [] g (omega arith) (sym f ∙ ap encode_slot d ∙ arr_box n l m))
    by_kind (inr k) =
        let n = min (get_or b 1 0) 16 in
        let l = contents n b in
        let ks = part b 232 16 in
        let m : length l ≡ n = length_singles n (part b 16 24) (part b 40 192) in
        let lk : length ks ≡ 16 = length_part b 232 16 (omega arith) in
        let d = decode_tab b (formed_kind b f ∙ k) in
        let q = length_entries ks l in
        let g : i < n = omega (arith, ap (λ (o : Option Value). len_in (seen o)) d) in
        (omega arith, box_same b 6 n i (take n ks) g (omega arith) (sym f ∙ ap encode_slot d ∙ tab_box n ks l m (omega arith)))

-- a number that is written as it is stored
word_same : (k w : ℕ) → w ≡ be_value (be_bytes 8 (word_of (single_of k w))) → w ≡ word_of (single_of k w)
word_same k w = cases (eqb k 1) (eqb k 2) (eqb k 3)
  where
    flag : (t : Bool) → w ≡ be_value (be_bytes 8 (cond t 1 0)) → w ≡ cond t 1 0
    flag true e = e
    flag false e = e

    cases : (a b c : Bool) → w ≡ be_value (be_bytes 8 (word_of (cond a (model.Num (of_bits binary64 w)) (cond b (model.Str w) (cond c (model.Bl (eqb w 1)) model.Null)))))
        → w ≡ word_of (cond a (model.Num (of_bits binary64 w)) (cond b (model.Str w) (cond c (model.Bl (eqb w 1)) model.Null)))
    cases true b c e = e ∙ be_value_be_bytes 8 (to_bits binary64 (of_bits binary64 w)) (to_bits-lt binary64 (of_bits binary64 w) (of_bits-fits binary64 w))
    cases false true c e = refl
    cases false false true e = flag (eqb w 1) e
    cases false false false e = e

kind_shown : (x : Single) → single_kind x ≡ kind_in (shown x)
kind_shown (model.Num x) = refl
kind_shown (model.Str t) = refl
kind_shown (model.Bl b) = refl
kind_shown model.Null = refl

word_shown : (x : Single) → word_of x ≡ word_in (shown x)
word_shown (model.Num x) = refl
word_shown (model.Str t) = refl
word_shown (model.Bl b) = refl
word_shown model.Null = refl

-- the kind and the number of item i
stored_item : (b : List ℕ) (i : ℕ) → Formed b → length b ≡ 256 → i < len_in (seen (decode_slot b))
    → (get_or b (16 + i) 0 ≡ single_kind (slot_item b i)) × (be_value (part b (40 + i * 8) 8) ≡ word_of (slot_item b i))
stored_item b i f lb h =
    let e = item_same b i f lb h in
    let g = e.0 in
    let x = slot_item b i in
    let a = splice b (16 + i) (single_kind x ∷ []) in
    let la : length a ≡ 256 = length_splice b (16 + i) (single_kind x ∷ []) (omega arith) ∙ lb in
    let p : get_or b (16 + i) 0 ≡ single_kind x =
    ap (λ (t : List ℕ). get_or t (16 + i) 0) e.1
    ∙ get_d_splice_before a (40 + i * 8) (word_bytes x) (16 + i) 0 (omega arith) (omega arith)
    ∙ ap (λ (j : ℕ). get_or a j 0) (sym (add-zero (16 + i)))
    ∙ get_d_splice b (16 + i) (single_kind x ∷ []) 0 0 (omega arith) (omega arith) in
    let q : part b (40 + i * 8) 8 ≡ word_bytes x = ap (λ (t : List ℕ). part t (40 + i * 8) 8) e.1 ∙ part_splice a (40 + i * 8) (word_bytes x) 8 refl (omega arith) in
    (p, word_same (get_or b (16 + i) 0) (be_value (part b (40 + i * 8) 8)) (ap be_value q))

-- `item`
pub item_law : (s : List ℕ) (at i : ℕ) {k w : ℕ} → at + 256 ≤ length s → Formed (part s at 256) → i < len_in (seen (decode_slot (part s at 256))) → k ≡ get_or s (at + (16 + i)) 0 → w ≡ be_value (part s (at + (40 + i * 8)) 8)
    → ◌≡◌ {A = Stored} (record { kind = k; word = w }) (stored_of (shown (slot_item (part s at 256) i)))
item_law s at i {k} {w} l f h p q =
    let b = part s at 256 in
    let lb : length b ≡ 256 = length_part s at 256 l in
    let e = stored_item b i f lb h in
    let g = (item_same b i f lb h).0 in
    let a : k ≡ kind_in (shown (slot_item b i)) = p ∙ sym (get_d_part s at 256 (16 + i) 0 (omega arith)) ∙ e.0 ∙ kind_shown (slot_item b i) in
    let c : w ≡ word_in (shown (slot_item b i)) = q ∙ ap be_value (sym (part_part s at 256 (40 + i * 8) 8 (omega arith))) ∙ e.1 ∙ word_shown (slot_item b i) in
    λ j. record { kind = a j; word = c j }

pub item_below : (s : List ℕ) (at i : ℕ) → at + 256 ≤ length s → Formed (part s at 256) → i < len_in (seen (decode_slot (part s at 256))) → i < 24
item_below s at i l f h = (item_same (part s at 256) i f (length_part s at 256 l) h).0
