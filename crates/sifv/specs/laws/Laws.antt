-- What a slot shows by its first byte; the bytes of values without contents; slots that are written and moved.
use Rattle.std.specs.Prelude.{◌≡◌, refl, Bool, true, false, cond, List, [], ◌∷◌, ◌++◌, ℕ, zero, suc, ◌+◌, ◌^◌, ◌≤◌, ◌<◌, min, length, get_or, drop, eqb}
use Rattle.std.proofs.Common.{sym, ap, ◌∙◌, add-zero, arith}
use Rattle.std.proofs.Math.Option.{none, some}
use borrow.Author.Tests.{ne_eqb, le-leb, lt-leb}
use Rattle.lent.specs.Bytes.{be_value, part, splice}
use Rattle.lent.specs.laws.Parts.{length_splice, get_d_part, part_part, part_splice_behind, splice_append, splice_part}
use Rattle.lent.specs.laws.Numbers.{be_value_be_bytes}
use Rattle.sifv.specs.Value.{Single, One}
use Rattle.sifv.specs.Value as model
use Rattle.sifv.specs.Slot.{single_kind, word_of, single_of, singles_of, entries_of, contents, encode_slot, decode_slot}
use Rattle.sifv.specs.inner.Seen.{shown, seen, single_seen, bare, head_bytes, kind_in, word_in, ReadBack}
use Rattle.sifv.specs.declared.SifVal.{SifVal}
use Rattle.sifv.specs.declared.SifVal.TheVariants.{Empty, Num, Str, Bl, Null, Arr, Tab}
use Rattle.lent.specs.Lists.{zeros}

-- ---- what is shown of a single value is that value

pub plain_shown : (x : Single) → single_seen (shown x) ≡ x
plain_shown (model.Num x) = refl
plain_shown (model.Str t) = refl
plain_shown (model.Bl b) = refl
plain_shown model.Null = refl

pub bare_shown : (x : Single) → bare (shown x) ≡ some (One x)
bare_shown (model.Num x) = refl
bare_shown (model.Str t) = refl
bare_shown (model.Bl b) = refl
bare_shown model.Null = refl

-- ---- what a slot shows

pub length_singles : (n : ℕ) (ks ws : List ℕ) → length (singles_of n ks ws) ≡ n
length_singles zero ks ws = refl
length_singles (suc n) ks ws = ap suc (length_singles n (drop 1 ks) (drop 8 ws))

pub length_entries : (ks : List ℕ) (l : List Single) → length (entries_of ks l) ≡ length l
length_entries ks [] = refl
length_entries ks (x ∷ l) = ap suc (length_entries (drop 1 ks) l)

module _ (b : List ℕ) where
  pub decode_empty : get_or b 0 0 ≡ 0 → decode_slot b ≡ none
  unfolding decode_slot
  decode_empty e = rw e

  pub decode_single : (get_or b 0 0 ≡ 0 → ⊥) → get_or b 0 0 ≤ 4 → decode_slot b ≡ some (One (single_of (get_or b 0 0) (be_value (part b 8 8))))
  unfolding decode_slot
  decode_single z h = rw (ne_eqb (get_or b 0 0) 0 z, le-leb (get_or b 0 0) 4 h)

  pub decode_arr : get_or b 0 0 ≡ 5 → decode_slot b ≡ some (model.Arr (contents (min (get_or b 1 0) 24) b))
  unfolding decode_slot
  decode_arr e = rw e

  pub decode_tab : get_or b 0 0 ≡ 6 → decode_slot b ≡ some (model.Tab (entries_of (part b 232 16) (contents (min (get_or b 1 0) 16) b)))
  unfolding decode_slot
  decode_tab e = rw e

  pub decode_other : 6 < get_or b 0 0 → decode_slot b ≡ none
  unfolding decode_slot
  decode_other h =
      rw (
        ne_eqb (get_or b 0 0) 0 (λ e. omega arith),
        lt-leb (get_or b 0 0) 4 (omega arith),
        ne_eqb (get_or b 0 0) 5 (λ e. omega arith),
        ne_eqb (get_or b 0 0) 6 (λ e. omega arith),
      )

-- ---- values without contents

pub encode_bare : (v : SifVal) → encode_slot (bare v) ≡ head_bytes (kind_in v) 0 (word_in v) ++ zeros 240
unfolding encode_slot
encode_bare Empty = refl
encode_bare (Num x) = refl
encode_bare (Str t) = refl
encode_bare (Bl b) = refl
encode_bare Null = refl
encode_bare (Arr n) = refl
encode_bare (Tab n) = refl

-- ---- slots that are written

-- what is there already need not be written
pub splice_known : (d : List ℕ) (at : ℕ) (a b : List ℕ) → part d (at + length a) (length b) ≡ b → at + length a + length b ≤ length d → splice d at (a ++ b) ≡ splice d at a
splice_known d at a b e h =
    let x = splice d at a in
    let l : length x ≡ length d = length_splice d at a (omega arith) in
    let p : part x (at + length a) (length b) ≡ b = part_splice_behind d at a (at + length a) (length b) (omega arith) (omega arith) ∙ e in
    splice_append d at a b (omega arith)
    ∙ ap (splice x (at + length a)) (sym p)
    ∙ splice_part x (at + length a) (length b) (omega arith)

-- ---- a slot that is read: k is its first byte

pub second_byte : (s : List ℕ) (at n : ℕ) → n ≡ get_or s (at + 1) 0 → get_or (part s at 256) 1 0 ≡ n
second_byte s at n g = get_d_part s at 256 1 0 (omega arith) ∙ sym g

module _ (s : List ℕ) (at k : ℕ) (e : k ≡ get_or s at 0) where
  pub first_byte : get_or (part s at 256) 0 0 ≡ k
  first_byte = get_d_part s at 256 0 0 (omega arith) ∙ ap (λ (i : ℕ). get_or s i 0) (add-zero at) ∙ sym e

  pub get_empty : k ≡ 0 → Empty ≡ seen (decode_slot (part s at 256))
  get_empty z = sym (ap seen (decode_empty (part s at 256) (first_byte ∙ z)))

  pub get_single : {w : ℕ} {r : SifVal} → (k ≡ 0 → ⊥) → k ≤ 4 → w ≡ be_value (part s (at + 8) 8) → r ≡ shown (single_of k w) → r ≡ seen (decode_slot (part s at 256))
  get_single z h p q =
      let f = first_byte in
      q
      ∙ ap (λ (x : ℕ). shown (single_of k x)) (p ∙ ap be_value (sym (part_part s at 256 8 8 (omega arith))))
      ∙ ap (λ (x : ℕ). shown (single_of x (be_value (part (part s at 256) 8 8)))) (sym f)
      ∙ sym (ap seen (decode_single (part s at 256) (λ x. z (sym f ∙ x)) (omega arith)))

  module _ {n : ℕ} (g : n ≡ get_or s (at + 1) 0) where
    pub get_arr : {m : ℕ} → k ≡ 5 → m ≡ min n 24 → Arr m ≡ seen (decode_slot (part s at 256))
    get_arr z q =
        let b = part s at 256 in
        ap Arr (q ∙ ap (λ (x : ℕ). min x 24) (sym (second_byte s at n g)) ∙ sym (length_singles (min (get_or b 1 0) 24) (part b 16 24) (part b 40 192)))
        ∙ sym (ap seen (decode_arr b (first_byte ∙ z)))

    pub get_tab : {m : ℕ} → k ≡ 6 → m ≡ min n 16 → Tab m ≡ seen (decode_slot (part s at 256))
    get_tab z q =
        let b = part s at 256 in
        let l = contents (min (get_or b 1 0) 16) b in
        ap Tab (q ∙ ap (λ (x : ℕ). min x 16) (sym (second_byte s at n g)) ∙ sym (length_singles (min (get_or b 1 0) 16) (part b 16 24) (part b 40 192)) ∙ sym (length_entries (part b 232 16) l))
        ∙ sym (ap seen (decode_tab b (first_byte ∙ z)))

  pub get_other : 4 < k → (k ≡ 5 → ⊥) → (k ≡ 6 → ⊥) → Empty ≡ seen (decode_slot (part s at 256))
  get_other h p q = let f = first_byte in sym (ap seen (decode_other (part s at 256) (omega arith)))

-- ---- the number of a value is that of the single value

pub word_plain : (v : SifVal) → word_in v ≡ word_of (single_seen v)
word_plain Empty = refl
word_plain (Num x) = refl
word_plain (Str t) = refl
word_plain (Bl b) = refl
word_plain Null = refl
word_plain (Arr n) = refl
word_plain (Tab n) = refl

-- ---- values that are read again

pub kept_word : (x : Single) {w : ℕ} → w ≡ word_of x → w < 2 ^ 64 → single_of (single_kind x) w ≡ x → ReadBack x
kept_word x e h q = ap (single_of (single_kind x)) (be_value_be_bytes 8 (word_of x) (omega arith) ∙ sym e) ∙ q

pub flag_back : (b : Bool) {w : ℕ} → w ≡ cond b 1 0 → eqb w 1 ≡ b
flag_back true e = rw e
flag_back false e = rw e
