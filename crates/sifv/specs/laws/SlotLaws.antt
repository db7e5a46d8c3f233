-- The laws of value slots: a stored value is read back from its slot, a slot has 256 bytes, and an accepted slot is the one form of its value.
-- Document 01, "Running": "A value is a number, text, yes/no, array, table or nothing, numbers as f64".
use Rattle.std.specs.Prelude.{◌≡◌, refl, Bool, true, false, cond, ◌&&◌, List, [], ◌∷◌, ◌++◌, map, ℕ, zero, suc, ◌*◌, ◌-◌, ◌^◌, ◌≤◌, ◌<◌, min, leb, ltb, eqb, length, get_or, take, drop}
use Rattle.std.proofs.Common.{ap, ap₂, ◌∙◌, map-id, arith, length-append, ltb-true, leb-true}
use Rattle.std.proofs.Math.Option.{Option, none, some}
use Rattle.std.proofs.lemmas.List.{length-map}
use Rattle.std.specs.Float.{binary64}
use Rattle.std.specs.Float.Ieee.{of_bits}
use Rattle.std.specs.Float.Ieee.Bits.{of_bits-to_bits, to_bits-lt, of_bits-fits}
use Rattle.lent.specs.Bytes.{be_value, part, same_bytes, concat, Each, none, more}
use Rattle.lent.specs.laws.Numbers.{be_value_be_bytes}
use Rattle.lent.specs.laws.Same.{same_eq}
use Rattle.sifv.specs.Value.{Single, Num, Str, Bl, Null, Entry, entry, Value, One, Arr, Tab}
use Rattle.sifv.specs.Slot.{single_kind, word_of, single_of, word_bytes, slot_bytes, key, value, encode_slot, singles_of, entries_of, contents, decode_slot, single_ok, singles_ok, entries_ok, value_ok, slot_ok}
use Rattle.sifv.specs.laws.Layout.{and_left, and_right, and_both, Sized, end, field, field_at, length_joined, length_pad}
use Rattle.lent.specs.Lists.{zeros, pad}
use Rattle.sifv.specs.Limits.{SingleFits, ValueFits}

-- ---- single values

-- what may be stored and fits
abbrev pub Stored : Single → Type 0
Stored s = (single_ok s ≡ true) × SingleFits s

pub word_lt : (s : Single) → Stored s → word_of s < 2 ^ 64
word_lt (Num x) h = to_bits-lt binary64 x h.1
word_lt (Str t) h = omega (arith, ltb-true t 64 h.0)
word_lt (Bl true) h = omega arith
word_lt (Bl false) h = omega arith
word_lt Null h = omega arith

pub single_back : (s : Single) → Stored s → single_of (single_kind s) (word_of s) ≡ s
single_back (Num x) h = ap Num (of_bits-to_bits binary64 x h.1)
single_back (Str t) h = refl
single_back (Bl true) h = refl
single_back (Bl false) h = refl
single_back Null h = refl

pub word_back : (s : Single) → Stored s → be_value (word_bytes s) ≡ word_of s
word_back s h = be_value_be_bytes 8 (word_of s) (word_lt s h)

-- ---- lists of them

pub stored_singles : (l : List Single) → singles_ok l ≡ true → Each SingleFits l → Each Stored l
stored_singles l e none = none
stored_singles l e (more {a = s} {l = k} f h) = more (and_left (single_ok s) (singles_ok k) e, f) (stored_singles k (and_right (single_ok s) (singles_ok k) e) h)

pub stored_ok : {l : List Single} → Each Stored l → singles_ok l ≡ true
stored_ok none = refl
stored_ok (more p h) = and_both p.0 (stored_ok h)

pub stored_fit : {l : List Single} → Each Stored l → Each SingleFits l
stored_fit none = none
stored_fit (more p h) = more p.1 (stored_fit h)

stored_entries : (n : ℕ) (t : List Entry) → entries_ok n t ≡ true → Each (λ (e : Entry). SingleFits (value e)) t → Each (λ (e : Entry). Stored (value e)) t
stored_entries n t e none = none
stored_entries n t e (more {a = entry k s} {l = u} f h) =
    let p = and_right (ltb k 64) (single_ok s && entries_ok (suc k) u) (and_right (leb n k) (ltb k 64 && (single_ok s && entries_ok (suc k) u)) e) in
    more (and_left (single_ok s) (entries_ok (suc k) u) p, f) (stored_entries (suc k) u (and_right (single_ok s) (entries_ok (suc k) u) p) h)

-- n things that hold a value: their kinds, and their numbers of 8 bytes
module _ {A : Type 0} (f : A → Single) where
  pub length_words : (l : List A) → length (concat (map (λ (a : A). word_bytes (f a)) l)) ≡ length l * 8
  length_words [] = refl
  length_words (a ∷ l) = length-append (word_bytes (f a)) (concat (map (λ (a : A). word_bytes (f a)) l)) ∙ rw (length_words l) (omega arith)

  pub singles_back : {l : List A} (kr wr : List ℕ) → Each (λ (a : A). Stored (f a)) l
      → singles_of (length l) (map (λ (a : A). single_kind (f a)) l ++ kr) (concat (map (λ (a : A). word_bytes (f a)) l) ++ wr) ≡ map f l
  singles_back kr wr none = refl
  singles_back kr wr (more {a = a} {l = l} p h) =
      ap₂ (λ (s : Single) (r : List Single). s ∷ r)
      (ap (single_of (single_kind (f a))) (word_back (f a) p) ∙ single_back (f a) p)
      (singles_back kr wr h)

entries_back : (t : List Entry) (r : List ℕ) → entries_of (map key t ++ r) (map value t) ≡ t
entries_back [] r = refl
entries_back (entry k s ∷ t) r = ap (λ (u : List Entry). entry k s ∷ u) (entries_back t r)

-- ---- the parts of a slot

module _ (k n : ℕ) (w ks ws keys : List ℕ) (hw : length w ≤ 8) (hk : length ks ≤ 24) (hs : length ws ≤ 192) (hy : length keys ≤ 16) where
  slot_fields : Sized ((k ∷ (n ∷ zeros 6)) ∷ pad 8 w ∷ pad 24 ks ∷ pad 192 ws ∷ pad 16 keys ∷ []) (8 ∷ 8 ∷ 24 ∷ 192 ∷ 16 ∷ [])
  slot_fields = field refl (field (length_pad 8 w hw) (field (length_pad 24 ks hk) (field (length_pad 192 ws hs) (field (length_pad 16 keys hy) end))))

  slot_kinds : part (slot_bytes k n w ks ws keys) 16 24 ≡ pad 24 ks
  slot_kinds = field_at slot_fields 2 (zeros 8) (omega arith)

  slot_words : part (slot_bytes k n w ks ws keys) 40 192 ≡ pad 192 ws
  slot_words = field_at slot_fields 3 (zeros 8) (omega arith)

  slot_keys : part (slot_bytes k n w ks ws keys) 232 16 ≡ pad 16 keys
  slot_keys = field_at slot_fields 4 (zeros 8) (omega arith)

  slot_size : length (slot_bytes k n w ks ws keys) ≡ 256
  slot_size = length_joined slot_fields (zeros 8)

-- ---- the laws

module _ (l : List Single) (h : length l ≤ 24) where
  arr_kinds : length (map single_kind l) ≤ 24
  arr_kinds = rw (length-map l single_kind) h

  arr_words : length (concat (map word_bytes l)) ≤ 192
  arr_words = rw (length_words (λ (s : Single). s) l) (omega arith)

module _ (t : List Entry) (h : length t ≤ 16) where
  tab_kinds : length (map (λ (e : Entry). single_kind (value e)) t) ≤ 24
  tab_kinds = rw (length-map t (λ (e : Entry). single_kind (value e))) (omega arith)

  tab_words : length (concat (map (λ (e : Entry). word_bytes (value e)) t)) ≤ 192
  tab_words = rw (length_words value t) (omega arith)

  tab_keys : length (map key t) ≤ 16
  tab_keys = rw (length-map t key) h

-- a slot has 256 bytes
pub slot_length : (v : Option Value) → value_ok v ≡ true → length (encode_slot v) ≡ 256
unfolding encode_slot
slot_length none e = refl
slot_length (some (One s)) e = slot_size (single_kind s) 0 (word_bytes s) [] [] [] (omega arith) (omega arith) (omega arith) (omega arith)
slot_length (some (Arr l)) e =
    let h = leb-true (length l) 24 (and_left (leb (length l) 24) (singles_ok l) e) in
    slot_size 5 (length l) [] (map single_kind l) (concat (map word_bytes l)) [] (omega arith) (arr_kinds l h) (arr_words l h) (omega arith)
slot_length (some (Tab t)) e =
    let h = leb-true (length t) 16 (and_left (leb (length t) 16) (entries_ok 0 t) e) in
    slot_size 6 (length t) [] (map (λ (e : Entry). single_kind (value e)) t) (concat (map (λ (e : Entry). word_bytes (value e)) t)) (map key t) (omega arith) (tab_kinds t h) (tab_words t h) (tab_keys t h)

arr_back : (l : List Single) → length l ≤ 24 → Each Stored l
    → contents (min (length l) 24) (slot_bytes 5 (length l) [] (map single_kind l) (concat (map word_bytes l)) []) ≡ l
arr_back l h f =
    let ks = map single_kind l in
    let ws = concat (map word_bytes l) in
    let b = slot_bytes 5 (length l) [] ks ws [] in
    let m : min (length l) 24 ≡ length l = omega arith in
    ap (λ (n : ℕ). contents n b) m
    ∙ ap₂ (singles_of (length l)) (slot_kinds 5 (length l) [] ks ws [] (omega arith) (arr_kinds l h) (arr_words l h) (omega arith)) (slot_words 5 (length l) [] ks ws [] (omega arith) (arr_kinds l h) (arr_words l h) (omega arith))
    ∙ singles_back (λ (s : Single). s) (zeros (24 - length ks)) (zeros (192 - length ws)) f
    ∙ map-id l

tab_back : (t : List Entry) → length t ≤ 16 → Each (λ (e : Entry). Stored (value e)) t
    → let b = slot_bytes 6 (length t) [] (map (λ (e : Entry). single_kind (value e)) t) (concat (map (λ (e : Entry). word_bytes (value e)) t)) (map key t) in
    entries_of (part b 232 16) (contents (min (length t) 16) b) ≡ t
tab_back t h f =
    let ks = map (λ (e : Entry). single_kind (value e)) t in
    let ws = concat (map (λ (e : Entry). word_bytes (value e)) t) in
    let ys = map key t in
    let b = slot_bytes 6 (length t) [] ks ws ys in
    let m : min (length t) 16 ≡ length t = omega arith in
    ap₂ entries_of (slot_keys 6 (length t) [] ks ws ys (omega arith) (tab_kinds t h) (tab_words t h) (tab_keys t h))
    (ap (λ (n : ℕ). contents n b) m
    ∙ ap₂ (singles_of (length t)) (slot_kinds 6 (length t) [] ks ws ys (omega arith) (tab_kinds t h) (tab_words t h) (tab_keys t h)) (slot_words 6 (length t) [] ks ws ys (omega arith) (tab_kinds t h) (tab_words t h) (tab_keys t h))
    ∙ singles_back value (zeros (24 - length ks)) (zeros (192 - length ws)) f)
    ∙ entries_back t (zeros (16 - length ys))

-- a kind from 1 to 4 is a single value's
one_back : (s : Single) → Stored s → decode_slot (encode_slot (some (One s))) ≡ some (One s)
unfolding encode_slot decode_slot
one_back (Num x) h = ap (λ (s : Single). some (One s)) (ap (single_of 1) (word_back (Num x) h) ∙ single_back (Num x) h)
one_back (Str t) h = ap (λ (s : Single). some (One s)) (ap (single_of 2) (word_back (Str t) h) ∙ single_back (Str t) h)
one_back (Bl b) h = ap (λ (s : Single). some (One s)) (ap (single_of 3) (word_back (Bl b) h) ∙ single_back (Bl b) h)
one_back Null h = refl

-- a stored value is read back
pub slot_back : (v : Option Value) → value_ok v ≡ true → ValueFits v → decode_slot (encode_slot v) ≡ v
unfolding encode_slot decode_slot
slot_back none e f = refl
slot_back (some (One s)) e f = one_back s (e, f)
slot_back (some (Arr l)) e f =
    ap (λ (r : List Single). some (Arr r))
    (arr_back l (leb-true (length l) 24 (and_left (leb (length l) 24) (singles_ok l) e)) (stored_singles l (and_right (leb (length l) 24) (singles_ok l) e) f))
slot_back (some (Tab t)) e f =
    ap (λ (r : List Entry). some (Tab r))
    (tab_back t (leb-true (length t) 16 (and_left (leb (length t) 16) (entries_ok 0 t) e)) (stored_entries 0 t (and_right (leb (length t) 16) (entries_ok 0 t) e) f))

-- an accepted slot is the one form of what it holds
pub slot_same : (b : List ℕ) → slot_ok b ≡ true → encode_slot (decode_slot b) ≡ b
unfolding slot_ok
slot_same b e = same_eq (encode_slot (decode_slot b)) b (and_right (value_ok (decode_slot b)) (same_bytes (encode_slot (decode_slot b)) b) e)

-- ---- what is read fits, whatever the bytes

single_of_fits : (k w : ℕ) → SingleFits (single_of k w)
single_of_fits k w = by_test (eqb k 1) (eqb k 2) (eqb k 3)
  where
    by_test : (a b c : Bool) → SingleFits (cond a (Num (of_bits binary64 w)) (cond b (Str w) (cond c (Bl (eqb w 1)) Null)))
    by_test true b c = of_bits-fits binary64 w
    by_test false true c = tt
    by_test false false true = tt
    by_test false false false = tt

singles_of_fit : (n : ℕ) (ks ws : List ℕ) → Each SingleFits (singles_of n ks ws)
singles_of_fit zero ks ws = none
singles_of_fit (suc n) ks ws = more (single_of_fits (get_or ks 0 0) (be_value (take 8 ws))) (singles_of_fit n (drop 1 ks) (drop 8 ws))

entries_of_fit : (ks : List ℕ) {l : List Single} → Each SingleFits l → Each (λ (e : Entry). SingleFits (value e)) (entries_of ks l)
entries_of_fit ks none = none
entries_of_fit ks (more p h) = more p (entries_of_fit (drop 1 ks) h)

pub slot_fits : (b : List ℕ) → ValueFits (decode_slot b)
unfolding decode_slot
slot_fits b = by_test (eqb k 0) (leb k 4) (eqb k 5) (eqb k 6)
  where
    k : ℕ
    k = get_or b 0 0

    n : ℕ
    n = get_or b 1 0

    by_test : (c d e f : Bool) → ValueFits
        (cond c none (cond d (some (One (single_of k (be_value (part b 8 8))))) (cond e (some (Arr (contents (min n 24) b))) (cond f (some (Tab (entries_of (part b 232 16) (contents (min n 16) b)))) none))))
    by_test true d e f = tt
    by_test false true e f = single_of_fits k (be_value (part b 8 8))
    by_test false false true f = singles_of_fit (min n 24) (part b 16 24) (part b 40 192)
    by_test false false false true = entries_of_fit (part b 232 16) (singles_of_fit (min n 16) (part b 16 24) (part b 40 192))
    by_test false false false false = tt
