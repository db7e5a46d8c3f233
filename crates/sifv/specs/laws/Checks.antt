-- Slots in the one form of a value that may be stored: what is checked, by the slot's first byte; and, for each loop of the checks, that one pass more extends
-- the answer so far.
use Rattle.std.specs.Prelude.{◌≡◌, Bool, true, ◌&&◌, drop, eqb, leb, ltb}
use Rattle.std.proofs.Math.Path.{refl, sym, ap}
use Rattle.std.proofs.Common.{ap₂, ◌∙◌, not-suc-le-zero, le_of_suc-le-suc, add-one, arith, drop-cons, eq-eqb, ne_eqb, eqb-true, le-leb}
use Rattle.std.proofs.Math.Bool.{false, and-false, and_assoc}
use mathlib.Core.List.{List, [], ◌∷◌, map}
use Rattle.std.proofs.Math.Option.{some}
use Prim.Native.Nat.{ℕ, zero, suc, ◌+◌, ◌≤◌, ◌<◌, min}
use Rattle.std.proofs.Math.ListN.{length, get_or, take}
use Rattle.std.proofs.Math.Seq.{take-take}
use Rattle.std.proofs.lemmas.Bool.{eqb-false}
use Rattle.lent.specs.Bytes.{part, same_bytes}
use Rattle.lent.specs.laws.Parts.{length_part}
use Rattle.sifv.specs.Value.{Single, Entry, Arr, Tab}
use Rattle.sifv.specs.Slot.{single_kind, word_bytes, entries_of, contents, key, value, single_ok, singles_ok, entries_ok, encode_slot, slot_ok}
use Rattle.sifv.specs.inner.Seen.{box_bytes, keys_ok, one_ok, arr_ok, tab_ok}
use Rattle.sifv.specs.laws.Laws.{length_singles, length_entries, decode_empty, decode_single, decode_arr, decode_tab, decode_other}
use Rattle.lent.specs.Lists.{zeros}

-- ---- one pass of a check's loop: the answer of all is the answer so far and that of the rest

pub keys_turn : (ks : List ℕ) (i next k : ℕ) (ok : Bool) {r : Bool} → i < length ks → k ≡ get_or ks i 0 → keys_ok 0 ks ≡ (ok && keys_ok next (drop i ks)) → r ≡ (ok && (leb next k && ltb k 64))
    → keys_ok 0 ks ≡ (r && keys_ok (k + 1) (drop (i + 1) ks))
keys_turn ks i next k ok {r} h f e q =
    let rest = keys_ok (suc k) (drop (suc i) ks) in
    e
    ∙ ap (λ (l : List ℕ). ok && keys_ok next l) (drop-cons ks i 0 h ∙ ap (λ (x : ℕ). x ∷ drop (suc i) ks) (sym f))
    ∙ ap (λ (t : Bool). ok && t) (sym (and_assoc (leb next k) (ltb k 64) rest))
    ∙ sym (and_assoc ok (leb next k && ltb k 64) rest)
    ∙ ap (λ (t : Bool). t && rest) (sym q)
    ∙ ap₂ (λ (x y : ℕ). r && keys_ok x (drop y ks)) (sym (add-one k)) (sym (add-one i))

pub keys_end : (ks : List ℕ) (i next : ℕ) → length ks ≤ i → keys_ok next (drop i ks) ≡ true
keys_end [] zero next h = refl
keys_end [] (suc i) next h = refl
keys_end (x ∷ ks) zero next h = absurd (not-suc-le-zero h)
keys_end (x ∷ ks) (suc i) next h = keys_end ks i next (le_of_suc-le-suc h)

-- ---- tables: keys and items

tab_kinds : (ks : List ℕ) (l : List Single) → map (λ (e : Entry). single_kind (value e)) (entries_of ks l) ≡ map single_kind l
tab_kinds ks [] = refl
tab_kinds ks (x ∷ l) = ap (λ (r : List ℕ). single_kind x ∷ r) (tab_kinds (drop 1 ks) l)

tab_words : (ks : List ℕ) (l : List Single) → map (λ (e : Entry). word_bytes (value e)) (entries_of ks l) ≡ map word_bytes l
tab_words ks [] = refl
tab_words ks (x ∷ l) = ap (λ (r : List (List ℕ)). word_bytes x ∷ r) (tab_words (drop 1 ks) l)

tab_keys : (ks : List ℕ) (l : List Single) → length l ≤ length ks → map key (entries_of ks l) ≡ take (length l) ks
tab_keys ks [] h = refl
tab_keys [] (x ∷ l) h = absurd (not-suc-le-zero h)
tab_keys (k ∷ ks) (x ∷ l) h = ap (λ (r : List ℕ). k ∷ r) (tab_keys ks l (le_of_suc-le-suc h))

pub arr_box : (n : ℕ) (l : List Single) → length l ≡ n → encode_slot (some (Arr l)) ≡ box_bytes 5 n l []
unfolding encode_slot
arr_box n l e = ap (λ (k : ℕ). box_bytes 5 k l []) e

pub tab_box : (n : ℕ) (ks : List ℕ) (l : List Single) → length l ≡ n → n ≤ length ks → encode_slot (some (Tab (entries_of ks l))) ≡ box_bytes 6 n l (take n ks)
unfolding encode_slot
tab_box n ks l e h =
    rw (length_entries ks l, tab_kinds ks l, tab_words ks l, tab_keys ks l (omega arith)) (ap (λ (k : ℕ). box_bytes 6 k l (take k ks)) e)

and_mix : (a b x y z : Bool) → (a && (b && (x && (y && z)))) ≡ ((a && (b && y)) && (x && z))
and_mix true true true y z = refl
and_mix true true false y z = sym (and-false y)
and_mix true false x y z = refl
and_mix false b x y z = refl

entries_ok_lem : (n : ℕ) (ks : List ℕ) (l : List Single) → length l ≤ length ks → entries_ok n (entries_of ks l) ≡ (keys_ok n (take (length l) ks) && singles_ok l)
entries_ok_lem n ks [] h = refl
entries_ok_lem n [] (x ∷ l) h = absurd (not-suc-le-zero h)
entries_ok_lem n (k ∷ ks) (x ∷ l) h =
    ap (λ (t : Bool). leb n k && (ltb k 64 && (single_ok x && t))) (entries_ok_lem (suc k) ks l (le_of_suc-le-suc h))
    ∙ and_mix (leb n k) (ltb k 64) (single_ok x) (keys_ok (suc k) (take (length l) ks)) (singles_ok l)

-- ---- the check by the slot's first byte

eqb_sym : (x y : ℕ) → eqb x y ≡ eqb y x
eqb_sym x y = pick (eqb y x) refl
  where
    pick : (t : Bool) → eqb y x ≡ t → eqb x y ≡ t
    pick true e = eq-eqb x y (sym (eqb-true y x e))
    pick false e = ne_eqb x y (λ p. eqb-false y x e (sym p))

pub same_sym : (a b : List ℕ) → same_bytes a b ≡ same_bytes b a
same_sym [] [] = refl
same_sym [] (y ∷ b) = refl
same_sym (x ∷ a) [] = refl
same_sym (x ∷ a) (y ∷ b) = ap₂ (λ (t u : Bool). t && u) (eqb_sym x y) (same_sym a b)

module _ (b : List ℕ) where
  pub slot_zero : get_or b 0 0 ≡ 0 → same_bytes b (zeros 256) ≡ slot_ok b
  unfolding slot_ok encode_slot
  slot_zero e = rw (decode_empty b e) (same_sym b (zeros 256))

  pub slot_one : (get_or b 0 0 ≡ 0 → ⊥) → get_or b 0 0 ≤ 4 → one_ok b ≡ slot_ok b
  unfolding slot_ok
  slot_one z h = rw (decode_single b z h)

  pub slot_arr : get_or b 0 0 ≡ 5 → arr_ok b ≡ slot_ok b
  unfolding slot_ok
  slot_arr e =
      let n = min (get_or b 1 0) 24 in
      let l = contents n b in
      let m : length l ≡ n = length_singles n (part b 16 24) (part b 40 192) in
      sym
      (rw (decode_arr b e)
      (ap₂ (λ (u v : Bool). u && v)
      (ap (λ (u : Bool). u && singles_ok l) (le-leb (length l) 24 (omega arith)))
      (ap (λ (u : List ℕ). same_bytes u b) (arr_box n l m))))

  pub slot_tab : length b ≡ 256 → get_or b 0 0 ≡ 6 → tab_ok b ≡ slot_ok b
  unfolding slot_ok
  slot_tab q e =
      let n = min (get_or b 1 0) 16 in
      let ks = part b 232 16 in
      let l = contents n b in
      let t = entries_of ks l in
      let m : length l ≡ n = length_singles n (part b 16 24) (part b 40 192) in
      let k : length ks ≡ 16 = length_part b 232 16 (omega arith) in
      let lt : length t ≡ length l = length_entries ks l in
      let f : take n ks ≡ part b 232 n = take-take n 16 (drop 232 b) (omega arith) in
      let g : take (length l) ks ≡ part b 232 n = ap (λ (x : ℕ). take x ks) m ∙ f in
      sym
      (rw (decode_tab b e)
      (ap₂ (λ (u v : Bool). u && v)
      (ap₂ (λ (u v : Bool). u && v) (le-leb (length t) 16 (omega arith)) (entries_ok_lem 0 ks l (omega arith) ∙ ap (λ (u : List ℕ). keys_ok 0 u && singles_ok l) g))
      (ap (λ (u : List ℕ). same_bytes u b) (tab_box n ks l m (omega arith) ∙ ap (box_bytes 6 n l) f))))

  pub slot_other : 6 < get_or b 0 0 → false ≡ slot_ok b
  unfolding slot_ok encode_slot
  slot_other h = rw (decode_other b h) (differs b h)
    where
      differs : (l : List ℕ) → 6 < get_or l 0 0 → false ≡ same_bytes (zeros 256) l
      differs [] g = refl
      differs (x ∷ l) g = rw (ne_eqb 0 x (λ p. omega arith))
