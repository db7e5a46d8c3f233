-- The items of a slot: read, written, added; its keys.
use Rattle.std.specs.Prelude.{◌≡◌, refl, List, [], ◌∷◌, ◌++◌, map, ℕ, zero, suc, ◌+◌, ◌*◌, ◌-◌, ◌≤◌, ◌<◌, length, get_or, take, drop, set}
use Rattle.std.proofs.Common.{sym, ap, ap₂, ◌∙◌, append_assoc, append-nil, not-suc-le-zero, le_of_suc-le-suc, add-zero, add-one, arith, length-append, drop-drop, get_or-drop}
use Rattle.lent.specs.Bytes.{be_value, be_bytes, part, splice, concat, none, more}
use Rattle.lent.specs.laws.Parts.{length_part, length_splice, get_d_part, part_part, part_splice_around, splice_around, splice_over, splice_one, splice_append_left, splice_append_right}
use Rattle.lent.specs.laws.Slots.{length_concat, splice_concat, map_set, Wide}
use Rattle.sifv.specs.Value.{Single}
use Rattle.sifv.specs.Slot.{single_kind, word_of, word_bytes, single_of, singles_of, contents}
use Rattle.sifv.specs.inner.Seen.{shown, slot_item, set_item, box_bytes}
use Rattle.sifv.specs.declared.SifVal.{SifVal}
use Rattle.sifv.specs.laws.Layout.{length_pad, drop_zeros}
use Rattle.lent.specs.Lists.{zeros, pad}

-- ---- items that are read

get_d_singles : (n i : ℕ) (ks ws : List ℕ) (d : Single) → i < n → get_or (singles_of n ks ws) i d ≡ single_of (get_or ks i 0) (be_value (part ws (i * 8) 8))
get_d_singles zero i ks ws d h = absurd (not-suc-le-zero h)
get_d_singles (suc n) zero ks ws d h = refl
get_d_singles (suc n) (suc i) ks ws d h =
    let e : 1 + i ≡ suc i = omega arith in
    let f : 8 + i * 8 ≡ suc i * 8 = omega arith in
    get_d_singles n i (drop 1 ks) (drop 8 ws) d (le_of_suc-le-suc h)
    ∙ ap₂ (λ (x : ℕ) (l : List ℕ). single_of x (be_value (take 8 l)))
    (get_or-drop 1 ks i 0 ∙ ap (λ (k : ℕ). get_or ks k 0) e)
    (drop-drop (i * 8) 8 ws ∙ ap (λ (k : ℕ). drop k ws) f)

singles_more : (n : ℕ) (ks ws : List ℕ) → singles_of (suc n) ks ws ≡ singles_of n ks ws ++ (single_of (get_or ks n 0) (be_value (part ws (n * 8) 8)) ∷ [])
singles_more zero ks ws = refl
singles_more (suc n) ks ws =
    let e : 1 + n ≡ suc n = omega arith in
    let f : 8 + n * 8 ≡ suc n * 8 = omega arith in
    let g : single_of (get_or (drop 1 ks) n 0) (be_value (part (drop 8 ws) (n * 8) 8)) ≡ single_of (get_or ks (suc n) 0) (be_value (part ws (suc n * 8) 8)) =
    ap₂ (λ (x : ℕ) (l : List ℕ). single_of x (be_value (take 8 l)))
    (get_or-drop 1 ks n 0 ∙ ap (λ (k : ℕ). get_or ks k 0) e)
    (drop-drop (n * 8) 8 ws ∙ ap (λ (k : ℕ). drop k ws) f) in
    ap (λ (l : List Single). single_of (get_or ks 0 0) (be_value (take 8 ws)) ∷ l)
    (singles_more n (drop 1 ks) (drop 8 ws) ∙ ap (λ (x : Single). singles_of n (drop 1 ks) (drop 8 ws) ++ (x ∷ [])) g)

item_of : (b : List ℕ) (i : ℕ) → i < 24 → single_of (get_or (part b 16 24) i 0) (be_value (part (part b 40 192) (i * 8) 8)) ≡ slot_item b i
item_of b i h =
    ap₂ (λ (x : ℕ) (l : List ℕ). single_of x (be_value l)) (get_d_part b 16 24 i 0 h) (part_part b 40 192 (i * 8) 8 (omega arith))

-- item i of n
pub contents_item : (n i : ℕ) (b : List ℕ) (d : Single) → i < n → n ≤ 24 → get_or (contents n b) i d ≡ slot_item b i
contents_item n i b d h g = get_d_singles n i (part b 16 24) (part b 40 192) d h ∙ item_of b i (omega arith)

-- one item more
pub contents_more : (n : ℕ) (b : List ℕ) → n < 24 → contents (n + 1) b ≡ contents n b ++ (slot_item b n ∷ [])
contents_more n b h =
    ap (λ (k : ℕ). contents k b) (add-one n)
    ∙ singles_more n (part b 16 24) (part b 40 192)
    ∙ ap (λ (x : Single). contents n b ++ (x ∷ [])) (item_of b n h)

pub get_item_law : (s : List ℕ) (at i : ℕ) {k w : ℕ} {r : SifVal} → i < 24 → k ≡ get_or s (at + (16 + i)) 0 → w ≡ be_value (part s (at + (40 + i * 8)) 8) → r ≡ shown (single_of k w)
    → r ≡ shown (slot_item (part s at 256) i)
get_item_law s at i h p q e =
    e
    ∙ ap₂ (λ (x y : ℕ). shown (single_of x y))
    (p ∙ sym (get_d_part s at 256 (16 + i) 0 (omega arith)))
    (q ∙ ap be_value (sym (part_part s at 256 (40 + i * 8) 8 (omega arith))))

-- ---- an item that is written

pub length_set_item : (b : List ℕ) (i : ℕ) (x : Single) → length b ≡ 256 → i < 24 → length (set_item b i x) ≡ 256
length_set_item b i x e h =
    let a = single_kind x ∷ [] in
    let l : length (splice b (16 + i) a) ≡ length b = length_splice b (16 + i) a (omega arith) in
    let g : length (word_bytes x) ≡ 8 = refl in
    length_splice (splice b (16 + i) a) (40 + i * 8) (word_bytes x) (omega arith) ∙ l ∙ e

pub put_item_law : (d : List ℕ) (at i : ℕ) (x : Single) {k w : ℕ} {d₁ d₂ : List ℕ} → at + 256 ≤ length d → i < 24 → k ≡ single_kind x → w ≡ word_of x
    → d₁ ≡ set d (at + (16 + i)) k → d₂ ≡ splice d₁ (at + (40 + i * 8)) (be_bytes 8 w) → d₂ ≡ splice d at (set_item (part d at 256) i x)
put_item_law d at i x h g e f p q =
    let a = single_kind x ∷ [] in
    let w = word_bytes x in
    let b = part d at 256 in
    let d₃ = splice d (at + (16 + i)) a in
    let m : length w ≡ 8 = refl in
    let lb : length b ≡ 256 = length_part d at 256 h in
    let l : length d₃ ≡ length d = length_splice d (at + (16 + i)) a (omega arith) in
    let o : part d₃ at 256 ≡ splice b (16 + i) a = part_splice_around d at 256 (16 + i) a (omega arith) (omega arith) in
    let n : length (set_item b i x) ≡ 256 = length_set_item b i x lb g in
    q
    ∙ ap₂ (λ (r : List ℕ) (y : ℕ). splice r (at + (40 + i * 8)) (be_bytes 8 y)) (p ∙ ap (set d (at + (16 + i))) e ∙ sym (splice_one d (at + (16 + i)) (single_kind x) (omega arith))) f
    ∙ sym (splice_around d₃ at 256 (40 + i * 8) w (omega arith) (omega arith))
    ∙ ap (λ (r : List ℕ). splice d₃ at (splice r (40 + i * 8) w)) o
    ∙ splice_over d (at + (16 + i)) a at (set_item b i x) (omega arith) (omega arith) (omega arith)

-- ---- padded lists

pad_set : (n : ℕ) (l : List ℕ) (i : ℕ) (s : List ℕ) → i + length s ≤ length l → splice (pad n l) i s ≡ pad n (splice l i s)
pad_set n l i s h =
    splice_append_left l (zeros (n - length l)) i s h ∙ ap (λ (k : ℕ). splice l i s ++ zeros (n - k)) (sym (length_splice l i s h))

pad_push : (n : ℕ) (l s : List ℕ) → splice (pad n l) (length l) s ≡ pad n (l ++ s)
pad_push n l s =
    let z = zeros (n - length l) in
    let e : n - length l - length s ≡ n - length (l ++ s) = omega (arith, length-append l s) in
    ap (λ (k : ℕ). splice (l ++ z) k s) (sym (add-zero (length l)))
    ∙ splice_append_right l z 0 s
    ∙ ap (λ (r : List ℕ). l ++ (s ++ r)) (drop_zeros (length s) (n - length l) ∙ ap zeros e)
    ∙ sym (append_assoc l s (zeros (n - length (l ++ s))))

-- ---- the kinds and the numbers of a list of single values

pub length_kinds : (l : List Single) → length (map single_kind l) ≡ length l
length_kinds [] = refl
length_kinds (x ∷ l) = ap suc (length_kinds l)

length_words : (l : List Single) → length (map word_bytes l) ≡ length l
length_words [] = refl
length_words (x ∷ l) = ap suc (length_words l)

words_wide : (l : List Single) → Wide 8 (map word_bytes l)
words_wide [] = none
words_wide (x ∷ l) = more refl (words_wide l)

pub length_numbers : (l : List Single) → length (concat (map word_bytes l)) ≡ length l * 8
length_numbers l = length_concat 8 (words_wide l) ∙ ap (λ (k : ℕ). k * 8) (length_words l)

pub kinds_more : (l : List Single) (x : Single) → map single_kind (l ++ (x ∷ [])) ≡ map single_kind l ++ (single_kind x ∷ [])
kinds_more [] x = refl
kinds_more (y ∷ l) x = ap (λ (r : List ℕ). single_kind y ∷ r) (kinds_more l x)

pub words_more : (l : List Single) (x : Single) → concat (map word_bytes (l ++ (x ∷ []))) ≡ concat (map word_bytes l) ++ word_bytes x
words_more [] x = append-nil (word_bytes x)
words_more (y ∷ l) x =
    ap (λ (r : List ℕ). word_bytes y ++ r) (words_more l x) ∙ sym (append_assoc (word_bytes y) (concat (map word_bytes l)) (word_bytes x))

-- ---- arrays and tables

-- a splice into the middle
splice_mid : (f a r : List ℕ) (i : ℕ) (s : List ℕ) → i + length s ≤ length a → splice (f ++ (a ++ r)) (length f + i) s ≡ f ++ (splice a i s ++ r)
splice_mid f a r i s h = splice_append_right f (a ++ r) i s ∙ ap (λ (x : List ℕ). f ++ x) (splice_append_left a r i s h)

abbrev front : ℕ → ℕ → List ℕ
front k n = k ∷ (n ∷ zeros 14)

abbrev back : List ℕ → List ℕ
back keys = pad 16 keys ++ zeros 8

-- in the kinds and in the numbers
box_step : (k n : ℕ) (a b r : List ℕ) (i j : ℕ) (s w : List ℕ) → length a ≡ 24 → i + length s ≤ 24 → j + length w ≤ length b
    → splice (splice (front k n ++ (a ++ (b ++ r))) (16 + i) s) (40 + j) w ≡ front k n ++ (splice a i s ++ (splice b j w ++ r))
box_step k n a b r i j s w e h g =
    let c = splice a i s in
    let l : length c ≡ 24 = length_splice a i s (omega arith) ∙ e in
    let m : length (front k n ++ c) ≡ 40 = length-append (front k n) c ∙ ap (λ (x : ℕ). 16 + x) l in
    ap (λ (x : List ℕ). splice x (40 + j) w) (splice_mid (front k n) a (b ++ r) i s (omega arith))
    ∙ ap (λ (x : List ℕ). splice x (40 + j) w) (sym (append_assoc (front k n) c (b ++ r)))
    ∙ ap (λ (x : ℕ). splice ((front k n ++ c) ++ (b ++ r)) (x + j) w) (sym m)
    ∙ splice_mid (front k n ++ c) b r j w g
    ∙ append_assoc (front k n) c (splice b j w ++ r)

module _ (k n : ℕ) (l : List Single) (x : Single) (keys : List ℕ) where
  -- item i becomes x
  pub set_item_lem : (i : ℕ) → i < length l → length l ≤ 24 → set_item (box_bytes k n l keys) i x ≡ box_bytes k n (set l i x) keys
  set_item_lem i h g =
      let ks = map single_kind l in
      let ws = concat (map word_bytes l) in
      let lk = length_kinds l in
      let lw = length_numbers l in
      let m : length (word_bytes x) ≡ 8 = refl in
      let la = length_pad 24 ks (omega arith) in
      let lb = length_pad 192 ws (omega arith) in
      box_step k n (pad 24 ks) (pad 192 ws) (back keys) i (i * 8) (single_kind x ∷ []) (word_bytes x) la (omega arith) (omega arith)
      ∙ ap₂ (λ (u v : List ℕ). front k n ++ (u ++ (v ++ back keys)))
      (pad_set 24 ks i (single_kind x ∷ []) (omega arith) ∙ ap (pad 24) (splice_one ks i (single_kind x) (omega arith) ∙ sym (map_set single_kind l i x)))
      (pad_set 192 ws (i * 8) (word_bytes x) (omega arith)
      ∙ ap (pad 192) (splice_concat 8 i (word_bytes x) (words_wide l) (omega (arith, length_words l)) refl ∙ ap concat (sym (map_set word_bytes l i x))))

  -- x is added behind the items
  pub push_item : length l < 24 → set_item (box_bytes k n l keys) (length l) x ≡ box_bytes k n (l ++ (x ∷ [])) keys
  push_item h =
      let ks = map single_kind l in
      let ws = concat (map word_bytes l) in
      let lk = length_kinds l in
      let lw = length_numbers l in
      let m : length (word_bytes x) ≡ 8 = refl in
      let la = length_pad 24 ks (omega arith) in
      let lb = length_pad 192 ws (omega arith) in
      box_step k n (pad 24 ks) (pad 192 ws) (back keys) (length l) (length l * 8) (single_kind x ∷ []) (word_bytes x) la (omega arith) (omega arith)
      ∙ ap₂ (λ (u v : List ℕ). front k n ++ (u ++ (v ++ back keys)))
      (ap (λ (i : ℕ). splice (pad 24 ks) i (single_kind x ∷ [])) (sym lk) ∙ pad_push 24 ks (single_kind x ∷ []) ∙ ap (pad 24) (sym (kinds_more l x)))
      (ap (λ (i : ℕ). splice (pad 192 ws) i (word_bytes x)) (sym lw) ∙ pad_push 192 ws (word_bytes x) ∙ ap (pad 192) (sym (words_more l x)))

pub length_box : (k n : ℕ) (l : List Single) (keys : List ℕ) → length l ≤ 24 → length keys ≤ 16 → length (box_bytes k n l keys) ≡ 256
length_box k n l keys h g =
    let a = pad 24 (map single_kind l) in
    let b = pad 192 (concat (map word_bytes l)) in
    let c = pad 16 keys in
    let la : length a ≡ 24 = length_pad 24 (map single_kind l) (omega (arith, length_kinds l)) in
    let lb : length b ≡ 192 = length_pad 192 (concat (map word_bytes l)) (omega (arith, length_numbers l)) in
    let lc : length c ≡ 16 = length_pad 16 keys g in
    length-append (front k n) (a ++ (b ++ (c ++ zeros 8)))
    ∙ ap (λ (x : ℕ). 16 + x) (length-append a (b ++ (c ++ zeros 8)) ∙ ap₂ (λ (x y : ℕ). x + y) la (length-append b (c ++ zeros 8) ∙ ap₂ (λ (x y : ℕ). x + y) lb (length-append c (zeros 8) ∙ ap (λ (x : ℕ). x + 8) lc)))
