-- A slot's bytes tested one after the other, without the one form being made: the tests hold where the one form is the bytes.
use Rattle.std.specs.Prelude.{◌≡◌, refl, Bool, true, false, not, cond, ◌&&◌, ℕ, zero, suc, ◌+◌, ◌*◌, ◌-◌, ◌%◌, ◌^◌, ◌≤◌, ◌<◌, min, T, ltb, length}
use Rattle.std.proofs.Math.Path.{sym, ap, ap₂}
use Rattle.std.proofs.Common.{◌∙◌, subst, add-zero, add-one, arith, eq-eqb, ne_eqb, eqb-true, le-ltb, ltb-true, ltb-false}
use Rattle.std.proofs.Math.Bool.{and-true, and-false, and_assoc}
use Rattle.std.proofs.lemmas.Bool.{false≢true}
use mathlib.Core.List.{List, [], ◌∷◌, ◌++◌, map, append_assoc}
use Rattle.std.proofs.Math.Arith.{le→nltb}
use Rattle.std.proofs.Math.Dec.{eqb}
use Rattle.std.specs.Float.{binary64}
use Rattle.std.specs.Float.Ieee.{top, hid, ones, to_bits, of_bits}
use Rattle.std.specs.Float.Ieee.Bits.{nan_bits_above, to_bits-lt, of_bits-fits}
use Rattle.std.proofs.Math.ListN.{get_or}
use Rattle.std.proofs.lemmas.List.{replicate-append-replicate}
use Rattle.lent.specs.Bytes.{be_value, be_bytes, part, same_bytes, concat, AreBytes}
use Rattle.lent.specs.Lists.{pad, zeros, upto}
use Rattle.lent.specs.laws.Each.{each_part, byte_at}
use Rattle.lent.specs.laws.Numbers.{be_bytes_be_value, be_value_be_bytes, be_value_one, be_value_part, be_value_part_lt}
use Rattle.lent.specs.laws.Parts.{length_part, get_d_part, part_all, part_one, part_cons, part_add, part_part}
use Rattle.lent.specs.laws.Same.{same_refl, eq_same, same_eq, same_append}
use Rattle.lent.specs.laws.Truths.{and_left, and_right, and_both, test_iff}
use Rattle.numeric.specs.inner.Fields.{sign, infinity}
use Rattle.numeric.specs.laws.PatternLaws.{no_nan_canonical}
use Rattle.sifv.specs.Value.{Single, Num, Str, Bl, Null}
use Rattle.sifv.specs.Slot.{single_kind, word_of, word_bytes, single_of, contents, single_ok, singles_ok, encode_slot}
use Rattle.sifv.specs.inner.Seen.{slot_item, box_bytes, keys_ok, one_ok, arr_ok, tab_ok}
use Rattle.sifv.specs.inner.Tests.{word_bound, item_ok, item_test, number_test, moderate_test, box_ok}
use Rattle.sifv.specs.laws.Checks.{same_sym}
use Rattle.sifv.specs.laws.Items.{contents_more, length_kinds, length_numbers, kinds_more, words_more}
use Rattle.sifv.specs.laws.Laws.{length_singles}
use Rattle.sifv.specs.laws.Layout.{length_pad}

-- ---- scans: the answer so far is that of the tests below i

module _ (f : ℕ → Bool) where
  pub upto_turn : (i : ℕ) {ok t r : Bool} → ok ≡ upto i f → t ≡ f i → r ≡ (ok && t) → r ≡ upto (i + 1) f
  upto_turn i e p q = q ∙ ap₂ (λ (u v : Bool). u && v) e p ∙ ap (λ (k : ℕ). upto k f) (sym (add-one i))

  pub upto_end : (n i : ℕ) {ok : Bool} → ok ≡ upto i f → i ≤ n → n ≤ i → ok ≡ upto n f
  upto_end n i e h g = let z : i ≡ n = omega arith in e ∙ ap (λ (k : ℕ). upto k f) z

upto_both : (f g t : ℕ → Bool) (m : ℕ) → ((i : ℕ) → i < m → f i ≡ true → g i ≡ true → t i ≡ true) → (n : ℕ) → n ≤ m → upto n f ≡ true → upto n g ≡ true → upto n t ≡ true
upto_both f g t m k zero h p q = refl
upto_both f g t m k (suc n) h p q =
    and_both (upto_both f g t m k n (omega arith) (and_left (upto n f) (f n) p) (and_left (upto n g) (g n) q))
    (k n (omega arith) (and_right (upto n f) (f n) p) (and_right (upto n g) (g n) q))

-- ---- numbers: those that are no NaN's are stored as they are

stored_pattern : (w : ℕ) → w < 2 ^ 64 → w % sign ≤ infinity → to_bits binary64 (of_bits binary64 w) ≡ w
stored_pattern w h g =
    no_nan_canonical w h (subst (λ (b : Bool). T (not b)) (sym (nan_bits_above binary64 w)) (le→nltb (ones binary64 * hid binary64) (w % top binary64) g))

-- by the first of eight bytes
moderate_pattern : (h r : ℕ) → h < 256 → h % 128 < 127 → r < 256 ^ 7 → (h * 256 ^ 7 + r) % sign ≤ infinity
moderate_pattern h r a b c = omega arith

-- ---- one item

-- a number that is small is stored as it is
small : (w m : ℕ) {l p : ℕ} → l ≡ m → m ≤ 64 → p ≡ to_bits binary64 (of_bits binary64 w) → (ltb w l && eqb p w) ≡ ltb w m
small w m {l} {p} e h q =
    test_iff (ltb w l && eqb p w) (ltb w m)
    (λ t. ap (ltb w) (sym e) ∙ and_left (ltb w l) (eqb p w) t)
    (λ t. let g = ltb-true w m t in and_both (ap (ltb w) e ∙ t) (eq-eqb p w (q ∙ stored_pattern w (omega arith) (omega arith))))

-- the largest pattern is not stored
largest : eqb (to_bits binary64 (of_bits binary64 0xffff_ffff_ffff_ffff)) 0xffff_ffff_ffff_ffff ≡ false
unfolding to_bits of_bits
largest = refl

number : (w : ℕ) → w < 2 ^ 64 → eqb (to_bits binary64 (of_bits binary64 w)) w ≡ true → ltb w 0xffff_ffff_ffff_ffff ≡ true
number w h t = pick (ltb w 0xffff_ffff_ffff_ffff) refl
  where
    pick : (c : Bool) → ltb w 0xffff_ffff_ffff_ffff ≡ c → c ≡ true
    pick true e = refl
    pick false e =
        let g = ltb-false w 0xffff_ffff_ffff_ffff e in
        let z : w ≡ 0xffff_ffff_ffff_ffff = omega arith in
        absurd (false≢true (sym largest ∙ ap (λ (x : ℕ). eqb (to_bits binary64 (of_bits binary64 x)) x) (sym z) ∙ t))

yes_no : (w : ℕ) → ltb w 2 ≡ eqb (cond (eqb w 1) 1 0) w
yes_no zero = refl
yes_no (suc zero) = refl
yes_no (suc (suc w)) = rw (le-ltb (suc (suc w)) 2 (omega arith), ne_eqb (suc (suc w)) 1 (λ p. omega arith), ne_eqb 0 (suc (suc w)) (λ p. omega arith))

nothing : (w : ℕ) → ltb w 1 ≡ eqb 0 w
nothing zero = refl
nothing (suc w) = rw (le-ltb (suc w) 1 (omega arith), ne_eqb 0 (suc w) (λ p. omega arith))

-- no number is below 0
none : (w : ℕ) (t : Bool) {l : ℕ} → l ≡ 0 → (ltb w l && t) ≡ false
none w t e = ap (λ (u : Bool). u && t) (ap (ltb w) e ∙ le-ltb w 0 (omega arith))

pub item_law : (k w : ℕ) {l p : ℕ} → w < 2 ^ 64 → l ≡ word_bound (k % 8) → p ≡ to_bits binary64 (of_bits binary64 w) → (ltb k 8 && (ltb w l && eqb p w)) ≡ item_ok k w
item_law zero w {l} {p} h e q = none w (eqb p w) e
item_law (suc zero) w {l} {p} h e q =
    let t = eqb (to_bits binary64 (of_bits binary64 w)) w in
    test_iff (ltb w l && eqb p w) t
    (λ u. ap (λ (x : ℕ). eqb x w) (sym q) ∙ and_right (ltb w l) (eqb p w) u)
    (λ u. and_both (ap (ltb w) e ∙ number w h u) (ap (λ (x : ℕ). eqb x w) q ∙ u))
item_law (suc (suc zero)) w h e q = small w 64 e (omega arith) q ∙ sym (ap (λ (t : Bool). ltb w 64 && t) (eq-eqb w w refl) ∙ and-true (ltb w 64))
item_law (suc (suc (suc zero))) w h e q = small w 2 e (omega arith) q ∙ yes_no w
item_law (suc (suc (suc (suc zero)))) w h e q = small w 1 e (omega arith) q ∙ nothing w
item_law (suc (suc (suc (suc (suc zero))))) w {l} {p} h e q = none w (eqb p w) e
item_law (suc (suc (suc (suc (suc (suc zero)))))) w {l} {p} h e q = none w (eqb p w) e
item_law (suc (suc (suc (suc (suc (suc (suc zero))))))) w {l} {p} h e q = none w (eqb p w) e
item_law (suc (suc (suc (suc (suc (suc (suc (suc k)))))))) w h e q =
    let j = suc (suc (suc (suc (suc (suc (suc (suc k))))))) in
    rw (le-ltb j 8 (omega arith), ne_eqb j 1 (λ p. omega arith), ne_eqb j 2 (λ p. omega arith), ne_eqb j 3 (λ p. omega arith), ne_eqb 4 j (λ p. omega arith))

-- ---- the usual case

moderate_item : (b : List ℕ) (i : ℕ) → AreBytes b → length b ≡ 256 → i < 24 → number_test b i ≡ true → moderate_test b i ≡ true → item_test b i ≡ true
moderate_item b i y l h p q =
    let o = 40 + i * 8 in
    let k = get_or b (16 + i) 0 in
    let w = be_value (part b o 8) in
    let a = get_or b o 0 in
    let r = be_value (part b (o + 1) 7) in
    let ek : k ≡ 1 = eqb-true k 1 p in
    let ew : w ≡ a * 256 ^ 7 + r = be_value_part b o 1 7 (omega arith) ∙ ap (λ (x : ℕ). x * 256 ^ 7 + r) (be_value_one b o (omega arith)) in
    let g : w % sign ≤ infinity =
    subst (λ (x : ℕ). x % sign ≤ infinity) (sym ew) (moderate_pattern a r (omega (arith, byte_at y o)) (ltb-true (a % 128) 127 q) (be_value_part_lt b (o + 1) 7 y (omega arith))) in
    ap (λ (x : ℕ). item_ok x w) ek ∙ eq-eqb (to_bits binary64 (of_bits binary64 w)) w (stored_pattern w (be_value_part_lt b o 8 y (omega arith)) g)

pub moderate_numbers_law : (b : List ℕ) (n : ℕ) → AreBytes b → length b ≡ 256 → n ≤ 24 → (upto n (number_test b) && upto n (moderate_test b)) ≡ true → true ≡ upto n (item_test b)
moderate_numbers_law b n y l h t =
    sym (upto_both (number_test b) (moderate_test b) (item_test b) 24 (λ i g p q. moderate_item b i y l g p q) n h
    (and_left (upto n (number_test b)) (upto n (moderate_test b)) t)
    (and_right (upto n (number_test b)) (upto n (moderate_test b)) t))

-- ---- bytes that are the same

same_word : (l : List ℕ) (u : ℕ) → AreBytes l → length l ≡ 8 → u < 2 ^ 64 → same_bytes (be_bytes 8 u) l ≡ eqb u (be_value l)
same_word l u y e h =
    test_iff (same_bytes (be_bytes 8 u) l) (eqb u (be_value l))
    (λ t. eq-eqb u (be_value l) (sym (be_value_be_bytes 8 u (omega arith)) ∙ ap be_value (same_eq (be_bytes 8 u) l t)))
    (λ t. eq_same (be_bytes 8 u) l (ap (be_bytes 8) (eqb-true u (be_value l) t) ∙ ap (λ (k : ℕ). be_bytes k (be_value l)) (sym e) ∙ be_bytes_be_value y))

-- a field that is filled up with zeros
same_pad : (b : List ℕ) (o m n : ℕ) (a : List ℕ) → length a ≡ n → n ≤ m → o + m ≤ length b
    → same_bytes (pad m a) (part b o m) ≡ (same_bytes a (part b o n) && same_bytes (part b (o + n) (m - n)) (zeros (m - n)))
same_pad b o m n a e h g =
    let z : m ≡ n + (m - n) = omega arith in
    ap₂ (λ (k : ℕ) (l : List ℕ). same_bytes (a ++ zeros (m - k)) l) e (ap (part b o) z ∙ part_add b o n (m - n))
    ∙ same_append a (zeros (m - n)) (part b o n) (part b (o + n) (m - n)) (e ∙ sym (length_part b o n (omega arith)))
    ∙ ap (λ (t : Bool). same_bytes a (part b o n) && t) (same_sym (zeros (m - n)) (part b (o + n) (m - n)))

-- ---- items: each is tested, or all are written and compared

word_lt : (k w : ℕ) → w < 2 ^ 64 → word_of (single_of k w) < 2 ^ 64
word_lt k w h = by_test (eqb k 1) (eqb k 2) (eqb k 3) (eqb w 1)
  where
    by_test : (a b c d : Bool) → word_of (cond a (Num (of_bits binary64 w)) (cond b (Str w) (cond c (Bl d) Null))) < 2 ^ 64
    by_test true b c d = to_bits-lt binary64 (of_bits binary64 w) (of_bits-fits binary64 w)
    by_test false true c d = h
    by_test false false true true = omega arith
    by_test false false true false = omega arith
    by_test false false false d = omega arith

singles_append : (l : List Single) (x : Single) → singles_ok (l ++ (x ∷ [])) ≡ (singles_ok l && single_ok x)
singles_append [] x = and-true (single_ok x)
singles_append (y ∷ l) x = ap (λ (t : Bool). single_ok y && t) (singles_append l x) ∙ sym (and_assoc (single_ok y) (singles_ok l) (single_ok x))

mix_item : (s k w o e f : Bool) → ((s && (k && w)) && (o && (e && f))) ≡ ((s && o) && ((k && e) && (w && f)))
mix_item false k w o e f = refl
mix_item true false w o e f = sym (and-false o)
mix_item true true true o e f = refl
mix_item true true false true e f = sym (and-false e)
mix_item true true false false e f = refl

abbrev written : ℕ → List ℕ → Bool
written n b =
    singles_ok (contents n b) && (same_bytes (map single_kind (contents n b)) (part b 16 n) && same_bytes (concat (map word_bytes (contents n b))) (part b 40 (n * 8)))

kinds_size : (n : ℕ) (b : List ℕ) → length (map single_kind (contents n b)) ≡ n
kinds_size n b = length_kinds (contents n b) ∙ length_singles n (part b 16 24) (part b 40 192)

numbers_size : (n : ℕ) (b : List ℕ) → length (concat (map word_bytes (contents n b))) ≡ n * 8
numbers_size n b = length_numbers (contents n b) ∙ ap (λ (k : ℕ). k * 8) (length_singles n (part b 16 24) (part b 40 192))

items_written : (b : List ℕ) → AreBytes b → length b ≡ 256 → (n : ℕ) → n ≤ 24 → upto n (item_test b) ≡ written n b
items_written b y l zero h = refl
items_written b y l (suc n) h =
    let c = contents n b in
    let x = slot_item b n in
    let k = get_or b (16 + n) 0 in
    let v = part b (40 + n * 8) 8 in
    let z : suc n * 8 ≡ n * 8 + 8 = omega arith in
    let ec : contents (suc n) b ≡ c ++ (x ∷ []) = ap (λ (i : ℕ). contents i b) (sym (add-one n)) ∙ contents_more n b (omega arith) in
    let pk : part b 16 (suc n) ≡ part b 16 n ++ (k ∷ []) =
    ap (part b 16) (sym (add-one n)) ∙ part_add b 16 n 1 ∙ ap (λ (r : List ℕ). part b 16 n ++ r) (part_one b (16 + n) 0 (omega arith)) in
    let pw : part b 40 (suc n * 8) ≡ part b 40 (n * 8) ++ v = ap (part b 40) z ∙ part_add b 40 (n * 8) 8 in
    let ks : same_bytes (map single_kind (contents (suc n) b)) (part b 16 (suc n)) ≡ (same_bytes (map single_kind c) (part b 16 n) && eqb (single_kind x) k) =
    ap₂ same_bytes (ap (map single_kind) ec ∙ kinds_more c x) pk
    ∙ same_append (map single_kind c) (single_kind x ∷ []) (part b 16 n) (k ∷ []) (kinds_size n b ∙ sym (length_part b 16 n (omega arith)))
    ∙ ap (λ (t : Bool). same_bytes (map single_kind c) (part b 16 n) && t) (and-true (eqb (single_kind x) k)) in
    let lw : length (concat (map word_bytes c)) ≡ length (part b 40 (n * 8)) = numbers_size n b ∙ sym (length_part b 40 (n * 8) (omega arith)) in
    let ws : same_bytes (concat (map word_bytes (contents (suc n) b))) (part b 40 (suc n * 8)) ≡ (same_bytes (concat (map word_bytes c)) (part b 40 (n * 8)) && eqb (word_of x) (be_value v)) =
    ap₂ same_bytes (ap (λ (r : List Single). concat (map word_bytes r)) ec ∙ words_more c x) pw
    ∙ same_append (concat (map word_bytes c)) (word_bytes x) (part b 40 (n * 8)) v lw
    ∙ ap (λ (t : Bool). same_bytes (concat (map word_bytes c)) (part b 40 (n * 8)) && t)
    (same_word v (word_of x) (each_part (40 + n * 8) 8 y) (length_part b (40 + n * 8) 8 (omega arith)) (word_lt k (be_value v) (be_value_part_lt b (40 + n * 8) 8 y (omega arith)))) in
    ap (λ (t : Bool). t && item_test b n) (items_written b y l n (omega arith))
    ∙ mix_item (singles_ok c) (same_bytes (map single_kind c) (part b 16 n)) (same_bytes (concat (map word_bytes c)) (part b 40 (n * 8))) (single_ok x) (eqb (single_kind x) k) (eqb (word_of x) (be_value v))
    ∙ ap₂ (λ (t u : Bool). t && u) (sym (ap singles_ok ec ∙ singles_append c x)) (ap₂ (λ (t u : Bool). t && u) (sym ks) (sym ws))

-- ---- an array or a table: kind, length, 14 zeros; items, filled up; what lies behind them

split : (b : List ℕ) → length b ≡ 256 → b ≡ get_or b 0 0 ∷ (get_or b 1 0 ∷ (part b 2 14 ++ (part b 16 24 ++ (part b 40 192 ++ part b 232 24))))
split b l =
    sym (part_all b)
    ∙ ap (part b 0) l
    ∙ part_cons b 0 255 0 (omega arith)
    ∙ ap (λ (r : List ℕ). get_or b 0 0 ∷ r) (part_cons b 1 254 0 (omega arith))
    ∙ ap (λ (r : List ℕ). get_or b 0 0 ∷ (get_or b 1 0 ∷ r)) (part_add b 2 14 240)
    ∙ ap (λ (r : List ℕ). get_or b 0 0 ∷ (get_or b 1 0 ∷ (part b 2 14 ++ r))) (part_add b 16 24 216)
    ∙ ap (λ (r : List ℕ). get_or b 0 0 ∷ (get_or b 1 0 ∷ (part b 2 14 ++ (part b 16 24 ++ r)))) (part_add b 40 192 24)

abbrev form : ℕ → ℕ → List ℕ → List ℕ → List ℕ → List ℕ
form k n ks ws t = k ∷ (n ∷ (zeros 14 ++ (pad 24 ks ++ (pad 192 ws ++ t))))

same_form : (b : List ℕ) (k n : ℕ) (ks ws t : List ℕ) → length b ≡ 256 → length ks ≤ 24 → length ws ≤ 192
    → same_bytes (form k n ks ws t) b
    ≡ (eqb k (get_or b 0 0) && (eqb n (get_or b 1 0) && (same_bytes (part b 2 14) (zeros 14) && (same_bytes (pad 24 ks) (part b 16 24) && (same_bytes (pad 192 ws) (part b 40 192) && same_bytes t (part b 232 24))))))
same_form b k n ks ws t l hk hw =
    let lk : length (pad 24 ks) ≡ length (part b 16 24) = length_pad 24 ks hk ∙ sym (length_part b 16 24 (omega arith)) in
    let lw : length (pad 192 ws) ≡ length (part b 40 192) = length_pad 192 ws hw ∙ sym (length_part b 40 192 (omega arith)) in
    let lz : length (zeros 14) ≡ length (part b 2 14) = sym (length_part b 2 14 (omega arith)) in
    ap (same_bytes (form k n ks ws t)) (split b l)
    ∙ ap (λ (u : Bool). eqb k (get_or b 0 0) && (eqb n (get_or b 1 0) && u))
    (same_append (zeros 14) (pad 24 ks ++ (pad 192 ws ++ t)) (part b 2 14) (part b 16 24 ++ (part b 40 192 ++ part b 232 24)) lz
    ∙ ap₂ (λ (u v : Bool). u && v) (same_sym (zeros 14) (part b 2 14))
    (same_append (pad 24 ks) (pad 192 ws ++ t) (part b 16 24) (part b 40 192 ++ part b 232 24) lk
    ∙ ap (λ (u : Bool). same_bytes (pad 24 ks) (part b 16 24) && u) (same_append (pad 192 ws) t (part b 40 192) (part b 232 24) lw)))

mix_box : (z s k w y v t : Bool) → ((z && ((s && (k && w)) && (y && v))) && t) ≡ (s && (z && ((k && y) && ((w && v) && t))))
mix_box z false k w y v t = ap (λ (u : Bool). u && t) (and-false z)
mix_box false true k w y v t = refl
mix_box true true false w y v t = refl
mix_box true true true false y v t = sym (and-false y)
mix_box true true true true false v t = refl
mix_box true true true true true v t = refl

box_law : (b : List ℕ) (k n : ℕ) (t : List ℕ) → AreBytes b → length b ≡ 256 → get_or b 0 0 ≡ k → get_or b 1 0 ≡ n → n ≤ 24
    → (box_ok n b && same_bytes t (part b 232 24)) ≡ (singles_ok (contents n b) && same_bytes (form k n (map single_kind (contents n b)) (concat (map word_bytes (contents n b))) t) b)
box_law b k n t y l ek en h =
    let ks = map single_kind (contents n b) in
    let ws = concat (map word_bytes (contents n b)) in
    let hk : length ks ≤ 24 = omega (arith, kinds_size n b) in
    let hw : length ws ≤ 192 = omega (arith, numbers_size n b) in
    let z = same_bytes (part b 2 14) (zeros 14) in
    let u = same_bytes t (part b 232 24) in
    let kz = same_bytes (part b (16 + n) (24 - n)) (zeros (24 - n)) in
    let wz = same_bytes (part b (40 + n * 8) (192 - n * 8)) (zeros (192 - n * 8)) in
    ap (λ (i : Bool). (z && (i && (kz && wz))) && u) (items_written b y l n h)
    ∙ mix_box z (singles_ok (contents n b)) (same_bytes ks (part b 16 n)) (same_bytes ws (part b 40 (n * 8))) kz wz u
    ∙ ap (λ (i : Bool). singles_ok (contents n b) && i)
    (ap₂ (λ (i j : Bool). z && (i && (j && u))) (sym (same_pad b 16 24 n ks (kinds_size n b) h (omega arith))) (sym (same_pad b 40 192 (n * 8) ws (numbers_size n b) (omega arith) (omega arith)))
    ∙ ap₂ (λ (i j : Bool). i && (j && (z && (same_bytes (pad 24 ks) (part b 16 24) && (same_bytes (pad 192 ws) (part b 40 192) && u))))) (sym (eq-eqb k (get_or b 0 0) (sym ek))) (sym (eq-eqb n (get_or b 1 0) (sym en)))
    ∙ sym (same_form b k n ks ws t l hk hw))

-- a length that no value has
too_long : (x : Bool) (a b : List ℕ) → (get_or a 1 0 ≡ get_or b 1 0 → ⊥) → false ≡ (x && same_bytes a b)
too_long x a b h = pick (same_bytes a b) refl
  where
    pick : (t : Bool) → same_bytes a b ≡ t → false ≡ (x && t)
    pick true e = absurd (h (ap (λ (u : List ℕ). get_or u 1 0) (same_eq a b e)))
    pick false e = sym (and-false x)

mix_one : (o k w z y : Bool) → ((o && (k && w)) && (z && y)) ≡ (o && (k && (z && (w && y))))
mix_one false k w z y = refl
mix_one true false w z y = refl
mix_one true true true z y = refl
mix_one true true false z y = sym (and-false z)

-- ---- the slot at byte at

module _ (s : List ℕ) (at : ℕ) (y : AreBytes s) (h : at + 256 ≤ length s) where
  abbrev b : List ℕ
  b = part s at 256

  lb : length b ≡ 256
  lb = length_part s at 256 h

  yb : AreBytes b
  yb = each_part at 256 y

  first : {k : ℕ} → get_or s at 0 ≡ k → get_or b 0 0 ≡ k
  first e = get_d_part s at 256 0 0 (omega arith) ∙ ap (λ (i : ℕ). get_or s i 0) (add-zero at) ∙ e

  second : {n : ℕ} → n ≡ get_or s (at + 1) 0 → get_or b 1 0 ≡ n
  second e = get_d_part s at 256 1 0 (omega arith) ∙ sym e

  inner : (o m : ℕ) → o + m ≤ 256 → same_bytes (part s (at + o) m) (zeros m) ≡ same_bytes (part b o m) (zeros m)
  inner o m g = ap (λ (l : List ℕ). same_bytes l (zeros m)) (sym (part_part s at 256 o m g))

  pub box_tests : (n : ℕ) {z i u v : Bool} → n ≤ 24 → z ≡ same_bytes (part s (at + 2) 14) (zeros 14) → i ≡ upto n (item_test b)
      → u ≡ same_bytes (part s (at + (16 + n)) (24 - n)) (zeros (24 - n)) → v ≡ same_bytes (part s (at + (40 + n * 8)) (192 - n * 8)) (zeros (192 - n * 8))
      → (z && (i && (u && v))) ≡ box_ok n b
  box_tests n g ez ei eu ev =
      ap₂ (λ (t w : Bool). t && w) (ez ∙ inner 2 14 (omega arith))
      (ap₂ (λ (t w : Bool). t && w) ei (ap₂ (λ (t w : Bool). t && w) (eu ∙ inner (16 + n) (24 - n) (omega arith)) (ev ∙ inner (40 + n * 8) (192 - n * 8) (omega arith))))

  pub arr_tests : (n : ℕ) {o z : Bool} → get_or s at 0 ≡ 5 → n ≡ get_or s (at + 1) 0 → n ≤ 24 → o ≡ box_ok n b → z ≡ same_bytes (part s (at + 232) 24) (zeros 24) → (o && z) ≡ arr_ok b
  arr_tests n ek en g eo ez =
      let e = second en in
      let m : n ≡ min (get_or b 1 0) 24 = omega arith in
      ap₂ (λ (t w : Bool). t && w) eo (ez ∙ inner 232 24 (omega arith) ∙ same_sym (part b 232 24) (zeros 24))
      ∙ box_law b 5 n (zeros 24) yb lb (first ek) e g
      ∙ ap (λ (i : ℕ). singles_ok (contents i b) && same_bytes (box_bytes 5 i (contents i b) []) b) m

  pub arr_long : (n : ℕ) → n ≡ get_or s (at + 1) 0 → 24 < n → false ≡ arr_ok b
  arr_long n en g =
      let e = second en in
      let m = min (get_or b 1 0) 24 in
      too_long (singles_ok (contents m b)) (box_bytes 5 m (contents m b) []) b (λ p. omega arith)

  pub tab_tests : (n : ℕ) {k o z : Bool} → get_or s at 0 ≡ 6 → n ≡ get_or s (at + 1) 0 → n ≤ 16 → k ≡ keys_ok 0 (part s (at + 232) n) → o ≡ box_ok n b
      → z ≡ same_bytes (part s (at + (232 + n)) (24 - n)) (zeros (24 - n)) → (k && (o && z)) ≡ tab_ok b
  tab_tests n ek en g ey eo ez =
      let e = second en in
      let l = lb in
      let m : n ≡ min (get_or b 1 0) 16 = omega arith in
      let ks = part b 232 n in
      let c = contents n b in
      let lk : length ks ≡ n = length_part b 232 n (omega arith) in
      let q : 16 - length ks + 8 ≡ 24 - length ks = omega arith in
      let t : pad 16 ks ++ zeros 8 ≡ pad 24 ks =
      append_assoc ks (zeros (16 - length ks)) (zeros 8) ∙ ap (λ (r : List ℕ). ks ++ r) (replicate-append-replicate (16 - length ks) 8 0 ∙ ap zeros q) in
      let w : same_bytes (part b (232 + n) (24 - n)) (zeros (24 - n)) ≡ same_bytes (pad 16 ks ++ zeros 8) (part b 232 24) =
      sym (ap (λ (r : List ℕ). same_bytes r (part b 232 24)) t ∙ same_pad b 232 24 n ks lk (omega arith) (omega arith) ∙ ap (λ (u : Bool). u && same_bytes (part b (232 + n) (24 - n)) (zeros (24 - n))) (same_refl ks)) in
      ap₂ (λ (u v : Bool). u && v) (ey ∙ ap (keys_ok 0) (sym (part_part s at 256 232 n (omega arith))))
      (ap₂ (λ (u v : Bool). u && v) eo (ez ∙ inner (232 + n) (24 - n) (omega arith) ∙ w) ∙ box_law b 6 n (pad 16 ks ++ zeros 8) yb lb (first ek) e (omega arith))
      ∙ sym (and_assoc (keys_ok 0 ks) (singles_ok c) (same_bytes (box_bytes 6 n c ks) b))
      ∙ ap (λ (i : ℕ). (keys_ok 0 (part b 232 i) && singles_ok (contents i b)) && same_bytes (box_bytes 6 i (contents i b) (part b 232 i)) b) m

  pub tab_long : (n : ℕ) → n ≡ get_or s (at + 1) 0 → 16 < n → false ≡ tab_ok b
  tab_long n en g =
      let e = second en in
      let m = min (get_or b 1 0) 16 in
      too_long (keys_ok 0 (part b 232 m) && singles_ok (contents m b)) (box_bytes 6 m (contents m b) (part b 232 m)) b (λ p. omega arith)

  pub one_tests : {k w : ℕ} {o z v : Bool} → k ≡ get_or s at 0 → w ≡ be_value (part s (at + 8) 8) → o ≡ item_ok k w → z ≡ same_bytes (part s (at + 1) 7) (zeros 7)
      → v ≡ same_bytes (part s (at + 16) 240) (zeros 240) → (o && (z && v)) ≡ one_ok b
  unfolding encode_slot
  one_tests {k} {w} ek ew eo ez ev =
      let j = get_or b 0 0 in
      let d = part b 8 8 in
      let x = single_of j (be_value d) in
      let l = lb in
      let f : k ≡ j = sym (first (sym ek)) in
      let g : w ≡ be_value d = ew ∙ ap be_value (sym (part_part s at 256 8 8 (omega arith))) in
      let q : same_bytes (word_bytes x) d ≡ eqb (word_of x) (be_value d) =
      same_word d (word_of x) (each_part 8 8 yb) (length_part b 8 8 (omega arith)) (word_lt j (be_value d) (be_value_part_lt b 8 8 yb (omega arith))) in
      let p : b ≡ j ∷ (part b 1 7 ++ (d ++ part b 16 240)) =
      sym (part_all b) ∙ ap (part b 0) l ∙ part_cons b 0 255 0 (omega arith) ∙ ap (λ (r : List ℕ). j ∷ r) (part_add b 1 7 248 ∙ ap (λ (r : List ℕ). part b 1 7 ++ r) (part_add b 8 8 240)) in
      ap₂ (λ (t u : Bool). t && u) (eo ∙ ap₂ item_ok f g) (ap₂ (λ (t u : Bool). t && u) (ez ∙ inner 1 7 (omega arith)) (ev ∙ inner 16 240 (omega arith)))
      ∙ mix_one (single_ok x) (eqb (single_kind x) j) (eqb (word_of x) (be_value d)) (same_bytes (part b 1 7) (zeros 7)) (same_bytes (part b 16 240) (zeros 240))
      ∙ ap (λ (t : Bool). single_ok x && t)
      (ap (λ (t : Bool). eqb (single_kind x) j && t)
      (ap₂ (λ (t u : Bool). t && u) (same_sym (part b 1 7) (zeros 7)) (ap₂ (λ (t u : Bool). t && u) (sym q) (same_sym (part b 16 240) (zeros 240)) ∙ sym (same_append (word_bytes x) (zeros 240) d (part b 16 240) (sym (length_part b 8 8 (omega arith)))))
      ∙ sym (same_append (zeros 7) (word_bytes x ++ zeros 240) (part b 1 7) (d ++ part b 16 240) (sym (length_part b 1 7 (omega arith)))))
      ∙ ap (same_bytes (single_kind x ∷ (zeros 7 ++ (word_bytes x ++ zeros 240)))) (sym p))
