-- A record's bytes, eight at a time, against the tests of its fields.
use Rattle.std.proofs.Common.{◌≡◌, ℕ, zero, suc, ◌+◌, ◌*◌, ◌/◌, ◌%◌, ◌<◌, ◌≤◌, Bool, true, false, cond, not, ◌&&◌, ◌||◌, eqb, leb, List, [], ◌∷◌, length, get_or, sym, refl, ap, ◌∙◌, ap₂, arith, eqb-true, le-leb, leb-true}
use mathlib.Core.Bool.{and-true, and_assoc}
use lib.Bits.{bit_and, and_zero_r}
use Rattle.lent.specs.Bytes.{be_value, part, AreBytes, none, more}
use Rattle.lent.specs.laws.Numbers.{be_value_one, be_value_two, be_value_part}
use Rattle.lent.specs.laws.Truths.{and_inv, test_iff}
use Rattle.sifv.specs.laws.Layout.{and_left, and_right, and_both}
use Rattle.opc.specs.Record.{fields_of, lbl_ok}
use Rattle.records.specs.inner.Fits.{limit_table, no_kind, limits_of, operands_fit, kind_fits, word_fits, single_most, is_literal, literal_fits, record_fits, entry_fits}
use Rattle.lent.specs.inner.Words.{le_value, eight}
use Rattle.records.specs.inner.Lanes.{lane_mask, lane_add, masks, adds, high_mask, any_mask, word_mask, single_mask, limit_words}
use Rattle.records.proofs.Bits.{and_252, and_255, and_192, and_254, and_0, and_clear, lane_ok, mask_small, add_small, lane_small, lane_out, lane_in, five, five_split, and_five, split5, sum_eight}
use Rattle.records.proofs.Places.{first_byte, byte_of, word_of}

-- ---- the limits of all operations

abbrev most_ok : ℕ → Bool
most_ok most = eqb most 16777215 || (eqb most 1023 || eqb most 255)

abbrev limits_ok : ℕ → Bool
limits_ok m = lane_ok (m / 4294967296 % 256) && (lane_ok (m % 256) && (lane_ok (m / 256 % 256) && (lane_ok (m / 65536 % 256) && most_ok (m / 1099511627776))))

abbrev all_ok : List ℕ → Bool
all_ok [] = true
all_ok (m ∷ l) = limits_ok m && all_ok l

ok_at : (l : List ℕ) (k : ℕ) → all_ok l ≡ true → limits_ok (get_or l k no_kind) ≡ true
ok_at [] k e = refl
ok_at (m ∷ l) zero e = and_left (limits_ok m) (all_ok l) e
ok_at (m ∷ l) (suc k) e = ok_at l k (and_right (limits_ok m) (all_ok l) e)

limits_ok_lem : (o : ℕ) → limits_ok (limits_of o) ≡ true
limits_ok_lem zero = refl
limits_ok_lem (suc k) = ok_at limit_table k refl

-- ---- a number of eight bytes, the highest first

module _ (b : List ℕ) (small : (i : ℕ) → get_or b i 0 < 256) (at : ℕ) (room : at + 8 ≤ length b) where
  grow : (n : ℕ) → at + (n + 1) ≤ length b → be_value (part b at (n + 1)) ≡ be_value (part b at n) * 256 + get_or b (at + n) 0
  grow n h = be_value_part b at n 1 h ∙ ap (λ (y : ℕ). be_value (part b at n) * 256 + y) (be_value_one b (at + n) (omega arith))

  spelt : be_value (part b at 8)
      ≡ ((((((get_or b at 0 * 256 + get_or b (at + 1) 0) * 256 + get_or b (at + 2) 0) * 256 + get_or b (at + 3) 0) * 256 + get_or b (at + 4) 0) * 256 + get_or b (at + 5) 0) * 256 + get_or b (at + 6) 0) * 256 + get_or b (at + 7) 0
  spelt =
      omega (arith, be_value_one b at (omega arith), grow 1 (omega arith), grow 2 (omega arith), grow 3 (omega arith), grow 4 (omega arith), grow 5 (omega arith), grow 6 (omega arith), grow 7 (omega arith))

  bytes : AreBytes (eight b at)
  bytes = more (small at) (more (small (at + 1)) (more (small (at + 2)) (more (small (at + 3)) (more (small (at + 4)) (more (small (at + 5)) (more (small (at + 6)) (more (small (at + 7)) none)))))))

  -- the six high bytes are 0, and the two low ones within their bounds
  abbrev low : ℕ → ℕ → Bool
  low p q =
      leb (get_or b at 0) 0 && (leb (get_or b (at + 1) 0) 0 && (leb (get_or b (at + 2) 0) 0 && (leb (get_or b (at + 3) 0) 0 && (leb (get_or b (at + 4) 0) 0 && (leb (get_or b (at + 5) 0) 0 && (leb (get_or b (at + 6) 0) p && leb (get_or b (at + 7) 0) q))))))

  high : (x y p q n : ℕ) → x < 256 → y < 256 → eqb (bit_and (get_or b (at + 6) 0) x) 0 ≡ leb (get_or b (at + 6) 0) p → eqb (bit_and (get_or b (at + 7) 0) y) 0 ≡ leb (get_or b (at + 7) 0) q → n < 65536
      → (get_or b (at + 6) 0 * 256 + get_or b (at + 7) 0 ≤ n → (get_or b (at + 6) 0 ≤ p) × (get_or b (at + 7) 0 ≤ q)) → (get_or b (at + 6) 0 ≤ p → get_or b (at + 7) 0 ≤ q → get_or b (at + 6) 0 * 256 + get_or b (at + 7) 0 ≤ n)
      → eqb (bit_and (le_value (eight b at)) (le_value (high_mask x y))) 0 ≡ leb (be_value (part b at 8)) n
  high x y p q n hx hy ex ey hn f g =
      let z : 255 < 256 = omega arith in
      and_clear (eight b at) (high_mask x y) bytes (more z (more z (more z (more z (more z (more z (more hx (more hy none)))))))) refl
      ∙ rw (and_255 (get_or b at 0) (small at), and_255 (get_or b (at + 1) 0) (small (at + 1)), and_255 (get_or b (at + 2) 0) (small (at + 2)), and_255 (get_or b (at + 3) 0) (small (at + 3)), and_255 (get_or b (at + 4) 0) (small (at + 4)), and_255 (get_or b (at + 5) 0) (small (at + 5)), ex, ey, and-true (leb (get_or b (at + 7) 0) q))
      (test_iff (low p q) (leb (be_value (part b at 8)) n) fits unfits)
    where
      fits : low p q ≡ true → leb (be_value (part b at 8)) n ≡ true
      fits t =
          let r = split5 (leb (get_or b at 0) 0) (leb (get_or b (at + 1) 0) 0) (leb (get_or b (at + 2) 0) 0) (leb (get_or b (at + 3) 0) 0) (leb (get_or b (at + 4) 0) 0 && (leb (get_or b (at + 5) 0) 0 && (leb (get_or b (at + 6) 0) p && leb (get_or b (at + 7) 0) q))) t in
          let u = and_inv (leb (get_or b (at + 4) 0) 0) (leb (get_or b (at + 5) 0) 0 && (leb (get_or b (at + 6) 0) p && leb (get_or b (at + 7) 0) q)) r.4 in
          let v = and_inv (leb (get_or b (at + 5) 0) 0) (leb (get_or b (at + 6) 0) p && leb (get_or b (at + 7) 0) q) u.1 in
          let w = and_inv (leb (get_or b (at + 6) 0) p) (leb (get_or b (at + 7) 0) q) v.1 in
          le-leb (be_value (part b at 8)) n
          (omega (arith, spelt, leb-true (get_or b at 0) 0 r.0, leb-true (get_or b (at + 1) 0) 0 r.1, leb-true (get_or b (at + 2) 0) 0 r.2, leb-true (get_or b (at + 3) 0) 0 r.3, leb-true (get_or b (at + 4) 0) 0 u.0, leb-true (get_or b (at + 5) 0) 0 v.0, g (leb-true (get_or b (at + 6) 0) p w.0) (leb-true (get_or b (at + 7) 0) q w.1)))

      unfits : leb (be_value (part b at 8)) n ≡ true → low p q ≡ true
      unfits t =
          let h = leb-true (be_value (part b at 8)) n t in
          let k = f (omega (arith, spelt, h)) in
          and_both (le-leb (get_or b at 0) 0 (omega (arith, spelt, h))) (and_both (le-leb (get_or b (at + 1) 0) 0 (omega (arith, spelt, h))) (and_both (le-leb (get_or b (at + 2) 0) 0 (omega (arith, spelt, h))) (and_both (le-leb (get_or b (at + 3) 0) 0 (omega (arith, spelt, h)))
          (and_both (le-leb (get_or b (at + 4) 0) 0 (omega (arith, spelt, h))) (and_both (le-leb (get_or b (at + 5) 0) 0 (omega (arith, spelt, h))) (and_both (le-leb (get_or b (at + 6) 0) p k.0) (le-leb (get_or b (at + 7) 0) q k.1)))))))

  any : eqb (bit_and (le_value (eight b at)) (le_value any_mask)) 0 ≡ true
  any = ap (λ (v : ℕ). eqb v 0) (and_zero_r (le_value (eight b at)))

  -- a single value of kind k
  pub single_fits : (k : ℕ) → eqb (bit_and (le_value (eight b at)) (le_value (single_mask k))) 0 ≡ leb (be_value (part b at 8)) (single_most k)
  single_fits k = by_test (eqb k 2) (eqb k 3)
    where
      by_test : (s t : Bool) → eqb (bit_and (le_value (eight b at)) (le_value (cond s (high_mask 255 192) (cond t (high_mask 255 254) any_mask)))) 0 ≡ leb (be_value (part b at 8)) (cond s 63 (cond t 1 18446744073709551615))
      by_test true t = high 255 192 0 63 63 (omega arith) (omega arith) (and_255 _ (small (at + 6))) (and_192 _ (small (at + 7))) (omega arith) (λ h. (omega arith, omega arith)) (λ h k. omega arith)
      by_test false true = high 255 254 0 1 1 (omega arith) (omega arith) (and_255 _ (small (at + 6))) (and_254 _ (small (at + 7))) (omega arith) (λ h. (omega arith, omega arith)) (λ h k. omega arith)
      by_test false false =
          any ∙ sym (le-leb (be_value (part b at 8)) 18446744073709551615 (omega (arith, spelt, small at, small (at + 1), small (at + 2), small (at + 3), small (at + 4), small (at + 5), small (at + 6), small (at + 7))))

  word_fits_lem : (most : ℕ) → most_ok most ≡ true → eqb (bit_and (le_value (eight b at)) (le_value (word_mask most))) 0 ≡ word_fits (be_value (part b at 8)) most
  word_fits_lem most = by_test (eqb most 16777215) (eqb most 1023) refl
    where
      by_test : (s t : Bool) → eqb most 1023 ≡ t → (s || (t || eqb most 255)) ≡ true → eqb (bit_and (le_value (eight b at)) (le_value (cond s any_mask (cond t (high_mask 252 0) (high_mask 255 0))))) 0 ≡ (s || leb (be_value (part b at 8)) most)
      by_test true t f g = any
      by_test false true f g =
          high 252 0 3 255 1023 (omega arith) (omega arith) (and_252 _ (small (at + 6))) (and_0 _ (small (at + 7))) (omega arith) (λ h. (omega arith, omega (arith, small (at + 7)))) (λ h k. omega arith)
          ∙ ap (leb (be_value (part b at 8))) (sym (eqb-true most 1023 f))
      by_test false false f g =
          high 255 0 0 255 255 (omega arith) (omega arith) (and_255 _ (small (at + 6))) (and_0 _ (small (at + 7))) (omega arith) (λ h. (omega arith, omega (arith, small (at + 7)))) (λ h k. omega arith)
          ∙ ap (leb (be_value (part b at 8))) (sym (eqb-true most 255 g))

-- an entry of the pool
pub entry_read : (b : List ℕ) (small : (i : ℕ) → get_or b i 0 < 256) (at : ℕ) → at + 16 ≤ length b → (lo hi : ℕ) {w m k : ℕ} → w ≡ le_value (eight b (at + 8)) → k ≡ get_or b at 0 → m ≡ le_value (single_mask k)
    → (leb lo (get_or b at 0) && (leb (get_or b at 0) hi && eqb (bit_and w m) 0)) ≡ entry_fits lo hi (part b at 16)
entry_read b small at room lo hi ew ek em =
    ap (λ (t : Bool). leb lo (get_or b at 0) && (leb (get_or b at 0) hi && t))
    (ap₂ (λ (u v : ℕ). eqb (bit_and u v) 0) ew (em ∙ ap (λ (v : ℕ). le_value (single_mask v)) ek) ∙ single_fits b small (at + 8) (omega arith) (get_or b at 0))
    ∙ rw (word_of b at 8 8 (omega arith), first_byte b at)

-- ---- kind, label and operands

module _ (x0 x1 x2 x3 x4 x5 x6 x7 k a b c s : ℕ) (h0 : x0 < 256) (h1 : x1 < 256) (h2 : x2 < 256) (h3 : x3 < 256) (h4 : x4 < 256) (h5 : x5 < 256) (h6 : x6 < 256) (h7 : x7 < 256)
    (ok : lane_ok k ≡ true) (oa : lane_ok a ≡ true) (ob : lane_ok b ≡ true) (oc : lane_ok c ≡ true) where
  abbrev lanes : ℕ
  lanes = le_value (x0 ∷ x1 ∷ x2 ∷ x3 ∷ x4 ∷ x5 ∷ x6 ∷ x7 ∷ [])

  abbrev mask : ℕ
  mask = le_value (0 ∷ lane_mask k ∷ lane_mask 3 ∷ 0 ∷ lane_mask a ∷ lane_mask b ∷ lane_mask c ∷ 0 ∷ [])

  abbrev lanes_sum : ℕ
  lanes_sum = (lanes + le_value (0 ∷ lane_add k ∷ lane_add 3 ∷ 0 ∷ lane_add a ∷ lane_add b ∷ lane_add c ∷ s ∷ [])) % 18446744073709551616

  abbrev lanes_ok : Bool
  lanes_ok = leb x1 k && (leb x2 3 && (leb x4 a && (leb x5 b && leb x6 c)))

  abbrev five_all : Bool
  five_all = five x0 x1 x2 x3 x4 x5 x6 x7 (lane_mask k) (lane_mask 3) (lane_mask a) (lane_mask b) (lane_mask c)

  abbrev five_sum : Bool
  five_sum = five x0 (x1 + lane_add k) (x2 + lane_add 3) x3 (x4 + lane_add a) (x5 + lane_add b) (x6 + lane_add c) ((x7 + s) % 256) (lane_mask k) (lane_mask 3) (lane_mask a) (lane_mask b) (lane_mask c)

  test : eqb (bit_and lanes mask) 0 ≡ five_all
  test = and_five x0 x1 x2 x3 x4 x5 x6 x7 (lane_mask k) (lane_mask 3) (lane_mask a) (lane_mask b) (lane_mask c) h0 h1 h2 h3 h4 h5 h6 h7 (mask_small k) (mask_small 3) (mask_small a) (mask_small b) (mask_small c)

  sum_test : five_all ≡ true → eqb (bit_and lanes_sum mask) 0 ≡ five_sum
  sum_test e =
      let t = five_split x0 x1 x2 x3 x4 x5 x6 x7 (lane_mask k) (lane_mask 3) (lane_mask a) (lane_mask b) (lane_mask c) e in
      let g1 = lane_small x1 k h1 t.0 in
      let g2 = lane_small x2 3 h2 t.1 in
      let g4 = lane_small x4 a h4 t.2 in
      let g5 = lane_small x5 b h5 t.3 in
      let g6 = lane_small x6 c h6 t.4 in
      let g7 : (x7 + s) % 256 < 256 = omega arith in
      ap (λ (v : ℕ). eqb (bit_and v mask) 0) (sum_eight x0 x1 x2 x3 x4 x5 x6 x7 (lane_add k) (lane_add 3) (lane_add a) (lane_add b) (lane_add c) s h0 g1 g2 h3 g4 g5 g6)
      ∙ and_five x0 (x1 + lane_add k) (x2 + lane_add 3) x3 (x4 + lane_add a) (x5 + lane_add b) (x6 + lane_add c) ((x7 + s) % 256) (lane_mask k) (lane_mask 3) (lane_mask a) (lane_mask b) (lane_mask c) h0 g1 g2 h3 g4 g5 g6 g7 (mask_small k) (mask_small 3) (mask_small a) (mask_small b) (mask_small c)

  fits : (eqb (bit_and lanes mask) 0 && eqb (bit_and lanes_sum mask) 0) ≡ true → lanes_ok ≡ true
  fits e =
      let p = and_inv (eqb (bit_and lanes mask) 0) (eqb (bit_and lanes_sum mask) 0) e in
      let q : five_all ≡ true = sym test ∙ p.0 in
      let t = five_split x0 x1 x2 x3 x4 x5 x6 x7 (lane_mask k) (lane_mask 3) (lane_mask a) (lane_mask b) (lane_mask c) q in
      let u = five_split x0 (x1 + lane_add k) (x2 + lane_add 3) x3 (x4 + lane_add a) (x5 + lane_add b) (x6 + lane_add c) ((x7 + s) % 256) (lane_mask k) (lane_mask 3) (lane_mask a) (lane_mask b) (lane_mask c) (sym (sum_test q) ∙ p.1) in
      and_both (lane_out x1 k h1 ok t.0 u.0) (and_both (lane_out x2 3 h2 refl t.1 u.1) (and_both (lane_out x4 a h4 oa t.2 u.2) (and_both (lane_out x5 b h5 ob t.3 u.3) (lane_out x6 c h6 oc t.4 u.4))))

  unfits : lanes_ok ≡ true → (eqb (bit_and lanes mask) 0 && eqb (bit_and lanes_sum mask) 0) ≡ true
  unfits e =
      let r = split5 (leb x1 k) (leb x2 3) (leb x4 a) (leb x5 b) (leb x6 c) e in
      let p1 = lane_in x1 k h1 ok r.0 in
      let p2 = lane_in x2 3 h2 refl r.1 in
      let p4 = lane_in x4 a h4 oa r.2 in
      let p5 = lane_in x5 b h5 ob r.3 in
      let p6 = lane_in x6 c h6 oc r.4 in
      let t : five_all ≡ true = and_both p1.0 (and_both p2.0 (and_both p4.0 (and_both p5.0 p6.0))) in
      let u : five_sum ≡ true = and_both p1.1 (and_both p2.1 (and_both p4.1 (and_both p5.1 p6.1))) in
      and_both (test ∙ t) (sum_test t ∙ u)

  pub fields_fit : (eqb (bit_and lanes mask) 0 && eqb (bit_and lanes_sum mask) 0) ≡ lanes_ok
  fields_fit = test_iff (eqb (bit_and lanes mask) 0 && eqb (bit_and lanes_sum mask) 0) lanes_ok fits unfits

-- ---- a record

-- the order of the tests
order : (k l o j z : Bool) → (((k && (l && o)) && j) && z) ≡ (l && ((o && (j && k)) && z))
order true true o true z = refl
order true true o false z = refl
order true false o j z = refl
order false true true true z = refl
order false true true false z = refl
order false true false j z = refl
order false false o j z = refl

-- the fields, each by itself
abbrev fitting : ℕ → ℕ → ℕ → ℕ → ℕ → ℕ → ℕ → ℕ → Bool
fitting o k l a b c n w =
    lbl_ok l && ((operands_fit a b c (limits_of o) && kind_fits k (limits_of o)) && (word_fits w (limits_of o / 1099511627776) && literal_fits o k n w))

module _ (b : List ℕ) (small : (i : ℕ) → get_or b i 0 < 256) (at : ℕ) (room : at + 16 ≤ length b) where
  abbrev lim : ℕ
  lim = limits_of (get_or b at 0)

  label_fits : leb (get_or b (at + 2) 0) 3 ≡ lbl_ok (be_value (part b (at + 2) 2))
  label_fits =
      let e = be_value_two b (at + 2) (omega arith) in
      let k = small (at + 2 + 1) in
      let n = be_value (part b (at + 2) 2) in
      test_iff (leb (get_or b (at + 2) 0) 3) (leb n 1023) (λ q. le-leb n 1023 (omega (arith, e, k, leb-true (get_or b (at + 2) 0) 3 q))) (λ q. le-leb (get_or b (at + 2) 0) 3 (omega (arith, e, k, leb-true n 1023 q)))

  whole : fitting (get_or b at 0) (get_or b (at + 1) 0) (be_value (part b (at + 2) 2)) (get_or b (at + 4) 0) (get_or b (at + 5) 0) (get_or b (at + 6) 0) (get_or b (at + 7) 0) (be_value (part b (at + 8) 8)) ≡ record_fits (fields_of (part b at 16))
  whole = rw (first_byte b at, byte_of b at 1 (omega arith), byte_of b at 4 (omega arith), byte_of b at 5 (omega arith), byte_of b at 6 (omega arith), byte_of b at 7 (omega arith), word_of b at 2 2 (omega arith), word_of b at 8 8 (omega arith))

  module _ {h w mask add word lanes_sum : ℕ} {literal : Bool} (el : (mask ∷ add ∷ word ∷ []) ≡ limit_words lim) (eh : h ≡ le_value (eight b at)) (ew : w ≡ le_value (eight b (at + 8))) (es : lanes_sum ≡ (h + add) % 18446744073709551616)
      (et : literal ≡ ((((eqb (bit_and h mask) 0 && eqb (bit_and lanes_sum mask) 0) && leb (add / 72057594037927936) (h / 256 % 256)) && eqb (bit_and w word) 0) && (not (is_literal (h % 256)) || (eqb (bit_and w (le_value (single_mask (h / 256 % 256)))) 0 && (not (eqb (h / 256 % 256) 6) || eqb (h / 72057594037927936) 0))))) where
    em : mask ≡ le_value (masks lim)
    em = ap (λ (l : List ℕ). get_or l 0 0) el

    ea : add ≡ le_value (adds lim)
    ea = ap (λ (l : List ℕ). get_or l 1 0) el

    code_is : h % 256 ≡ get_or b at 0
    code_is = omega (arith, eh, small at)

    kind_is : h / 256 % 256 ≡ get_or b (at + 1) 0
    kind_is = omega (arith, eh, small at, small (at + 1))

    len_is : h / 72057594037927936 ≡ get_or b (at + 7) 0
    len_is = omega (arith, eh, small at, small (at + 1), small (at + 2), small (at + 3), small (at + 4), small (at + 5), small (at + 6))

    least_is : add / 72057594037927936 ≡ lim / 16777216 % 256
    least_is = omega (arith, ea, add_small (lim / 4294967296 % 256), add_small (lim % 256), add_small (lim / 256 % 256), add_small (lim / 65536 % 256))

    literal_is : (not (is_literal (h % 256)) || (eqb (bit_and w (le_value (single_mask (h / 256 % 256)))) 0 && (not (eqb (h / 256 % 256) 6) || eqb (h / 72057594037927936) 0)))
        ≡ literal_fits (get_or b at 0) (get_or b (at + 1) 0) (get_or b (at + 7) 0) (be_value (part b (at + 8) 8))
    literal_is = rw (code_is, kind_is, len_is, ew, single_fits b small (at + 8) (omega arith) (get_or b (at + 1) 0))

    pub record_fits_lem : literal ≡ record_fits (fields_of (part b at 16))
    record_fits_lem =
        let r = limits_ok_lem (get_or b at 0) in
        let q = split5 (lane_ok (lim / 4294967296 % 256)) (lane_ok (lim % 256)) (lane_ok (lim / 256 % 256)) (lane_ok (lim / 65536 % 256)) (most_ok (lim / 1099511627776)) r in
        let f = fields_fit (get_or b at 0) (get_or b (at + 1) 0) (get_or b (at + 2) 0) (get_or b (at + 3) 0) (get_or b (at + 4) 0) (get_or b (at + 5) 0) (get_or b (at + 6) 0) (get_or b (at + 7) 0) (lim / 4294967296 % 256) (lim % 256) (lim / 256 % 256) (lim / 65536 % 256) (lim / 16777216 % 256)
        (small at) (small (at + 1)) (small (at + 2)) (small (at + 3)) (small (at + 4)) (small (at + 5)) (small (at + 6)) (small (at + 7)) q.0 q.1 q.2 q.3 in
        et
        ∙ and_assoc ((eqb (bit_and h mask) 0 && eqb (bit_and lanes_sum mask) 0) && leb (add / 72057594037927936) (h / 256 % 256)) (eqb (bit_and w word) 0) _
        ∙ ap₂ (λ (x y : Bool). x && y)
        (ap₂ (λ (x y : Bool). x && y) (ap₂ (λ (x y : Bool). x && y) (ap₂ (λ (x y : ℕ). eqb (bit_and x y) 0) eh em) (ap₂ (λ (x y : ℕ). eqb (bit_and x y) 0) (es ∙ ap₂ (λ (x y : ℕ). (x + y) % 18446744073709551616) eh ea) em) ∙ f) (ap₂ leb least_is kind_is))
        (ap₂ (λ (x y : Bool). x && y) (ap₂ (λ (x y : ℕ). eqb (bit_and x y) 0) ew (ap (λ (l : List ℕ). get_or l 2 0) el) ∙ word_fits_lem b small (at + 8) (omega arith) (lim / 1099511627776) q.4) literal_is)
        ∙ order (leb (get_or b (at + 1) 0) (lim / 4294967296 % 256)) (leb (get_or b (at + 2) 0) 3) _ _ _
        ∙ ap (λ (x : Bool). x && ((operands_fit (get_or b (at + 4) 0) (get_or b (at + 5) 0) (get_or b (at + 6) 0) lim && kind_fits (get_or b (at + 1) 0) lim) && (word_fits (be_value (part b (at + 8) 8)) (lim / 1099511627776) && literal_fits (get_or b at 0) (get_or b (at + 1) 0) (get_or b (at + 7) 0) (be_value (part b (at + 8) 8))))) label_fits
        ∙ whole
