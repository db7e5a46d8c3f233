-- Eight bytes tested at once, by a mask, against the tests of each byte.
use Rattle.std.proofs.Common.{◌≡◌, ℕ, ◌+◌, ◌-◌, ◌*◌, ◌/◌, ◌%◌, ◌<◌, ◌≤◌, Bool, true, false, cond, ◌&&◌, ◌||◌, eqb, leb, List, [], ◌∷◌, length, sym, refl, ap, ◌∙◌, mod-eq_of_lt, arith, eq-eqb, eqb-true, le-leb, leb-false, leb-true}
use mathlib.Core.Bool.{and-true}
use lib.Bits.{bit_and, and_block, and_high, and_zero_r}
use borrow.Author.Tests.{lt-leb}
use Rattle.lent.specs.Bytes.{AreBytes, none, more}
use Rattle.lent.specs.laws.Truths.{and_inv, test_iff}
use Rattle.sifv.specs.laws.Layout.{and_both}
use Rattle.lent.specs.inner.Words.{le_value}
use Rattle.lent.specs.laws.Zeros.{zero_both}
use Rattle.records.specs.inner.Lanes.{lane_mask, lane_add}

pub split5 : (a b c d e : Bool) → (a && (b && (c && (d && e)))) ≡ true → (a ≡ true) × (b ≡ true) × (c ≡ true) × (d ≡ true) × (e ≡ true)
split5 a b c d e q =
    let r = and_inv a (b && (c && (d && e))) q in
    let s = and_inv b (c && (d && e)) r.1 in
    let t = and_inv c (d && e) s.1 in
    let u = and_inv d e t.1 in
    (r.0, s.0, t.0, u.0, u.1)

-- ---- a byte

pub and_128 : (y : ℕ) → y < 256 → eqb (bit_and y 128) 0 ≡ leb y 127
and_128 y h =
    let l : y / 128 < 2 = omega arith in
    let e : bit_and y 128 ≡ y / 128 * 128 = and_high y 1 7 ∙ ap (λ (v : ℕ). v * 128) (mod-eq_of_lt l) in
    test_iff _ _ (λ q. le-leb y 127 (omega (arith, e, eqb-true (bit_and y 128) 0 q))) (λ q. eq-eqb (bit_and y 128) 0 (omega (arith, e, leb-true y 127 q)))

pub and_255 : (y : ℕ) → y < 256 → eqb (bit_and y 255) 0 ≡ leb y 0
and_255 y h =
    let e : bit_and y 255 ≡ y / 1 % 256 * 1 = and_high y 8 0 in
    test_iff _ _ (λ q. le-leb y 0 (omega (arith, e, eqb-true (bit_and y 255) 0 q))) (λ q. eq-eqb (bit_and y 255) 0 (omega (arith, e, leb-true y 0 q)))

pub and_252 : (y : ℕ) → y < 256 → eqb (bit_and y 252) 0 ≡ leb y 3
and_252 y h =
    let l : y / 4 < 64 = omega arith in
    let e : bit_and y 252 ≡ y / 4 * 4 = and_high y 6 2 ∙ ap (λ (v : ℕ). v * 4) (mod-eq_of_lt l) in
    test_iff _ _ (λ q. le-leb y 3 (omega (arith, e, eqb-true (bit_and y 252) 0 q))) (λ q. eq-eqb (bit_and y 252) 0 (omega (arith, e, leb-true y 3 q)))

pub and_192 : (y : ℕ) → y < 256 → eqb (bit_and y 192) 0 ≡ leb y 63
and_192 y h =
    let l : y / 64 < 4 = omega arith in
    let e : bit_and y 192 ≡ y / 64 * 64 = and_high y 2 6 ∙ ap (λ (v : ℕ). v * 64) (mod-eq_of_lt l) in
    test_iff _ _ (λ q. le-leb y 63 (omega (arith, e, eqb-true (bit_and y 192) 0 q))) (λ q. eq-eqb (bit_and y 192) 0 (omega (arith, e, leb-true y 63 q)))

pub and_254 : (y : ℕ) → y < 256 → eqb (bit_and y 254) 0 ≡ leb y 1
and_254 y h =
    let l : y / 2 < 128 = omega arith in
    let e : bit_and y 254 ≡ y / 2 * 2 = and_high y 7 1 ∙ ap (λ (v : ℕ). v * 2) (mod-eq_of_lt l) in
    test_iff _ _ (λ q. le-leb y 1 (omega (arith, e, eqb-true (bit_and y 254) 0 q))) (λ q. eq-eqb (bit_and y 254) 0 (omega (arith, e, leb-true y 1 q)))

pub and_0 : (y : ℕ) → y < 256 → eqb (bit_and y 0) 0 ≡ leb y 255
and_0 y h = rw (and_zero_r y) (sym (le-leb y 255 (omega arith)))

-- ---- all bytes

abbrev pub clear : List ℕ → List ℕ → Bool
clear [] ms = true
clear (x ∷ xs) [] = true
clear (x ∷ xs) (m ∷ ms) = eqb (bit_and x m) 0 && clear xs ms

pub and_clear : (xs ms : List ℕ) → AreBytes xs → AreBytes ms → length xs ≡ length ms → eqb (bit_and (le_value xs) (le_value ms)) 0 ≡ clear xs ms
and_clear [] [] bx bm e = refl
and_clear [] (m ∷ ms) bx bm e = absurd (omega arith)
and_clear (x ∷ xs) [] bx bm e = absurd (omega arith)
and_clear (x ∷ xs) (m ∷ ms) (more hx bx) (more hm bm) e =
    ap (λ (v : ℕ). eqb v 0) (and_block 8 (le_value xs) (le_value ms) x m hx hm)
    ∙ zero_both (bit_and (le_value xs) (le_value ms)) (bit_and x m)
    ∙ ap (λ (t : Bool). eqb (bit_and x m) 0 && t) (and_clear xs ms bx bm (omega arith))

-- ---- a byte of at most l

abbrev pub lane_ok : ℕ → Bool
lane_ok l = leb l 127 || eqb l 255

pub mask_small : (l : ℕ) → lane_mask l < 256
mask_small l = by_test (leb l 127)
  where
    by_test : (t : Bool) → cond t 128 0 < 256
    by_test true = omega arith
    by_test false = omega arith

pub add_small : (l : ℕ) → lane_add l < 256
add_small l = by_test (leb l 127)
  where
    by_test : (t : Bool) → cond t (127 - l) 0 < 256
    by_test true = omega arith
    by_test false = omega arith

module _ (x l : ℕ) (h : x < 256) where
  pub lane_small : eqb (bit_and x (lane_mask l)) 0 ≡ true → x + lane_add l < 256
  lane_small = by_test (leb l 127)
    where
      by_test : (t : Bool) → eqb (bit_and x (cond t 128 0)) 0 ≡ true → x + cond t (127 - l) 0 < 256
      by_test true e = omega (arith, leb-true x 127 (sym (and_128 x h) ∙ e))
      by_test false e = omega arith

  pub lane : lane_ok l ≡ true → (eqb (bit_and x (lane_mask l)) 0 && eqb (bit_and (x + lane_add l) (lane_mask l)) 0) ≡ leb x l
  lane = by_test (leb l 127) refl
    where
      within : l ≤ 127 → (t : Bool) → leb x 127 ≡ t → (t && eqb (bit_and (x + (127 - l)) 128) 0) ≡ leb x l
      within q true e =
          let k : x ≤ 127 = leb-true x 127 e in
          and_128 (x + (127 - l)) (omega arith)
          ∙ test_iff _ _ (λ p. le-leb x l (omega (arith, leb-true (x + (127 - l)) 127 p))) (λ p. le-leb (x + (127 - l)) 127 (omega (arith, leb-true x l p)))
      within q false e = sym (lt-leb x l (omega (arith, leb-false x 127 e)))

      by_test : (t : Bool) → leb l 127 ≡ t → (t || eqb l 255) ≡ true → (eqb (bit_and x (cond t 128 0)) 0 && eqb (bit_and (x + cond t (127 - l) 0) (cond t 128 0)) 0) ≡ leb x l
      by_test true e g = ap (λ (s : Bool). s && eqb (bit_and (x + (127 - l)) 128) 0) (and_128 x h) ∙ within (leb-true l 127 e) (leb x 127) refl
      by_test false e g = rw (and_zero_r x, and_zero_r (x + 0)) (sym (le-leb x l (omega (arith, eqb-true l 255 g))))

  pub lane_out : lane_ok l ≡ true → eqb (bit_and x (lane_mask l)) 0 ≡ true → eqb (bit_and (x + lane_add l) (lane_mask l)) 0 ≡ true → leb x l ≡ true
  lane_out o t u = sym (lane o) ∙ and_both t u

  pub lane_in : lane_ok l ≡ true → leb x l ≡ true → (eqb (bit_and x (lane_mask l)) 0 ≡ true) × (eqb (bit_and (x + lane_add l) (lane_mask l)) 0 ≡ true)
  lane_in o e = and_inv (eqb (bit_and x (lane_mask l)) 0) (eqb (bit_and (x + lane_add l) (lane_mask l)) 0) (lane o ∙ e)

-- ---- five of eight bytes

module _ (y0 y1 y2 y3 y4 y5 y6 y7 m1 m2 m4 m5 m6 : ℕ) where
  abbrev pub five : Bool
  five = eqb (bit_and y1 m1) 0 && (eqb (bit_and y2 m2) 0 && (eqb (bit_and y4 m4) 0 && (eqb (bit_and y5 m5) 0 && eqb (bit_and y6 m6) 0)))

  pub five_split : five ≡ true → (eqb (bit_and y1 m1) 0 ≡ true) × (eqb (bit_and y2 m2) 0 ≡ true) × (eqb (bit_and y4 m4) 0 ≡ true) × (eqb (bit_and y5 m5) 0 ≡ true) × (eqb (bit_and y6 m6) 0 ≡ true)
  five_split = split5 (eqb (bit_and y1 m1) 0) (eqb (bit_and y2 m2) 0) (eqb (bit_and y4 m4) 0) (eqb (bit_and y5 m5) 0) (eqb (bit_and y6 m6) 0)

  pub and_five : y0 < 256 → y1 < 256 → y2 < 256 → y3 < 256 → y4 < 256 → y5 < 256 → y6 < 256 → y7 < 256 → m1 < 256 → m2 < 256 → m4 < 256 → m5 < 256 → m6 < 256
      → eqb (bit_and (le_value (y0 ∷ y1 ∷ y2 ∷ y3 ∷ y4 ∷ y5 ∷ y6 ∷ y7 ∷ [])) (le_value (0 ∷ m1 ∷ m2 ∷ 0 ∷ m4 ∷ m5 ∷ m6 ∷ 0 ∷ []))) 0 ≡ five
  and_five h0 h1 h2 h3 h4 h5 h6 h7 g1 g2 g4 g5 g6 =
      let z : 0 < 256 = omega arith in
      and_clear (y0 ∷ y1 ∷ y2 ∷ y3 ∷ y4 ∷ y5 ∷ y6 ∷ y7 ∷ []) (0 ∷ m1 ∷ m2 ∷ 0 ∷ m4 ∷ m5 ∷ m6 ∷ 0 ∷ [])
      (more h0 (more h1 (more h2 (more h3 (more h4 (more h5 (more h6 (more h7 none))))))))
      (more z (more g1 (more g2 (more z (more g4 (more g5 (more g6 (more z none)))))))) refl
      ∙ rw (and_zero_r y0, and_zero_r y3, and_zero_r y7, and-true (eqb (bit_and y6 m6) 0))

-- the sum of eight bytes and eight bytes, where none but the highest runs over
pub sum_eight : (x0 x1 x2 x3 x4 x5 x6 x7 a1 a2 a4 a5 a6 a7 : ℕ) → x0 < 256 → x1 + a1 < 256 → x2 + a2 < 256 → x3 < 256 → x4 + a4 < 256 → x5 + a5 < 256 → x6 + a6 < 256
    → (le_value (x0 ∷ x1 ∷ x2 ∷ x3 ∷ x4 ∷ x5 ∷ x6 ∷ x7 ∷ []) + le_value (0 ∷ a1 ∷ a2 ∷ 0 ∷ a4 ∷ a5 ∷ a6 ∷ a7 ∷ [])) % 18446744073709551616
    ≡ le_value (x0 ∷ (x1 + a1) ∷ (x2 + a2) ∷ x3 ∷ (x4 + a4) ∷ (x5 + a5) ∷ (x6 + a6) ∷ ((x7 + a7) % 256) ∷ [])
sum_eight x0 x1 x2 x3 x4 x5 x6 x7 a1 a2 a4 a5 a6 a7 h0 h1 h2 h3 h4 h5 h6 = omega arith
