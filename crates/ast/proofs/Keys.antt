-- The keys of one table: marks of those before tell the same as the test for distinct keys.
use mathlib.Core.Path.{◌≡◌, refl, sym, ap, subst, ◌∙◌}
use mathlib.Core.Bool.{Bool, true, false, not, ◌&&◌, ◌||◌, or-true, or-false}
use Prim.Native.Nat.{ℕ, zero, suc, ◌+◌, ◌/◌, ◌%◌, ◌^◌, ◌<◌, ◌-◌}
use native.Mathlib.Nat.{div_self, div-eq_of_lt, mod-lt, mul-div_left, mul-mod_left, pow-suc, zero-lt-suc, zero-div}
use native.Mathlib.Omega.{arith}
use lib.Arith.{lt_of_le-ne}
use lib.Bits.{bit_or, or_shr, or_mod, or_zero_r}
use lib.Dec.{ltb, eqb}
use lib.Pow.{pow_pos, pow-lt, pow-add}
use borrow.Author.Tests.{ltb-true, ltb-false, eqb-true, eqb-false}
use Rattle.ast.specs.Tree.{Items, no_items, more_items}
use Rattle.ast.specs.Structure.{has_key, distinct}
use Rattle.ast.specs.inner.Pass.{bit_in, bit_of}

-- ---- a bit of a mark, after a bit is set

one_or : (d : ℕ) → d < 2 → bit_or d 1 ≡ 1
one_or zero h = refl
one_or (suc zero) h = refl
one_or (suc (suc d)) h = let z : ◌≡◌ {A = ℕ} 0 1 = omega arith in omega arith

or_bit : (a b i : ℕ) → bit_or a b / 2 ^ i % 2 ≡ bit_or (a / 2 ^ i % 2) (b / 2 ^ i % 2)
or_bit a b i = rw or_shr (or_mod (a / 2 ^ i) (b / 2 ^ i) 1)

set_same : (m i : ℕ) → bit_or m (2 ^ i) / 2 ^ i % 2 ≡ 1
set_same m i = rw (or_bit, div_self (pow_pos i)) (one_or (m / 2 ^ i % 2) (mod-lt (m / 2 ^ i) (zero-lt-suc 1)))

below : (i j : ℕ) → i < j → 2 ^ i / 2 ^ j % 2 ≡ 0
below i j h = rw (div-eq_of_lt (pow-lt h))

above : (j d : ℕ) → 2 ^ (suc d + j) / 2 ^ j % 2 ≡ 0
above j d = rw (pow-add 2 (suc d) j, mul-div_left (2 ^ suc d) (pow_pos j), pow-suc 2 d) (mul-mod_left (2 ^ d) 2)

set_below : (m i j : ℕ) → i < j → bit_or m (2 ^ i) / 2 ^ j % 2 ≡ m / 2 ^ j % 2
set_below m i j h = rw (or_bit, below i j h) (or_zero_r (m / 2 ^ j % 2))

set_above : (m i j : ℕ) → j < i → bit_or m (2 ^ i) / 2 ^ j % 2 ≡ m / 2 ^ j % 2
set_above m i j h =
    let e : suc (i - suc j) + j ≡ i = omega arith in
    rw or_bit (subst (λ (k : ℕ). bit_or (m / 2 ^ j % 2) (2 ^ k / 2 ^ j % 2) ≡ m / 2 ^ j % 2) e (rw (above j (i - suc j)) (or_zero_r (m / 2 ^ j % 2))))

set_other : (m i j : ℕ) → (j ≡ i → ⊥) → bit_or m (2 ^ i) / 2 ^ j % 2 ≡ m / 2 ^ j % 2
set_other m i j n = by_test (ltb i j) refl
  where
    by_test : (t : Bool) → ltb i j ≡ t → bit_or m (2 ^ i) / 2 ^ j % 2 ≡ m / 2 ^ j % 2
    by_test true e = set_below m i j (ltb-true i j e)
    by_test false e = set_above m i j (lt_of_le-ne (ltb-false i j e) n)

marked_mark : (m k j : ℕ) → bit_in (bit_of m k) j ≡ (bit_in m j || eqb k j)
marked_mark m k j = by_test (eqb k j) refl
  where
    by_test : (t : Bool) → eqb k j ≡ t → bit_in (bit_of m k) j ≡ (bit_in m j || eqb k j)
    by_test true e =
        let q = eqb-true k j e in
        let s : bit_or m (2 ^ k) / 2 ^ j % 2 ≡ 1 = subst (λ (i : ℕ). bit_or m (2 ^ k) / 2 ^ i % 2 ≡ 1) q (set_same m k) in
        ap (λ (x : ℕ). eqb x 1) s ∙ sym (ap (λ (t : Bool). bit_in m j || t) e ∙ or-true (bit_in m j))
    by_test false e = ap (λ (x : ℕ). eqb x 1) (set_other m k j (λ q. eqb-false k j e (sym q))) ∙ sym (ap (λ (t : Bool). bit_in m j || t) e ∙ or-false (bit_in m j))

-- ---- the keys of items

abbrev pub keys_ok : ℕ → Items → Bool
keys_ok m no_items = true
keys_ok m (more_items k e is) = not (bit_in m k) && keys_ok (bit_of m k) is

absent : ℕ → Items → Bool
absent m no_items = true
absent m (more_items k e is) = not (bit_in m k) && absent m is

absent_mark : (m k : ℕ) (is : Items) → absent (bit_of m k) is ≡ (absent m is && not (has_key k is))
unfolding absent
absent_mark m k no_items = refl
absent_mark m k (more_items j e is) =
    ap (λ (t : Bool). not t && absent (bit_of m k) is) (marked_mark m k j)
    ∙ ap (λ (t : Bool). not (bit_in m j || eqb k j) && t) (absent_mark m k is)
    ∙ algebra (bit_in m j) (eqb k j) (absent m is) (has_key k is)
  where
    algebra : (a b x h : Bool) → (not (a || b) && (x && not h)) ≡ ((not a && x) && not (b || h))
    algebra true b x h = refl
    algebra false true true h = refl
    algebra false true false h = refl
    algebra false false x h = refl

keys_law : (m : ℕ) (is : Items) → keys_ok m is ≡ (absent m is && distinct is)
unfolding absent
keys_law m no_items = refl
keys_law m (more_items k e is) =
    ap (λ (t : Bool). not (bit_in m k) && t) (keys_law (bit_of m k) is)
    ∙ ap (λ (t : Bool). not (bit_in m k) && (t && distinct is)) (absent_mark m k is)
    ∙ algebra (not (bit_in m k)) (absent m is) (not (has_key k is)) (distinct is)
  where
    algebra : (n x h d : Bool) → (n && ((x && h) && d)) ≡ ((n && x) && (h && d))
    algebra true true h d = refl
    algebra true false h d = refl
    algebra false x h d = refl

none_marked : (k : ℕ) → bit_in 0 k ≡ false
none_marked k = rw (zero-div (2 ^ k))

absent_none : (is : Items) → absent 0 is ≡ true
unfolding absent
absent_none no_items = refl
absent_none (more_items k e is) = ap (λ (t : Bool). not t && absent 0 is) (none_marked k) ∙ absent_none is

pub keys_distinct : (is : Items) → keys_ok 0 is ≡ distinct is
keys_distinct is = keys_law 0 is ∙ ap (λ (t : Bool). t && distinct is) (absent_none is)
