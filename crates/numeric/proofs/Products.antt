-- Remainders of products and of powers of 2, without a division for each: laws over plain numbers.
use Rattle.std.proofs.Common.{◌≡◌, ℕ, suc, ◌+◌, ◌-◌, ◌*◌, ◌/◌, ◌%◌, ◌^◌, ◌<◌, ◌≤◌, sym, ap, ◌∙◌, ap₂, mul-le-mul_right, mod-eq_of_lt, mul_assoc, mul_comm, div-lt_iff_lt-mul, add-sub_of_le, mul-le-mul, mul-le-mul_left, div-add-mod', div-mul-le_self, add-one, arith, pow_pos, pow-add}
use native.Mathlib.Nat.{mod-mod, mod-add-mod, add-mul-mod_self_right, lt-mul-div-succ, pow-succ'}
use lib.Pow.{shl-shr}
use lib.Count.{count_leading_zeros, leading_top}
use Rattle.numeric.specs.laws.Exact.{mod_scale}
use Rattle.numeric.specs.inner.Fields.{leading}
use Rattle.numeric.specs.inner.Reciprocal.{Reciprocal}
use Rattle.numeric.proofs.Units.{mod_mul_mod, pow_lt_back}

-- ---- the reciprocal

pub reciprocal : (n : ℕ) → leading ≤ n → n < 2 ^ 53 → Reciprocal n (0x8000_0000_0000_0000 / (n / 2097152 + 1))
reciprocal n l h =
    let t = n / 2097152 + 1 in
    let v = 0x8000_0000_0000_0000 / t in
    let p : 0 < t = omega arith in
    let above : n ≤ t * 2097152 = omega arith in
    let below : t * 2097152 ≤ n + 2097152 = omega arith in
    let small : v < 2 ^ 32 = (div-lt_iff_lt-mul p).1 (omega arith) in
    record {
      leads = l;
      few = h;
      under = omega (arith, mul-le-mul_left v above, div-mul-le_self 0x8000_0000_0000_0000 t);
      near = omega (arith, mul-le-mul_left v below, lt-mul-div-succ 0x8000_0000_0000_0000 p);
    }

-- ---- a shift by 27 digits, with the quotient q from the reciprocal

pub record Quotient (r n q : ℕ) : Type 0 where
  pub under : q * n ≤ r * 2 ^ 27
  pub near : r * 2 ^ 27 < q * n + 3 * 2 ^ 54
  pub small : q < 2 ^ 33

reciprocal_small : (n v : ℕ) → Reciprocal n v → v ≤ 2 ^ 32
reciprocal_small n v i = omega (arith, mul-le-mul_left v i.leads)

pub quotient_fits : (r n v : ℕ) → r < 2 ^ 58 → Reciprocal n v → r / 67108864 * v < 2 ^ 64
quotient_fits r n v h i = omega (arith, mul-le-mul_left (r / 67108864) (reciprocal_small n v i))

quotient_of : (r n v h q : ℕ) → h * 67108864 ≤ r → r < h * 67108864 + 67108864 → h < 2 ^ 32
    → q * 2147483648 ≤ h * v → h * v < q * 2147483648 + 2147483648 → h * v < 2 ^ 64
    → Reciprocal n v → Quotient r n q
quotient_of r n v h q a b s c d w i = record {
  under = omega (arith, mul-le-mul_right n c, mul-le-mul_left h i.under);
  near = omega (arith, i.few, mul-le-mul_right n d, mul-le-mul_left h i.near);
  small = omega arith;
}

pub quotient : (r n v : ℕ) → r < 2 ^ 58 → Reciprocal n v → Quotient r n (r / 67108864 * v / 2147483648)
quotient r n v h i =
    let w = r / 67108864 * v in
    quotient_of r n v (r / 67108864) (w / 2147483648) (omega arith) (omega arith) (omega arith) (omega arith) (omega arith) (quotient_fits r n v h i) i

-- the same with n in two parts
pub record Parts (r n q : ℕ) : Type 0 where
  pub first : q * (n / 134217728) ≤ r
  pub shift : (r - q * (n / 134217728)) * 134217728 < 2 ^ 62
  pub second : q * (n % 134217728) ≤ (r - q * (n / 134217728)) * 134217728
  pub same : (r - q * (n / 134217728)) * 134217728 - q * (n % 134217728) + q * n ≡ r * 2 ^ 27

parts_of : (r n q a b : ℕ) → n ≡ a * 134217728 + b → b < 134217728 → Quotient r n q
    → (q * a ≤ r) × ((r - q * a) * 134217728 < 2 ^ 62) × (q * b ≤ (r - q * a) * 134217728) × ((r - q * a) * 134217728 - q * b + q * n ≡ r * 2 ^ 27)
parts_of r n q a b e l g =
    let whole : q * n ≡ q * a * 134217728 + q * b = ap (λ (z : ℕ). q * z) e ∙ omega arith in
    let first : q * a ≤ r = omega (arith, g.under) in
    let rest : (r - q * a) * 134217728 + q * a * 134217728 ≡ r * 134217728 = omega arith in
    let low : q * b ≤ q * 134217728 = mul-le-mul_left q (omega arith) in
    (first, omega (arith, g.near, g.small), omega (arith, g.under), omega (arith, g.under))

pub parts : (r n q : ℕ) → Quotient r n q → Parts r n q
parts r n q g =
    let p = parts_of r n q (n / 134217728) (n % 134217728) (sym (div-add-mod' n 134217728)) (omega arith) g in
    record { first = p.0; shift = p.1; second = p.2; same = p.3 }

pub shift_same : (x r n q : ℕ) → x + q * n ≡ r * 2 ^ 27 → x % n ≡ r * 2 ^ 27 % n
shift_same x r n q e = sym (add-mul-mod_self_right x q n) ∙ ap (λ (z : ℕ). z % n) e

-- ---- sums and products of numbers with the same remainder

mod_add : (x y d n : ℕ) → x % n ≡ y % n → (x + d) % n ≡ (y + d) % n
mod_add x y d n e = sym (mod-add-mod x n d) ∙ ap (λ (z : ℕ). (z + d) % n) e ∙ mod-add-mod y n d

mod_times : (x y d n : ℕ) → x % n ≡ y % n → x * d % n ≡ y * d % n
mod_times x y d n e = sym (mod_mul_mod x d n) ∙ ap (λ (z : ℕ). z * d % n) e ∙ mod_mul_mod y d n

mod_product : (x y u w n : ℕ) → x % n ≡ u % n → y % n ≡ w % n → x * y % n ≡ u * w % n
mod_product x y u w n p q =
    mod_times x u y n p
    ∙ ap (λ (z : ℕ). z % n) (mul_comm u y)
    ∙ mod_times y w u n q
    ∙ ap (λ (z : ℕ). z % n) (mul_comm w u)

-- ---- a product in two shifts

pub record Small (a b : ℕ) : Type 0 where
  pub high : a / 134217728 * (b / 134217728) < 2 ^ 58
  pub cross : a / 134217728 * (b % 134217728) < 2 ^ 56
  pub cross' : a % 134217728 * (b / 134217728) < 2 ^ 56
  pub low : a % 134217728 * (b % 134217728) < 2 ^ 54

below : (x y s t : ℕ) → x < s → y < t → x * y < s * t
below x y s t h g = omega (arith, mul-le-mul {n₁ = x + 1} {m₁ = y + 1} {n₂ = s} {m₂ = t} (omega arith) (omega arith))

pub small : (a b : ℕ) → a < 2 ^ 56 → b < 2 ^ 56 → Small a b
small a b h g =
    let p : a / 134217728 < 536870912 = omega arith in
    let q : b / 134217728 < 536870912 = omega arith in
    record {
      high = below _ _ 536870912 536870912 p q;
      cross = below _ _ 536870912 134217728 p (omega arith);
      cross' = below _ _ 134217728 536870912 (omega arith) q;
      low = below _ _ 134217728 134217728 (omega arith) (omega arith);
    }

apart : (a b c d : ℕ) → (a * c * 2 ^ 27 + (a * d + b * c)) * 2 ^ 27 + b * d ≡ (a * 134217728 + b) * (c * 134217728 + d)
apart a b c d = omega arith

pub product_same : (a b n x y : ℕ)
    → x % n ≡ a / 134217728 * (b / 134217728) * 2 ^ 27 % n
    → y % n ≡ (x + (a / 134217728 * (b % 134217728) + a % 134217728 * (b / 134217728))) * 2 ^ 27 % n
    → (y + a % 134217728 * (b % 134217728)) % n ≡ a * b % n
product_same a b n x y p q =
    let a₁ = a / 134217728 in
    let a₀ = a % 134217728 in
    let b₁ = b / 134217728 in
    let b₀ = b % 134217728 in
    let M = a₁ * b₀ + a₀ * b₁ in
    mod_add y ((x + M) * 2 ^ 27) (a₀ * b₀) n q
    ∙ mod_add ((x + M) * 2 ^ 27) ((a₁ * b₁ * 2 ^ 27 + M) * 2 ^ 27) (a₀ * b₀) n (mod_times (x + M) (a₁ * b₁ * 2 ^ 27 + M) (2 ^ 27) n (mod_add x (a₁ * b₁ * 2 ^ 27) M n p))
    ∙ ap (λ (z : ℕ). z % n) (apart a₁ a₀ b₁ b₀ ∙ ap₂ (λ (s t : ℕ). s * t) (div-add-mod' a 134217728) (div-add-mod' b 134217728))

-- ---- a power of 2 by squaring

doubled : (c i : ℕ) → c * 2 ^ i + c * 2 ^ i ≡ c * 2 ^ (i + 1)
doubled c i = omega (arith, ap (λ (z : ℕ). c * z) (ap (λ (z : ℕ). 2 ^ z) (add-one i) ∙ pow-succ' 2 i))

pub squared : (x y n c i : ℕ) → x % n ≡ 2 ^ (c * 2 ^ i) % n → y % n ≡ x * x % n → y % n ≡ 2 ^ (c * 2 ^ (i + 1)) % n
squared x y n c i p q =
    q
    ∙ mod_product x x (2 ^ (c * 2 ^ i)) (2 ^ (c * 2 ^ i)) n p p
    ∙ ap (λ (z : ℕ). z % n) (sym (pow-add 2 (c * 2 ^ i) (c * 2 ^ i)) ∙ ap (λ (z : ℕ). 2 ^ z) (doubled c i))

-- how often e is halved: what is left is below 56
pub record Halved (e z : ℕ) : Type 0 where
  pub zeros : z ≤ 61
  pub few : e / 2 ^ (61 - z) < 56

pub halved : (e : ℕ) → 28 ≤ e → e < 2 ^ 64 → Halved e (count_leading_zeros 64 (e / 7))
halved e l h = go (leading_top 64 (e / 7) (omega arith) (omega arith))
  where
    go : ((j : ℕ) × (count_leading_zeros 64 (e / 7) + suc j ≡ 64) × (2 ^ j ≤ e / 7) × (e / 7 < 2 ^ suc j)) → Halved e (count_leading_zeros 64 (e / 7))
    go (j, at, lo, hi) =
        let z = count_leading_zeros 64 (e / 7) in
        let two : 2 < suc j = pow_lt_back 2 (suc j) (omega arith) in
        let zeros : z ≤ 61 = omega arith in
        let place : suc j ≡ 61 - z + 3 = omega arith in
        let top : 2 ^ suc j ≡ 2 ^ (61 - z) * 8 = ap (λ (x : ℕ). 2 ^ x) place ∙ pow-add 2 (61 - z) 3 in
        record { zeros = zeros; few = (div-lt_iff_lt-mul (pow_pos (61 - z))).1 (omega arith) }

-- e without its last k digits
fits_word : (x e : ℕ) → x ≤ e → e < 2 ^ 64 → x % 18446744073709551616 ≡ x
fits_word x e l h = mod-eq_of_lt (omega arith)

pub cut : (e k : ℕ) → e < 2 ^ 64 → (e / 2 ^ k * 2 ^ k % 18446744073709551616 ≡ e / 2 ^ k * 2 ^ k) × (e / 2 ^ k * 2 ^ k ≤ e)
cut e k h = (fits_word (e / 2 ^ k * 2 ^ k) e (div-mul-le_self e (2 ^ k)) h, div-mul-le_self e (2 ^ k))

-- 2^t and what is left of 2^s
pub far_same : (m n s t u x y : ℕ) → u ≡ t → t ≤ s → x % n ≡ 2 ^ t % n → y ≡ m * 2 ^ (s - u) % n → x * y % n ≡ m * 2 ^ s % n
far_same m n s t u x y e l p q =
    mod_product x y (2 ^ t) (m * 2 ^ (s - t)) n p (ap (λ (z : ℕ). z % n) (q ∙ ap (λ (z : ℕ). m * 2 ^ (s - z) % n) e) ∙ mod-mod (m * 2 ^ (s - t)) n)
    ∙ ap (λ (z : ℕ). z % n) (swap (2 ^ t) m (2 ^ (s - t)) ∙ ap (λ (z : ℕ). m * z) (sym (pow-add 2 t (s - t)) ∙ ap (λ (z : ℕ). 2 ^ z) (add-sub_of_le l)))
  where
    swap : (a b c : ℕ) → a * (b * c) ≡ b * (a * c)
    swap a b c = omega arith

-- ---- a divisor moved up to have a leading digit
pub moved_back : (m n s z r : ℕ) → 0 < n → n * 2 ^ z < 2 ^ 53 → r ≡ m * 2 ^ (s + z) % (n * 2 ^ z % 18446744073709551616) → r / 2 ^ z ≡ m * 2 ^ s % n
moved_back m n s z r p h e =
    let same : r ≡ m * 2 ^ s % n * 2 ^ z =
    e
    ∙ ap (λ (x : ℕ). m * 2 ^ (s + z) % x) (fits_word (n * 2 ^ z) (n * 2 ^ z) (omega arith) (omega arith))
    ∙ ap (λ (x : ℕ). x % (n * 2 ^ z)) (ap (λ (x : ℕ). m * x) (pow-add 2 s z) ∙ sym (mul_assoc m (2 ^ s) (2 ^ z)))
    ∙ mod_scale (m * 2 ^ s) n (2 ^ z) p (pow_pos z) in
    ap (λ (x : ℕ). x / 2 ^ z) same ∙ shl-shr (m * 2 ^ s % n) z
