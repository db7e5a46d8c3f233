-- Numbers in bytes, the highest first, at every width.
use Rattle.std.specs.Prelude.{◌≡◌, refl, List, [], ◌∷◌, ◌++◌, ℕ, zero, suc, ◌+◌, ◌*◌, ◌/◌, ◌%◌, ◌^◌, ◌≤◌, ◌<◌, length, get_or, set, replicate}
use Rattle.std.proofs.Common.{sym, ap, ap₂, ◌∙◌, subst, zero-add, suc-add, zero-lt-suc, mod-lt, mod-eq_of_lt, mul_assoc, mul_comm, div-one, arith, length-append, pow-add}
use Rattle.std.proofs.Math.Nat.{one-le-pow, pow-succ', mod-one, zero-div, mul-add-div_right, mul-add-mod_self_right, div-div-eq-div-mul}
use Rattle.std.proofs.Math.Arith.{digits_lt, digits_div, mod-mul}
use Rattle.lent.specs.Bytes.{be_value, be_bytes, part, splice, AreBytes, none, more}
use Rattle.lent.specs.laws.Each.{each_part}
use Rattle.lent.specs.laws.Parts.{length_part, part_add, part_one, splice_part, splice_append, splice_one}

-- a power of 256 is not 0
pub pow256_pos : (w : ℕ) → 0 < 256 ^ w
pow256_pos w = one-le-pow w 256 (zero-lt-suc 255)

pub length_be_bytes : (w n : ℕ) → length (be_bytes w n) ≡ w
length_be_bytes zero n = refl
length_be_bytes (suc w) n = ap suc (length_be_bytes w n)

pub be_bytes_bytes : (w n : ℕ) → AreBytes (be_bytes w n)
be_bytes_bytes zero n = none
be_bytes_bytes (suc w) n = more (mod-lt (n / 256 ^ w) (zero-lt-suc 255)) (be_bytes_bytes w n)

-- ---- the value of bytes

pub be_value_lt : {l : List ℕ} → AreBytes l → be_value l < 256 ^ length l
be_value_lt none = zero-lt-suc 0
be_value_lt (more {a = x} {l = l} p h) = rw (pow-succ' 256 (length l)) (digits_lt p (be_value_lt h))

pub be_value_append : (a b : List ℕ) → be_value (a ++ b) ≡ be_value a * 256 ^ length b + be_value b
be_value_append [] b = omega arith
be_value_append (x ∷ a) b =
    let e : 256 ^ length (a ++ b) ≡ 256 ^ length a * 256 ^ length b = ap (λ (k : ℕ). 256 ^ k) (length-append a b) ∙ pow-add 256 (length a) (length b) in
    let ih = be_value_append a b in
    rw (e, ih) (omega arith)

pub be_value_zeros : (n : ℕ) → be_value (replicate n 0) ≡ 0
be_value_zeros zero = refl
be_value_zeros (suc n) = omega (arith, be_value_zeros n)

-- ---- the bytes of a number

-- what was put is got again: its low bytes, or all of it
pub be_value_be_bytes_mod : (w n : ℕ) → be_value (be_bytes w n) ≡ n % 256 ^ w
be_value_be_bytes_mod zero n = sym (mod-one n)
be_value_be_bytes_mod (suc w) n =
    rw (length_be_bytes w n, be_value_be_bytes_mod w n, pow-succ' 256 w, mod-mul n {m = 256} {c = 256 ^ w} (zero-lt-suc 255) (pow256_pos w))

pub be_value_be_bytes : (w n : ℕ) → n < 256 ^ w → be_value (be_bytes w n) ≡ n
be_value_be_bytes w n h = be_value_be_bytes_mod w n ∙ mod-eq_of_lt h

-- what lies above the width is left out
pub be_bytes_high : (w k n : ℕ) → be_bytes w (k * 256 ^ w + n) ≡ be_bytes w n
be_bytes_high zero k n = refl
be_bytes_high (suc w) k n =
    let e : k * 256 ^ suc w ≡ k * 256 * 256 ^ w = ap (λ (x : ℕ). k * x) (pow-succ' 256 w) ∙ sym (mul_assoc k 256 (256 ^ w)) in
    rw e
    (ap₂ (λ (x : ℕ) (l : List ℕ). x ∷ l)
    (ap (λ (x : ℕ). x % 256) (mul-add-div_right (pow256_pos w) (k * 256) n) ∙ mul-add-mod_self_right k 256 (n / 256 ^ w))
    (be_bytes_high w (k * 256) n))

-- the bytes of the value of bytes are those bytes
pub be_bytes_be_value : {l : List ℕ} → AreBytes l → be_bytes (length l) (be_value l) ≡ l
be_bytes_be_value none = refl
be_bytes_be_value (more {a = x} {l = l} p h) =
    ap₂ (λ (y : ℕ) (k : List ℕ). y ∷ k)
    (ap (λ (y : ℕ). y % 256) (digits_div x (be_value_lt h)) ∙ mod-eq_of_lt p)
    (be_bytes_high (length l) x (be_value l) ∙ be_bytes_be_value h)

-- the high bytes, and then the low ones
pub be_bytes_add : (v w n : ℕ) → be_bytes (v + w) n ≡ be_bytes v (n / 256 ^ w) ++ be_bytes w n
be_bytes_add zero w n = rw (zero-add w)
be_bytes_add (suc v) w n =
    rw (suc-add v w)
    (ap₂ (λ (x : ℕ) (l : List ℕ). x ∷ l)
    (ap (λ (x : ℕ). n / x % 256) (pow-add 256 v w ∙ mul_comm (256 ^ v) (256 ^ w)) ∙ ap (λ (x : ℕ). x % 256) (sym (div-div-eq-div-mul n (256 ^ w) (256 ^ v))))
    (be_bytes_add v w n))

pub be_bytes_zero : (w : ℕ) → be_bytes w 0 ≡ replicate w 0
be_bytes_zero zero = refl
be_bytes_zero (suc w) = ap₂ (λ (x : ℕ) (l : List ℕ). x ∷ l) (ap (λ (x : ℕ). x % 256) (zero-div (256 ^ w))) (be_bytes_zero w)

-- ---- numbers in a list, at every width

-- one byte
pub be_value_one : (s : List ℕ) (at : ℕ) → at < length s → be_value (part s at 1) ≡ get_or s at 0
be_value_one s at h = rw (part_one s at 0 h) (omega arith)

-- a number of v + w bytes is read as its v high bytes and its w low ones
pub be_value_part : (s : List ℕ) (at v w : ℕ) → at + (v + w) ≤ length s
    → be_value (part s at (v + w)) ≡ be_value (part s at v) * 256 ^ w + be_value (part s (at + v) w)
be_value_part s at v w h =
    ap be_value (part_add s at v w)
    ∙ be_value_append (part s at v) (part s (at + v) w)
    ∙ ap (λ (k : ℕ). be_value (part s at v) * 256 ^ k + be_value (part s (at + v) w)) (length_part s (at + v) w (omega arith))

-- the same, of what was read
pub read_both : (s : List ℕ) (at v w : ℕ) {a b : ℕ} → at + (v + w) ≤ length s → a ≡ be_value (part s at v) → b ≡ be_value (part s (at + v) w)
    → a * 256 ^ w + b ≡ be_value (part s at (v + w))
read_both s at v w h p q = ap₂ (λ (x y : ℕ). x * 256 ^ w + y) p q ∙ sym (be_value_part s at v w h)

pub be_value_part_lt : (s : List ℕ) (at w : ℕ) → AreBytes s → at + w ≤ length s → be_value (part s at w) < 256 ^ w
be_value_part_lt s at w b h = subst (λ (k : ℕ). be_value (part s at w) < 256 ^ k) (length_part s at w h) (be_value_lt (each_part at w b))

-- one byte is written
pub splice_byte : (d : List ℕ) (at n : ℕ) → at < length d → splice d at (be_bytes 1 n) ≡ set d at (n % 256)
splice_byte d at n h = splice_one d at (n / 1 % 256) h ∙ ap (λ (x : ℕ). set d at (x % 256)) (div-one n)

-- a number of v + w bytes is written as its v high bytes and its w low ones
pub splice_be_bytes : (d : List ℕ) (at v w n : ℕ) → at ≤ length d
    → splice d at (be_bytes (v + w) n) ≡ splice (splice d at (be_bytes v (n / 256 ^ w))) (at + v) (be_bytes w n)
splice_be_bytes d at v w n h =
    ap (splice d at) (be_bytes_add v w n)
    ∙ splice_append d at (be_bytes v (n / 256 ^ w)) (be_bytes w n) h
    ∙ ap (λ (k : ℕ). splice (splice d at (be_bytes v (n / 256 ^ w))) (at + k) (be_bytes w n)) (length_be_bytes v (n / 256 ^ w))

-- the same, of what was written
pub written_both : (d : List ℕ) (at v w n : ℕ) {d₁ d₂ : List ℕ} → at ≤ length d → d₁ ≡ splice d at (be_bytes v (n / 256 ^ w)) → d₂ ≡ splice d₁ (at + v) (be_bytes w n)
    → d₂ ≡ splice d at (be_bytes (v + w) n)
written_both d at v w n h p q = q ∙ ap (λ (r : List ℕ). splice r (at + v) (be_bytes w n)) p ∙ sym (splice_be_bytes d at v w n h)

-- a number that is there already is written: nothing changes
pub splice_be_value : (d : List ℕ) (at w : ℕ) → AreBytes d → at + w ≤ length d → splice d at (be_bytes w (be_value (part d at w))) ≡ d
splice_be_value d at w b h =
    let e : be_bytes w (be_value (part d at w)) ≡ part d at w =
    ap (λ (k : ℕ). be_bytes k (be_value (part d at w))) (sym (length_part d at w h)) ∙ be_bytes_be_value (each_part at w b) in
    ap (splice d at) e ∙ splice_part d at w h

-- ---- written out

pub be_value_two : (s : List ℕ) (at : ℕ) → at + 2 ≤ length s → be_value (part s at 2) ≡ get_or s at 0 * 256 + get_or s (at + 1) 0
be_value_two s at h =
    be_value_part s at 1 1 h ∙ ap₂ (λ (x y : ℕ). x * 256 + y) (be_value_one s at (omega arith)) (be_value_one s (at + 1) (omega arith))

-- eight bytes that are read as a number and written
pub moved_eight : (d : List ℕ) (from to : ℕ) {v : ℕ} {e : List ℕ} → AreBytes d → from + 8 ≤ length d → v ≡ be_value (part d from 8) → e ≡ splice d to (be_bytes 8 v)
    → e ≡ splice d to (part d from 8)
moved_eight d from to h l p q =
    let m : length (part d from 8) ≡ 8 = length_part d from 8 l in
    q ∙ ap (splice d to) (ap (be_bytes 8) p ∙ ap (λ (k : ℕ). be_bytes k (be_value (part d from 8))) (sym m) ∙ be_bytes_be_value (each_part from 8 h))
