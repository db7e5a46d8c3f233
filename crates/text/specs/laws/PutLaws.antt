-- Laws of texts that are written one after the other.
use Rattle.std.specs.Prelude.{◌≡◌, refl, Bool, true, false, List, [], ◌∷◌, ◌++◌, ℕ, zero, suc, ◌+◌, ◌-◌, ◌≤◌, ◌<◌, leb, length, get_or, take}
use Rattle.std.proofs.Common.{sym, ap, ap₂, ◌∙◌, subst, arith, add-one, length-append, length-take, take_all, take-suc, leb-true, leb-false}
use Rattle.std.proofs.lemmas.List.{take-append-le}
use Rattle.lent.specs.Bytes.{splice}
use Rattle.lent.specs.laws.Parts.{length_splice, splice_none, splice_append}
use Rattle.text.specs.Put.{Put}

-- a text that ends inside is whole
take_past : (a b : List ℕ) (n k : ℕ) → n ≡ length a + k → take n (a ++ b) ≡ a ++ take k b
take_past [] b n k e = let z : n ≡ k = omega arith in ap (λ (i : ℕ). take i b) z
take_past (x ∷ a) b zero k e = absurd (omega arith)
take_past (x ∷ a) b (suc n) k e = ap (λ (l : List ℕ). x ∷ l) (take_past a b n k (omega arith))

-- the same text
pub put_as : {out : List ℕ} {at : ℕ} {x y : List ℕ} {o : List ℕ} {r : ℕ} → y ≡ x → Put out at x o r → Put out at y o r
put_as {out} {at} {o = o} {r = r} e p = subst (λ (t : List ℕ). Put out at t o r) (sym e) p

-- nothing
pub put_none : (out : List ℕ) (at : ℕ) → at ≤ length out → Put out at [] out at
put_none out at h = record { place = omega arith; bytes = sym (ap (splice out at) (take_all (length out - at) [] (omega arith)) ∙ splice_none out at) }

-- one byte, or none at the end
pub put_one : (out : List ℕ) (at b : ℕ) → at < length out → Put out at (b ∷ []) (splice out at (b ∷ [])) (at + 1)
put_one out at b h = record { place = omega arith; bytes = ap (splice out at) (sym (take_all (length out - at) (b ∷ []) (omega arith))) }

pub put_full : (out : List ℕ) (at : ℕ) (text : List ℕ) → at ≤ length out → length out ≤ at → Put out at text out at
put_full out at text h g =
    let z : length out - at ≡ 0 = omega arith in
    record { place = omega arith; bytes = sym (ap (λ (k : ℕ). splice out at (take k text)) z ∙ splice_none out at) }

-- what was written fits the buffer
pub put_length : {out : List ℕ} {at : ℕ} {a : List ℕ} {out₁ : List ℕ} {r : ℕ} → at ≤ length out → Put out at a out₁ r → length out₁ ≡ length out
put_length {out} {at} {a} {out₁} {r} h p = ap length p.bytes ∙ length_splice out at (take (length out - at) a) (omega (arith, length-take (length out - at) a))

pub put_within : {out : List ℕ} {at : ℕ} {a : List ℕ} {out₁ : List ℕ} {r : ℕ} → at ≤ length out → Put out at a out₁ r → r ≤ length out₁
put_within {out} {at} {a} {out₁} {r} h p = let z = put_length h p in omega (arith, p.place)

-- one text after the other
pub put_then : {out : List ℕ} {at : ℕ} {a b : List ℕ} {out₁ : List ℕ} {r₁ : ℕ} {out₂ : List ℕ} {r₂ : ℕ} → at ≤ length out → Put out at a out₁ r₁ → Put out₁ r₁ b out₂ r₂ → Put out at (a ++ b) out₂ r₂
put_then {out} {at} {a} {b} {out₁} {r₁} {out₂} {r₂} h p q = by (leb (at + length a) (length out)) refl
  where
    by : (t : Bool) → leb (at + length a) (length out) ≡ t → Put out at (a ++ b) out₂ r₂
    by true f =
        let w = leb-true (at + length a) (length out) f in
        let l = put_length h p in
        let k = length out - (at + length a) in
        let e₁ : r₁ ≡ at + length a = omega (arith, p.place) in
        let o₁ : out₁ ≡ splice out at a = p.bytes ∙ ap (splice out at) (take_all (length out - at) a (omega arith)) in
        let j : length out₁ - r₁ ≡ k = omega arith in
        record {
          place = omega (arith, q.place, length-append a b);
          bytes = q.bytes ∙ ap₂ (λ (i n : ℕ). splice out₁ i (take n b)) e₁ j ∙ ap (λ (o : List ℕ). splice o (at + length a) (take k b)) o₁
              ∙ sym (splice_append out at a (take k b) h) ∙ ap (splice out at) (sym (take_past a b (length out - at) k (omega arith)));
        }
    by false f =
        let w = leb-false (at + length a) (length out) f in
        let l = put_length h p in
        let e₁ : r₁ ≡ length out = omega (arith, p.place) in
        let j : length out₁ - r₁ ≡ 0 = omega arith in
        record {
          place = omega (arith, q.place, length-append a b);
          bytes = q.bytes ∙ ap (λ (n : ℕ). splice out₁ r₁ (take n b)) j ∙ splice_none out₁ r₁ ∙ p.bytes ∙ ap (splice out at) (sym (take-append-le (length out - at) a b (omega arith)));
        }

-- a byte more of a list
pub put_next : {out : List ℕ} {at : ℕ} (s : List ℕ) (i : ℕ) {out₁ : List ℕ} {r₁ : ℕ} {out₂ : List ℕ} {r₂ : ℕ} → at ≤ length out → i < length s → Put out at (take i s) out₁ r₁ → Put out₁ r₁ (get_or s i 0 ∷ []) out₂ r₂
    → Put out at (take (i + 1) s) out₂ r₂
put_next s i h l p q = put_as (ap (λ (k : ℕ). take k s) (add-one i) ∙ take-suc s i 0 l) (put_then h p q)
