-- The mark: the turns of its loop, and that the kind bytes of names in their one form tell which are held.
use Rattle.std.specs.Prelude.{◌≡◌, refl, List, ℕ, zero, suc, ◌+◌, ◌*◌, ◌-◌, ◌^◌, ◌≤◌, ◌<◌, get_or}
use Rattle.std.proofs.Common.{sym, ap, ap₂, ◌∙◌, mul-le-mul_right, mul-le-mul_left, arith}
use Rattle.std.proofs.Math.Option.{Option, none, some}
use Rattle.std.proofs.Math.Nat.{one-le-pow}
use Rattle.lent.specs.Bytes.{part}
use Rattle.sifv.specs.Value.{Value, One, Num, Str, Bl, Null, Arr, Tab}
use Rattle.sifv.specs.Slot.{decode_slot}
use Rattle.sifv.specs.inner.Seen.{seen, kind_in}
use Rattle.sifv.specs.laws.Formed.{kind_at_law}
use Rattle.stored.specs.StateBytes.{bit, mark, slots_at}
use Rattle.vm_laws.specs.laws.StateLaws.{slot_at}
use Rattle.state.specs.inner.Fields.{kind_bit, mark_at, mark_of}
use Rattle.sifv.specs.inner.Forms.{Formed}

-- ---- the loop: m is the mark of the names from x on, as if x were the first

pub record Marking (b : List ℕ) (m x : ℕ) : Type 0 where
  pub few : x ≤ 64
  pub rest : m * 2 ^ x ≡ mark_at b x (64 - x)
  pub small : (m + 1) * 2 ^ x ≤ 2 ^ 64

pub marking_start : (b : List ℕ) → Marking b 0 64
marking_start b = record { few = omega arith; rest = refl; small = omega arith }

pub marking_room : (b : List ℕ) (m x : ℕ) → 0 < x → Marking b m x → 2 * m + 1 < 2 ^ 64
marking_room b m zero h g = absurd (omega arith)
marking_room b m (suc y) h g =
    let u : 2 ^ suc y ≡ 2 * 2 ^ y = omega arith in
    omega (arith, g.small, ap (λ (k : ℕ). (m + 1) * k) u, mul-le-mul_left (m + 1) (one-le-pow y 2 (omega arith)))

module _ (b : List ℕ) (m x r : ℕ) (h : 0 < x) (g : Marking b m x) (e : r ≡ kind_bit (get_or b (24576 + (x - 1) * 256) 0)) (l : r ≤ 1) where
  pub marking_turn : Marking b (2 * m + r) (x - 1)
  marking_turn = go x h g e
    where
      go : (x : ℕ) → 0 < x → Marking b m x → r ≡ kind_bit (get_or b (24576 + (x - 1) * 256) 0) → Marking b (2 * m + r) (x - 1)
      go zero h g e = absurd (omega arith)
      go (suc y) h g e =
          let z : suc y - 1 ≡ y = omega arith in
          let p : 64 - y ≡ suc (64 - suc y) = omega (arith, g.few) in
          let q : r ≡ kind_bit (get_or b (24576 + y * 256) 0) = e ∙ ap (λ (i : ℕ). kind_bit (get_or b (24576 + i * 256) 0)) z in
          let u : 2 ^ suc y ≡ 2 * 2 ^ y = omega arith in
          let a = ap (λ (k : ℕ). m * k) u in
          let c = ap (λ (k : ℕ). (m + 1) * k) u in
          let v : (2 * m + r) * 2 ^ y ≡ r * 2 ^ y + m * 2 ^ suc y = omega arith in
          let w = mul-le-mul_right (2 ^ y) l in
          rw z record {
            few = omega (arith, g.few);
            rest = v ∙ ap₂ (λ (i j : ℕ). i * 2 ^ y + j) q g.rest ∙ ap (mark_at b y) (sym p);
            small = omega (arith, g.small, w, c);
          }

pub marking_end : (b : List ℕ) (m x : ℕ) → x ≤ 0 → Marking b m x → m ≡ mark_of b
unfolding mark_of
marking_end b m x h g =
    let z : x ≡ 0 = omega arith in
    let e : m ≡ m * 2 ^ 0 = omega arith in
    e ∙ ap (λ (i : ℕ). m * 2 ^ i) (sym z) ∙ g.rest ∙ ap (λ (i : ℕ). mark_at b i (64 - i)) z

-- ---- the model's mark

kind_bit_lem : (v : Option Value) → kind_bit (kind_in (seen v)) ≡ bit v
kind_bit_lem none = refl
kind_bit_lem (some (One (Num x))) = refl
kind_bit_lem (some (One (Str t))) = refl
kind_bit_lem (some (One (Bl b))) = refl
kind_bit_lem (some (One Null)) = refl
kind_bit_lem (some (Arr l)) = refl
kind_bit_lem (some (Tab t)) = refl

module _ (b : List ℕ) (f : (k : ℕ) → k < 64 → Formed (part b (24576 + k * 256) 256)) where
  name_bit : (x : ℕ) → x < 64 → kind_bit (get_or b (24576 + x * 256) 0) ≡ bit (slots_at b 24576 64 x)
  name_bit x h =
      ap kind_bit (kind_at_law b (24576 + x * 256) (f x h) refl)
      ∙ kind_bit_lem (decode_slot (part b (24576 + x * 256) 256))
      ∙ ap bit (sym (slot_at b 24576 64 x h))

  mark_from : (n x : ℕ) → x + n ≤ 64 → mark_at b x n ≡ mark x n (slots_at b 24576 64)
  mark_from zero x h = refl
  mark_from (suc n) x h = ap₂ (λ (i j : ℕ). i * 2 ^ x + j) (name_bit x (omega arith)) (mark_from n (suc x) (omega arith))

  pub mark_law : mark_of b ≡ mark 0 64 (slots_at b 24576 64)
  unfolding mark_of
  mark_law = mark_from 64 0 (omega arith)
