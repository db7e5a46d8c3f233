-- Slots in their one form: what their first bytes tell, and slots of 1 + 8 bytes that are written and moved.
use Rattle.std.specs.Prelude.{◌≡◌, Bool, true, false, cond, ℕ, zero, suc, ◌+◌, ◌*◌, ◌%◌, ◌≤◌, ◌<◌, leb, length, get_or, set, Float}
use Rattle.std.proofs.Math.Path.{refl, sym, ap}
use Rattle.std.proofs.Common.{ap₂, ◌∙◌, add-zero, arith, leb-true, leb-false}
use mathlib.Core.List.{List, [], ◌∷◌, ◌++◌}
use Rattle.std.proofs.Math.Option.{Option, none, some}
use Rattle.std.proofs.Math.Dec.{eqb}
use Rattle.std.specs.Float.{binary64}
use Rattle.std.specs.Float.Ieee.{to_bits, of_bits}
use Rattle.std.specs.Float.Ieee.Bits.{to_bits-lt, of_bits-fits}
use Rattle.lent.specs.Bytes.{be_value, be_bytes, part, splice}
use Rattle.lent.specs.laws.Parts.{length_part, length_splice, get_d_part, get_d_splice_before, get_d_splice_behind, part_part, part_add, part_splice, part_splice_before, part_splice_behind, part_splice_within, splice_part, splice_one, splice_append, splice_over, splice_splice, splice_comm, part_one}
use Rattle.lent.specs.laws.Numbers.{be_value_be_bytes}
use Rattle.sifv.specs.Value.{Value, One}
use Rattle.sifv.specs.Value as model
use Rattle.sifv.specs.Slot.{single_kind, word_of, single_of, encode_slot, decode_slot}
use Rattle.sifv.specs.inner.Seen.{seen, single_seen, head_bytes, kind_in, word_in, set_item}
use Rattle.sifv.specs.laws.Laws.{decode_single, word_plain}
use Rattle.sifv.specs.laws.Items.{put_item_law}
use Rattle.lent.specs.Lists.{zeros}
use Rattle.sifv.specs.inner.Forms.{Formed, len_in}

-- ---- the first bytes

kind_encode : (v : Option Value) → get_or (encode_slot v) 0 0 ≡ kind_in (seen v)
unfolding encode_slot
kind_encode none = refl
kind_encode (some (One (model.Num x))) = refl
kind_encode (some (One (model.Str t))) = refl
kind_encode (some (One (model.Bl b))) = refl
kind_encode (some (One model.Null)) = refl
kind_encode (some (model.Arr l)) = refl
kind_encode (some (model.Tab t)) = refl

len_encode : (v : Option Value) → get_or (encode_slot v) 1 0 ≡ len_in (seen v)
unfolding encode_slot
len_encode none = refl
len_encode (some (One (model.Num x))) = refl
len_encode (some (One (model.Str t))) = refl
len_encode (some (One (model.Bl b))) = refl
len_encode (some (One model.Null)) = refl
len_encode (some (model.Arr l)) = refl
len_encode (some (model.Tab t)) = refl

pub formed_kind : (b : List ℕ) → Formed b → get_or b 0 0 ≡ kind_in (seen (decode_slot b))
formed_kind b f = ap (λ (r : List ℕ). get_or r 0 0) (sym f) ∙ kind_encode (decode_slot b)

pub formed_len : (b : List ℕ) → Formed b → get_or b 1 0 ≡ len_in (seen (decode_slot b))
formed_len b f = ap (λ (r : List ℕ). get_or r 1 0) (sym f) ∙ len_encode (decode_slot b)

pub kind_at_law : (s : List ℕ) (at : ℕ) {k : ℕ} → Formed (part s at 256) → k ≡ get_or s at 0 → k ≡ kind_in (seen (decode_slot (part s at 256)))
kind_at_law s at f e =
    e ∙ ap (λ (i : ℕ). get_or s i 0) (sym (add-zero at)) ∙ sym (get_d_part s at 256 0 0 (omega arith)) ∙ formed_kind (part s at 256) f

pub len_at_law : (s : List ℕ) (at : ℕ) {k : ℕ} → Formed (part s at 256) → k ≡ get_or s (at + 1) 0 → k ≡ len_in (seen (decode_slot (part s at 256)))
len_at_law s at f e = e ∙ sym (get_d_part s at 256 1 0 (omega arith)) ∙ formed_len (part s at 256) f

-- a value without contents
small_form : (v : Option Value) → kind_in (seen v) ≤ 4 → encode_slot v ≡ head_bytes (kind_in (seen v)) 0 (word_in (seen v)) ++ zeros 240
unfolding encode_slot
small_form none h = refl
small_form (some (One (model.Num x))) h = refl
small_form (some (One (model.Str t))) h = refl
small_form (some (One (model.Bl b))) h = refl
small_form (some (One model.Null)) h = refl
small_form (some (model.Arr l)) h = absurd (omega arith)
small_form (some (model.Tab t)) h = absurd (omega arith)

-- ---- numbers and yes/nos

number_one : (v : Option Value) → kind_in (seen v) ≡ 1 → (x : Float) → v ≡ some (One (model.Num x)) → part (encode_slot v) 8 8 ≡ be_bytes 8 (to_bits binary64 x)
unfolding encode_slot
number_one v h x e = rw e

module _ (b : List ℕ) (f : Formed b) (h : kind_in (seen (decode_slot b)) ≡ 1) where
  number_is : decode_slot b ≡ some (One (model.Num (of_bits binary64 (be_value (part b 8 8)))))
  number_is =
      let k : get_or b 0 0 ≡ 1 = formed_kind b f ∙ h in
      decode_single b (λ z. omega arith) (omega arith) ∙ ap (λ (x : ℕ). some (One (single_of x (be_value (part b 8 8))))) k

  number_stored : to_bits binary64 (of_bits binary64 (be_value (part b 8 8))) ≡ be_value (part b 8 8)
  number_stored =
      let w = be_value (part b 8 8) in
      let x = of_bits binary64 w in
      sym (ap (λ (r : List ℕ). be_value (part r 8 8)) (sym f) ∙ ap be_value (number_one (decode_slot b) h x number_is) ∙ be_value_be_bytes 8 (to_bits binary64 x) (to_bits-lt binary64 x (of_bits-fits binary64 w)))

module _ (s : List ℕ) (at : ℕ) (f : Formed (part s at 256)) where
  module _ (h : kind_in (seen (decode_slot (part s at 256))) ≡ 1) {w : ℕ} (e : w ≡ be_value (part s (at + 8) 8)) where
    word_at : w ≡ be_value (part (part s at 256) 8 8)
    word_at = e ∙ ap be_value (sym (part_part s at 256 8 8 (omega arith)))

    pub number_at_stored : to_bits binary64 (of_bits binary64 w) ≡ w
    number_at_stored = ap (λ (x : ℕ). to_bits binary64 (of_bits binary64 x)) word_at ∙ number_stored (part s at 256) f h ∙ sym word_at

    pub number_at_law : {r : Float} → r ≡ of_bits binary64 w → decode_slot (part s at 256) ≡ some (One (model.Num r))
    number_at_law q = number_is (part s at 256) f h ∙ ap (λ (x : Float). some (One (model.Num x))) (sym (q ∙ ap (of_bits binary64) word_at))

  pub truth_at_law : kind_in (seen (decode_slot (part s at 256))) ≡ 3 → {r : Bool} → r ≡ eqb (get_or s (at + 15) 0) 1 → decode_slot (part s at 256) ≡ some (One (model.Bl r))
  unfolding encode_slot
  truth_at_law h {r} e =
      is (decode_slot (part s at 256)) h
      ∙ ap (λ (x : Bool). some (One (model.Bl x)))
      (ap (λ (l : List ℕ). eqb (get_or l 15 0) 1) f ∙ ap (λ (x : ℕ). eqb x 1) (get_d_part s at 256 15 0 (omega arith)) ∙ sym e)
    where
      is : (v : Option Value) → kind_in (seen v) ≡ 3 → v ≡ some (One (model.Bl (eqb (get_or (encode_slot v) 15 0) 1)))
      is none q = absurd (omega arith)
      is (some (One (model.Num x))) q = absurd (omega arith)
      is (some (One (model.Str t))) q = absurd (omega arith)
      is (some (One (model.Bl true))) q = refl
      is (some (One (model.Bl false))) q = refl
      is (some (One model.Null)) q = absurd (omega arith)
      is (some (model.Arr l)) q = absurd (omega arith)
      is (some (model.Tab t)) q = absurd (omega arith)

-- ---- changes inside a part

-- e is d but for the n elements from at on
abbrev pub Inside : List ℕ → ℕ → ℕ → List ℕ → Type 0
Inside d at n e = e ≡ splice d at (part e at n)

pub inside_same : (d : List ℕ) (at n : ℕ) → at + n ≤ length d → Inside d at n d
inside_same d at n h = sym (splice_part d at n h)

pub inside_splice : (d : List ℕ) (at n : ℕ) (e : List ℕ) (i : ℕ) (s : List ℕ) → at + n ≤ length d → at + n ≤ length e → Inside d at n e → at ≤ i → i + length s ≤ at + n → Inside d at n (splice e i s)
inside_splice d at n e i s h g k p q =
    let f = splice e i s in
    let l : length f ≡ length e = length_splice e i s (omega arith) in
    let r = part f at n in
    let lr : length r ≡ n = length_part f at n (omega arith) in
    let le : length (part e at n) ≡ n = length_part e at n g in
    sym (splice_part f at n (omega arith))
    ∙ splice_over e i s at r p (omega arith) (omega arith)
    ∙ ap (λ (x : List ℕ). splice x at r) k
    ∙ splice_splice d at (part e at n) r (omega arith) (omega arith)

-- ---- slots by their kind, their number and zeros

pub slot_cut : (d : List ℕ) (at : ℕ) → part d at 256 ≡ part d at 1 ++ (part d (at + 1) 7 ++ (part d (at + 8) 8 ++ part d (at + 16) 240))
slot_cut d at =
    let p : at + 1 + 7 ≡ at + 8 = omega arith in
    let q : at + 8 + 8 ≡ at + 16 = omega arith in
    part_add d at 1 255
    ∙ ap (λ (r : List ℕ). part d at 1 ++ r)
    (part_add d (at + 1) 7 248
    ∙ ap (λ (r : List ℕ). part d (at + 1) 7 ++ r)
    (ap (λ (i : ℕ). part d i 248) p ∙ part_add d (at + 8) 8 240 ∙ ap (λ (i : ℕ). part d (at + 8) 8 ++ part d i 240) q))

-- where a slot of kind below 5 has zeros
pub record Bare (d : List ℕ) (at : ℕ) : Type 0 where
  pub head : part d (at + 1) 7 ≡ zeros 7
  pub tail : part d (at + 16) 240 ≡ zeros 240

pub formed_bare : (d : List ℕ) (at : ℕ) → Formed (part d at 256) → kind_in (seen (decode_slot (part d at 256))) ≤ 4 → Bare d at
formed_bare d at f h =
    let b = part d at 256 in
    let e = sym f ∙ small_form (decode_slot b) h in
    record {
      head = sym (part_part d at 256 1 7 (omega arith)) ∙ ap (λ (r : List ℕ). part r 1 7) e;
      tail = sym (part_part d at 256 16 240 (omega arith)) ∙ ap (λ (r : List ℕ). part r 16 240) e;
    }

pub zeros_bare : (d : List ℕ) (at : ℕ) → at ≤ length d → Bare (splice d at (zeros 256)) at
zeros_bare d at h = record {
  head = part_splice_within d at (zeros 256) 1 7 (omega arith) h;
  tail = part_splice_within d at (zeros 256) 16 240 (omega arith) h;
}

-- `clear`
pub cleared : (d : List ℕ) (at : ℕ) {e : List ℕ} → at + 256 ≤ length d → Formed (part d at 256) → e ≡ cond (leb 5 (get_or d at 0)) (splice d at (zeros 256)) d
    → Bare e at × Inside d at 256 e × (length e ≡ length d)
cleared d at {e} h f q = pick (leb 5 (get_or d at 0)) refl q
  where
    pick : (t : Bool) → leb 5 (get_or d at 0) ≡ t → e ≡ cond t (splice d at (zeros 256)) d → Bare e at × Inside d at 256 e × (length e ≡ length d)
    pick true c p =
        let l : length e ≡ length d = ap length p ∙ length_splice d at (zeros 256) (omega arith) in
        let z : part (splice d at (zeros 256)) at 256 ≡ zeros 256 = part_splice d at (zeros 256) 256 refl (omega arith) in
        (rw p (zeros_bare d at (omega arith)), rw p (ap (splice d at) (sym z)), l)
    pick false c p =
        let k = kind_at_law d at f refl in
        let g = leb-false 5 (get_or d at 0) c in
        (rw p (formed_bare d at f (omega arith)), rw p (inside_same d at 256 h), ap length p)

-- a number, and then a kind, over zeros
pub headed : (d : List ℕ) (at k : ℕ) (ws : List ℕ) (d₁ : List ℕ) {d₂ d₃ : List ℕ} → at + 256 ≤ length d → length ws ≡ 8 → Bare d₁ at → Inside d at 256 d₁ → length d₁ ≡ length d
    → d₂ ≡ splice d₁ (at + 8) ws → d₃ ≡ set d₂ at k → d₃ ≡ splice d at (k ∷ (zeros 7 ++ (ws ++ zeros 240)))
headed d at k ws d₁ {d₂} {d₃} h lw z i l p q =
    let l₂ : length d₂ ≡ length d = ap length p ∙ length_splice d₁ (at + 8) ws (omega arith) ∙ l in
    let e : d₃ ≡ splice d₂ at (k ∷ []) = q ∙ sym (splice_one d₂ at k (omega arith)) in
    let i₂ : Inside d at 256 d₂ = rw p (inside_splice d at 256 d₁ (at + 8) ws h (omega arith) i (omega arith) (omega arith)) in
    let i₃ : Inside d at 256 d₃ = rw e (inside_splice d at 256 d₂ at (k ∷ []) h (omega arith) i₂ (omega arith) (omega arith)) in
    let a : part d₃ at 1 ≡ k ∷ [] = ap (λ (r : List ℕ). part r at 1) e ∙ part_splice d₂ at (k ∷ []) 1 refl (omega arith) in
    let b : part d₃ (at + 1) 7 ≡ zeros 7 =
    ap (λ (r : List ℕ). part r (at + 1) 7) e ∙ part_splice_behind d₂ at (k ∷ []) (at + 1) 7 (omega arith) (omega arith)
    ∙ ap (λ (r : List ℕ). part r (at + 1) 7) p ∙ part_splice_before d₁ (at + 8) ws (at + 1) 7 (omega arith) (omega arith) ∙ z.head in
    let c : part d₃ (at + 8) 8 ≡ ws =
    ap (λ (r : List ℕ). part r (at + 8) 8) e ∙ part_splice_behind d₂ at (k ∷ []) (at + 8) 8 (omega arith) (omega arith)
    ∙ ap (λ (r : List ℕ). part r (at + 8) 8) p ∙ part_splice d₁ (at + 8) ws 8 lw (omega arith) in
    let y : part d₃ (at + 16) 240 ≡ zeros 240 =
    ap (λ (r : List ℕ). part r (at + 16) 240) e ∙ part_splice_behind d₂ at (k ∷ []) (at + 16) 240 (omega arith) (omega arith)
    ∙ ap (λ (r : List ℕ). part r (at + 16) 240) p ∙ part_splice_behind d₁ (at + 8) ws (at + 16) 240 (omega arith) (omega arith) ∙ z.tail in
    i₃ ∙ ap (splice d at) (slot_cut d₃ at ∙ ap₂ (λ (u v : List ℕ). u ++ v) a (ap₂ (λ (u v : List ℕ). u ++ v) b (ap₂ (λ (u v : List ℕ). u ++ v) c y)))

-- `move_to` of a slot without contents
pub move_small : (d : List ℕ) (from to : ℕ) {k : ℕ} {d₁ d₂ d₃ : List ℕ} → from + 256 ≤ length d → to + 256 ≤ length d → from % 256 ≡ to % 256
    → Formed (part d from 256) → Formed (part d to 256) → get_or d from 0 < 5 → d₁ ≡ cond (leb 5 (get_or d to 0)) (splice d to (zeros 256)) d
    → d₂ ≡ splice d₁ (to + 8) (part d₁ (from + 8) 8) → k ≡ get_or d₂ from 0 → d₃ ≡ set d₂ to k → d₃ ≡ splice d to (part d from 256)
move_small d from to {k} {d₁} {d₂} h g m f u s p q e r =
    let c = cleared d to g u p in
    let w = part d (from + 8) 8 in
    let lw : length w ≡ 8 = length_part d (from + 8) 8 (omega arith) in
    let o = same_from (leb 5 (get_or d to 0)) refl p in
    let l : length d₁ ≡ length d = c.2 in
    let q₂ : d₂ ≡ splice d₁ (to + 8) w = q ∙ ap (splice d₁ (to + 8)) (sym (part_part d₁ from 256 8 8 (omega arith)) ∙ ap (λ (x : List ℕ). part x 8 8) o ∙ part_part d from 256 8 8 (omega arith)) in
    let kd = kind_at_law d from f refl in
    let z = formed_bare d from f (omega arith) in
    let a : part d from 1 ≡ k ∷ [] = part_one d from 0 (omega arith) ∙ ap (λ (x : ℕ). x ∷ []) (first d₂ q₂ (sym e) l o) in
    headed d to k w d₁ g lw c.0 c.1 l q₂ r
    ∙ ap (splice d to) (sym (slot_cut d from ∙ ap₂ (λ (x y : List ℕ). x ++ y) a (ap₂ (λ (x y : List ℕ). x ++ y) z.head (ap (λ (y : List ℕ). w ++ y) z.tail))))
  where
    -- the slot that is moved stays
    same_from : (t : Bool) → leb 5 (get_or d to 0) ≡ t → d₁ ≡ cond t (splice d to (zeros 256)) d → part d₁ from 256 ≡ part d from 256
    same_from true y p =
        let o = leb-true 5 (get_or d to 0) y in
        ap (λ (x : List ℕ). part x from 256) p ∙ apart (leb (from + 256) to) refl o
      where
        apart : (t : Bool) → leb (from + 256) to ≡ t → 5 ≤ get_or d to 0 → part (splice d to (zeros 256)) from 256 ≡ part d from 256
        apart true y o = part_splice_before d to (zeros 256) from 256 (leb-true (from + 256) to y) (omega arith)
        apart false y o =
            let n : from ≡ to → ⊥ = λ x. let z : get_or d from 0 ≡ get_or d to 0 = ap (λ (i : ℕ). get_or d i 0) x in omega arith in
            part_splice_behind d to (zeros 256) from 256 (omega (arith, leb-false (from + 256) to y, n)) (omega arith)
    same_from false y p = ap (λ (x : List ℕ). part x from 256) p

    first : (x : List ℕ) → x ≡ splice d₁ (to + 8) (part d (from + 8) 8) → get_or x from 0 ≡ k → length d₁ ≡ length d → part d₁ from 256 ≡ part d from 256 → get_or d from 0 ≡ k
    first x y e l o =
        let w = part d (from + 8) 8 in
        let lw : length w ≡ 8 = length_part d (from + 8) 8 (omega arith) in
        let n : get_or d₁ from 0 ≡ get_or d from 0 =
        ap (λ (i : ℕ). get_or d₁ i 0) (sym (add-zero from)) ∙ sym (get_d_part d₁ from 256 0 0 (omega arith)) ∙ ap (λ (r : List ℕ). get_or r 0 0) o
        ∙ get_d_part d from 256 0 0 (omega arith) ∙ ap (λ (i : ℕ). get_or d i 0) (add-zero from) in
        sym n ∙ sym (beside (leb from to) refl) ∙ ap (λ (r : List ℕ). get_or r from 0) (sym y) ∙ e
      where
        beside : (t : Bool) → leb from to ≡ t → get_or (splice d₁ (to + 8) (part d (from + 8) 8)) from 0 ≡ get_or d₁ from 0
        beside true z = get_d_splice_before d₁ (to + 8) (part d (from + 8) 8) from 0 (omega (arith, leb-true from to z)) (omega arith)
        beside false z = get_d_splice_behind d₁ (to + 8) (part d (from + 8) 8) from 0 (omega (arith, leb-false from to z, length_part d (from + 8) 8 (omega arith))) (omega arith)

-- ---- an item from a slot

kind_plain : (v : Option Value) → 0 < kind_in (seen v) → kind_in (seen v) ≤ 4 → kind_in (seen v) ≡ single_kind (single_seen (seen v))
kind_plain none h g = absurd (omega arith)
kind_plain (some (One (model.Num x))) h g = refl
kind_plain (some (One (model.Str t))) h g = refl
kind_plain (some (One (model.Bl b))) h g = refl
kind_plain (some (One model.Null)) h g = refl
kind_plain (some (model.Arr l)) h g = absurd (omega arith)
kind_plain (some (model.Tab t)) h g = absurd (omega arith)

-- the number of a slot without contents
pub formed_word : (d : List ℕ) (at : ℕ) → Formed (part d at 256) → kind_in (seen (decode_slot (part d at 256))) ≤ 4 → part d (at + 8) 8 ≡ be_bytes 8 (word_in (seen (decode_slot (part d at 256))))
formed_word d at f h =
    let b = part d at 256 in
    sym (part_part d at 256 8 8 (omega arith)) ∙ ap (λ (r : List ℕ). part r 8 8) (sym f ∙ small_form (decode_slot b) h)

-- a byte before or behind a slot's contents, or its first, is not among eight bytes of the contents
far_byte : (d : List ℕ) (from to : ℕ) (w : List ℕ) (i : ℕ) → length w ≡ 8 → 0 < i → i + 8 ≤ 256 → to + 256 ≤ length d → from % 256 ≡ to % 256 → get_or (splice d (to + i) w) from 0 ≡ get_or d from 0
far_byte d from to w i lw p h l m = beside (leb from to) refl
  where
    beside : (t : Bool) → leb from to ≡ t → get_or (splice d (to + i) w) from 0 ≡ get_or d from 0
    beside true z = get_d_splice_before d (to + i) w from 0 (omega (arith, leb-true from to z)) (omega arith)
    beside false z = get_d_splice_behind d (to + i) w from 0 (omega (arith, leb-false from to z)) (omega arith)

-- `store_item`
pub store_item_law : (d : List ℕ) (at i from : ℕ) {k : ℕ} {d₁ d₂ : List ℕ} → at + 256 ≤ length d → from + 256 ≤ length d → from % 256 ≡ at % 256 → i < 24
    → Formed (part d from 256) → 0 < kind_in (seen (decode_slot (part d from 256))) → kind_in (seen (decode_slot (part d from 256))) ≤ 4
    → d₁ ≡ splice d (at + (40 + i * 8)) (part d (from + 8) 8) → k ≡ get_or d₁ from 0 → d₂ ≡ set d₁ (at + (16 + i)) k
    → d₂ ≡ splice d at (set_item (part d at 256) i (single_seen (seen (decode_slot (part d from 256)))))
store_item_law d at i from {k} {d₁} {d₂} h g m l f p q e r o =
    let v = seen (decode_slot (part d from 256)) in
    let w = part d (from + 8) 8 in
    let lw : length w ≡ 8 = length_part d (from + 8) 8 (omega arith) in
    let j = at + (16 + i) in
    let n = at + (40 + i * 8) in
    let a : k ≡ single_kind (single_seen v) =
    r ∙ ap (λ (x : List ℕ). get_or x from 0) e ∙ far_byte d from at w (40 + i * 8) lw (omega arith) (omega arith) h m ∙ kind_at_law d from f refl ∙ kind_plain (decode_slot (part d from 256)) p q in
    let l₁ : length d₁ ≡ length d = ap length e ∙ length_splice d n w (omega arith) in
    let c : d₂ ≡ splice (set d j k) n (be_bytes 8 (word_of (single_seen v))) =
    o ∙ sym (splice_one d₁ j k (omega arith)) ∙ ap (λ (x : List ℕ). splice x j (k ∷ [])) e
    ∙ sym (splice_comm d j (k ∷ []) n w (omega arith) (omega arith))
    ∙ ap₂ (λ (x y : List ℕ). splice x n y) (splice_one d j k (omega arith)) (formed_word d from f q ∙ ap (be_bytes 8) (word_plain v)) in
    put_item_law d at i (single_seen v) h l a refl refl c

-- `move_whole`: eight bytes more
pub move_turn : (d : List ℕ) (from to i : ℕ) {e e₁ : List ℕ} → from + 256 ≤ length d → to + 256 ≤ length d → from % 256 ≡ to % 256 → i + 8 ≤ 256
    → e ≡ splice d to (part d from i) → e₁ ≡ splice e (to + i) (part e (from + i) 8) → (e₁ ≡ splice d to (part d from (i + 8))) × (length e₁ ≡ length d)
move_turn d from to i {e} {e₁} h g m l p q =
    let a = part d from i in
    let w = part d (from + i) 8 in
    let la : length a ≡ i = length_part d from i (omega arith) in
    let lw : length w ≡ 8 = length_part d (from + i) 8 (omega arith) in
    let s : part e (from + i) 8 ≡ w = ap (λ (x : List ℕ). part x (from + i) 8) p ∙ beside (leb to from) refl in
    let r : e₁ ≡ splice d to (part d from (i + 8)) =
    q ∙ ap (splice e (to + i)) s ∙ ap (λ (x : List ℕ). splice x (to + i) w) p ∙ ap (λ (x : ℕ). splice (splice d to a) (to + x) w) (sym la)
    ∙ sym (splice_append d to a w (omega arith)) ∙ ap (splice d to) (sym (part_add d from i 8)) in
    let lr : length (part d from (i + 8)) ≡ i + 8 = length_part d from (i + 8) (omega arith) in
    (r, ap length r ∙ length_splice d to (part d from (i + 8)) (omega arith))
  where
    beside : (t : Bool) → leb to from ≡ t → part (splice d to (part d from i)) (from + i) 8 ≡ part d (from + i) 8
    beside true z = part_splice_behind d to (part d from i) (from + i) 8 (omega (arith, leb-true to from z, length_part d from i (omega arith))) (omega arith)
    beside false z = part_splice_before d to (part d from i) (from + i) 8 (omega (arith, leb-false to from z)) (omega arith)

-- `put`
pub put_law : (d : List ℕ) (at k w : ℕ) {d₁ d₂ d₃ : List ℕ} → at + 256 ≤ length d → Formed (part d at 256)
    → d₁ ≡ cond (leb 5 (get_or d at 0)) (splice d at (zeros 256)) d → d₂ ≡ splice d₁ (at + 8) (be_bytes 8 w) → d₃ ≡ set d₂ at k → d₃ ≡ splice d at (head_bytes k 0 w ++ zeros 240)
put_law d at k w {d₁} h f p q r = let c = cleared d at h f p in headed d at k (be_bytes 8 w) d₁ h refl c.0 c.1 c.2 q r

-- ---- a single value by its kind and its number

pub kind_single : (k w : ℕ) → 0 < k → k ≤ 4 → single_kind (single_of k w) ≡ k
kind_single zero w h g = absurd (omega arith)
kind_single (suc zero) w h g = refl
kind_single (suc (suc zero)) w h g = refl
kind_single (suc (suc (suc zero))) w h g = refl
kind_single (suc (suc (suc (suc zero)))) w h g = refl
kind_single (suc (suc (suc (suc (suc k))))) w h g = absurd (omega arith)

-- the number of a text or a yes/no is stored as it is
pub word_single : (k w : ℕ) → 0 < k → k ≤ 4 → (k ≡ 1 → ⊥) → (k ≡ 4 → ⊥) → (k ≡ 3 → w ≤ 1) → w ≡ word_of (single_of k w)
word_single zero w h g p q f = absurd (omega arith)
word_single (suc zero) w h g p q f = absurd (p refl)
word_single (suc (suc zero)) w h g p q f = refl
word_single (suc (suc (suc zero))) w h g p q f = flag w (f refl)
  where
    flag : (x : ℕ) → x ≤ 1 → x ≡ cond (eqb x 1) 1 0
    flag zero l = refl
    flag (suc zero) l = refl
    flag (suc (suc x)) l = absurd (omega arith)
word_single (suc (suc (suc (suc zero)))) w h g p q f = absurd (q refl)
word_single (suc (suc (suc (suc (suc k))))) w h g p q f = absurd (omega arith)
