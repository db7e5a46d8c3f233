-- A table's slot with a gap for one entry more: its kinds, numbers and keys are each moved up by one from the gap on.
use Rattle.std.specs.Prelude.{◌≡◌, refl, List, [], ◌∷◌, ◌++◌, ℕ, ◌+◌, ◌*◌, ◌-◌, ◌≤◌, ◌<◌, length, get_or, take, drop, set}
use Rattle.std.proofs.Common.{sym, ap, ap₂, ◌∙◌, append_assoc, add-zero, arith, length-append, length-drop, length-set, take_all, drop-drop, length-take-le}
use Rattle.std.proofs.lemmas.List.{take-append-le}
use Rattle.std.proofs.Math.Seq.{drop-append-add}
use Rattle.lent.specs.Bytes.{part, splice}
use Rattle.lent.specs.laws.Parts.{length_part, length_splice, part_add, part_part, part_one, part_append_left, part_splice, part_splice_before, splice_none, splice_part, splice_one, splice_append, splice_comm, splice_splice, splice_around}
use Rattle.sifv.specs.laws.Layout.{total, Sized, end, field, field_part, field_splice, length_joined, length_pad, drop_zeros}
use Rattle.lent.specs.Lists.{zeros, pad}
use Rattle.sifv.specs.inner.Forms.{joined_parts, opening, opened}

-- ---- one field: w elements from o on are free once the m that stood there are moved up

-- w elements more are moved
pub gap_turn : (a : List ℕ) (o w m : ℕ) → o + w + w + m ≤ length a → splice (opening a (o + w) w m) (o + w) (part (opening a (o + w) w m) o w) ≡ opening a o w (w + m)
gap_turn a o w m h =
    let p = part a o w in
    let q = part a (o + w) m in
    let lp : length p ≡ w = length_part a o w (omega arith) in
    let lq : length q ≡ m = length_part a (o + w) m (omega arith) in
    ap (splice (splice a (o + w + w) q) (o + w)) (part_splice_before a (o + w + w) q o w (omega arith) (omega arith))
    ∙ sym (splice_comm a (o + w) p (o + w + w) q (omega arith) (omega arith))
    ∙ ap (λ (k : ℕ). splice (splice a (o + w) p) (o + w + k) q) (sym lp)
    ∙ sym (splice_append a (o + w) p q (omega arith))
    ∙ ap (splice a (o + w)) (sym (part_add a o w m))

-- and filled with x
pub gap_set : (n : ℕ) (l x : List ℕ) (o w : ℕ) → o ≤ length l → length x ≡ w → length l + w ≤ n
    → splice (opening (pad n l) o w (length l - o)) o x ≡ pad n (take o l ++ (x ++ drop o l))
gap_set n l x o w h e g =
    let p = pad n l in
    let q = drop o l in
    let lp : length p ≡ n = length_pad n l (omega arith) in
    let lq : length q ≡ length l - o = length-drop o l in
    let r : part p o (length l - o) ≡ q = part_append_left l (zeros (n - length l)) o (length l - o) (omega arith) ∙ take_all (length l - o) q (omega arith) in
    let lx : length (x ++ q) ≡ w + (length l - o) = length-append x q ∙ ap₂ (λ (a b : ℕ). a + b) e lq in
    let lt : length (take o l ++ (x ++ q)) ≡ length l + w = length-append (take o l) (x ++ q) ∙ ap₂ (λ (a b : ℕ). a + b) (length-take-le o l h) lx ∙ omega arith in
    let c : o + length (x ++ q) ≡ length l + w = omega arith in
    let d : n - length l - w ≡ n - length (take o l ++ (x ++ q)) = omega arith in
    let s : drop (length (x ++ q)) (drop o p) ≡ zeros (n - length (take o l ++ (x ++ q))) =
    drop-drop (length (x ++ q)) o p ∙ ap (λ (k : ℕ). drop k p) c ∙ drop-append-add l (zeros (n - length l)) w ∙ drop_zeros w (n - length l) ∙ ap zeros d in
    ap (λ (y : List ℕ). splice (splice p (o + w) y) o x) r
    ∙ sym (splice_comm p o x (o + w) q (omega arith) (omega arith))
    ∙ ap (λ (k : ℕ). splice (splice p o x) (o + k) q) (sym e)
    ∙ sym (splice_append p o x q (omega arith))
    ∙ ap₂ (λ (y z : List ℕ). y ++ ((x ++ q) ++ z)) (take-append-le o l (zeros (n - length l)) h) s
    ∙ sym (append_assoc (take o l) (x ++ q) (zeros (n - length (take o l ++ (x ++ q)))))

-- ---- fields of a slot in a list

-- an element that is moved
pub set_part : (e : List ℕ) (x y : ℕ) → x < length e → y < length e → set e y (get_or e x 0) ≡ splice e y (part e x 1)
set_part e x y h g = sym (splice_one e y (get_or e x 0) g) ∙ ap (splice e y) (sym (part_one e x 0 h))

-- a slot that was written, written in again
pub splice_in : (d : List ℕ) (at : ℕ) (b : List ℕ) (j : ℕ) (s : List ℕ) → at + length b ≤ length d → j + length s ≤ length b → splice (splice d at b) (at + j) s ≡ splice d at (splice b j s)
splice_in d at b j s h g =
    let e = splice d at b in
    let l : length e ≡ length d = length_splice d at b h in
    let m : length (splice b j s) ≡ length b = length_splice b j s g in
    sym (splice_around e at (length b) j s g (omega arith))
    ∙ ap (λ (r : List ℕ). splice e at (splice r j s)) (part_splice d at b (length b) refl (omega arith))
    ∙ splice_splice d at b (splice b j s) (sym m) (omega arith)

module _ (d : List ℕ) (at : ℕ) {l : List (List ℕ)} {ws : List ℕ} (q : Sized l ws) (z : List ℕ) (h : at + (total ws + length z) ≤ length d) {e : List ℕ} (p : e ≡ splice d at (joined_parts l z)) where
  -- what a field has
  pub read_field : (i j n : ℕ) → i < length l → j + n ≤ get_or ws i 0 → total (take i ws) + j + n ≤ total ws + length z → part e (at + (total (take i ws) + j)) n ≡ part (get_or l i []) j n
  read_field i j n g o y =
      let b = joined_parts l z in
      let lb : length b ≡ total ws + length z = length_joined q z in
      let le : length e ≡ length d = ap length p ∙ length_splice d at b (omega arith) in
      sym (part_part e at (length b) (total (take i ws) + j) n (omega arith))
      ∙ ap (λ (r : List ℕ). part r (total (take i ws) + j) n) (ap (λ (r : List ℕ). part r at (length b)) p ∙ part_splice d at b (length b) refl (omega arith))
      ∙ field_part q i j n z g o

  -- and a field that is written
  pub write_field : (i j : ℕ) (s : List ℕ) {e₁ : List ℕ} → i < length l → j + length s ≤ get_or ws i 0 → total (take i ws) + j + length s ≤ total ws + length z
      → e₁ ≡ splice e (at + (total (take i ws) + j)) s → e₁ ≡ splice d at (joined_parts (set l i (splice (get_or l i []) j s)) z)
  write_field i j s g o y r =
      let b = joined_parts l z in
      let lb : length b ≡ total ws + length z = length_joined q z in
      r ∙ ap (λ (x : List ℕ). splice x (at + (total (take i ws) + j)) s) p
      ∙ splice_in d at b (total (take i ws) + j) s (omega arith) (omega arith)
      ∙ ap (splice d at) (field_splice q i j s z g o)

  -- a gap that is moved down
  pub move_field : (i o w m : ℕ) (a : List ℕ) {e₁ : List ℕ} → i < length l → get_or l i [] ≡ opening a (o + w) w m → length a ≡ get_or ws i 0 → o + w + w + m ≤ length a → total (take i ws) + length a ≤ total ws + length z
      → e₁ ≡ splice e (at + (total (take i ws) + (o + w))) (part e (at + (total (take i ws) + o)) w) → e₁ ≡ splice d at (joined_parts (set l i (opening a o w (w + m))) z)
  move_field i o w m a g f la k y r =
      let c = get_or l i [] in
      let lc : length (part a (o + w) m) ≡ m = length_part a (o + w) m (omega arith) in
      let ld : length (opening a (o + w) w m) ≡ length a = length_splice a (o + w + w) (part a (o + w) m) (omega arith) in
      let lp : length (part c o w) ≡ w = ap (λ (x : List ℕ). length (part x o w)) f ∙ length_part (opening a (o + w) w m) o w (omega arith) in
      write_field i (o + w) (part c o w) g (omega arith) (omega arith) (r ∙ ap (splice e (at + (total (take i ws) + (o + w)))) (read_field i o w g (omega arith) (omega arith)))
      ∙ ap (λ (x : List ℕ). splice d at (joined_parts (set l i (splice x (o + w) (part x o w))) z)) f
      ∙ ap (λ (x : List ℕ). splice d at (joined_parts (set l i x) z)) (gap_turn a o w m k)

-- ---- the fields of a slot

pub gap_length : (a : List ℕ) (o w m : ℕ) → o + w + m ≤ length a → length (opening a o w m) ≡ length a
gap_length a o w m h =
    let l : length (part a o m) ≡ m = length_part a o m (omega arith) in
    length_splice a (o + w) (part a o m) (omega arith)

pub slot_sized : (h k w y : List ℕ) → length h ≡ 16 → length k ≡ 24 → length w ≡ 192 → length y ≡ 16 → Sized (h ∷ k ∷ w ∷ y ∷ []) (16 ∷ 24 ∷ 192 ∷ 16 ∷ [])
slot_sized h k w y p q r s = field p (field q (field r (field s end)))

gap_none : (a : List ℕ) (o w m : ℕ) → m ≡ 0 → opening a o w m ≡ a
gap_none a o w m e = ap (opening a o w) e ∙ splice_none a (o + w)

-- none yet
pub opened_none : (d : List ℕ) (at n : ℕ) → at + 256 ≤ length d → splice d at (opened (part d at 256) n n) ≡ d
opened_none d at n h =
    let b = part d at 256 in
    let z : n - n ≡ 0 = omega arith in
    let y : (n - n) * 8 ≡ 0 = omega arith in
    let c : part b 0 256 ≡ part b 0 16 ++ (part b 16 24 ++ (part b 40 192 ++ (part b 232 16 ++ part b 248 8))) =
    part_add b 0 16 240
    ∙ ap (λ (r : List ℕ). part b 0 16 ++ r) (part_add b 16 24 216 ∙ ap (λ (r : List ℕ). part b 16 24 ++ r) (part_add b 40 192 24 ∙ ap (λ (r : List ℕ). part b 40 192 ++ r) (part_add b 232 16 8))) in
    let f : joined_parts (part b 0 16 ∷ part b 16 24 ∷ part b 40 192 ∷ part b 232 16 ∷ []) (part b 248 8) ≡ b = sym c ∙ part_part d at 256 0 256 (omega arith) ∙ ap (λ (i : ℕ). part d i 256) (add-zero at) in
    ap₂ (λ (x y : List ℕ). splice d at (joined_parts (part b 0 16 ∷ x ∷ y ∷ opening (part b 232 16) n 1 (n - n) ∷ []) (part b 248 8))) (gap_none (part b 16 24) n 1 (n - n) z) (gap_none (part b 40 192) (n * 8) 8 ((n - n) * 8) y)
    ∙ ap (λ (x : List ℕ). splice d at (joined_parts (part b 0 16 ∷ part b 16 24 ∷ part b 40 192 ∷ x ∷ []) (part b 248 8))) (gap_none (part b 232 16) n 1 (n - n) z)
    ∙ ap (splice d at) f
    ∙ splice_part d at 256 h

module _ (d : List ℕ) (at j n : ℕ) (h : at + 256 ≤ length d) (l : n < 16) where
  pub opened_length : j ≤ n → length (opened (part d at 256) j n) ≡ 256
  opened_length g =
      let b = part d at 256 in
      let lb : length b ≡ 256 = length_part d at 256 h in
      let lk : length (part b 16 24) ≡ 24 = length_part b 16 24 (omega arith) in
      let lw : length (part b 40 192) ≡ 192 = length_part b 40 192 (omega arith) in
      let ly : length (part b 232 16) ≡ 16 = length_part b 232 16 (omega arith) in
      let q = slot_sized (part b 0 16) (opening (part b 16 24) j 1 (n - j)) (opening (part b 40 192) (j * 8) 8 ((n - j) * 8)) (opening (part b 232 16) j 1 (n - j)) (length_part b 0 16 (omega arith)) (gap_length (part b 16 24) j 1 (n - j) (omega arith) ∙ lk) (gap_length (part b 40 192) (j * 8) 8 ((n - j) * 8) (omega arith) ∙ lw) (gap_length (part b 232 16) j 1 (n - j) (omega arith) ∙ ly) in
      length_joined q (part b 248 8) ∙ ap (λ (x : ℕ). 248 + x) (length_part b 248 8 (omega arith))

  pub open_length : {e : List ℕ} → j ≤ n → e ≡ splice d at (opened (part d at 256) j n) → length e ≡ length d
  open_length g p = let lo = opened_length g in ap length p ∙ length_splice d at (opened (part d at 256) j n) (omega arith)

  -- a turn of `open_entry`: entry j becomes entry j + 1
  pub open_turn : {e e₁ e₂ e₃ : List ℕ} → j < n → e ≡ splice d at (opened (part d at 256) (j + 1) n) → length e ≡ length d
      → e₁ ≡ splice e (at + (48 + j * 8)) (part e (at + (40 + j * 8)) 8) → e₂ ≡ set e₁ (at + (17 + j)) (get_or e₁ (at + (16 + j)) 0) → e₃ ≡ set e₂ (at + (233 + j)) (get_or e₂ (at + (232 + j)) 0)
      → e₃ ≡ splice d at (opened (part d at 256) j n)
  open_turn {e} {e₁} {e₂} {e₃} g p le p₁ p₂ p₃ =
      let b = part d at 256 in
      let m = n - (j + 1) in
      let k = part b 16 24 in
      let w = part b 40 192 in
      let y = part b 232 16 in
      let z = part b 248 8 in
      let lb : length b ≡ 256 = length_part d at 256 h in
      let lh : length (part b 0 16) ≡ 16 = length_part b 0 16 (omega arith) in
      let lk : length k ≡ 24 = length_part b 16 24 (omega arith) in
      let lw : length w ≡ 192 = length_part b 40 192 (omega arith) in
      let ly : length y ≡ 16 = length_part b 232 16 (omega arith) in
      let lz : length z ≡ 8 = length_part b 248 8 (omega arith) in
      let gk = gap_length k (j + 1) 1 m (omega arith) ∙ lk in
      let gw = gap_length w (j * 8 + 8) 8 (m * 8) (omega arith) ∙ lw in
      let gy = gap_length y (j + 1) 1 m (omega arith) ∙ ly in
      let gk₁ = gap_length k j 1 (1 + m) (omega arith) ∙ lk in
      let gw₁ = gap_length w (j * 8) 8 (8 + m * 8) (omega arith) ∙ lw in
      let o : (j + 1) * 8 ≡ j * 8 + 8 = omega arith in
      let o₁ : 40 + (j * 8 + 8) ≡ 48 + j * 8 = omega arith in
      let o₂ : 16 + (j + 1) ≡ 17 + j = omega arith in
      let o₃ : 232 + (j + 1) ≡ 233 + j = omega arith in
      let u : 1 + m ≡ n - j = omega arith in
      let v : 8 + m * 8 ≡ (n - j) * 8 = omega arith in
      let l₁ : length (part e (at + (40 + j * 8)) 8) ≡ 8 = length_part e (at + (40 + j * 8)) 8 (omega arith) in
      let le₁ : length e₁ ≡ length d = ap length p₁ ∙ length_splice e (at + (48 + j * 8)) (part e (at + (40 + j * 8)) 8) (omega arith) ∙ le in
      let le₂ : length e₂ ≡ length d = ap length p₂ ∙ length-set e₁ (at + (17 + j)) (get_or e₁ (at + (16 + j)) 0) ∙ le₁ in
      let q₀ : e ≡ splice d at (joined_parts (part b 0 16 ∷ opening k (j + 1) 1 m ∷ opening w (j * 8 + 8) 8 (m * 8) ∷ opening y (j + 1) 1 m ∷ []) z) =
      p ∙ ap (λ (x : ℕ). splice d at (joined_parts (part b 0 16 ∷ opening k (j + 1) 1 m ∷ opening w x 8 (m * 8) ∷ opening y (j + 1) 1 m ∷ []) z)) o in
      let q₁ : e₁ ≡ splice d at (joined_parts (part b 0 16 ∷ opening k (j + 1) 1 m ∷ opening w (j * 8) 8 (8 + m * 8) ∷ opening y (j + 1) 1 m ∷ []) z) =
      move_field d at (slot_sized (part b 0 16) (opening k (j + 1) 1 m) (opening w (j * 8 + 8) 8 (m * 8)) (opening y (j + 1) 1 m) lh gk gw gy) z (omega arith) q₀ 2 (j * 8) 8 (m * 8) w (omega arith) refl lw (omega arith) (omega arith)
      (p₁ ∙ ap (λ (x : ℕ). splice e (at + x) (part e (at + (40 + j * 8)) 8)) (sym o₁)) in
      let q₂ : e₂ ≡ splice d at (joined_parts (part b 0 16 ∷ opening k j 1 (1 + m) ∷ opening w (j * 8) 8 (8 + m * 8) ∷ opening y (j + 1) 1 m ∷ []) z) =
      move_field d at (slot_sized (part b 0 16) (opening k (j + 1) 1 m) (opening w (j * 8) 8 (8 + m * 8)) (opening y (j + 1) 1 m) lh gk gw₁ gy) z (omega arith) q₁ 1 j 1 m k (omega arith) refl lk (omega arith) (omega arith)
      (p₂ ∙ set_part e₁ (at + (16 + j)) (at + (17 + j)) (omega arith) (omega arith) ∙ ap (λ (x : ℕ). splice e₁ (at + x) (part e₁ (at + (16 + j)) 1)) (sym o₂)) in
      let q₃ : e₃ ≡ splice d at (joined_parts (part b 0 16 ∷ opening k j 1 (1 + m) ∷ opening w (j * 8) 8 (8 + m * 8) ∷ opening y j 1 (1 + m) ∷ []) z) =
      move_field d at (slot_sized (part b 0 16) (opening k j 1 (1 + m)) (opening w (j * 8) 8 (8 + m * 8)) (opening y (j + 1) 1 m) lh gk₁ gw₁ gy) z (omega arith) q₂ 3 j 1 m y (omega arith) refl ly (omega arith) (omega arith)
      (p₃ ∙ set_part e₂ (at + (232 + j)) (at + (233 + j)) (omega arith) (omega arith) ∙ ap (λ (x : ℕ). splice e₂ (at + x) (part e₂ (at + (232 + j)) 1)) (sym o₃)) in
      q₃ ∙ ap₂ (λ (x t : ℕ). splice d at (joined_parts (part b 0 16 ∷ opening k j 1 x ∷ opening w (j * 8) 8 t ∷ opening y j 1 x ∷ []) z)) u v
