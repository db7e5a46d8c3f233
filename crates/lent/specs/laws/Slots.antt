-- Slots of one size in a list: the i-th slot, a slot that is written anew, from a list to its slots and back.
use Rattle.std.specs.Prelude.{◌≡◌, refl, List, [], ◌∷◌, ◌++◌, map, ℕ, zero, suc, ◌+◌, ◌*◌, ◌-◌, ◌≤◌, ◌<◌, length, take, drop, get_or, set, replicate}
use Rattle.std.proofs.Common.{sym, ap, ap₂, ◌∙◌, append_assoc, not-suc-le-zero, le_of_suc-le-suc, zero-mul, suc-mul, add_comm, mul-le-mul_right, arith, length-append, length-drop, take-append-drop, take_at, drop_at, length-take-le}
use Rattle.std.proofs.lemmas.List.{replicate-append-replicate}
use Rattle.lent.specs.Bytes.{part, splice, slots, concat, Each, none, more}
use Rattle.lent.specs.laws.Parts.{part_append_right, splice_append_right, splice_drop, take_splice}

-- each list has w elements
abbrev pub Wide : ℕ → List (List ℕ) → Type 0
Wide w = Each (λ (a : List ℕ). length a ≡ w)

-- slot i ends where slot n begins, or before
pub slot_end : (w n i : ℕ) → i < n → i * w + w ≤ n * w
slot_end w n i h = omega (arith, suc-mul i w, mul-le-mul_right w h)

-- ---- slots one after the other

pub length_concat : (w : ℕ) {l : List (List ℕ)} → Wide w l → length (concat l) ≡ length l * w
length_concat w none = sym (zero-mul w)
length_concat w (more {a = a} {l = l} e h) =
    length-append a (concat l) ∙ ap₂ (λ (x y : ℕ). x + y) e (length_concat w h) ∙ add_comm w (length l * w) ∙ sym (suc-mul (length l) w)

pub concat_append : (a b : List (List ℕ)) → concat (a ++ b) ≡ concat a ++ concat b
concat_append [] b = refl
concat_append (x ∷ a) b = rw (concat_append a b) (simp append_assoc)

-- slot i of the concatenation is the i-th element
pub part_concat : (w : ℕ) {l : List (List ℕ)} (i : ℕ) → Wide w l → i < length l → part (concat l) (i * w) w ≡ get_or l i []
part_concat w i none h = absurd (not-suc-le-zero h)
part_concat w zero (more {a = a} {l = l} e k) h = rw (zero-mul w) (take_at a (concat l) w e)
part_concat w (suc i) (more {a = a} {l = l} e k) h =
    ap (λ (x : ℕ). part (a ++ concat l) x w) (suc-mul i w ∙ add_comm (i * w) w ∙ ap (λ (x : ℕ). x + i * w) (sym e))
    ∙ part_append_right a (concat l) (i * w) w
    ∙ part_concat w i k (le_of_suc-le-suc h)

-- a slot that is written anew
pub splice_concat : (w : ℕ) {l : List (List ℕ)} (i : ℕ) (b : List ℕ) → Wide w l → i < length l → length b ≡ w
    → splice (concat l) (i * w) b ≡ concat (set l i b)
splice_concat w i b none h f = absurd (not-suc-le-zero h)
splice_concat w zero b (more {a = a} {l = l} e k) h f =
    rw (zero-mul w) (ap (λ (r : List ℕ). b ++ r) (drop_at a (concat l) (length b) (e ∙ sym f)))
splice_concat w (suc i) b (more {a = a} {l = l} e k) h f =
    ap (λ (x : ℕ). splice (a ++ concat l) x b) (suc-mul i w ∙ add_comm (i * w) w ∙ ap (λ (x : ℕ). x + i * w) (sym e))
    ∙ splice_append_right a (concat l) (i * w) b
    ∙ ap (λ (r : List ℕ). a ++ r) (splice_concat w i b k (le_of_suc-le-suc h) f)

-- slots of one filler
pub concat_replicate : (w n x : ℕ) → concat (replicate n (replicate w x)) ≡ replicate (n * w) x
concat_replicate w zero x = rw (zero-mul w)
concat_replicate w (suc n) x =
    ap (λ (r : List ℕ). replicate w x ++ r) (concat_replicate w n x)
    ∙ replicate-append-replicate w (n * w) x
    ∙ ap (λ (k : ℕ). replicate k x) (add_comm w (n * w) ∙ sym (suc-mul n w))

-- ---- the slots of a list

pub length_slots : (w n : ℕ) (s : List ℕ) → length (slots w n s) ≡ n
length_slots w zero s = refl
length_slots w (suc n) s = ap suc (length_slots w n (drop w s))

pub slots_wide : (w n : ℕ) (s : List ℕ) → n * w ≤ length s → Wide w (slots w n s)
slots_wide w zero s h = none
slots_wide w (suc n) s h =
    let k : n * w + w ≤ length s = rw suc-mul at h in
    more (length-take-le w s (omega arith)) (slots_wide w n (drop w s) (simp length-drop (omega arith)))

-- the slots after one of them is written anew
pub slots_splice : (w n i : ℕ) (s b : List ℕ) → i < n → length b ≡ w → n * w ≤ length s
    → slots w n (splice s (i * w) b) ≡ set (slots w n s) i b
slots_splice w zero i s b h e l = absurd (not-suc-le-zero h)
slots_splice w (suc n) zero s b h e l =
    rw (zero-mul w, take_at b (drop (length b) s) w e, drop_at b (drop (length b) s) w e, e)
slots_splice w (suc n) (suc i) s b h e l =
    let k : n * w + w ≤ length s = rw suc-mul at l in
    let p : suc i * w ≡ w + i * w = suc-mul i w ∙ add_comm (i * w) w in
    let q : i * w + w ≤ n * w = slot_end w n i (le_of_suc-le-suc h) in
    rw p
    (ap₂ (λ (x : List ℕ) (y : List (List ℕ)). x ∷ y)
    (take_splice s (w + i * w) b w (omega arith) (omega arith))
    (ap (slots w n) (splice_drop w s (i * w) b (omega arith))
    ∙ slots_splice w n i (drop w s) b (le_of_suc-le-suc h) e (simp length-drop (omega arith))))

-- what is written behind the slots does not touch them
pub slots_splice_behind : (w n at : ℕ) (s b : List ℕ) → n * w ≤ at → at ≤ length s → slots w n (splice s at b) ≡ slots w n s
slots_splice_behind w zero at s b h l = refl
slots_splice_behind w (suc n) at s b h l =
    let k : n * w + w ≤ at = rw suc-mul at h in
    let p : at ≡ w + (at - w) = omega arith in
    ap₂ (λ (x : List ℕ) (y : List (List ℕ)). x ∷ y)
    (take_splice s at b w (omega arith) l)
    (ap (λ (x : ℕ). slots w n (drop w (splice s x b))) p
    ∙ ap (slots w n) (splice_drop w s (at - w) b (omega arith))
    ∙ slots_splice_behind w n (at - w) (drop w s) b (omega arith) (simp length-drop (omega arith)))

-- ---- from a list to its slots and back

pub concat_slots : (w n : ℕ) (s : List ℕ) → length s ≡ n * w → concat (slots w n s) ≡ s
concat_slots w zero [] e = refl
concat_slots w zero (x ∷ s) e = absurd (omega (arith, zero-mul w))
concat_slots w (suc n) s e =
    let k : length s ≡ n * w + w = e ∙ suc-mul n w in
    ap (λ (r : List ℕ). take w s ++ r) (concat_slots w n (drop w s) (simp length-drop (omega arith))) ∙ take-append-drop w s

pub slots_concat : (w : ℕ) {l : List (List ℕ)} → Wide w l → slots w (length l) (concat l) ≡ l
slots_concat w none = refl
slots_concat w (more {a = a} {l = l} e h) =
    ap₂ (λ (x : List ℕ) (y : List (List ℕ)). x ∷ y)
    (take_at a (concat l) w e)
    (ap (slots w (length l)) (drop_at a (concat l) w e) ∙ slots_concat w h)

-- ---- what is read from the slots

pub map_set {ℓ κ} : {A : Type ℓ} {B : Type κ} (f : A → B) (l : List A) (i : ℕ) (a : A) → map f (set l i a) ≡ set (map f l) i (f a)
map_set f [] i a = refl
map_set f (x ∷ l) zero a = refl
map_set {B = B} f (x ∷ l) (suc i) a = ap (λ (r : List B). f x ∷ r) (map_set f l i a)
