-- The entries of a table's slot: the value of a key is found by a walk over the keys.
use Rattle.std.specs.Prelude.{◌≡◌, refl, false, List, [], ◌∷◌, ℕ, zero, suc, ◌+◌, ◌≤◌, ◌<◌, eqb, length, get_or, drop}
use Rattle.std.proofs.Common.{sym, ap, ap₂, ◌∙◌, not-suc-le-zero, le_of_suc-le-suc, add-one, arith, get_or-drop, ne_eqb}
use Rattle.lent.specs.Bytes.{part}
use Rattle.lent.specs.laws.Parts.{get_d_part}
use Rattle.sifv.specs.Value.{Single, Null, Entry, entry, lookup}
use Rattle.sifv.specs.Slot.{entries_of, contents}
use Rattle.sifv.specs.inner.Seen.{found, slot_item, entries_in}
use Rattle.sifv.specs.laws.Laws.{length_singles, length_entries}
use Rattle.sifv.specs.laws.Items.{contents_item}
use Rattle.sifv.specs.laws.Places.{place_here, place_on, place_end, key_past, key_here}
use Rattle.sifv.specs.declared.SifVal.TheVariants.{Empty}
use Rattle.sifv.specs.inner.Forms.{place, key_there}

entries_step : (ks : List ℕ) (l : List Single) (i : ℕ) → i < length l → drop i (entries_of ks l) ≡ entry (get_or ks i 0) (get_or l i Null) ∷ drop (suc i) (entries_of ks l)
entries_step ks [] i h = absurd (not-suc-le-zero h)
entries_step ks (x ∷ l) zero h = refl
entries_step ks (x ∷ l) (suc i) h =
    let e : 1 + i ≡ suc i = omega arith in
    entries_step (drop 1 ks) l i (le_of_suc-le-suc h)
    ∙ ap (λ (k : ℕ). entry k (get_or l i Null) ∷ drop (suc i) (entries_of (drop 1 ks) l)) (get_or-drop 1 ks i 0 ∙ ap (λ (k : ℕ). get_or ks k 0) e)

entries_end : (ks : List ℕ) (l : List Single) (i : ℕ) → length l ≤ i → drop i (entries_of ks l) ≡ []
entries_end ks [] zero h = refl
entries_end ks [] (suc i) h = refl
entries_end ks (x ∷ l) zero h = absurd (not-suc-le-zero h)
entries_end ks (x ∷ l) (suc i) h = entries_end (drop 1 ks) l i (le_of_suc-le-suc h)

-- entry i of a slot's bytes
pub entry_in : (b : List ℕ) (n i : ℕ) → n ≤ 16 → i < n → drop i (entries_in n b) ≡ entry (get_or b (232 + i) 0) (slot_item b i) ∷ drop (suc i) (entries_in n b)
entry_in b n i g h =
    let l = contents n b in
    let m : length l ≡ n = length_singles n (part b 16 24) (part b 40 192) in
    entries_step (part b 232 16) l i (omega arith)
    ∙ ap₂ (λ (x : ℕ) (y : Single). entry x y ∷ drop (suc i) (entries_in n b)) (get_d_part b 232 16 i 0 (omega arith)) (contents_item n i b Null h (omega arith))

-- of a slot in a list, with j as its key
pub entry_at : (s : List ℕ) (at n i : ℕ) {j : ℕ} → n ≤ 16 → i < n → j ≡ get_or s (at + (232 + i)) 0
    → drop i (entries_in n (part s at 256)) ≡ entry j (slot_item (part s at 256) i) ∷ drop (suc i) (entries_in n (part s at 256))
entry_at s at n i g h f =
    let b = part s at 256 in
    entry_in b n i g h ∙ ap (λ (x : ℕ). entry x (slot_item b i) ∷ drop (suc i) (entries_in n b)) (get_d_part s at 256 (232 + i) 0 (omega arith) ∙ sym f)

pub entries_past : (n i : ℕ) (b : List ℕ) → n ≤ i → drop i (entries_in n b) ≡ []
entries_past n i b h =
    let l = contents n b in
    let m : length l ≡ n = length_singles n (part b 16 24) (part b 40 192) in
    entries_end (part b 232 16) l i (omega arith)

-- a turn of the walk: j is key i
module _ (s : List ℕ) (at n i k j : ℕ) (g : n ≤ 16) (e : lookup (entries_in n (part s at 256)) k ≡ lookup (drop i (entries_in n (part s at 256))) k) where
  step : i < n → j ≡ get_or s (at + (232 + i)) 0 → drop i (entries_in n (part s at 256)) ≡ entry j (slot_item (part s at 256) i) ∷ drop (suc i) (entries_in n (part s at 256))
  step h f = entry_at s at n i g h f

  pub key_other : i < n → j ≡ get_or s (at + (232 + i)) 0 → (j ≡ k → ⊥) → lookup (entries_in n (part s at 256)) k ≡ lookup (drop (i + 1) (entries_in n (part s at 256))) k
  key_other h f z = e ∙ ap (λ (t : List Entry). lookup t k) (step h f) ∙ rw (ne_eqb j k z, add-one i)

  pub key_none : n ≤ i → Empty ≡ found (lookup (entries_in n (part s at 256)) k)
  key_none h = sym (ap found (e ∙ ap (λ (t : List Entry). lookup t k) (entries_past n i (part s at 256) h)))

-- ---- a key's place

module _ (s : List ℕ) (at n i k : ℕ) (g : n ≤ 16) where
  module _ (e : place (entries_in n (part s at 256)) k ≡ i + place (drop i (entries_in n (part s at 256))) k) where
    module _ {j : ℕ} (h : i < n) (f : j ≡ get_or s (at + (232 + i)) 0) where
      pub place_found : k ≤ j → i ≡ place (entries_in n (part s at 256)) k
      place_found l = place_here (entries_in n (part s at 256)) (drop (suc i) (entries_in n (part s at 256))) i j k (slot_item (part s at 256) i) e (entry_at s at n i g h f) l

      pub place_turn : j < k → place (entries_in n (part s at 256)) k ≡ i + 1 + place (drop (i + 1) (entries_in n (part s at 256))) k
      place_turn l =
          place_on (entries_in n (part s at 256)) (drop (suc i) (entries_in n (part s at 256))) i j k (slot_item (part s at 256) i) e (entry_at s at n i g h f) l
          (ap (λ (x : ℕ). drop x (entries_in n (part s at 256))) (sym (add-one i)))

    pub place_none : n ≤ i → i ≡ place (entries_in n (part s at 256)) k
    place_none h = place_end (entries_in n (part s at 256)) i k e (entries_past n i (part s at 256) h)

  -- and whether it is there
  module _ (e : i ≡ place (entries_in n (part s at 256)) k) where
    pub has_none : n ≤ i → false ≡ key_there (entries_in n (part s at 256)) k
    has_none h =
        let b = part s at 256 in
        let l = contents n b in
        let m : length (entries_in n b) ≡ n = length_entries (part b 232 16) l ∙ length_singles n (part b 16 24) (part b 40 192) in
        sym (key_past (entries_in n b) k (omega arith))

    pub has_this : {j : ℕ} → i < n → j ≡ get_or s (at + (232 + i)) 0 → eqb k j ≡ key_there (entries_in n (part s at 256)) k
    has_this {j} h f =
        let t = entries_in n (part s at 256) in
        sym (key_here t (drop (suc i) t) j k (slot_item (part s at 256) i) (ap (λ (x : ℕ). drop x t) (sym e) ∙ entry_at s at n i g h f))
