-- Where a key is, or goes, in a table: `insert` by that place.
use Rattle.std.specs.Prelude.{◌≡◌, refl, Bool, true, false, cond, ◌&&◌, List, [], ◌∷◌, ◌++◌, ℕ, suc, ◌+◌, ◌≤◌, ◌<◌, leb, ltb, eqb, length, get_or, take, drop, set}
use Rattle.std.proofs.Common.{sym, ap, ◌∙◌, not-suc-le-zero, le_of_suc-le-suc, arith, leb-true, leb-false, lt-ltb, le-ltb, le-leb, eq-eqb, ne_eqb, eqb-true}
use Rattle.std.proofs.Math.Option.{none, some}
use Rattle.std.proofs.lemmas.Bool.{lt-leb, eqb-false}
use Rattle.sifv.specs.Value.{Single, Entry, entry, lookup, insert}
use Rattle.sifv.specs.Slot.{key, value, single_ok, entries_ok}
use Rattle.sifv.specs.laws.Layout.{and_left, and_right}
use Rattle.sifv.specs.inner.Forms.{key_there, place}

pub insert_open : (t : List Entry) (k : ℕ) (s : Single) → key_there t k ≡ false → insert t k s ≡ take (place t k) t ++ (entry k s ∷ drop (place t k) t)
insert_open [] k s h = refl
insert_open (entry j w ∷ t) k s h = by_test (leb k j) refl h (insert_open t k s)
  where
    by_test : (b : Bool) → leb k j ≡ b → cond b (eqb k j) (key_there t k) ≡ false → (key_there t k ≡ false → insert t k s ≡ take (place t k) t ++ (entry k s ∷ drop (place t k) t))
        → insert (entry j w ∷ t) k s ≡ take (cond b 0 (suc (place t k))) (entry j w ∷ t) ++ (entry k s ∷ drop (cond b 0 (suc (place t k))) (entry j w ∷ t))
    by_test true e q r = rw (lt-ltb k j (omega (arith, leb-true k j e, eqb-false k j q)))
    by_test false e q r =
        let g = leb-false k j e in
        rw (le-ltb k j (omega arith), ne_eqb k j (λ z. omega arith)) (ap (λ (l : List Entry). entry j w ∷ l) (r q))

pub insert_set : (t : List Entry) (k : ℕ) (s : Single) → key_there t k ≡ true → insert t k s ≡ set t (place t k) (entry k s)
insert_set [] k s h = let z : ◌≡◌ {A = ℕ} 0 1 = cc in absurd (omega arith)
insert_set (entry j w ∷ t) k s h = by_test (leb k j) refl h (insert_set t k s)
  where
    by_test : (b : Bool) → leb k j ≡ b → cond b (eqb k j) (key_there t k) ≡ true → (key_there t k ≡ true → insert t k s ≡ set t (place t k) (entry k s))
        → insert (entry j w ∷ t) k s ≡ set (entry j w ∷ t) (cond b 0 (suc (place t k))) (entry k s)
    by_test true e q r = let z = eqb-true k j q in rw (le-ltb k j (omega arith), q)
    by_test false e q r =
        let g = leb-false k j e in
        rw (le-ltb k j (omega arith), ne_eqb k j (λ z. omega arith)) (ap (λ (l : List Entry). entry j w ∷ l) (r q))

-- ---- a place is found by a walk over the keys

pub place_le : (t : List Entry) (k : ℕ) → place t k ≤ length t
place_le [] k = omega arith
place_le (entry j w ∷ t) k = by_test (leb k j) (place_le t k)
  where
    by_test : (b : Bool) → place t k ≤ length t → cond b 0 (suc (place t k)) ≤ suc (length t)
    by_test true h = omega arith
    by_test false h = omega arith

-- a turn: the entry at i is j
module _ (t u : List Entry) (i j k : ℕ) (w : Single) (e : place t k ≡ i + place (drop i t) k) (f : drop i t ≡ entry j w ∷ u) where
  pub place_here : k ≤ j → i ≡ place t k
  place_here h =
      let z : place (drop i t) k ≡ 0 = ap (λ (r : List Entry). place r k) f ∙ rw (le-leb k j h) in
      omega arith

  pub place_on : j < k → u ≡ drop (i + 1) t → place t k ≡ i + 1 + place (drop (i + 1) t) k
  place_on h g =
      let z : place (drop i t) k ≡ suc (place (drop (i + 1) t) k) = ap (λ (r : List Entry). place r k) f ∙ rw (lt-leb k j h) (ap (λ (r : List Entry). suc (place r k)) g) in
      omega arith

pub place_end : (t : List Entry) (i k : ℕ) → place t k ≡ i + place (drop i t) k → drop i t ≡ [] → i ≡ place t k
place_end t i k e f =
    let z : place (drop i t) k ≡ 0 = ap (λ (r : List Entry). place r k) f in
    omega arith

-- ---- whether the key is there

pub key_past : (t : List Entry) (k : ℕ) → length t ≤ place t k → key_there t k ≡ false
key_past [] k h = refl
key_past (entry j w ∷ t) k h = by_test (leb k j) h (key_past t k)
  where
    by_test : (b : Bool) → suc (length t) ≤ cond b 0 (suc (place t k)) → (length t ≤ place t k → key_there t k ≡ false) → cond b (eqb k j) (key_there t k) ≡ false
    by_test true h r = absurd (not-suc-le-zero h)
    by_test false h r = r (le_of_suc-le-suc h)

pub key_here : (t u : List Entry) (j k : ℕ) (w : Single) → drop (place t k) t ≡ entry j w ∷ u → key_there t k ≡ eqb k j
key_here [] u j k w e = let z : ◌≡◌ {A = ℕ} 0 1 = cc in absurd (omega arith)
key_here (entry l v ∷ t) u j k w e = by_test (leb k l) e (key_here t u j k w)
  where
    by_test : (b : Bool) → drop (cond b 0 (suc (place t k))) (entry l v ∷ t) ≡ entry j w ∷ u → (drop (place t k) t ≡ entry j w ∷ u → key_there t k ≡ eqb k j) → cond b (eqb k l) (key_there t k) ≡ eqb k j
    by_test true q r = let z : l ≡ j = cc in ap (eqb k) z
    by_test false q r = r q

-- ---- against `lookup`

-- a key that is there
pub key_found_at : (t : List Entry) (k : ℕ) (d : Entry) → key_there t k ≡ true → (place t k < length t) × (lookup t k ≡ some (value (get_or t (place t k) d))) × (key (get_or t (place t k) d) ≡ k)
key_found_at [] k d h = let z : ◌≡◌ {A = ℕ} 0 1 = cc in absurd (omega arith)
key_found_at (entry j w ∷ t) k d h = by_test (leb k j) refl h (key_found_at t k d)
  where
    by_test : (b : Bool) → leb k j ≡ b → cond b (eqb k j) (key_there t k) ≡ true
        → (key_there t k ≡ true → (place t k < length t) × (lookup t k ≡ some (value (get_or t (place t k) d))) × (key (get_or t (place t k) d) ≡ k))
        → (cond b 0 (suc (place t k)) < suc (length t)) × (cond (eqb j k) (some w) (lookup t k) ≡ some (value (get_or (entry j w ∷ t) (cond b 0 (suc (place t k))) d)))
        × (key (get_or (entry j w ∷ t) (cond b 0 (suc (place t k))) d) ≡ k)
    by_test true e q r = let z = eqb-true k j q in (omega arith, rw (eq-eqb j k (sym z)), sym z)
    by_test false e q r =
        let g = leb-false k j e in
        let s = r q in
        (omega (arith, s.0), rw (ne_eqb j k (λ z. omega arith)) s.1, s.2)

-- keys that ascend from n on have none below
none_below : (t : List Entry) (n k : ℕ) → entries_ok n t ≡ true → k < n → lookup t k ≡ none
none_below [] n k e h = refl
none_below (entry j w ∷ t) n k e h =
    let p = and_right (leb n j) (ltb j 64 && (single_ok w && entries_ok (suc j) t)) e in
    let q = and_right (single_ok w) (entries_ok (suc j) t) (and_right (ltb j 64) (single_ok w && entries_ok (suc j) t) p) in
    let g = leb-true n j (and_left (leb n j) (ltb j 64 && (single_ok w && entries_ok (suc j) t)) e) in
    rw (ne_eqb j k (λ z. omega arith)) (none_below t (suc j) k q (omega arith))

-- a key that is not there, where the keys ascend
pub key_absent : (t : List Entry) (n k : ℕ) → entries_ok n t ≡ true → key_there t k ≡ false → lookup t k ≡ none
key_absent [] n k e h = refl
key_absent (entry j w ∷ t) n k e h = by_test (leb k j) refl h (key_absent t (suc j) k)
  where
    p : entries_ok (suc j) t ≡ true
    p =
        and_right (single_ok w) (entries_ok (suc j) t)
        (and_right (ltb j 64) (single_ok w && entries_ok (suc j) t) (and_right (leb n j) (ltb j 64 && (single_ok w && entries_ok (suc j) t)) e))

    by_test : (b : Bool) → leb k j ≡ b → cond b (eqb k j) (key_there t k) ≡ false → (entries_ok (suc j) t ≡ true → key_there t k ≡ false → lookup t k ≡ none)
        → cond (eqb j k) (some w) (lookup t k) ≡ none
    by_test true q r o =
        let g = leb-true k j q in
        let z = eqb-false k j r in
        rw (ne_eqb j k (λ y. z (sym y))) (none_below t (suc j) k p (omega arith))
    by_test false q r o = let g = leb-false k j q in rw (ne_eqb j k (λ y. omega arith)) (o p r)
