-- Steps through the pool.
use Rattle.std.proofs.Common.{◌≡◌, ℕ, suc, ◌+◌, ◌-◌, ◌<◌, ◌≤◌, Bool, true, false, cond, Some, None, ◌&&◌, ◌||◌, eqb, leb, ◌⊎◌, inl, inr, ⊎_elim, List, sym, refl, ap, ◌∙◌, add-one, arith, leb-true}
use Rattle.std.specs.Prelude.{⊤, Option}
use Rattle.sifv.specs.laws.Layout.{and_left, and_right}
use Rattle.opc.specs.Record.{Fields}
use Rattle.records.specs.inner.Fits.{all_from, entry_ok, span_fits, entries_fit, is_literal, is_array, pooled, taken, pool_fits}
use Rattle.opc.specs.inner.Fetch.{record_at}

pub span_ends : (most n w p : ℕ) → span_fits most n w p ≡ true → p + n ≤ 1024
span_ends most n w p e =
    leb-true (p + n) 1024 (and_right (eqb w p) (leb (p + n) 1024) (and_right (leb n most) (eqb w p && leb (p + n) 1024) e))

-- an operation that has no entries
pub none_pooled : (o k : ℕ) → (is_literal o || eqb o 16) ≡ false → (is_array o k ≡ false) × (eqb o 16 ≡ false)
none_pooled o k = by_test (is_literal o) (eqb o 16)
  where
    by_test : (s t : Bool) → (s || t) ≡ false → ((s && eqb k 5) ≡ false) × (t ≡ false)
    by_test true t e = let z : ◌≡◌ {A = ℕ} 0 1 = cc in absurd (omega arith)
    by_test false t e = (refl, e)

-- entries that fit end within the pool, or there are none
behind : (b : List ℕ) (f : Fields) (p : ℕ) → pooled f p b ≡ true → (p + taken f ≤ 1024) ⊎ (taken f ≡ 0)
behind b f p = by_test (is_array f.code f.kind) (eqb f.code 16)
  where
    of : (most lo hi : ℕ) → entries_fit most lo hi f p b ≡ true → p + f.len ≤ 1024
    of most lo hi e = span_ends most f.len f.word p (and_left (span_fits most f.len f.word p) (all_from f.len p (entry_ok lo hi b)) e)

    by_test : (s t : Bool) → cond s (entries_fit 24 1 4 f p b) (cond t (entries_fit 255 2 2 f p b) true) ≡ true → (p + cond s f.len (cond t f.len 0) ≤ 1024) ⊎ (cond s f.len (cond t f.len 0) ≡ 0)
    by_test true t e = inl (of 24 1 4 e)
    by_test false true e = inl (of 255 2 2 e)
    by_test false false e = inr refl

-- so from a place within the pool they end within it
pub ends : (b : List ℕ) (f : Fields) (p : ℕ) → p ≤ 1024 → pooled f p b ≡ true → p + taken f ≤ 1024
ends b f p h e = ⊎_elim (λ x. x) (λ x. omega arith) (behind b f p e)

-- a record further
pub pool_turn : (b : List ℕ) (n i p : ℕ) {w : Bool} → i < n → w ≡ pool_fits (n - i) i p b → w ≡ (pooled (record_at b i) p b && pool_fits (n - (i + 1)) (i + 1) (p + taken (record_at b i)) b)
pool_turn b n i p h e =
    let k : n - i ≡ suc (n - (i + 1)) = omega arith in
    e ∙ ap (λ (m : ℕ). pool_fits m i p b) k ∙ ap (λ (j : ℕ). pooled (record_at b i) p b && pool_fits (n - (i + 1)) j (p + taken (record_at b i)) b) (sym (add-one i))

-- what the records so far leave: where the entries of the others have to begin, within the pool, or none, where some did not fit
abbrev pub inside : Option ℕ → Type 0
inside None = ⊤
inside (Some p) = p ≤ 1024

abbrev pub fits_left : List ℕ → ℕ → ℕ → Option ℕ → Bool
fits_left b m i None = false
fits_left b m i (Some p) = pool_fits m i p b

-- a record further, from what those before it leave
pub fits_further : (b : List ℕ) (n i p : ℕ) {w : Bool} {q : Option ℕ} → i < n → p ≤ 1024 → w ≡ pool_fits (n - i) i p b
    → q ≡ cond (pooled (record_at b i) p b) (Some (p + taken (record_at b i))) None → inside q × (w ≡ fits_left b (n - (i + 1)) (i + 1) q)
fits_further b n i p {w} {q} h l e g = by_test (pooled (record_at b i) p b) refl (pool_turn b n i p h e) g
  where
    by_test : (t : Bool) → pooled (record_at b i) p b ≡ t → w ≡ (t && pool_fits (n - (i + 1)) (i + 1) (p + taken (record_at b i)) b)
        → q ≡ cond t (Some (p + taken (record_at b i))) None → inside q × (w ≡ fits_left b (n - (i + 1)) (i + 1) q)
    by_test true s f g = rw g (ends b (record_at b i) p l s, f)
    by_test false s f g = rw g (tt, f)
