-- A table while it is made: one entry is written, or none, for each record.
use mathlib.Core.Path.{◌≡◌, refl, sym, ap, ap₂, ◌∙◌, subst}
use mathlib.Core.Bool.{Bool, true, false, cond, ◌&&◌}
use mathlib.Core.List.{List}
use Prim.Native.Nat.{ℕ, suc, ◌+◌, ◌-◌, ◌*◌, ◌≤◌, ◌<◌}
use native.Mathlib.Numerals.{add-one}
use native.Mathlib.Omega.{arith}
use lib.Dec.{leb, eqb}
use lib.ListN.{length, get_or, set, length-set}
use lib.Seq.{get_or-set_same, get_or-set_other}
use borrow.Author.Tests.{leb-true, eqb-true, eqb-false}
use Rattle.sifv.specs.laws.Layout.{and_left, and_right}
use Rattle.records.specs.inner.Fits.{all_from, fits_as, record_ok}
use Rattle.records.proofs.Scan.{scan_at}
use Rattle.records.proofs.Places.{first_byte, byte_of}
use Rattle.program.specs.inner.Marked.{lbl_of, name_of, marked}
use Rattle.opc.specs.inner.Fetch.{record_at}

-- ---- one entry

module _ (t : List ℕ) (new : Bool) (k i : ℕ) {u : List ℕ} (e : u ≡ cond new (set t k (i + 2)) t) where
  pub mark_length : length u ≡ length t
  mark_length = ap length e ∙ by_test new
    where
      by_test : (b : Bool) → length (cond b (set t k (i + 2)) t) ≡ length t
      by_test true = length-set t k (i + 2)
      by_test false = refl

  pub mark_at_lem : (new ≡ true → k < length t) → (l : ℕ) → get_or u l 0 ≡ cond (new && eqb k l) (i + 2) (get_or t l 0)
  mark_at_lem h l = ap (λ (v : List ℕ). get_or v l 0) e ∙ by_test new (eqb k l) refl h
    where
      by_test : (b c : Bool) → eqb k l ≡ c → (b ≡ true → k < length t) → get_or (cond b (set t k (i + 2)) t) l 0 ≡ cond (b && c) (i + 2) (get_or t l 0)
      by_test true true q h = subst (λ (j : ℕ). get_or (set t k (i + 2)) j 0 ≡ i + 2) (eqb-true k l q) (get_or-set_same t k (i + 2) 0 (h refl))
      by_test true false q h = get_or-set_other t k l (i + 2) 0 (λ r. eqb-false k l q (sym r))
      by_test false c q h = refl

-- ---- all entries

-- before record i: what is left leads from here where all leads from the beginning
pub record Filling (w : ℕ → Bool) (k : ℕ → ℕ) (size n : ℕ) (t₀ : List ℕ) (i : ℕ) (t : List ℕ) : Type 0 where
  pub sized : length t ≡ size
  pub leads : (l : ℕ) → l < size → marked w k l n 0 (get_or t₀ l 0) ≡ marked w k l (n - i) i (get_or t l 0)

module _ (w : ℕ → Bool) (k : ℕ → ℕ) (size n : ℕ) (t₀ : List ℕ) where
  pub fill_turn : (i : ℕ) (t : List ℕ) {u : List ℕ} (new : Bool) (key : ℕ) → i < n → Filling w k size n t₀ i t → new ≡ w i → key ≡ k i → (new ≡ true → key < size)
      → u ≡ cond new (set t key (i + 2)) t → Filling w k size n t₀ (i + 1) u
  fill_turn i t {u} new key h f a b g e =
      let m : n - i ≡ suc (n - (i + 1)) = omega arith in
      let s : new ≡ true → key < length t = λ q. let r = g q in omega (arith, f.sized) in
      record {
        sized = mark_length t new key i e ∙ f.sized;
        leads = λ l q.
            f.leads l q
            ∙ ap (λ (x : ℕ). marked w k l x i (get_or t l 0)) m
            ∙ ap₂ (λ (x : ℕ) (y : ℕ). marked w k l (n - (i + 1)) x y) (sym (add-one i))
            (ap₂ (λ (x : Bool) (y : ℕ). cond (x && eqb y l) (i + 2) (get_or t l 0)) (sym a) (sym b) ∙ sym (mark_at_lem t new key i e s l));
      }

-- ---- the places are within the tables

module _ (b : List ℕ) (i : ℕ) (h : record_ok b i ≡ true) where
  pub label_small : lbl_of b i ≤ 1023
  label_small = leb-true (lbl_of b i) 1023 (and_left (leb (lbl_of b i) 1023) (fits_as (record_at b i).code (record_at b i)) h)

  pub name_small : (record_at b i).code ≡ 16 → name_of b i ≤ 63
  name_small q =
      let e : fits_as 16 (record_at b i) ≡ true = subst (λ (o : ℕ). fits_as o (record_at b i) ≡ true) q (and_right (leb (lbl_of b i) 1023) (fits_as (record_at b i).code (record_at b i)) h) in
      leb-true (name_of b i) 63 (and_left _ _ (and_left _ _ (and_left _ _ e)))

pub name_within : (b : List ℕ) (n : ℕ) → all_from n 0 (record_ok b) ≡ true → (i : ℕ) → i < n → eqb (get_or b (16 * i) 0) 16 ≡ true → get_or b (16 * i + 4) 0 < 64
name_within b n all i h q =
    let k = scan_at (record_ok b) n 0 all i (omega arith) (omega arith) in
    omega (arith, byte_of b (16 * i) 4 (omega arith), name_small b i k (sym (first_byte b (16 * i)) ∙ eqb-true (get_or b (16 * i) 0) 16 q))
