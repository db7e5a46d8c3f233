-- The stored tables against those of the code: `label_bytes` and `function_bytes`.
use mathlib.Core.Path.{◌≡◌, refl, sym, ap, ap₂, ◌∙◌}
use mathlib.Core.Bool.{Bool, true, false, cond, not, ◌&&◌, and_assoc}
use mathlib.Core.List.{List, [], ◌∷◌, ◌++◌}
use mathlib.Core.Option.{Option, none, some}
use Prim.Native.Nat.{ℕ, zero, suc, ◌+◌, ◌*◌, ◌-◌, ◌≤◌, ◌<◌}
use native.Mathlib.Omega.{arith}
use lib.Dec.{T, ltb, eqb}
use lib.ListN.{length, get_or}
use borrow.Author.Tests.{ltb-true, eqb-true, eqb-false, eq-eqb, ne_eqb, lt-ltb}
use Rattle.lent.specs.Bytes.{be_value, be_bytes, part, same_bytes, concat, AreBytes}
use Rattle.lent.specs.laws.Each.{each_part}
use Rattle.lent.specs.laws.Parts.{length_part, part_add}
use Rattle.lent.specs.laws.Numbers.{be_value_be_bytes, be_bytes_be_value, length_be_bytes}
use Rattle.lent.specs.laws.Same.{eq_same, ne_same, same_append}
use Rattle.opc.specs.Op.{label, op, Code}
use Rattle.tables.specs.Tables.{declares, entered, label_at, declared, function_at}
use Rattle.tables.specs.ProgramBytes.{index_word, label_bytes, function_bytes}
use Rattle.records.specs.inner.Fits.{all_from}
use Rattle.program.specs.inner.Marked.{lbl_of, few_label, name_of, is_fn, enters, marked, label_entry, function_entry, same_table}
use Rattle.records.proofs.Scan.{scan_at, scan_same}
use Rattle.lent.specs.Lists.{zeros, tabulate, each}

-- ---- a table in its bytes

-- two bytes are those of a number, or the numbers differ
same_two : (p : List ℕ) (v : ℕ) → AreBytes p → length p ≡ 2 → v < 65536 → same_bytes p (be_bytes 2 v) ≡ eqb (be_value p + 1) (suc v)
same_two p v h e l = by_test (eqb (be_value p + 1) (suc v)) refl
  where
    by_test : (t : Bool) → eqb (be_value p + 1) (suc v) ≡ t → same_bytes p (be_bytes 2 v) ≡ t
    by_test true q =
        let r : be_value p ≡ v = omega (arith, eqb-true (be_value p + 1) (suc v) q) in
        eq_same p (be_bytes 2 v) (sym (be_bytes_be_value h) ∙ ap₂ (λ (x y : ℕ). be_bytes x y) e r)
    by_test false q = ne_same p (be_bytes 2 v) (λ r. eqb-false (be_value p + 1) (suc v) q (omega (arith, ap be_value r, be_value_be_bytes 2 v l)))

module _ (b : List ℕ) (bytes : AreBytes b) (at : ℕ) (h : ℕ → ℕ) where
  table_from : (n i : ℕ) → at + 2 * (i + n) ≤ length b → ((l : ℕ) → i ≤ l → l < i + n → h l < 65536)
      → same_bytes (part b (at + 2 * i) (2 * n)) (concat (tabulate i n (λ l. be_bytes 2 (h l)))) ≡ all_from n i (λ l. eqb (be_value (part b (at + 2 * l) 2) + 1) (suc (h l)))
  table_from zero i r g = refl
  table_from (suc n) i r g =
      let p = part b (at + 2 * i) 2 in
      let lp : length p ≡ 2 = length_part b (at + 2 * i) 2 (omega arith) in
      let e : 2 * suc n ≡ 2 + 2 * n = omega arith in
      let f : at + 2 * i + 2 ≡ at + 2 * suc i = omega arith in
      ap (λ (k : ℕ). same_bytes (part b (at + 2 * i) k) (be_bytes 2 (h i) ++ concat (tabulate (suc i) n (λ l. be_bytes 2 (h l))))) e
      ∙ ap (λ (k : List ℕ). same_bytes k (be_bytes 2 (h i) ++ concat (tabulate (suc i) n (λ l. be_bytes 2 (h l))))) (part_add b (at + 2 * i) 2 (2 * n))
      ∙ same_append p (part b (at + 2 * i + 2) (2 * n)) (be_bytes 2 (h i)) (concat (tabulate (suc i) n (λ l. be_bytes 2 (h l)))) (lp ∙ sym (length_be_bytes 2 (h i)))
      ∙ ap₂ (λ (x y : Bool). x && y) (same_two p (h i) (each_part (at + 2 * i) 2 bytes) lp (g i (omega arith) (omega arith)))
      (ap (λ (k : ℕ). same_bytes (part b k (2 * n)) (concat (tabulate (suc i) n (λ l. be_bytes 2 (h l))))) f
      ∙ table_from n (suc i) (omega arith) (λ l x y. g l (omega arith) (omega arith)))

  -- where the entries of g are those of h, with 1 added
  pub table_same : (n : ℕ) (g : ℕ → ℕ) → at + 2 * n ≤ length b → ((l : ℕ) → suc (h l) ≡ g l) → ((l : ℕ) → g l ≤ 65536)
      → same_bytes (part b at (2 * n)) (each n (λ l. be_bytes 2 (h l))) ≡ same_table b at n g
  unfolding same_table
  table_same n g r q s =
      let z : at ≡ at + 2 * 0 = omega arith in
      ap (λ (k : ℕ). same_bytes (part b k (2 * n)) (each n (λ l. be_bytes 2 (h l)))) z
      ∙ table_from n 0 (omega arith) (λ l x y. omega (arith, q l, s l))
      ∙ scan_same _ _ n 0 (λ l x y. ap (eqb (be_value (part b (at + 2 * l) 2) + 1)) (q l))

-- ---- a short table, and zeros behind it

scan_split : (t : ℕ → Bool) (m n i : ℕ) → all_from (m + n) i t ≡ (all_from m i t && all_from n (i + m) t)
scan_split t zero n i = let e : i ≡ i + 0 = omega arith in let z : 0 + n ≡ n = omega arith in ap₂ (λ (x y : ℕ). all_from x y t) z e
scan_split t (suc m) n i =
    let e : suc m + n ≡ suc (m + n) = omega arith in
    let f : suc i + m ≡ i + suc m = omega arith in
    ap (λ (x : ℕ). all_from x i t) e
    ∙ ap (λ (y : Bool). t i && y) (scan_split t m n (suc i) ∙ ap (λ (x : ℕ). all_from m (suc i) t && all_from n x t) f)
    ∙ sym (and_assoc (t i) (all_from m (suc i) t) (all_from n (i + suc m) t))

-- the bytes of entries that are 0
zero_entries : (n i : ℕ) → concat (tabulate i n (λ (l : ℕ). be_bytes 2 0)) ≡ zeros (2 * n)
zero_entries zero i = refl
zero_entries (suc n) i = let e : suc (suc (2 * n)) ≡ 2 * suc n = omega arith in ap (λ (l : List ℕ). 0 ∷ 0 ∷ l) (zero_entries n (suc i)) ∙ ap zeros e

-- an entry that no record makes
marked_none : (w : ℕ → Bool) (k : ℕ → ℕ) (l m i x : ℕ) → ((j : ℕ) → i ≤ j → j < i + m → k j ≡ l → ⊥) → marked w k l m i x ≡ x
marked_none w k l zero i x h = refl
marked_none w k l (suc m) i x h = marked_none w k l m (suc i) (cond (w i && eqb (k i) l) (i + 2) x) (λ j p q. h j (omega arith) (omega arith)) ∙ by_test (w i)
  where
    by_test : (t : Bool) → cond (t && eqb (k i) l) (i + 2) x ≡ x
    by_test true = ap (λ (u : Bool). cond u (i + 2) x) (ne_eqb (k i) l (h i (omega arith) (omega arith)))
    by_test false = refl

module _ (b : List ℕ) (n : ℕ) (few : all_from n 0 (few_label b) ≡ true) where
  pub few_small : (i : ℕ) → i < n → lbl_of b i < 128
  few_small i h = ltb-true (lbl_of b i) 128 (scan_at (few_label b) n 0 few i (omega arith) (omega arith))

  few_entry : (l : ℕ) → 128 ≤ l → label_entry b n l ≡ 1
  few_entry l h = marked_none (enters b) (lbl_of b) l n 0 (cond (ltb 0 n && eqb 0 l) 2 1) (λ j p q r. omega (arith, few_small j (omega arith))) ∙ by_test (ltb 0 n)
    where
      by_test : (t : Bool) → ◌≡◌ {A = ℕ} (cond (t && eqb 0 l) 2 1) 1
      by_test true = ap (λ (u : Bool). cond u 2 1) (ne_eqb 0 l (λ q. omega arith))
      by_test false = refl

  pub few_table : AreBytes b → 40960 ≤ length b → {r z : Bool} → r ≡ same_table b 32768 128 (label_entry b n) → z ≡ same_bytes (part b 33024 1792) (zeros 1792)
      → (r && z) ≡ same_table b 32768 1024 (label_entry b n)
  unfolding same_table
  few_table bytes room e f =
      let t : ℕ → Bool = λ l. eqb (be_value (part b (32768 + 2 * l) 2) + 1) (label_entry b n l) in
      ap₂ (λ (x y : Bool). x && y) e
      (f
      ∙ ap (same_bytes (part b 33024 1792)) (sym (zero_entries 896 128))
      ∙ table_from b bytes 32768 (λ (l : ℕ). 0) 896 128 (omega arith) (λ l p q. omega arith)
      ∙ scan_same _ t 896 128 (λ l p q. ap (eqb (be_value (part b (32768 + 2 * l) 2) + 1)) (sym (few_entry l p))))
      ∙ sym (scan_split t 128 896 0)

-- a table that was made
pub table_made : (b : List ℕ) (at size : ℕ) (t : List ℕ) (g : ℕ → ℕ) {r : Bool} → r ≡ same_table b at (length t) (λ l. get_or t l 0) → length t ≡ size → ((l : ℕ) → l < size → get_or t l 0 ≡ g l)
    → r ≡ same_table b at size g
unfolding same_table
table_made b at size t g e k h =
    e
    ∙ ap (λ (n : ℕ). all_from n 0 (λ l. eqb (be_value (part b (at + 2 * l) 2) + 1) (get_or t l 0))) k
    ∙ scan_same _ _ size 0 (λ l p q. ap (eqb (be_value (part b (at + 2 * l) 2) + 1)) (h l (omega arith)))

-- an entry with 1 less
pub same_less : (v t : ℕ) → 1 ≤ t → eqb v (t - 1) ≡ eqb (v + 1) t
same_less v t h = by_test (eqb (v + 1) t) refl
  where
    by_test : (x : Bool) → eqb (v + 1) t ≡ x → eqb v (t - 1) ≡ x
    by_test true e = eq-eqb v (t - 1) (omega (arith, eqb-true (v + 1) t e))
    by_test false e = ne_eqb v (t - 1) (λ q. eqb-false (v + 1) t e (omega arith))

-- every entry of a table is at least 1, where it was before
marked_least : (w : ℕ → Bool) (k : ℕ → ℕ) (l m i x : ℕ) → 1 ≤ x → 1 ≤ marked w k l m i x
marked_least w k l zero i x h = h
marked_least w k l (suc m) i x h = marked_least w k l m (suc i) (cond (w i && eqb (k i) l) (i + 2) x) (by_test (w i && eqb (k i) l))
  where
    by_test : (t : Bool) → 1 ≤ cond t (i + 2) x
    by_test true = omega arith
    by_test false = h

pub made_least : (w : ℕ → Bool) (k : ℕ → ℕ) (l n : ℕ) {x y : ℕ} → y ≡ marked w k l n 0 x → 1 ≤ x → 1 ≤ y
made_least w k l n {x} e h = omega (arith, e, marked_least w k l n 0 x h)

pub first_least : (t : Bool) (x : ℕ) → x ≡ 1 → 1 ≤ cond t 2 x
first_least true x e = omega arith
first_least false x e = omega arith

-- ---- the tables of code whose records are those from i on

module _ (b : List ℕ) where
  abbrev pub Spelt : Code → ℕ → Type 0
  Spelt [] i = T true
  Spelt (c ∷ cs) i = (label c ≡ lbl_of b i) × ((x : ℕ) → declares (op c) x ≡ (is_fn b i && eqb (name_of b i) x)) × Spelt cs (suc i)

marked_small : (w : ℕ → Bool) (k : ℕ → ℕ) (l m i x n : ℕ) → x ≤ n → i + m + 1 ≤ n → marked w k l m i x ≤ n
marked_small w k l zero i x n h g = h
marked_small w k l (suc m) i x n h g = marked_small w k l m (suc i) (cond (w i && eqb (k i) l) (i + 2) x) n (by_test (w i && eqb (k i) l)) (omega arith)
  where
    by_test : (t : Bool) → cond t (i + 2) x ≤ n
    by_test true = omega arith
    by_test false = h

-- an index that may be missing, with 1 more
next_entry : (t : Bool) (i : ℕ) (o : Option ℕ) → suc (index_word (cond t (some i) o)) ≡ cond t (i + 2) (suc (index_word o))
next_entry true i o = omega arith
next_entry false i o = refl

module _ (b : List ℕ) where
  entered_marked : (cs : Code) (l i was : ℕ) (o : Option ℕ) → Spelt b cs i → was ≡ lbl_of b (i - 1)
      → suc (index_word (entered cs l was i o)) ≡ marked (enters b) (lbl_of b) l (length cs) i (suc (index_word o))
  entered_marked [] l i was o s e = refl
  entered_marked (c ∷ cs) l i was o s e =
      let k : i ≡ suc i - 1 = omega arith in
      entered_marked cs l (suc i) (label c) (cond (not (eqb (label c) was) && eqb (label c) l) (some i) o) s.2 (s.0 ∙ ap (lbl_of b) k)
      ∙ ap (marked (enters b) (lbl_of b) l (length cs) (suc i))
      (next_entry (not (eqb (label c) was) && eqb (label c) l) i o
      ∙ ap₂ (λ (x y : ℕ). cond (not (eqb x y) && eqb x l) (i + 2) (suc (index_word o))) s.0 e)

  label_entry_lem : (c : Code) (l : ℕ) → Spelt b c 0 → suc (index_word (label_at c l)) ≡ label_entry b (length c) l
  label_entry_lem [] l s = refl
  label_entry_lem (c ∷ cs) l s =
      entered_marked (c ∷ cs) l 0 (label c) (cond (eqb l 0) (some 0) none) s s.0
      ∙ ap (marked (enters b) (lbl_of b) l (suc (length cs)) 0) (next_entry (eqb l 0) 0 none ∙ first (eqb l 0) refl)
    where
      first : (t : Bool) → eqb l 0 ≡ t → ◌≡◌ {A = ℕ} (cond t 2 1) (cond (ltb 0 (suc (length cs)) && eqb 0 l) 2 1)
      first true e = sym (rw (lt-ltb 0 (suc (length cs)) (omega arith), eq-eqb 0 l (omega (arith, eqb-true l 0 e))))
      first false e = sym (rw (lt-ltb 0 (suc (length cs)) (omega arith), ne_eqb 0 l (λ q. eqb-false l 0 e (sym q))))

  declared_marked : (cs : Code) (x i : ℕ) (o : Option ℕ) → Spelt b cs i → suc (index_word (declared cs x i o)) ≡ marked (is_fn b) (name_of b) x (length cs) i (suc (index_word o))
  declared_marked [] x i o s = refl
  declared_marked (c ∷ cs) x i o s =
      declared_marked cs x (suc i) (cond (declares (op c) x) (some i) o) s.2
      ∙ ap (marked (is_fn b) (name_of b) x (length cs) (suc i)) (next_entry (declares (op c) x) i o ∙ ap (λ (t : Bool). cond t (i + 2) (suc (index_word o))) (s.1 x))

  module _ (bytes : AreBytes b) (room : 40960 ≤ length b) (c : Code) (few : length c ≤ 1024) (s : Spelt b c 0) where
    pub labels_same : same_bytes (part b 32768 2048) (label_bytes c) ≡ same_table b 32768 1024 (label_entry b (length c))
    labels_same =
        table_same b bytes 32768 (λ l. index_word (label_at c l)) 1024 (label_entry b (length c)) (omega arith) (λ l. label_entry_lem c l s)
        (λ l. marked_small (enters b) (lbl_of b) l (length c) 0 (cond (ltb 0 (length c) && eqb 0 l) 2 1) 65536 (small (ltb 0 (length c) && eqb 0 l)) (omega arith))
      where
        small : (t : Bool) → cond t 2 1 ≤ 65536
        small true = omega arith
        small false = omega arith

    pub functions_same : same_bytes (part b 34816 128) (function_bytes c) ≡ same_table b 34816 64 (function_entry b (length c))
    functions_same =
        table_same b bytes 34816 (λ x. index_word (function_at c x)) 64 (function_entry b (length c)) (omega arith) (λ x. declared_marked c x 0 none s)
        (λ x. marked_small (is_fn b) (name_of b) x (length c) 0 1 65536 (omega arith) (omega arith))
