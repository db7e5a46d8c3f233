-- Whether a buffer holds a program: `decode_program` against the tests of the code.
use mathlib.Core.Path.{◌≡◌, refl, sym, ap, ap₂, ◌∙◌, subst}
use mathlib.Core.Bool.{Bool, true, false, ◌&&◌, and-true, and-false}
use mathlib.Core.List.{List, ◌∷◌}
use mathlib.Core.Option.{Option, none, some}
use Prim.Native.Nat.{ℕ, zero, suc, ◌+◌, ◌*◌, ◌≤◌, ◌<◌}
use native.Mathlib.Nat.{zero-add}
use native.Mathlib.Omega.{arith}
use lib.Dec.{leb, eqb}
use lib.ListN.{length, take, drop}
use lib.Seq.{drop-drop}
use borrow.Author.Tests.{leb-true, le-leb, lt-leb}
use Rattle.lent.specs.Bytes.{be_value, part, AreBytes}
use Rattle.lent.specs.laws.Each.{each_part}
use Rattle.lent.specs.laws.Parts.{part_part}
use Rattle.sifv.specs.laws.Layout.{and_left}
use Rattle.opc.specs.Op.{Instr, label, op, Code}
use Rattle.opc.specs.Record.{fields_of, items_of, decode_instr}
use Rattle.opc.specs.laws.RecordRange.{AllSome, when_all, guard_all, with_all, any_all}
use Rattle.tables.specs.Tables.{Program, declares}
use Rattle.tables.specs.ProgramBytes.{decode_code, tables_ok, decode_program}
use Rattle.records.specs.inner.Fits.{all_from, record_ok, pooled, taken, pool_fits}
use Rattle.program.specs.inner.Marked.{label_entry, function_entry, same_table}
use Rattle.program.proofs.Records.{is_when, is_with, is_guard, is_instr, instr_all}
use Rattle.program.proofs.Stored.{Spelt, labels_same, functions_same}
use Rattle.lent.specs.Lists.{when, with}
use Rattle.lent.specs.Lists.{is_some}
use Rattle.opc.specs.inner.Fetch.{record_at}

-- ---- how many instructions are read

count_all : (n : ℕ) (rs : List ℕ) (p : ℕ) (pool : List ℕ) → AllSome (λ (c : Code). length c ≡ n) (decode_code n rs p pool)
count_all zero rs p pool = refl
count_all (suc n) rs p pool =
    with_all _ _ (decode_instr (take 16 rs) p pool) _ (any_all (decode_instr (take 16 rs) p pool))
    (λ i _. with_all _ (λ (c : Code). length c ≡ n) (decode_code n (drop 16 rs) (p + length (items_of (op i))) pool) _ (count_all n (drop 16 rs) (p + length (items_of (op i))) pool) (λ c h. ap suc h))

-- ---- the code

cross : (x y s t w : Bool) → w ≡ (x && y) → (w && (s && t)) ≡ ((x && s) && (y && t))
cross true true s t w e = rw e
cross true false s t w e = rw e (sym (and-false s))
cross false y s t w e = rw e

module _ (b : List ℕ) (bytes : AreBytes b) where
  record_at_lem : (i : ℕ) → i < 1024 → take 16 (drop (16 * i) (part b 0 16384)) ≡ part b (16 * i) 16
  record_at_lem i h = part_part b 0 16384 (16 * i) 16 (omega arith) ∙ ap (λ (k : ℕ). part b k 16) (zero-add (16 * i))

  record_next : (i : ℕ) → drop 16 (drop (16 * i) (part b 0 16384)) ≡ drop (16 * suc i) (part b 0 16384)
  record_next i =
      let e : 16 * i + 16 ≡ 16 * suc i = omega arith in
      drop-drop 16 (16 * i) (part b 0 16384) ∙ ap (λ (k : ℕ). drop k (part b 0 16384)) e

  code_is : (m i p : ℕ) → i + m ≤ 1024 → is_some (decode_code m (drop (16 * i) (part b 0 16384)) p (part b 16384 16384)) ≡ (all_from m i (record_ok b) && pool_fits m i p b)
  code_is zero i p h = refl
  code_is (suc m) i p h =
      ap₂ (λ (r d : List ℕ). is_some (with (decode_instr r p (part b 16384 16384)) (λ j. with (decode_code m d (p + length (items_of (op j))) (part b 16384 16384)) (λ c. some (j ∷ c))))) (record_at_lem i (omega arith)) (record_next i)
      ∙ step (decode_instr (part b (16 * i) 16) p (part b 16384 16384)) (is_instr b bytes (part b (16 * i) 16) (each_part (16 * i) 16 bytes) p)
      (instr_all b bytes (part b (16 * i) 16) (each_part (16 * i) 16 bytes) p) (λ q. code_is m (suc i) q (omega arith))
    where
      step : (o : Option Instr) → is_some o ≡ (record_ok b i && pooled (record_at b i) p b)
          → AllSome (λ (j : Instr). (label j ≡ (fields_of (part b (16 * i) 16)).lbl) × (length (items_of (op j)) ≡ taken (record_at b i)) × ((x : ℕ) → declares (op j) x ≡ (eqb (fields_of (part b (16 * i) 16)).code 16 && eqb (fields_of (part b (16 * i) 16)).a x))) o
          → ((q : ℕ) → is_some (decode_code m (drop (16 * suc i) (part b 0 16384)) q (part b 16384 16384)) ≡ (all_from m (suc i) (record_ok b) && pool_fits m (suc i) q b))
          → is_some (with o (λ j. with (decode_code m (drop (16 * suc i) (part b 0 16384)) (p + length (items_of (op j))) (part b 16384 16384)) (λ c. some (j ∷ c))))
          ≡ ((record_ok b i && all_from m (suc i) (record_ok b)) && (pooled (record_at b i) p b && pool_fits m (suc i) (p + taken (record_at b i)) b))
      step none e q k = cross (record_ok b i) (pooled (record_at b i) p b) (all_from m (suc i) (record_ok b)) (pool_fits m (suc i) (p + taken (record_at b i)) b) false e
      step (some j) e q k =
          is_with (decode_code m (drop (16 * suc i) (part b 0 16384)) (p + length (items_of (op j))) (part b 16384 16384)) _ true (λ c. refl)
          ∙ and-true _
          ∙ ap (λ (x : ℕ). is_some (decode_code m (drop (16 * suc i) (part b 0 16384)) (p + x) (part b 16384 16384))) q.1
          ∙ k (p + taken (record_at b i))
          ∙ cross (record_ok b i) (pooled (record_at b i) p b) (all_from m (suc i) (record_ok b)) (pool_fits m (suc i) (p + taken (record_at b i)) b) true e

  code_spelt : (m i p : ℕ) → i + m ≤ 1024 → AllSome (λ (c : Code). Spelt b c i) (decode_code m (drop (16 * i) (part b 0 16384)) p (part b 16384 16384))
  code_spelt zero i p h = tt
  code_spelt (suc m) i p h =
      with_all _ _ (decode_instr (take 16 (drop (16 * i) (part b 0 16384))) p (part b 16384 16384)) _
      (subst (λ (r : List ℕ). AllSome (λ (j : Instr). (label j ≡ (fields_of (part b (16 * i) 16)).lbl) × (length (items_of (op j)) ≡ taken (record_at b i)) × ((x : ℕ) → declares (op j) x ≡ (eqb (fields_of (part b (16 * i) 16)).code 16 && eqb (fields_of (part b (16 * i) 16)).a x))) (decode_instr r p (part b 16384 16384)))
      (sym (record_at_lem i (omega arith))) (instr_all b bytes (part b (16 * i) 16) (each_part (16 * i) 16 bytes) p))
      (λ j q. with_all _ (λ (c : Code). Spelt b c (suc i)) (decode_code m (drop 16 (drop (16 * i) (part b 0 16384))) (p + length (items_of (op j))) (part b 16384 16384)) _
      (subst (λ (d : List ℕ). AllSome (λ (c : Code). Spelt b c (suc i)) (decode_code m d (p + length (items_of (op j))) (part b 16384 16384))) (sym (record_next i)) (code_spelt m (suc i) (p + length (items_of (op j))) (omega arith)))
      (λ c s. (q.0, q.2, s)))

-- ---- the buffer

both_all : {A : Type 0} (P Q : A → Type 0) (o : Option A) → AllSome P o → AllSome Q o → AllSome (λ (a : A). P a × Q a) o
both_all P Q none p q = tt
both_all P Q (some a) p q = (p, q)

-- n instructions, whose code starts at s
abbrev verdict : List ℕ → ℕ → ℕ → Bool
verdict b n s =
    (leb n 1024 && leb s n) && ((all_from n 0 (record_ok b) && pool_fits n 0 0 b) && (same_table b 32768 1024 (label_entry b n) && same_table b 34816 64 (function_entry b n)))

module _ (b : List ℕ) (bytes : AreBytes b) (room : 40960 ≤ length b) where
  -- the tables of code that was read
  tables_are : (c : Code) (n : ℕ) → n ≤ 1024 → length c ≡ n → Spelt b c 0 → tables_ok b c ≡ (same_table b 32768 1024 (label_entry b n) && same_table b 34816 64 (function_entry b n))
  tables_are c n h e s =
      let few : length c ≤ 1024 = omega arith in
      ap₂ (λ (x y : Bool). x && y)
      (labels_same b bytes room c few s ∙ ap (λ (k : ℕ). same_table b 32768 1024 (label_entry b k)) e)
      (functions_same b bytes room c few s ∙ ap (λ (k : ℕ). same_table b 34816 64 (function_entry b k)) e)

  held_is : (n s : ℕ) → n ≤ 1024 → (o : Option Code) → is_some o ≡ (all_from n 0 (record_ok b) && pool_fits n 0 0 b) → AllSome (λ (c : Code). (length c ≡ n) × Spelt b c 0) o
      → is_some {A = Program} (with o (λ c. when (tables_ok b c) (record { code = c; code_start = s })))
      ≡ ((all_from n 0 (record_ok b) && pool_fits n 0 0 b) && (same_table b 32768 1024 (label_entry b n) && same_table b 34816 64 (function_entry b n)))
  held_is n s h none e q = ap (λ (x : Bool). x && (same_table b 32768 1024 (label_entry b n) && same_table b 34816 64 (function_entry b n))) e
  held_is n s h (some c) e q =
      is_when (tables_ok b c) (record { code = c; code_start = s })
      ∙ tables_are c n h q.0 q.1
      ∙ ap (λ (x : Bool). x && (same_table b 32768 1024 (label_entry b n) && same_table b 34816 64 (function_entry b n))) e

  program_is : is_some (decode_program b) ≡ verdict b (be_value (part b 34944 2)) (be_value (part b 34946 2))
  unfolding decode_program
  program_is =
      let n = be_value (part b 34944 2) in
      let s = be_value (part b 34946 2) in
      is_guard (leb n 1024 && leb s n) (with (decode_code n (part b 0 16384) 0 (part b 16384 16384)) (λ c. when (tables_ok b c) (record { code = c; code_start = s }))) _
      (λ g. let h : n ≤ 1024 = leb-true n 1024 (and_left (leb n 1024) (leb s n) g) in
      held_is n s h (decode_code n (part b 0 16384) 0 (part b 16384 16384)) (code_is b bytes n 0 0 (omega arith))
      (both_all _ _ (decode_code n (part b 0 16384) 0 (part b 16384 16384)) (count_all n (part b 0 16384) 0 (part b 16384 16384)) (code_spelt b bytes n 0 0 (omega arith))))

  -- ---- what the tests tell, one after the other

  module _ {n s : ℕ} (en : n ≡ be_value (part b 34944 2)) (es : s ≡ be_value (part b 34946 2)) where
    program_at : is_some (decode_program b) ≡ verdict b n s
    program_at = program_is ∙ ap₂ (verdict b) (sym en) (sym es)

    pub over_count : 1024 < n → false ≡ is_some (decode_program b)
    over_count h = sym (program_at ∙ rw (lt-leb n 1024 h))

    pub over_start : n < s → false ≡ is_some (decode_program b)
    over_start h = sym (program_at ∙ rw (lt-leb s n h, and-false (leb n 1024)))

    pub bad_records : {x : Bool} → x ≡ all_from n 0 (record_ok b) → x ≡ false → false ≡ is_some (decode_program b)
    bad_records e f = sym (program_at ∙ rw (sym e ∙ f) (and-false (leb n 1024 && leb s n)))

    pub bad_pool : {x : Bool} → x ≡ pool_fits n 0 0 b → x ≡ false → false ≡ is_some (decode_program b)
    bad_pool e f = sym (program_at ∙ rw (sym e ∙ f, and-false (all_from n 0 (record_ok b))) (and-false (leb n 1024 && leb s n)))

    pub tables_tell : {x y u v : Bool} → n ≤ 1024 → s ≤ n → x ≡ all_from n 0 (record_ok b) → x ≡ true → y ≡ pool_fits n 0 0 b → y ≡ true
        → u ≡ same_table b 32768 1024 (label_entry b n) → v ≡ same_table b 34816 64 (function_entry b n) → (u && v) ≡ is_some (decode_program b)
    tables_tell h g ex tx ey ty eu ev =
        ap₂ (λ (x y : Bool). x && y) eu ev ∙ sym (program_at ∙ rw (le-leb n 1024 h, le-leb s n g, sym ex ∙ tx, sym ey ∙ ty))

-- ---- the count and the start

counts : (b : List ℕ) → AllSome (λ (p : Program). (length p.code ≡ be_value (part b 34944 2)) × (p.code_start ≡ be_value (part b 34946 2))) (decode_program b)
unfolding decode_program
counts b =
    let n = be_value (part b 34944 2) in
    let s = be_value (part b 34946 2) in
    guard_all _ (leb n 1024 && leb s n) (with (decode_code n (part b 0 16384) 0 (part b 16384 16384)) (λ c. when (tables_ok b c) (record { code = c; code_start = s })))
    (λ _. with_all _ (λ (c : Code). length c ≡ n) (decode_code n (part b 0 16384) 0 (part b 16384 16384)) _ (count_all n (part b 0 16384) 0 (part b 16384 16384))
    (λ c h. when_all _ (tables_ok b c) (record { code = c; code_start = s }) (λ _. (h, refl))))

pub counted : (b : List ℕ) (p : Program) → decode_program b ≡ some p → (length p.code ≡ be_value (part b 34944 2)) × (p.code_start ≡ be_value (part b 34946 2))
counted b p e = subst (AllSome (λ (p : Program). (length p.code ≡ be_value (part b 34944 2)) × (p.code_start ≡ be_value (part b 34946 2)))) e (counts b)
