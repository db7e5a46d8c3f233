-- An accepted program's instructions are those that its records tell.
use Rattle.std.specs.Prelude.{◌≡◌, refl, Bool, true, false, cond, ◌&&◌, List, [], ◌∷◌, ◌++◌, ℕ, zero, suc, ◌+◌, ◌*◌, ◌≤◌, ◌<◌, leb, eqb, length, get_or, take, drop}
use Rattle.std.proofs.Common.{sym, ap, ap₂, ◌∙◌, subst, zero-add, add-zero, arith, drop-drop, leb-true, eqb-true}
use Rattle.std.proofs.Math.Option.{Option, some}
use Rattle.std.specs.Float.{binary64}
use Rattle.std.specs.Float.Ieee.{of_bits}
use Rattle.std.proofs.Math.ListN.{get_elem?}
use Rattle.std.proofs.lemmas.List.{length-map}
use Rattle.std.proofs.lemmas.Bool.{eqb-false}
use Rattle.lent.specs.Bytes.{be_value, be_bytes, part, same_bytes}
use Rattle.lent.specs.laws.Parts.{get_d_part, part_part}
use Rattle.lent.specs.laws.Same.{same_eq}
use Rattle.lent.specs.laws.Numbers.{length_be_bytes}
use Rattle.sifv.specs.Value.{Single, Value, One, Arr, Tab}
use Rattle.sifv.specs.Value.{Num, Bl, Null, Str as Text}
use Rattle.sifv.specs.Slot.{single_of}
use Rattle.sifv.specs.laws.Layout.{and_left, and_right}
use Rattle.opc.specs.Op.{BinOpKind, UnOpKind, JmpOpKind, Lneg, Nneg, Jmpt, Jmpf, Lor, Op, Binary, Unary, Ldc, Stc, JmpCnd, Fn, Stop, Instr, instr, label, op, Code}
use Rattle.opc.specs.Record.{Fields, bin_kinds, pick, literal_items, items_of, reg_ok, text_ok, lbl_ok, word_ok, single, item_list, items_at, literal_of, param, params, decoders, decode_instr}
use Rattle.opc.specs.inner.Fetch.{pick_or, record_at}
pub use Rattle.opc.specs.laws.Fetched.{Misses}
use Rattle.opc.specs.laws.Fetched.{items_law, items_get, some_elim, when_elim, with_elim, guarded}
use Rattle.opc.specs.laws.Fetched.{Rest, misses}
use Rattle.tables.specs.Tables.{Program, label_at, function_at}
pub use Rattle.tables.specs.laws.ProgramLaws.{length_tabulate}
use Rattle.tables.specs.ProgramBytes.{index_word, decode_code, label_bytes, function_bytes, tables_ok, decode_program}
use Rattle.vm_laws.specs.laws.StateLaws.{region}
use Rattle.listing_text.specs.ProgramText.{highest}
use Rattle.ops.specs.inner.Told.{item_told, param_at, literal_told, operations_told, op_in, Within, PooledTold, instr_at}
use Rattle.lent.specs.Lists.{tabulate, when, with, only_if}
use Rattle.opc.specs.inner.Shows.{entry_of}

-- ---- a number that no entry of a list but the last has

missed : {A : Type 0} (d : A) (l : List A) (i j k : ℕ) → k ≡ i + j → Misses l i k → get_or (l ++ (d ∷ [])) j d ≡ d
missed d [] i zero k e h = refl
missed d [] i (suc j) k e h = refl
missed d (a ∷ l) i zero k e h = absurd (h.0 (e ∙ add-zero i))
missed d (a ∷ l) i (suc j) k e h = missed d l (suc i) j k (omega arith) h.1

pub last_picked : {A : Type 0} (d : A) (l : List A) (k : ℕ) → Rest l 1 k (Unit {0}) → pick_or d (l ++ (d ∷ [])) k ≡ d
last_picked d l zero h = refl
last_picked d l (suc k) h = missed d l 1 k (suc k) (omega arith) (misses l 1 (suc k) h)

pick_or_lem : {A : Type 0} (d : A) (l : List A) (k : ℕ) {a : A} → pick l k ≡ some a → pick_or d l k ≡ a
pick_or_lem d l zero e = let z : ◌≡◌ {A = ℕ} 0 1 = cc in absurd (omega arith)
pick_or_lem {A} d l (suc k) e = at l k e
  where
    at : (l : List A) (n : ℕ) {a : A} → get_elem? l n ≡ some a → get_or l n d ≡ a
    at [] n e = let z : ◌≡◌ {A = ℕ} 0 1 = cc in absurd (omega arith)
    at (x ∷ l) zero {a} e = let q : x ≡ a = cc in q
    at (x ∷ l) (suc n) e = at l n e

-- ---- the pool

tabulated : {A : Type 0} (z : A) (l : List A) (w n : ℕ) (f : ℕ → A) → length l ≡ n → ((i : ℕ) → i < n → get_or l i z ≡ f (w + i)) → l ≡ tabulate w n f
tabulated z [] w zero f e h = refl
tabulated z [] w (suc n) f e h = absurd (omega arith)
tabulated z (x ∷ l) w zero f e h = absurd (omega arith)
tabulated z (x ∷ l) w (suc n) f e h =
    ap₂ (λ (y : _) (ys : List _). y ∷ ys) (h 0 (omega arith) ∙ ap f (add-zero w))
    (tabulated z l (suc w) n f (omega arith) (λ i g. let q : w + suc i ≡ suc w + i = omega arith in h (suc i) (omega arith) ∙ ap f q))

module _ (b : List ℕ) where
  abbrev pool : List ℕ
  pool = part b 16384 16384

  entry_item : (w i : ℕ) → w + i < 1024 → entry_of (part (drop (w * 16) pool) (i * 16) 16) ≡ item_told b (w + i)
  entry_item w i h =
      let at = 16384 + 16 * (w + i) in
      let e : w * 16 + i * 16 ≡ 16 * (w + i) = omega arith in
      let q : part (drop (w * 16) pool) (i * 16) 16 ≡ part b at 16 =
      ap (take 16) (drop-drop (i * 16) (w * 16) pool) ∙ ap (λ (x : ℕ). part pool x 16) e ∙ part_part b 16384 16384 (16 * (w + i)) 16 (omega arith) in
      ap entry_of q ∙ ap₂ single_of (get_d_part b at 16 0 0 (omega arith) ∙ ap (λ (x : ℕ). get_or b x 0) (add-zero at)) (ap be_value (part_part b at 16 8 8 (omega arith)))

  items_are : (w n : ℕ) {l : List Single} → w + n ≤ 1024 → item_list n (drop (w * 16) pool) ≡ some l → tabulate w n (item_told b) ≡ l
  items_are w n {l} h e = sym (tabulated Null l w n (item_told b) (items_law n (drop (w * 16) pool) e).0 (λ i g. (items_get n (drop (w * 16) pool) e i g).1 ∙ entry_item w i (omega arith)))

  param_word : (k w : ℕ) {t : ℕ} → param (single_of k w) ≡ some t → w ≡ t
  param_word k w {t} = cases (eqb k 1) (eqb k 2) (eqb k 3)
    where
      cases : (x y z : Bool) → param (cond x (Num (of_bits binary64 w)) (cond y (Text w) (cond z (Bl (eqb w 1)) Null))) ≡ some t → w ≡ t
      cases true y z e = let q : ◌≡◌ {A = ℕ} 0 1 = cc in absurd (omega arith)
      cases false true z e = cc
      cases false false true e = let q : ◌≡◌ {A = ℕ} 0 1 = cc in absurd (omega arith)
      cases false false false e = let q : ◌≡◌ {A = ℕ} 0 1 = cc in absurd (omega arith)

  params_are : (w n : ℕ) {ps : List ℕ} → params (tabulate w n (item_told b)) ≡ some ps → tabulate w n (param_at b) ≡ ps
  params_are w zero e = some_elim (λ (ps : List ℕ). [] ≡ ps) refl e
  params_are w (suc n) e =
      with_elim (λ (ps : List ℕ). tabulate w (suc n) (param_at b) ≡ ps) (param (item_told b w)) _
      (λ t p u. with_elim (λ (ps : List ℕ). tabulate w (suc n) (param_at b) ≡ ps) (params (tabulate (suc w) n (item_told b))) _
      (λ ts q v. some_elim (λ (ps : List ℕ). tabulate w (suc n) (param_at b) ≡ ps) (ap₂ (λ (y : ℕ) (ys : List ℕ). y ∷ ys) (param_word (get_or b (16384 + 16 * w) 0) (param_at b w) p) (params_are (suc w) n q)) v) u) e

  -- ---- a record's items and its literal

  within_length : {A : Type 0} (w n : ℕ) (g : ℕ → A) {l : List A} → tabulate w n g ≡ l → Within w n → Within w (length l)
  within_length w n g e h = subst (Within w) (sym (length_tabulate w n g) ∙ ap length e) h

  module _ (f : Fields) (p : ℕ) where
    items_at_lem : {l : List Single} → items_at f p pool ≡ some l → (tabulate f.word f.len (item_told b) ≡ l) × Within f.word f.len
    items_at_lem e =
        let g = guarded (eqb f.word p && leb (p + f.len) 1024) (item_list f.len (drop (p * 16) pool)) e in
        let q : f.word ≡ p = eqb-true f.word p (and_left (eqb f.word p) (leb (p + f.len) 1024) g.0) in
        let m = leb-true (p + f.len) 1024 (and_right (eqb f.word p) (leb (p + f.len) 1024) g.0) in
        let r = ap (λ (i : ℕ). item_list f.len (drop (i * 16) pool)) q ∙ g.1 in
        (items_are f.word f.len (omega arith) r, λ z. omega arith)

    -- u is the literal v, whose items are within the pool
    abbrev Holds : Value → Value → Type 0
    Holds u v = (u ≡ v) × Within f.word (length (literal_items v))

    abbrev array : Value
    array = Arr (tabulate f.word f.len (item_told b))

    abbrev one : Value
    one = One (single_of f.kind f.word)

    literal_at : {v : Value} → literal_of f p pool ≡ some v → Holds (literal_told b f.kind f.len f.word) v
    literal_at {v} = cases (eqb f.kind 5) (eqb f.kind 6)
      where
        cases : (x y : Bool)
            → cond x (only_if (leb f.len 24) (with (items_at f p pool) (λ l. some (Arr l)))) (cond y (when (eqb f.len 0) (Tab [])) (with (single f.kind f.word) (λ s. some (One s)))) ≡ some v
            → Holds (cond x array (cond y (Tab []) one)) v
        cases true y e =
            with_elim (Holds array) (items_at f p pool) _
            (λ l q u. some_elim (Holds array) (ap Arr (items_at_lem q).0, within_length f.word f.len (item_told b) (items_at_lem q).0 (items_at_lem q).1) u)
            (guarded (leb f.len 24) _ e).1
        cases false true e = when_elim (Holds (Tab [])) (eqb f.len 0) (λ h. (refl, λ z. absurd (omega arith))) e
        cases false false e =
            with_elim (Holds one) (single f.kind f.word) _
            (λ s q u. some_elim (Holds one)
            (when_elim (λ (x : Single). one ≡ One x) (leb 1 f.kind && (leb f.kind 4 && word_ok f.kind f.word)) (λ h. refl) q, λ z. absurd (omega arith)) u) e

    -- ---- operations: each entry of `operations_told` is what the same entry of `decoders` reads

    -- u is the operation o, whose items are within the pool
    abbrev Same : Op → Op → Type 0
    Same u o = (u ≡ o) × PooledTold f.word o

    -- where m has an operation, u is that
    record Reads (u : Op) (m : Option Op) : Type 0 where
      reads : (o : Op) → m ≡ some o → Same u o

    reads_some : {o : Op} → PooledTold f.word o → Reads o (some o)
    reads_some {o} h = record { reads = λ x e. some_elim (Same o) (refl, h) e }

    reads_when : (t : Bool) {u o : Op} → u ≡ o → PooledTold f.word o → Reads u (when t o)
    reads_when t {u} q h = record { reads = λ x e. when_elim (Same u) t (λ _. (q, h)) e }

    reads_with : {A : Type 0} {u : Op} {m : Option A} {g : A → Option Op} → ((a : A) → m ≡ some a → Reads u (g a)) → Reads u (with m g)
    reads_with {A} {u} {m} {g} k = record { reads = λ o e. with_elim (Same u) m g (λ a q w. (k a q).reads o w) e }

    none_pooled : Within f.word 0
    none_pooled z = absurd (omega arith)

    infixr 60 ◌▹◌
    data Pairs : List Op → List (Option Op) → Type 0 where
      end : Pairs [] []
      ◌▹◌ : {u : Op} {m : Option Op} {us : List Op} {ms : List (Option Op)} → Reads u m → Pairs us ms → Pairs (u ∷ us) (m ∷ ms)

    paired : {us : List Op} {ms : List (Option Op)} (k : ℕ) {o : Op} → Pairs us ms → with (get_elem? ms k) (λ m. m) ≡ some o → Same (get_or us k Stop) o
    paired k end e = let z : ◌≡◌ {A = ℕ} 0 1 = cc in absurd (omega arith)
    paired zero {o} (r ▹ h) e = r.reads o e
    paired (suc k) (r ▹ h) e = paired k h e

    all_paired : Pairs (operations_told b f) (decoders f p pool)
    all_paired =
        reads_with (λ m q. reads_when (reg_ok f.a && (reg_ok f.b && reg_ok f.c)) (ap (λ (k : BinOpKind). Binary k f.a f.b f.c) (pick_or_lem Lor bin_kinds f.kind q)) none_pooled)
        ▹ reads_with (λ m q. reads_when (reg_ok f.a && reg_ok f.b) (ap (λ (k : UnOpKind). Unary k f.a f.b) (pick_or_lem Nneg (Lneg ∷ Nneg ∷ []) f.kind q)) none_pooled)
        ▹ reads_with (λ v q. reads_when (reg_ok f.a) (ap (Ldc f.a) (literal_at q).0) (literal_at q).1)
        ▹ reads_when (reg_ok f.a && text_ok f.b) refl none_pooled
        ▹ reads_when (reg_ok f.a && reg_ok f.b) refl none_pooled
        ▹ reads_when (text_ok f.a && reg_ok f.b) refl none_pooled
        ▹ reads_when (text_ok f.a && (reg_ok f.b && reg_ok f.c)) refl none_pooled
        ▹ reads_when (text_ok f.a && (reg_ok f.b && reg_ok f.c)) refl none_pooled
        ▹ reads_with (λ v q. reads_when (text_ok f.a) (ap (λ (x : Value). Stc x f.a) (literal_at q).0) (literal_at q).1)
        ▹ reads_when (text_ok f.a && text_ok f.b) refl none_pooled
        ▹ reads_when (reg_ok f.a && text_ok f.b) refl none_pooled
        ▹ reads_with (λ m q. reads_when (reg_ok f.a && lbl_ok f.word) (ap (λ (k : JmpOpKind). JmpCnd k f.a f.word) (pick_or_lem Jmpf (Jmpt ∷ Jmpf ∷ []) f.kind q)) none_pooled)
        ▹ reads_when (lbl_ok f.word) refl none_pooled
        ▹ reads_when (reg_ok f.a) refl none_pooled
        ▹ reads_when (reg_ok f.a) refl none_pooled
        ▹ reads_with (λ l q. reads_with (λ ps r. let e = params_are f.word f.len (ap params (items_at_lem q).0 ∙ r) in reads_when (text_ok f.a) (ap (Fn f.a) e) (subst (Within f.word) (sym (length-map ps Text)) (within_length f.word f.len (param_at b) e (items_at_lem q).1))))
        ▹ reads_when (text_ok f.a && leb f.word 255) refl none_pooled
        ▹ reads_some none_pooled
        ▹ reads_when (reg_ok f.a) refl none_pooled
        ▹ reads_when (reg_ok f.a) refl none_pooled
        ▹ reads_when (text_ok f.a && (text_ok f.b && reg_ok f.c)) refl none_pooled
        ▹ reads_when (text_ok f.a && (text_ok f.b && reg_ok f.c)) refl none_pooled
        ▹ reads_some none_pooled
        ▹ reads_some none_pooled
        ▹ end

    told_of : (k : ℕ) {o : Op} → with (pick (decoders f p pool) k) (λ m. m) ≡ some o → Same (pick_or Stop (operations_told b f) k) o
    told_of zero e = let z : ◌≡◌ {A = ℕ} 0 1 = cc in absurd (omega arith)
    told_of (suc k) e = paired k all_paired e

  -- an instruction's record tells it
  record Tells (i : ℕ) (c : Instr) : Type 0 where
    is : instr_at b i ≡ c
    small : label c ≤ 1023
    pooled : PooledTold (record_at b i).word (op_in b (record_at b i))

  tells : (i p : ℕ) {c : Instr} → decode_instr (part b (16 * i) 16) p pool ≡ some c → Tells i c
  tells i p e =
      let f = record_at b i in
      with_elim (Tells i) (with (pick (decoders f p pool) f.code) (λ m. m)) _
      (λ o q u. when_elim (Tells i) (lbl_ok f.lbl) (λ h. record {
        is = ap (instr f.lbl) (told_of f p f.code q).0;
        small = leb-true f.lbl 1023 h;
        pooled = subst (PooledTold f.word) (sym (told_of f p f.code q).0) (told_of f p f.code q).1;
      }) u) e

  -- ---- all of them

  -- the n records from i on tell the code
  record TellsAll (i n : ℕ) (c : Code) : Type 0 where
    code : tabulate i n (instr_at b) ≡ c
    small : highest c ≤ 1023
    pooled : (k : ℕ) → i ≤ k → k < i + n → PooledTold (record_at b k).word (op_in b (record_at b k))

  tells_more : {i n : ℕ} {d : Instr} {c : Code} → Tells i d → TellsAll (suc i) n c → TellsAll i (suc n) (d ∷ c)
  tells_more {i} {n} {d} {c} h r = record {
    code = ap₂ (λ (x : Instr) (xs : Code). x ∷ xs) h.is r.code;
    small = omega (arith, h.small, r.small);
    pooled = λ k p q. by_test k p q (eqb k i) refl;
  }
    where
      by_test : (k : ℕ) → i ≤ k → k < i + suc n → (t : Bool) → eqb k i ≡ t → PooledTold (record_at b k).word (op_in b (record_at b k))
      by_test k p q true e = subst (λ (j : ℕ). PooledTold (record_at b j).word (op_in b (record_at b j))) (sym (eqb-true k i e)) h.pooled
      by_test k p q false e = r.pooled k (omega (arith, eqb-false k i e)) (omega arith)

  tells_all : (n i p : ℕ) {c : Code} → i + n ≤ 1024 → decode_code n (drop (16 * i) (part b 0 16384)) p pool ≡ some c → TellsAll i n c
  tells_all zero i p h e = some_elim (TellsAll i 0) (record { code = refl; small = omega arith; pooled = λ k u v. absurd (omega arith) }) e
  tells_all (suc n) i p h e =
      let at : take 16 (drop (16 * i) (part b 0 16384)) ≡ part b (16 * i) 16 = part_part b 0 16384 (16 * i) 16 (omega arith) ∙ ap (λ (k : ℕ). part b k 16) (zero-add (16 * i)) in
      let z : 16 * i + 16 ≡ 16 * suc i = omega arith in
      let next : drop 16 (drop (16 * i) (part b 0 16384)) ≡ drop (16 * suc i) (part b 0 16384) = drop-drop 16 (16 * i) (part b 0 16384) ∙ ap (λ (k : ℕ). drop k (part b 0 16384)) z in
      with_elim (TellsAll i (suc n)) (decode_instr (take 16 (drop (16 * i) (part b 0 16384))) p pool) _
      (λ d q u. with_elim (TellsAll i (suc n)) (decode_code n (drop 16 (drop (16 * i) (part b 0 16384))) (p + length (items_of (op d))) pool) _
      (λ c r v. some_elim (TellsAll i (suc n)) (tells_more
      (tells i p (ap (λ (x : List ℕ). decode_instr x p pool) (sym at) ∙ q))
      (tells_all n (suc i) (p + length (items_of (op d))) (omega arith) (ap (λ (x : List ℕ). decode_code n x (p + length (items_of (op d))) pool) (sym next) ∙ r))) v) u) e

-- ---- an accepted program: its records tell its code, and its tables are stored

pub record Accepted (b : List ℕ) (p : Program) : Type 0 where
  pub few : length p.code ≤ 1024
  pub code : tabulate 0 (length p.code) (instr_at b) ≡ p.code
  pub small : highest p.code ≤ 1023
  pub pooled : (k : ℕ) → k < length p.code → PooledTold (record_at b k).word (op_in b (record_at b k))
  pub labels : (l : ℕ) → l < 1024 → part b (32768 + l * 2) 2 ≡ be_bytes 2 (index_word (label_at p.code l))
  pub functions : (x : ℕ) → x < 64 → part b (34816 + x * 2) 2 ≡ be_bytes 2 (index_word (function_at p.code x))

pub accepted : (b : List ℕ) (p : Program) → decode_program b ≡ some p → Accepted b p
unfolding decode_program
accepted b p e =
    let n = be_value (part b 34944 2) in
    let s = be_value (part b 34946 2) in
    let g = guarded (leb n 1024 && leb s n) _ e in
    let few = leb-true n 1024 (and_left (leb n 1024) (leb s n) g.0) in
    with_elim (Accepted b) (decode_code n (part b 0 16384) 0 (part b 16384 16384)) _
    (λ c q u. when_elim (Accepted b) (tables_ok b c)
    (λ t.
    let a = tells_all b n 0 0 (omega arith) q in
    let l : n ≡ length c = sym (length_tabulate 0 n (instr_at b)) ∙ ap length a.code in
    record {
      few = omega arith;
      code = ap (λ (k : ℕ). tabulate 0 k (instr_at b)) (sym l) ∙ a.code;
      small = a.small;
      pooled = λ k h. a.pooled k (omega arith) (omega arith);
      labels = region 2 1024 32768 (λ (x : ℕ). be_bytes 2 (index_word (label_at c x))) (λ k h. length_be_bytes 2 (index_word (label_at c k))) b
          (same_eq (part b 32768 2048) (label_bytes c) (and_left (same_bytes (part b 32768 2048) (label_bytes c)) (same_bytes (part b 34816 128) (function_bytes c)) t));
      functions = region 2 64 34816 (λ (x : ℕ). be_bytes 2 (index_word (function_at c x))) (λ k h. length_be_bytes 2 (index_word (function_at c k))) b
          (same_eq (part b 34816 128) (function_bytes c) (and_right (same_bytes (part b 32768 2048) (label_bytes c)) (same_bytes (part b 34816 128) (function_bytes c)) t));
    }) u) g.1
