-- Whether a record has an instruction: `decode_instr` against the tests of the code.
use mathlib.Core.Path.{◌≡◌, refl, sym, ap, ap₂, ◌∙◌, subst}
use mathlib.Core.Bool.{Bool, true, false, cond, not, ◌&&◌, ◌||◌, and-true, and-false, and_comm, and_assoc}
use mathlib.Core.List.{List, [], ◌∷◌}
use mathlib.Core.Option.{Option, none, some}
use Prim.Native.Nat.{ℕ, zero, suc, ◌+◌, ◌*◌, ◌/◌, ◌^◌, ◌≤◌, ◌<◌}
use native.Mathlib.Nat.{zero-lt-suc, pow-le-pow_right, not-suc-le-zero, le_of_suc-le-suc, add-zero}
use native.Mathlib.Omega.{arith}
use lib.Dec.{leb, eqb}
use lib.ListN.{length, get_or, get_elem?, take, drop, length-take, length-map, get_or-eq_default}
use lib.Seq.{drop-drop}
use lib.Ieee.{binary64, of_bits}
use borrow.Author.Tests.{leb-true, leb-false, le-leb, lt-leb, eqb-true, eqb-false}
use Rattle.lent.specs.Bytes.{be_value, part, none, AreBytes}
use Rattle.lent.specs.laws.Each.{each_part, byte_at}
use Rattle.lent.specs.laws.Parts.{part_part}
use Rattle.lent.specs.laws.Numbers.{be_value_lt}
use Rattle.sifv.specs.Value.{Single, Value, One, Arr, Tab, Num, Bl, Null, Str as Text}
use Rattle.sifv.specs.Slot.{single_of}
use Rattle.opc.specs.Op.{Lneg, Nneg, Jmpt, Jmpf}
use Rattle.opc.specs.Op.{Op, Binary, Unary, Ldc, Ldn, Mv, Ldas, Ldav, Upda, Stc, Stn, Str, JmpCnd, Jmpa, Incrr, Decrr, Fn, Call, FnRet, FnStackPush, FnStackPop, Tbli, Tblg, Nop, Stop, Instr, instr, label, op}
use Rattle.opc.specs.Record.{bin_kinds, pick, Fields, fields_of, literal_items, items_of, reg_ok, text_ok, lbl_ok, word_ok, single, item_of, item_list, items_at, literal_of, param, params, decoders, decode_instr}
use Rattle.opc.specs.laws.Fetched.{items_law}
use Rattle.opc.specs.laws.RecordRange.{AllSome, when_all, guard_all, with_all, any_all}
use Rattle.tables.specs.Tables.{declares}
use Rattle.records.specs.inner.Fits.{all_from, limit_table, no_kind, limits_of, operands_fit, kind_fits, word_fits, single_most, literal_fits, fits_as, record_fits, entry_fits, entry_ok, entries_fit, pooled_as, taken_as, pooled, taken}
use Rattle.lent.specs.Lists.{when, with, only_if}
use Rattle.lent.specs.Lists.{is_some}

-- ---- whether there is a result

pub is_when : {A : Type 0} (t : Bool) (a : A) → is_some (when t a) ≡ t
is_when true a = refl
is_when false a = refl

pub is_with : {A B : Type 0} (m : Option A) (g : A → Option B) (t : Bool) → ((a : A) → is_some (g a) ≡ t) → is_some (with m g) ≡ (is_some m && t)
is_with none g t h = refl
is_with (some a) g t h = h a

pub is_guard : {A : Type 0} (g : Bool) (o : Option A) (x : Bool) → (g ≡ true → is_some o ≡ x) → is_some (only_if g o) ≡ (g && x)
is_guard true o x h = h refl
is_guard false o x h = refl

leb_suc : (a b : ℕ) → leb a b ≡ leb (suc a) (suc b)
leb_suc a b = by_test (leb a b) refl
  where
    by_test : (t : Bool) → leb a b ≡ t → t ≡ leb (suc a) (suc b)
    by_test true e = sym (le-leb (suc a) (suc b) (omega (arith, leb-true a b e)))
    by_test false e = sym (lt-leb (suc a) (suc b) (omega (arith, leb-false a b e)))

is_get : {A : Type 0} (l : List A) (k : ℕ) → is_some (get_elem? l k) ≡ leb (suc k) (length l)
is_get [] k = sym (lt-leb (suc k) 0 (omega arith))
is_get (x ∷ l) zero = sym (le-leb 1 (suc (length l)) (omega arith))
is_get (x ∷ l) (suc k) = is_get l k ∙ leb_suc (suc k) (length l)

is_pick : {A : Type 0} (l : List A) (k : ℕ) → is_some (pick l k) ≡ (leb 1 k && leb k (length l))
is_pick l zero = refl
is_pick l (suc k) = is_get l k ∙ ap (λ (t : Bool). t && leb (suc k) (length l)) (sym (le-leb 1 (suc k) (omega arith)))

-- an operation whose kind has a number in a list
is_kinds : {A B : Type 0} (l : List A) (k : ℕ) (t : Bool) (g : A → B) → is_some (with (pick l k) (λ a. when t (g a))) ≡ (t && (leb 1 k && leb k (length l)))
is_kinds l k t g = is_with (pick l k) _ t (λ a. is_when t (g a)) ∙ ap (λ (x : Bool). x && t) (is_pick l k) ∙ and_comm (leb 1 k && leb k (length l)) t

-- ---- bytes

word_small : {e : List ℕ} → AreBytes e → be_value (part e 8 8) ≤ 18446744073709551615
word_small {e} h =
    let k : length (part e 8 8) ≤ 8 = omega (arith, length-take 8 (drop 8 e)) in
    let m : 256 ^ length (part e 8 8) ≤ 18446744073709551616 = pow-le-pow_right (zero-lt-suc 255) k in
    omega (arith, be_value_lt (each_part 8 8 h))

-- ---- single values

word_most : (k w : ℕ) → w ≤ 18446744073709551615 → word_ok k w ≡ leb w (single_most k)
word_most k w h = by_test (eqb k 2) (eqb k 3)
  where
    by_test : (s t : Bool) → cond s (leb w 63) (cond t (leb w 1) true) ≡ leb w (cond s 63 (cond t 1 18446744073709551615))
    by_test true t = refl
    by_test false true = refl
    by_test false false = sym (le-leb w 18446744073709551615 h)

is_single : (k w : ℕ) → w ≤ 18446744073709551615 → is_some (single k w) ≡ (leb 1 k && (leb k 4 && leb w (single_most k)))
is_single k w h =
    is_when (leb 1 k && (leb k 4 && word_ok k w)) (single_of k w) ∙ ap (λ (x : Bool). leb 1 k && (leb k 4 && x)) (word_most k w h)

is_item : (e : List ℕ) → AreBytes e → is_some (item_of e) ≡ entry_fits 1 4 e
is_item e h = is_single (get_or e 0 0) (be_value (part e 8 8)) (word_small h)

-- a parameter: its kind is 2
is_param : (k w : ℕ) → w ≤ 18446744073709551615 → is_some (with (single k w) param) ≡ (leb 2 k && (leb k 2 && leb w (single_most k)))
is_param k w h = by_kind (eqb k 2) refl
  where
    text_only : (t : Bool) → is_some (with (when t (Text w)) param) ≡ t
    text_only true = refl
    text_only false = refl

    no_text : (t x y : Bool) → is_some (with (when t (cond x (Num (of_bits binary64 w)) (cond y (Bl (eqb w 1)) Null))) param) ≡ false
    no_text false x y = refl
    no_text true true y = refl
    no_text true false true = refl
    no_text true false false = refl

    neither : (s t u : Bool) → (k ≡ 2 → ⊥) → leb 2 k ≡ s → leb k 2 ≡ t → (s && (t && u)) ≡ false
    neither false t u n p q = refl
    neither true false u n p q = refl
    neither true true u n p q = absurd (n (omega (arith, leb-true 2 k p, leb-true k 2 q)))

    by_kind : (t : Bool) → eqb k 2 ≡ t → is_some (with (single k w) param) ≡ (leb 2 k && (leb k 2 && leb w (single_most k)))
    by_kind true e = let q : k ≡ 2 = eqb-true k 2 e in rw q (text_only (leb w 63))
    by_kind false e =
        rw e (no_text (leb 1 k && (leb k 4 && cond (eqb k 3) (leb w 1) true)) (eqb k 1) (eqb k 3))
        ∙ sym (neither (leb 2 k) (leb k 2) (leb w (single_most k)) (eqb-false k 2 e) refl refl)

-- ---- the entries of a record

params_cons : (m : Option Single) (o : Option (List Single)) → is_some (with (with m (λ s. with o (λ l. some (s ∷ l)))) params) ≡ (is_some (with m param) && is_some (with o params))
params_cons none o = refl
params_cons (some s) none = sym (and-false (is_some (param s)))
params_cons (some s) (some l) = is_with (param s) _ (is_some (params l)) (λ x. is_with (params l) _ true (λ xs. refl) ∙ and-true (is_some (params l)))

module _ (b : List ℕ) (bytes : AreBytes b) where
  -- entry p of the pool, and those behind it
  first_entry : (p : ℕ) → p < 1024 → take 16 (drop (p * 16) (part b 16384 16384)) ≡ part b (16384 + 16 * p) 16
  first_entry p h =
      let e : p * 16 ≡ 16 * p = omega arith in
      part_part b 16384 16384 (p * 16) 16 (omega arith) ∙ ap (λ (i : ℕ). part b (16384 + i) 16) e

  next_entry : (p : ℕ) → drop 16 (drop (p * 16) (part b 16384 16384)) ≡ drop (suc p * 16) (part b 16384 16384)
  next_entry p =
      let e : p * 16 + 16 ≡ suc p * 16 = omega arith in
      drop-drop 16 (p * 16) (part b 16384 16384) ∙ ap (λ (i : ℕ). drop i (part b 16384 16384)) e

  is_items : (n p : ℕ) → p + n ≤ 1024 → is_some (item_list n (drop (p * 16) (part b 16384 16384))) ≡ all_from n p (entry_ok 1 4 b)
  is_items zero p h = refl
  is_items (suc n) p h =
      let r = drop (p * 16) (part b 16384 16384) in
      is_with (item_of (take 16 r)) _ (is_some (item_list n (drop 16 r))) (λ s. is_with (item_list n (drop 16 r)) _ true (λ l. refl) ∙ and-true (is_some (item_list n (drop 16 r))))
      ∙ ap₂ (λ (x y : Bool). x && y)
      (ap (λ (e : List ℕ). is_some (item_of e)) (first_entry p (omega arith)) ∙ is_item (part b (16384 + 16 * p) 16) (each_part (16384 + 16 * p) 16 bytes))
      (ap (λ (e : List ℕ). is_some (item_list n e)) (next_entry p) ∙ is_items n (suc p) (omega arith))

  is_params : (n p : ℕ) → p + n ≤ 1024 → is_some (with (item_list n (drop (p * 16) (part b 16384 16384))) params) ≡ all_from n p (entry_ok 2 2 b)
  is_params zero p h = refl
  is_params (suc n) p h =
      let r = drop (p * 16) (part b 16384 16384) in
      let e = part b (16384 + 16 * p) 16 in
      params_cons (item_of (take 16 r)) (item_list n (drop 16 r))
      ∙ ap₂ (λ (x y : Bool). x && y)
      (ap (λ (e : List ℕ). is_some (with (item_of e) param)) (first_entry p (omega arith)) ∙ is_param (get_or e 0 0) (be_value (part e 8 8)) (word_small (each_part (16384 + 16 * p) 16 bytes)))
      (ap (λ (e : List ℕ). is_some (with (item_list n e) params)) (next_entry p) ∙ is_params n (suc p) (omega arith))

  module _ (f : Fields) (p : ℕ) where
    span : Bool
    span = eqb f.word p && leb (p + f.len) 1024

    span_ends : span ≡ true → p + f.len ≤ 1024
    unfolding span
    span_ends e = leb-true (p + f.len) 1024 (snd (eqb f.word p) (leb (p + f.len) 1024) e)
      where
        snd : (x y : Bool) → (x && y) ≡ true → y ≡ true
        snd true y e = e
        snd false y e = let z : ◌≡◌ {A = ℕ} 0 1 = cc in absurd (omega arith)

    is_items_at : is_some (items_at f p (part b 16384 16384)) ≡ ((eqb f.word p && leb (p + f.len) 1024) && all_from f.len p (entry_ok 1 4 b))
    unfolding span
    is_items_at = is_guard span (item_list f.len (drop (p * 16) (part b 16384 16384))) _ (λ g. is_items f.len p (span_ends g))

    is_params_at : is_some (with (items_at f p (part b 16384 16384)) params) ≡ ((eqb f.word p && leb (p + f.len) 1024) && all_from f.len p (entry_ok 2 2 b))
    unfolding span
    is_params_at =
        guarded span (item_list f.len (drop (p * 16) (part b 16384 16384)))
        ∙ is_guard span (with (item_list f.len (drop (p * 16) (part b 16384 16384))) params) _ (λ g. is_params f.len p (span_ends g))
      where
        guarded : (g : Bool) (o : Option (List Single)) → is_some (with (only_if g o) params) ≡ is_some (only_if g (with o params))
        guarded true o = refl
        guarded false o = refl

    -- as many items as the record says
    items_take : AllSome (λ (l : List Single). length l ≡ f.len) (items_at f p (part b 16384 16384))
    items_take = guard_all _ (eqb f.word p && leb (p + f.len) 1024) (item_list f.len (drop (p * 16) (part b 16384 16384))) (λ e. counted (item_list f.len (drop (p * 16) (part b 16384 16384))) refl)
      where
        counted : (o : Option (List Single)) → item_list f.len (drop (p * 16) (part b 16384 16384)) ≡ o → AllSome (λ (l : List Single). length l ≡ f.len) o
        counted none e = tt
        counted (some l) e = (items_law f.len (drop (p * 16) (part b 16384 16384)) e).0

    -- ---- literals

    is_literal_lem : f.word ≤ 18446744073709551615 → is_some (literal_of f p (part b 16384 16384))
        ≡ (((leb 1 f.kind && leb f.kind 6) && (leb f.word (single_most f.kind) && (not (eqb f.kind 6) || eqb f.len 0))) && cond (eqb f.kind 5) (entries_fit 24 1 4 f p b) true)
    is_literal_lem h = by_kind (eqb f.kind 5) (eqb f.kind 6) refl refl
      where
        by_kind : (s t : Bool) → eqb f.kind 5 ≡ s → eqb f.kind 6 ≡ t
            → is_some (cond s (only_if (leb f.len 24) (with (items_at f p (part b 16384 16384)) (λ l. some (Arr l)))) (cond t (when (eqb f.len 0) (Tab [])) (with (single f.kind f.word) (λ s. some (One s)))))
            ≡ (((leb 1 f.kind && leb f.kind 6) && (leb f.word (single_most f.kind) && (not t || eqb f.len 0))) && cond s (entries_fit 24 1 4 f p b) true)
        by_kind true t e g =
            let q : f.kind ≡ 5 = eqb-true f.kind 5 e in
            let u : t ≡ false = sym g ∙ rw q in
            is_guard (leb f.len 24) (with (items_at f p (part b 16384 16384)) (λ l. some (Arr l))) _ (λ n. is_with (items_at f p (part b 16384 16384)) _ true (λ l. refl) ∙ and-true (is_some (items_at f p (part b 16384 16384))) ∙ is_items_at)
            ∙ sym (rw (u, q, le-leb f.word 18446744073709551615 h) (and_assoc (leb f.len 24) (eqb f.word p && leb (p + f.len) 1024) (all_from f.len p (entry_ok 1 4 b))))
        by_kind false true e g =
            let q : f.kind ≡ 6 = eqb-true f.kind 6 g in
            is_when (eqb f.len 0) (Tab []) ∙ sym (rw (q, le-leb f.word 18446744073709551615 h) (and-true (eqb f.len 0)))
        by_kind false false e g =
            is_with (single f.kind f.word) _ true (λ s. refl)
            ∙ and-true (is_some (single f.kind f.word))
            ∙ is_single f.kind f.word h
            ∙ regroup (leb 1 f.kind) (leb f.kind 4) (leb f.kind 6) (leb f.word (single_most f.kind)) (six (leb f.kind 4) refl)
          where
            six : (t : Bool) → leb f.kind 4 ≡ t → t ≡ leb f.kind 6
            six true k = sym (le-leb f.kind 6 (omega (arith, leb-true f.kind 4 k)))
            six false k = sym (lt-leb f.kind 6 (omega (arith, leb-false f.kind 4 k, eqb-false f.kind 5 e, eqb-false f.kind 6 g)))

            regroup : (x y z w : Bool) → y ≡ z → (x && (y && w)) ≡ (((x && z) && (w && true)) && true)
            regroup x y z w k = rw k (simp (and-true, and_assoc))

    -- as many items as a literal takes
    literal_takes : AllSome (λ (v : Value). length (literal_items v) ≡ cond (eqb f.kind 5) f.len 0) (literal_of f p (part b 16384 16384))
    literal_takes = by_kind (eqb f.kind 5) (eqb f.kind 6)
      where
        by_kind : (s t : Bool) → AllSome (λ (v : Value). length (literal_items v) ≡ cond s f.len 0)
            (cond s (only_if (leb f.len 24) (with (items_at f p (part b 16384 16384)) (λ l. some (Arr l)))) (cond t (when (eqb f.len 0) (Tab [])) (with (single f.kind f.word) (λ s. some (One s)))))
        by_kind true t =
            guard_all _ (leb f.len 24) (with (items_at f p (part b 16384 16384)) (λ l. some (Arr l)))
            (λ e. with_all _ (λ (l : List Single). length l ≡ f.len) (items_at f p (part b 16384 16384)) (λ l. some (Arr l)) items_take (λ l g. g))
        by_kind false true = when_all _ (eqb f.len 0) (Tab []) (λ e. refl)
        by_kind false false = with_all _ (λ (s : Single). s ≡ s) (single f.kind f.word) (λ s. some (One s)) (when_all _ (leb 1 f.kind && (leb f.kind 4 && word_ok f.kind f.word)) (single_of f.kind f.word) (λ e. refl)) (λ s g. refl)

    -- ---- operations, by their numbers

    -- what is read as operation o: whether there is one; how many entries it takes; which function it declares
    abbrev Agrees : ℕ → Option Op → Type 0
    Agrees o m = (is_some m ≡ (fits_as o f && pooled_as o f p b)) × AllSome (λ (i : Op). (length (items_of i) ≡ taken_as o f) × ((x : ℕ) → declares i x ≡ (eqb o 16 && eqb f.a x))) m

    infixr 60 ◌▹◌
    data Agree : ℕ → List (Option Op) → Type 0 where
      end : {o : ℕ} → Agree o []
      ◌▹◌ : {o : ℕ} {m : Option Op} {ms : List (Option Op)} → Agrees o m → Agree (suc o) ms → Agree o (m ∷ ms)

    -- one that holds no items
    plain : (o : ℕ) (t : Bool) (i : Op) → t ≡ (fits_as o f && pooled_as o f p b) → length (items_of i) ≡ taken_as o f → ((x : ℕ) → declares i x ≡ (eqb o 16 && eqb f.a x)) → Agrees o (when t i)
    plain o t i e l d = (is_when t i ∙ e, when_all _ t i (λ _. (l, d)))

    -- one of a kind
    kinds : {A : Type 0} (o : ℕ) (l : List A) (t : Bool) (g : A → Op) → (t && (leb 1 f.kind && leb f.kind (length l))) ≡ (fits_as o f && pooled_as o f p b)
        → ((a : A) → length (items_of (g a)) ≡ taken_as o f) → ((a : A) (x : ℕ) → declares (g a) x ≡ (eqb o 16 && eqb f.a x)) → Agrees o (with (pick l f.kind) (λ a. when t (g a)))
    kinds o l t g e k d = (is_kinds l f.kind t g ∙ e, with_all _ _ (pick l f.kind) (λ a. when t (g a)) (any_all (pick l f.kind)) (λ a _. when_all _ t (g a) (λ _. (k a, d a))))

    -- one of a literal
    literals : (o : ℕ) (t : Bool) (g : Value → Op) → (is_some (literal_of f p (part b 16384 16384)) && t) ≡ (fits_as o f && pooled_as o f p b)
        → ((v : Value) → length (literal_items v) ≡ cond (eqb f.kind 5) f.len 0 → length (items_of (g v)) ≡ taken_as o f) → ((v : Value) (x : ℕ) → declares (g v) x ≡ (eqb o 16 && eqb f.a x))
        → Agrees o (with (literal_of f p (part b 16384 16384)) (λ v. when t (g v)))
    literals o t g e k d = (
      is_with (literal_of f p (part b 16384 16384)) _ t (λ v. is_when t (g v)) ∙ e,
      with_all _ _ (literal_of f p (part b 16384 16384)) (λ v. when t (g v)) literal_takes (λ v q. when_all _ t (g v) (λ _. (k v q, d v))),
    )

    -- the test of a literal at operand a
    literal_test : (t x y z q w : Bool) {l : Bool} → x ≡ true → y ≡ true → l ≡ ((q && z) && w) → (l && t) ≡ ((((t && (x && y)) && q) && z) && w)
    literal_test t true true z q w e g h = rw h (flip t q z w)
      where
        flip : (t q z w : Bool) → (((q && z) && w) && t) ≡ ((((t && true) && q) && z) && w)
        flip true q z w = and-true ((q && z) && w)
        flip false q z w = and-false ((q && z) && w)
    literal_test t true false z q w e g h = let n : ◌≡◌ {A = ℕ} 0 1 = cc in absurd (omega arith)
    literal_test t false y z q w e g h = let n : ◌≡◌ {A = ℕ} 0 1 = cc in absurd (omega arith)

    module _ (ha : leb f.a 255 ≡ true) (hb : leb f.b 255 ≡ true) (hc : leb f.c 255 ≡ true) (hk : leb f.kind 255 ≡ true) (hn : leb f.len 255 ≡ true) (hw : f.word ≤ 18446744073709551615) where
      h0 : leb 0 f.kind ≡ true
      h0 = le-leb 0 f.kind (omega arith)

      declares_fn : Agrees 16 (with (items_at f p (part b 16384 16384)) (λ l. with (params l) (λ ps. when (text_ok f.a) (Fn f.a ps))))
      declares_fn = (
        fns (items_at f p (part b 16384 16384)) ∙ ap (λ (t : Bool). t && text_ok f.a) is_params_at ∙ regroup (leb f.a 63) (eqb f.word p && leb (p + f.len) 1024) (all_from f.len p (entry_ok 2 2 b)),
        with_all _ (λ (l : List Single). length l ≡ f.len) (items_at f p (part b 16384 16384)) _ items_take
            (λ l q. with_all _ (λ (ps : List ℕ). length ps ≡ length l) (params l) _ (counted l) (λ ps r. when_all _ (text_ok f.a) (Fn f.a ps) (λ _. (length-map ps Text ∙ r ∙ q, λ x. refl)))),
      )
        where
          fns : (m : Option (List Single)) → is_some (with m (λ l. with (params l) (λ ps. when (text_ok f.a) (Fn f.a ps)))) ≡ (is_some (with m params) && text_ok f.a)
          fns none = refl
          fns (some l) = is_with (params l) _ (text_ok f.a) (λ ps. is_when (text_ok f.a) (Fn f.a ps))

          regroup : (t g s : Bool) → ((g && s) && t) ≡ ((((t && (leb f.b 255 && leb f.c 255)) && (leb 0 f.kind && leb f.kind 255)) && true) && ((leb f.len 255 && g) && s))
          regroup t g s = rw (hb, hc, h0, hk, hn) (flip t g s)
            where
              flip : (t g s : Bool) → ((g && s) && t) ≡ ((((t && true) && true) && true) && (g && s))
              flip true g s = and-true (g && s)
              flip false g s = and-false (g && s)

          counted : (l : List Single) → AllSome (λ (ps : List ℕ). length ps ≡ length l) (params l)
          counted [] = refl
          counted (s ∷ l) = with_all _ _ (param s) _ (any_all (param s)) (λ x _. with_all _ (λ (ps : List ℕ). length ps ≡ length l) (params l) _ (counted l) (λ ps r. ap suc r))

      all : Agree 1 (decoders f p (part b 16384 16384))
      all =
          kinds 1 bin_kinds (reg_ok f.a && (reg_ok f.b && reg_ok f.c)) (λ k. Binary k f.a f.b f.c) (simp and-true) (λ k. refl) (λ k x. refl)
          ▹ kinds 2 (Lneg ∷ Nneg ∷ []) (reg_ok f.a && reg_ok f.b) (λ k. Unary k f.a f.b) (simp (hc, and-true)) (λ k. refl) (λ k x. refl)
          ▹ literals 3 (reg_ok f.a) (λ v. Ldc f.a v) (literal_test (reg_ok f.a) (leb f.b 255) (leb f.c 255) _ _ _ hb hc (is_literal_lem hw)) (λ v q. q) (λ v x. refl)
          ▹ plain 4 (reg_ok f.a && text_ok f.b) (Ldn f.a f.b) (simp (hc, h0, hk, and-true)) refl (λ x. refl)
          ▹ plain 5 (reg_ok f.a && reg_ok f.b) (Mv f.a f.b) (simp (hc, h0, hk, and-true)) refl (λ x. refl)
          ▹ plain 6 (text_ok f.a && reg_ok f.b) (Ldas f.a f.b) (simp (hc, h0, hk, and-true)) refl (λ x. refl)
          ▹ plain 7 (text_ok f.a && (reg_ok f.b && reg_ok f.c)) (Ldav f.a f.b f.c) (simp (h0, hk, and-true)) refl (λ x. refl)
          ▹ plain 8 (text_ok f.a && (reg_ok f.b && reg_ok f.c)) (Upda f.a f.b f.c) (simp (h0, hk, and-true)) refl (λ x. refl)
          ▹ literals 9 (text_ok f.a) (λ v. Stc v f.a) (literal_test (text_ok f.a) (leb f.b 255) (leb f.c 255) _ _ _ hb hc (is_literal_lem hw)) (λ v q. q) (λ v x. refl)
          ▹ plain 10 (text_ok f.a && text_ok f.b) (Stn f.a f.b) (simp (hc, h0, hk, and-true)) refl (λ x. refl)
          ▹ plain 11 (reg_ok f.a && text_ok f.b) (Str f.a f.b) (simp (hc, h0, hk, and-true)) refl (λ x. refl)
          ▹ kinds 12 (Jmpt ∷ Jmpf ∷ []) (reg_ok f.a && lbl_ok f.word) (λ k. JmpCnd k f.a f.word) (jmp (reg_ok f.a) (lbl_ok f.word) (leb 1 f.kind && leb f.kind 2)) (λ k. refl) (λ k x. refl)
          ▹ plain 13 (lbl_ok f.word) (Jmpa f.word) (simp (ha, hb, hc, h0, hk, and-true)) refl (λ x. refl)
          ▹ plain 14 (reg_ok f.a) (Incrr f.a) (simp (hb, hc, h0, hk, and-true)) refl (λ x. refl)
          ▹ plain 15 (reg_ok f.a) (Decrr f.a) (simp (hb, hc, h0, hk, and-true)) refl (λ x. refl)
          ▹ declares_fn
          ▹ plain 17 (text_ok f.a && leb f.word 255) (Call f.a f.word) (simp (hb, hc, h0, hk, and-true)) refl (λ x. refl)
          ▹ plain 18 true FnRet (simp (ha, hb, hc, h0, hk, and-true)) refl (λ x. refl)
          ▹ plain 19 (reg_ok f.a) (FnStackPush f.a) (simp (hb, hc, h0, hk, and-true)) refl (λ x. refl)
          ▹ plain 20 (reg_ok f.a) (FnStackPop f.a) (simp (hb, hc, h0, hk, and-true)) refl (λ x. refl)
          ▹ plain 21 (text_ok f.a && (text_ok f.b && reg_ok f.c)) (Tbli f.a f.b f.c) (simp (h0, hk, and-true)) refl (λ x. refl)
          ▹ plain 22 (text_ok f.a && (text_ok f.b && reg_ok f.c)) (Tblg f.a f.b f.c) (simp (h0, hk, and-true)) refl (λ x. refl)
          ▹ plain 23 true Nop (simp (ha, hb, hc, h0, hk, and-true)) refl (λ x. refl)
          ▹ plain 24 true Stop (simp (ha, hb, hc, h0, hk, and-true)) refl (λ x. refl)
          ▹ end
        where
          jmp : (x y k : Bool) → ((x && y) && k) ≡ ((((x && (leb f.b 255 && leb f.c 255)) && k) && (y && true)) && true)
          jmp x y k = rw (hb, hc) (flip x y k)
            where
              flip : (x y k : Bool) → ((x && y) && k) ≡ ((((x && true) && k) && (y && true)) && true)
              flip true true k = sym (and-true (k && true) ∙ and-true k)
              flip true false k = sym (and-true (k && false) ∙ and-false k)
              flip false y k = refl

      -- operation o + k is the k-th of those from o on
      agree_at : (o k : ℕ) {ms : List (Option Op)} → Agree o ms → k < length ms → Agrees (o + k) (with (get_elem? ms k) (λ m. m))
      agree_at o k end h = absurd (not-suc-le-zero h)
      agree_at o zero (◌▹◌ {m = m} r g) h = subst (λ (j : ℕ). Agrees j m) (sym (add-zero o)) r
      agree_at o (suc k) (◌▹◌ {ms = ms} r g) h =
          let e : suc o + k ≡ o + suc k = omega arith in
          subst (λ (j : ℕ). Agrees j (with (get_elem? ms k) (λ m. m))) e (agree_at (suc o) k g (le_of_suc-le-suc h))

      -- a number that no operation has
      unknown : (o : ℕ) → limits_of o ≡ no_kind → false ≡ (fits_as o f && pooled_as o f p b)
      unknown o e =
          sym (none_of (operands_fit f.a f.b f.c no_kind) (word_fits f.word 16777215 && literal_fits o f.kind f.len f.word) (pooled_as o f p b) (leb 1 f.kind) (leb f.kind 0) refl refl)
          ∙ ap (λ (m : ℕ). ((operands_fit f.a f.b f.c m && kind_fits f.kind m) && (word_fits f.word (m / 1099511627776) && literal_fits o f.kind f.len f.word)) && pooled_as o f p b) (sym e)
        where
          none_of : (x z w s t : Bool) → leb 1 f.kind ≡ s → leb f.kind 0 ≡ t → (((x && (s && t)) && z) && w) ≡ false
          none_of true z w true true p q = absurd (omega (arith, leb-true 1 f.kind p, leb-true f.kind 0 q))
          none_of true z w true false p q = refl
          none_of true z w false t p q = refl
          none_of false z w s t p q = refl

      decoded : (o : ℕ) → Agrees o (with (pick (decoders f p (part b 16384 16384)) o) (λ m. m))
      decoded zero = (unknown 0 refl, tt)
      decoded (suc k) = by_order (leb (suc k) 24) refl
        where
          beyond : (l : List (Option Op)) (j : ℕ) → length l ≤ j → get_elem? l j ≡ none
          beyond [] j h = refl
          beyond (x ∷ l) zero h = absurd (not-suc-le-zero h)
          beyond (x ∷ l) (suc j) h = beyond l j (le_of_suc-le-suc h)

          by_order : (t : Bool) → leb (suc k) 24 ≡ t → Agrees (suc k) (with (get_elem? (decoders f p (part b 16384 16384)) k) (λ m. m))
          by_order true e =
              let q : 1 + k ≡ suc k = omega arith in
              subst (λ (j : ℕ). Agrees j (with (get_elem? (decoders f p (part b 16384 16384)) k) (λ m. m))) q (agree_at 1 k all (omega (arith, leb-true (suc k) 24 e)))
          by_order false e =
              let n : 24 ≤ k = omega (arith, leb-false (suc k) 24 e) in
              subst (λ (m : Option (Option Op)). Agrees (suc k) (with m (λ m. m))) (sym (beyond (decoders f p (part b 16384 16384)) k n))
              (unknown (suc k) (get_or-eq_default limit_table no_kind n), tt)

-- ---- instructions

module _ (b : List ℕ) (bytes : AreBytes b) (r : List ℕ) (small : AreBytes r) (p : ℕ) where
  agrees : Agrees b bytes (fields_of r) p (fields_of r).code (with (pick (decoders (fields_of r) p (part b 16384 16384)) (fields_of r).code) (λ m. m))
  agrees =
      let fit : (i : ℕ) → leb (get_or r i 0) 255 ≡ true = λ i. le-leb (get_or r i 0) 255 (byte_at small i) in
      decoded b bytes (fields_of r) p (fit 4) (fit 5) (fit 6) (fit 1) (fit 7) (word_small small) (get_or r 0 0)

  pub is_instr : is_some (decode_instr r p (part b 16384 16384)) ≡ (record_fits (fields_of r) && pooled (fields_of r) p b)
  is_instr =
      is_with (with (pick (decoders (fields_of r) p (part b 16384 16384)) (fields_of r).code) (λ m. m)) _ (lbl_ok (fields_of r).lbl) (λ o. is_when (lbl_ok (fields_of r).lbl) (instr (fields_of r).lbl o))
      ∙ ap (λ (x : Bool). x && lbl_ok (fields_of r).lbl) agrees.0
      ∙ flip (fits_as (fields_of r).code (fields_of r)) (pooled (fields_of r) p b) (lbl_ok (fields_of r).lbl)
    where
      flip : (x y l : Bool) → ((x && y) && l) ≡ ((l && x) && y)
      flip x y true = and-true (x && y)
      flip x y false = and-false (x && y)

  -- the label of an instruction, the entries that it takes, the function that it declares
  pub instr_all : AllSome (λ (i : Instr). (label i ≡ (fields_of r).lbl) × (length (items_of (op i)) ≡ taken (fields_of r)) × ((x : ℕ) → declares (op i) x ≡ (eqb (fields_of r).code 16 && eqb (fields_of r).a x)))
      (decode_instr r p (part b 16384 16384))
  instr_all =
      with_all _ _ (with (pick (decoders (fields_of r) p (part b 16384 16384)) (fields_of r).code) (λ m. m)) _ agrees.1
      (λ o q. when_all _ (lbl_ok (fields_of r).lbl) (instr (fields_of r).lbl o) (λ _. (refl, q.0, q.1)))
