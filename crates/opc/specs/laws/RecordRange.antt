-- What is read from a record is in range: document 01, "Numbers given for the input", 8, leaves no other instruction.
use Rattle.std.specs.Prelude.{◌≡◌, refl, Bool, true, false, cond, ◌&&◌, List, [], ◌∷◌, ℕ, zero, suc, ◌+◌, ◌*◌, ◌≤◌, T, leb, eqb, length, get_or, take, drop}
use Rattle.std.proofs.Math.Option.{Option, none, some}
use Rattle.std.proofs.Common.{arith, leb-true, le-leb, lt-ltb, ltb-true}
use Rattle.std.proofs.Math.ListN.{get_elem?}
use Rattle.std.proofs.lemmas.List.{length-map}
use Rattle.std.specs.Float.{binary64}
use Rattle.std.specs.Float.Ieee.{of_bits}
use Rattle.std.specs.Float.Ieee.Bits.{of_bits-fits}
use Rattle.lent.specs.Bytes.{be_value, part, Each, none, more}
use Rattle.sifv.specs.Value.{Single, Value, One, Arr, Tab, Num, Bl, Null, Str as Text}
use Rattle.sifv.specs.Slot.{single_of}
use Rattle.sifv.specs.laws.Layout.{and_right, and_both}
use Rattle.sifv.specs.laws.SlotLaws.{stored_ok, stored_fit, Stored}
use Rattle.opc.specs.Op.{Lneg, Nneg, Jmpt, Jmpf}
use Rattle.opc.specs.Op.{Op, Binary, Unary, Ldc, Ldn, Mv, Ldas, Ldav, Upda, Stc, Stn, Str, JmpCnd, Jmpa, Incrr, Decrr, Fn, Call, FnRet, FnStackPush, FnStackPop, Tbli, Tblg, Nop, Stop, Instr, instr, op}
use Rattle.opc.specs.Record.{bin_kinds, pick, Fields, fields_of, literal_items, items_of, reg_ok, text_ok, lbl_ok, word_ok, single, item_of, item_list, items_at, literal_of, param, params, decoders, decode_instr}
use Rattle.lent.specs.Lists.{when, with, only_if}
use Rattle.sifv.specs.Limits.{ValueFits}
use Rattle.opc.specs.Limits.{literal_ok, params_ok, op_ok, instr_ok, OpFits}

-- ---- what holds of a result, if there is one

abbrev pub AllSome : {A : Type 0} → (A → Type 0) → Option A → Type 0
AllSome P none = T true
AllSome P (some a) = P a

module _ {A : Type 0} (P : A → Type 0) where
  pub when_all : (b : Bool) (a : A) → (b ≡ true → P a) → AllSome P (when b a)
  when_all true a h = h refl
  when_all false a h = tt

  pub guard_all : (b : Bool) (o : Option A) → (b ≡ true → AllSome P o) → AllSome P (only_if b o)
  guard_all true o h = h refl
  guard_all false o h = tt

  pub with_all : {B : Type 0} (Q : B → Type 0) (o : Option B) (f : B → Option A) → AllSome Q o → ((b : B) → Q b → AllSome P (f b)) → AllSome P (with o f)
  with_all Q none f h g = tt
  with_all Q (some b) f h g = g b h

  get_all : {l : List (Option A)} → Each (AllSome P) l → (k : ℕ) → AllSome (AllSome P) (get_elem? l k)
  get_all none k = tt
  get_all (more p h) zero = p
  get_all (more p h) (suc k) = get_all h k

  pick_all : {l : List (Option A)} → Each (AllSome P) l → (k : ℕ) → AllSome (AllSome P) (pick l k)
  pick_all h zero = tt
  pick_all h (suc k) = get_all h k

-- anything
abbrev pub Any : {A : Type 0} → A → Type 0
Any a = T true

pub any_all : {A : Type 0} (o : Option A) → AllSome Any o
any_all none = tt
any_all (some a) = tt

-- ---- items

pub word_stored : (k w : ℕ) → word_ok k w ≡ true → Stored (single_of k w)
word_stored k w = by_test (eqb k 1) (eqb k 2) (eqb k 3)
  where
    by_test : (a b c : Bool) → cond b (leb w 63) (cond c (leb w 1) true) ≡ true
        → Stored (cond a (Num (of_bits binary64 w)) (cond b (Text w) (cond c (Bl (eqb w 1)) Null)))
    by_test true b c e = (refl, of_bits-fits binary64 w)
    by_test false true c e = (lt-ltb w 64 (omega (arith, leb-true w 63 e)), tt)
    by_test false false true e = (refl, tt)
    by_test false false false e = (refl, tt)

single_range : (k w : ℕ) → AllSome Stored (single k w)
single_range k w = when_all Stored (leb 1 k && (leb k 4 && word_ok k w)) (single_of k w) (λ e. word_stored k w (and_right (leb k 4) (word_ok k w) (and_right (leb 1 k) (leb k 4 && word_ok k w) e)))

-- n values that may be stored
abbrev Items : ℕ → List Single → Type 0
Items n l = (length l ≡ n) × Each Stored l

items_range : (n : ℕ) (pool : List ℕ) → AllSome (Items n) (item_list n pool)
items_range zero pool = (refl, none)
items_range (suc n) pool =
    with_all (Items (suc n)) Stored (item_of (take 16 pool)) (λ s. with (item_list n (drop 16 pool)) (λ l. some (s ∷ l)))
    (single_range (get_or (take 16 pool) 0 0) (be_value (part (take 16 pool) 8 8)))
    (λ s p. with_all (Items (suc n)) (Items n) (item_list n (drop 16 pool)) (λ l. some (s ∷ l)) (items_range n (drop 16 pool)) (λ l h. (omega (arith, h.0), more p h.1)))

-- from entry p on, and within 1,024 entries
abbrev Placed : ℕ → ℕ → List Single → Type 0
Placed p n l = (p + n ≤ 1024) × (length l ≡ n) × Each Stored l

placed_range : (f : Fields) (p : ℕ) (pool : List ℕ) → AllSome (Placed p f.len) (items_at f p pool)
placed_range f p pool =
    guard_all (Placed p f.len) (eqb f.word p && leb (p + f.len) 1024) (item_list f.len (drop (p * 16) pool))
    (λ e. lift (item_list f.len (drop (p * 16) pool)) (leb-true (p + f.len) 1024 (and_right (eqb f.word p) (leb (p + f.len) 1024) e)) (items_range f.len (drop (p * 16) pool)))
  where
    lift : (o : Option (List Single)) → p + f.len ≤ 1024 → AllSome (Items f.len) o → AllSome (Placed p f.len) o
    lift none h g = tt
    lift (some l) h g = (h, g.0, g.1)

-- ---- literals and parameters

abbrev LiteralRange : ℕ → Value → Type 0
LiteralRange p v = (literal_ok v ≡ true) × ValueFits (some v) × (p + length (literal_items v) ≤ 1024)

literal_range : (f : Fields) (p : ℕ) (pool : List ℕ) → p ≤ 1024 → AllSome (LiteralRange p) (literal_of f p pool)
literal_range f p pool h = by_test (eqb f.kind 5) (eqb f.kind 6)
  where
    by_test : (a b : Bool) → AllSome (LiteralRange p)
        (cond a (only_if (leb f.len 24) (with (items_at f p pool) (λ l. some (Arr l)))) (cond b (when (eqb f.len 0) (Tab [])) (with (single f.kind f.word) (λ s. some (One s)))))
    by_test true b =
        guard_all (LiteralRange p) (leb f.len 24) (with (items_at f p pool) (λ l. some (Arr l)))
        (λ e. with_all (LiteralRange p) (Placed p f.len) (items_at f p pool) (λ l. some (Arr l)) (placed_range f p pool)
        (λ l g. (and_both (le-leb (length l) 24 (omega (arith, leb-true f.len 24 e, g.1))) (stored_ok g.2), stored_fit g.2, omega (arith, g.0, g.1))))
    by_test false true = when_all (LiteralRange p) (eqb f.len 0) (Tab []) (λ e. (refl, none, omega arith))
    by_test false false =
        with_all (LiteralRange p) Stored (single f.kind f.word) (λ s. some (One s)) (single_range f.kind f.word) (λ s g. (g.0, g.1, omega arith))

abbrev Texts : ℕ → List ℕ → Type 0
Texts n ps = (length ps ≡ n) × (params_ok ps ≡ true)

param_range : (s : Single) → Stored s → AllSome (λ (t : ℕ). text_ok t ≡ true) (param s)
param_range (Text t) h = le-leb t 63 (omega (arith, ltb-true t 64 h.0))
param_range (Num x) h = tt
param_range (Bl b) h = tt
param_range Null h = tt

params_range : {l : List Single} → Each Stored l → AllSome (Texts (length l)) (params l)
params_range none = (refl, refl)
params_range (more {a = s} {l = l} p h) =
    with_all (Texts (suc (length l))) (λ (t : ℕ). text_ok t ≡ true) (param s) (λ x. with (params l) (λ xs. some (x ∷ xs))) (param_range s p)
    (λ x g. with_all (Texts (suc (length l))) (Texts (length l)) (params l) (λ xs. some (x ∷ xs)) (params_range h) (λ xs k. (omega (arith, k.0), and_both g k.1)))

-- ---- operations

-- in range, its numbers fit, and its items end within 1,024 entries
abbrev pub OpRange : ℕ → Op → Type 0
OpRange p o = (op_ok o ≡ true) × OpFits o × (p + length (items_of o) ≤ 1024)

module _ (f : Fields) (p : ℕ) (pool : List ℕ) (h : p ≤ 1024) (g : f.len ≤ 255) where
  -- one that holds no items
  plain : (b : Bool) (o : Op) → (b ≡ true → (op_ok o ≡ true) × OpFits o × (length (items_of o) ≡ 0)) → AllSome (OpRange p) (when b o)
  plain b o k = when_all (OpRange p) b o (λ e. ((k e).0, (k e).1, omega (arith, (k e).2)))

  decoders_range : Each (AllSome (OpRange p)) (decoders f p pool)
  decoders_range =
      more (with_all (OpRange p) Any (pick bin_kinds f.kind) _ (any_all (pick bin_kinds f.kind)) (λ k q. plain _ (Binary k f.a f.b f.c) (λ e. (e, tt, refl))))
      (more (with_all (OpRange p) Any (pick (Lneg ∷ Nneg ∷ []) f.kind) _ (any_all (pick (Lneg ∷ Nneg ∷ []) f.kind)) (λ k q. plain _ (Unary k f.a f.b) (λ e. (e, tt, refl))))
      (more (with_all (OpRange p) (LiteralRange p) (literal_of f p pool) _ (literal_range f p pool h) (λ v q. when_all (OpRange p) (reg_ok f.a) (Ldc f.a v) (λ e. (and_both e q.0, q.1, q.2))))
      (more (plain _ (Ldn f.a f.b) (λ e. (e, tt, refl)))
      (more (plain _ (Mv f.a f.b) (λ e. (e, tt, refl)))
      (more (plain _ (Ldas f.a f.b) (λ e. (e, tt, refl)))
      (more (plain _ (Ldav f.a f.b f.c) (λ e. (e, tt, refl)))
      (more (plain _ (Upda f.a f.b f.c) (λ e. (e, tt, refl)))
      (more (with_all (OpRange p) (LiteralRange p) (literal_of f p pool) _ (literal_range f p pool h) (λ v q. when_all (OpRange p) (text_ok f.a) (Stc v f.a) (λ e. (and_both e q.0, q.1, q.2))))
      (more (plain _ (Stn f.a f.b) (λ e. (e, tt, refl)))
      (more (plain _ (Str f.a f.b) (λ e. (e, tt, refl)))
      (more (with_all (OpRange p) Any (pick (Jmpt ∷ Jmpf ∷ []) f.kind) _ (any_all (pick (Jmpt ∷ Jmpf ∷ []) f.kind)) (λ k q. plain _ (JmpCnd k f.a f.word) (λ e. (e, tt, refl))))
      (more (plain _ (Jmpa f.word) (λ e. (e, tt, refl)))
      (more (plain _ (Incrr f.a) (λ e. (e, tt, refl)))
      (more (plain _ (Decrr f.a) (λ e. (e, tt, refl)))
      (more (with_all (OpRange p) (Placed p f.len) (items_at f p pool) _ (placed_range f p pool)
      (λ l q. with_all (OpRange p) (Texts (length l)) (params l) _ (params_range q.2) (λ ps k. when_all (OpRange p) (text_ok f.a) (Fn f.a ps)
      (λ e. (and_both e (and_both k.1 (le-leb (length ps) 255 (omega (arith, k.0, q.1)))), tt, omega (arith, length-map ps Text, k.0, q.0, q.1))))))
      (more (plain _ (Call f.a f.word) (λ e. (e, tt, refl)))
      (more {a = some FnRet} (refl, tt, omega arith)
      (more (plain _ (FnStackPush f.a) (λ e. (e, tt, refl)))
      (more (plain _ (FnStackPop f.a) (λ e. (e, tt, refl)))
      (more (plain _ (Tbli f.a f.b f.c) (λ e. (e, tt, refl)))
      (more (plain _ (Tblg f.a f.b f.c) (λ e. (e, tt, refl)))
      (more {a = some Nop} (refl, tt, omega arith)
      (more {a = some Stop} (refl, tt, omega arith) none)))))))))))))))))))))))

-- what is read from a record, where its items begin at entry p and its length is a byte
abbrev pub InstrRange : ℕ → Instr → Type 0
InstrRange p i = (instr_ok i ≡ true) × OpFits (op i) × (p + length (items_of (op i)) ≤ 1024)

pub instr_range : (r : List ℕ) (p : ℕ) (pool : List ℕ) → p ≤ 1024 → (fields_of r).len ≤ 255 → AllSome (InstrRange p) (decode_instr r p pool)
instr_range r p pool h g =
    let f = fields_of r in
    with_all (InstrRange p) (OpRange p) (with (pick (decoders f p pool) f.code) (λ o. o)) (λ o. when (lbl_ok f.lbl) (instr f.lbl o))
    (with_all (OpRange p) (AllSome (OpRange p)) (pick (decoders f p pool) f.code) (λ o. o) (pick_all (OpRange p) (decoders_range f p pool h g) f.code) (λ o q. q))
    (λ o q. when_all (InstrRange p) (lbl_ok f.lbl) (instr f.lbl o) (λ e. (and_both e q.0, q.1, q.2)))
