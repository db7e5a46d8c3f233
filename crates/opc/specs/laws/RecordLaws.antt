-- The laws of records: an instruction whose operands are in range is read back from its record and its items. Document 01, "Numbers given for the
-- input": 8 is the answer where a register is over 95, a text over 63, a label over 1,023, and so on; `instr_ok` is that none of these holds.
use Rattle.std.specs.Prelude.{◌≡◌, refl, Bool, true, false, ◌&&◌, List, [], ◌∷◌, ◌++◌, map, ℕ, ◌+◌, ◌*◌, ◌^◌, ◌≤◌, ◌<◌, leb, ltb, eqb, length, drop}
use Rattle.std.proofs.Common.{sym, ap, ap₂, ◌∙◌, arith, leb-true, le-leb, ltb-true, lt-ltb, eq-eqb}
use Rattle.std.proofs.Math.Option.{Option, none, some}
use Rattle.std.proofs.lemmas.List.{length-map}
use Rattle.lent.specs.Bytes.{concat, Each, none, more}
use Rattle.lent.specs.laws.Numbers.{be_value_be_bytes}
use Rattle.sifv.specs.Value.{Single, Value, One, Arr, Tab, Num, Bl, Null, Str as Text}
use Rattle.sifv.specs.Slot.{single_kind, word_of, singles_ok}
use Rattle.sifv.specs.laws.Layout.{and_left, and_right}
use Rattle.sifv.specs.laws.SlotLaws.{stored_singles, word_lt, word_back, single_back, Stored}
use Rattle.opc.specs.Op.{BinOpKind, Add, Sub, Mul, Div, Modu, Eq, Neq, LtEq, Lt, GtEq, Gt, Land, Lnot, Lor, UnOpKind, Lneg, Nneg, JmpOpKind, Jmpt, Jmpf}
use Rattle.opc.specs.Op.{Op, Binary, Unary, Ldc, Ldn, Mv, Ldas, Ldav, Upda, Stc, Stn, Str, JmpCnd, Jmpa, Incrr, Decrr, Fn, Call, FnRet, FnStackPush, FnStackPop, Tbli, Tblg, Nop, Stop, Instr, instr, op}
use Rattle.opc.specs.Record.{bin_number, bin_kinds, un_number, jmp_number, pick, Fields, field_bytes, fields_of, literal_items, items_of, item_bytes, literal_fields, op_fields, encode_instr, reg_ok, text_ok, lbl_ok, single, item_of, item_list, items_at, literal_of, params, decoders, decode_instr}
use Rattle.lent.specs.Lists.{when, with}
use Rattle.sifv.specs.Limits.{ValueFits}
use Rattle.opc.specs.Limits.{OpFits, instr_ok, literal_ok, op_ok, params_ok}

-- ---- operands in range

-- ---- fields

pub fields_back : (f : Fields) → f.lbl < 65536 → f.word < 2 ^ 64 → fields_of (field_bytes f) ≡ f
fields_back f h k =
    ap₂ (λ (l w : ℕ). record { code = f.code; kind = f.kind; lbl = l; a = f.a; b = f.b; c = f.c; len = f.len; word = w })
    (be_value_be_bytes 2 f.lbl h) (be_value_be_bytes 8 f.word k)

-- ---- items

when_true : {A : Type 0} (t : Bool) (a : A) → t ≡ true → when t a ≡ some a
when_true t a e = rw e

text_lt : (t : ℕ) → ltb t 64 ≡ true → leb t 63 ≡ true
text_lt t e = le-leb t 63 (omega (arith, ltb-true t 64 e))

single_of_lem : (s : Single) → Stored s → single (single_kind s) (word_of s) ≡ some s
single_of_lem (Num x) h = ap some (single_back (Num x) h)
single_of_lem (Text t) h = rw (text_lt t h.0)
single_of_lem (Bl true) h = refl
single_of_lem (Bl false) h = refl
single_of_lem Null h = refl

-- an entry of the pool
item_back : (s : Single) → Stored s → item_of (item_bytes s) ≡ some s
item_back s h = ap (single (single_kind s)) (word_back s h) ∙ single_of_lem s h

pub items_back : {l : List Single} (rest : List ℕ) → Each Stored l → item_list (length l) (concat (map item_bytes l) ++ rest) ≡ some l
items_back rest none = refl
items_back rest (more {a = s} {l = l} p h) =
    let r = concat (map item_bytes l) ++ rest in
    ap (λ (o : Option Single). with o (λ s. with (item_list (length l) r) (λ l. some (s ∷ l)))) (item_back s p)
    ∙ ap (λ (o : Option (List Single)). with o (λ l. some (s ∷ l))) (items_back rest h)

pub params_back : (ps : List ℕ) → params (map Text ps) ≡ some ps
params_back [] = refl
params_back (x ∷ ps) = ap (λ (o : Option (List ℕ)). with o (λ xs. some (x ∷ xs))) (params_back ps)

stored_texts : (ts : List ℕ) → params_ok ts ≡ true → Each Stored (map Text ts)
stored_texts [] e = none
stored_texts (t ∷ ts) e = more (lt-ltb t 64 (omega (arith, leb-true t 63 (and_left (text_ok t) (params_ok ts) e))), tt) (stored_texts ts (and_right (text_ok t) (params_ok ts) e))

-- ---- literals

no_array : (s : Single) → eqb (single_kind s) 5 ≡ false
no_array (Num x) = refl
no_array (Text t) = refl
no_array (Bl b) = refl
no_array Null = refl

no_table : (s : Single) → eqb (single_kind s) 6 ≡ false
no_table (Num x) = refl
no_table (Text t) = refl
no_table (Bl b) = refl
no_table Null = refl

-- the items of a literal or a function lie in the pool from entry p on
module _ (p : ℕ) (pool rest : List ℕ) where
  items_at_lem : (f : Fields) (l : List Single) → f.word ≡ p → f.len ≡ length l → Each Stored l
      → drop (p * 16) pool ≡ concat (map item_bytes l) ++ rest → p + length l ≤ 1024 → items_at f p pool ≡ some l
  items_at_lem f l w n h e k = rw (w, n, eq-eqb p p refl, le-leb (p + length l) 1024 k, e) (items_back rest h)

  one_of : (s : Single) (f : Fields) → f.kind ≡ single_kind s → f.word ≡ word_of s → Stored s → literal_of f p pool ≡ some (One s)
  one_of s f k w h = rw (k, w, no_array s, no_table s) (ap (λ (o : Option Single). with o (λ s. some (One s))) (single_of_lem s h))

  literal_back : (l o : ℕ) (v : Value) (a : ℕ) → literal_ok v ≡ true → ValueFits (some v)
      → drop (p * 16) pool ≡ concat (map item_bytes (literal_items v)) ++ rest → p + length (literal_items v) ≤ 1024
      → literal_of (literal_fields l o v a p) p pool ≡ some v
  literal_back l o (One s) a h f e k = one_of s (literal_fields l o (One s) a p) refl refl (h, f)
  literal_back l o (Arr is) a h f e k =
      rw (
        and_left (leb (length is) 24) (singles_ok is) h,
        items_at_lem (literal_fields l o (Arr is) a p) is refl refl (stored_singles is (and_right (leb (length is) 24) (singles_ok is) h) f) e k,
      )
  literal_back l o (Tab []) a h f e k = refl
  literal_back l o (Tab (x ∷ t)) a h f e k = let z : ◌≡◌ {A = ℕ} 0 1 = cc in absurd (omega arith)

-- ---- operations

pick_bin : (k : BinOpKind) → pick bin_kinds (bin_number k) ≡ some k
pick_bin Add = refl
pick_bin Sub = refl
pick_bin Mul = refl
pick_bin Div = refl
pick_bin Modu = refl
pick_bin Eq = refl
pick_bin Neq = refl
pick_bin LtEq = refl
pick_bin Lt = refl
pick_bin GtEq = refl
pick_bin Gt = refl
pick_bin Land = refl
pick_bin Lnot = refl
pick_bin Lor = refl

pick_un : (k : UnOpKind) → pick (Lneg ∷ Nneg ∷ []) (un_number k) ≡ some k
pick_un Lneg = refl
pick_un Nneg = refl

pick_jmp : (k : JmpOpKind) → pick (Jmpt ∷ Jmpf ∷ []) (jmp_number k) ≡ some k
pick_jmp Jmpt = refl
pick_jmp Jmpf = refl

-- the label is in its place, and the number lies within its bytes
literal_range : (l o : ℕ) (v : Value) (a p : ℕ) → literal_ok v ≡ true → ValueFits (some v) → p ≤ 1024
    → ((literal_fields l o v a p).lbl ≡ l) × ((literal_fields l o v a p).word < 2 ^ 64)
literal_range l o (One s) a p e f k = (refl, word_lt s (e, f))
literal_range l o (Arr is) a p e f k = omega arith
literal_range l o (Tab t) a p e f k = omega arith

op_range : (l : ℕ) (o : Op) (p : ℕ) → op_ok o ≡ true → OpFits o → p ≤ 1024 → ((op_fields l o p).lbl ≡ l) × ((op_fields l o p).word < 2 ^ 64)
op_range l (Binary k a b d) p e f q = omega arith
op_range l (Unary k a d) p e f q = omega arith
op_range l (Ldc d v) p e f q = literal_range l 3 v d p (and_right (reg_ok d) (literal_ok v) e) f q
op_range l (Ldn d n) p e f q = omega arith
op_range l (Mv s d) p e f q = omega arith
op_range l (Ldas n d) p e f q = omega arith
op_range l (Ldav n i d) p e f q = omega arith
op_range l (Upda n i v) p e f q = omega arith
op_range l (Stc v n) p e f q = literal_range l 9 v n p (and_right (text_ok n) (literal_ok v) e) f q
op_range l (Stn s d) p e f q = omega arith
op_range l (Str s n) p e f q = omega arith
op_range l (JmpCnd k s t) p e f q = omega (arith, leb-true t 1023 (and_right (reg_ok s) (lbl_ok t) e))
op_range l (Jmpa t) p e f q = omega (arith, leb-true t 1023 e)
op_range l (Incrr s) p e f q = omega arith
op_range l (Decrr s) p e f q = omega arith
op_range l (Fn n ps) p e f q = omega arith
op_range l (Call n k) p e f q = omega (arith, leb-true k 255 (and_right (text_ok n) (leb k 255) e))
op_range l FnRet p e f q = omega arith
op_range l (FnStackPush s) p e f q = omega arith
op_range l (FnStackPop d) p e f q = omega arith
op_range l (Tbli t k s) p e f q = omega arith
op_range l (Tblg t k d) p e f q = omega arith
op_range l Nop p e f q = omega arith
op_range l Stop p e f q = omega arith

literal_code : (l o : ℕ) (v : Value) (a p : ℕ) → (literal_fields l o v a p).code ≡ o
literal_code l o (One s) a p = refl
literal_code l o (Arr is) a p = refl
literal_code l o (Tab t) a p = refl

literal_place_lem : (l o : ℕ) (v : Value) (a p : ℕ) → (literal_fields l o v a p).a ≡ a
literal_place_lem l o (One s) a p = refl
literal_place_lem l o (Arr is) a p = refl
literal_place_lem l o (Tab t) a p = refl

-- the operation that fields stand for
abbrev op_of : Fields → ℕ → List ℕ → Option Op
op_of f p pool = with (pick (decoders f p pool) f.code) (λ o. o)

module _ (p : ℕ) (pool rest : List ℕ) (l : ℕ) where
  fn_back : (n : ℕ) (ps : List ℕ) → op_ok (Fn n ps) ≡ true → drop (p * 16) pool ≡ concat (map item_bytes (map Text ps)) ++ rest → p + length (map Text ps) ≤ 1024
      → op_of (op_fields l (Fn n ps) p) p pool ≡ some (Fn n ps)
  fn_back n ps e i q =
      let f = op_fields l (Fn n ps) p in
      let t = and_left (text_ok n) (params_ok ps && leb (length ps) 255) e in
      let s = stored_texts ps (and_left (params_ok ps) (leb (length ps) 255) (and_right (text_ok n) (params_ok ps && leb (length ps) 255) e)) in
      rw (items_at_lem p pool rest f (map Text ps) refl (sym (length-map ps Text)) s i q, params_back ps, t)

  op_back : (o : Op) → op_ok o ≡ true → OpFits o → drop (p * 16) pool ≡ concat (map item_bytes (items_of o)) ++ rest → p + length (items_of o) ≤ 1024
      → op_of (op_fields l o p) p pool ≡ some o
  op_back (Binary k a b d) e f i q = rw (pick_bin k, e)
  op_back (Unary k a d) e f i q = rw (pick_un k, e)
  op_back (Ldc d v) e f i q = rw (literal_code l 3 v d p, literal_place_lem l 3 v d p, literal_back p pool rest l 3 v d (and_right (reg_ok d) (literal_ok v) e) f i q, and_left (reg_ok d) (literal_ok v) e)
  op_back (Ldn d n) e f i q = rw e
  op_back (Mv s d) e f i q = rw e
  op_back (Ldas n d) e f i q = rw e
  op_back (Ldav n j d) e f i q = rw e
  op_back (Upda n j v) e f i q = rw e
  op_back (Stc v n) e f i q = rw (literal_code l 9 v n p, literal_place_lem l 9 v n p, literal_back p pool rest l 9 v n (and_right (text_ok n) (literal_ok v) e) f i q, and_left (text_ok n) (literal_ok v) e)
  op_back (Stn s d) e f i q = rw e
  op_back (Str s n) e f i q = rw e
  op_back (JmpCnd k s t) e f i q = rw (pick_jmp k, e)
  op_back (Jmpa t) e f i q = rw e
  op_back (Incrr s) e f i q = rw e
  op_back (Decrr s) e f i q = rw e
  op_back (Fn n ps) e f i q = fn_back n ps e i q
  op_back (Call n k) e f i q = rw e
  op_back FnRet e f i q = refl
  op_back (FnStackPush s) e f i q = rw e
  op_back (FnStackPop d) e f i q = rw e
  op_back (Tbli t k s) e f i q = rw e
  op_back (Tblg t k d) e f i q = rw e
  op_back Nop e f i q = refl
  op_back Stop e f i q = refl

-- An instruction is read back from its record: its items lie in the pool from entry p on, and end within 1,024 entries.
pub instr_back : (p : ℕ) (pool rest : List ℕ) (i : Instr) → instr_ok i ≡ true → OpFits (op i)
    → drop (p * 16) pool ≡ concat (map item_bytes (items_of (op i))) ++ rest → p + length (items_of (op i)) ≤ 1024
    → decode_instr (encode_instr i p) p pool ≡ some i
instr_back p pool rest (instr l o) e f i q =
    let t = and_left (lbl_ok l) (op_ok o) e in
    let u = and_right (lbl_ok l) (op_ok o) e in
    let r = op_range l o p u f (omega arith) in
    let n : (op_fields l o p).lbl < 65536 = omega (arith, leb-true l 1023 t, r.0) in
    ap (λ (g : Fields). with (op_of g p pool) (λ o. when (lbl_ok g.lbl) (instr g.lbl o))) (fields_back (op_fields l o p) n r.1)
    ∙ ap (λ (x : Option Op). with x (λ y. when (lbl_ok (op_fields l o p).lbl) (instr (op_fields l o p).lbl y))) (op_back p pool rest l o u f i q)
    ∙ ap (λ (n : ℕ). when (lbl_ok n) (instr n o)) r.0
    ∙ when_true (lbl_ok l) (instr l o) t
