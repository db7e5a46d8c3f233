-- A program within the limits is read back from its file; and a file that is read is the file of its program: a program has one file only.
use Rattle.std.specs.Prelude.{◌≡◌, refl, Bool, true, false, ◌&&◌, List, [], ◌∷◌, ◌++◌, map, ℕ, ◌+◌, ◌-◌, ◌<◌, leb, length, get_or, take, drop}
use Rattle.std.proofs.Common.{sym, ap, ap₂, ◌∙◌, subst, append_assoc, append-nil, arith, length-append, take_at, drop_at, drop-drop, leb-true, lt-ltb}
use Rattle.std.proofs.Math.Option.{Option, none, some}
use Rattle.std.proofs.lemmas.List.{length-map}
use Rattle.lent.specs.Bytes.{be_value, be_bytes, part, same_bytes, cut, concat, Each, none}
use Rattle.lent.specs.Lists.{zeros, pad, when, with}
use Rattle.lent.specs.laws.Numbers.{be_value_be_bytes}
use Rattle.lent.specs.laws.Same.{same_refl, same_eq}
use Rattle.lent.specs.laws.Truths.{and_left, and_right, and_both}
use Rattle.lent.specs.laws.Cuts.{cut_concat}
use Rattle.sifv.specs.Value.{Single, Value, One, Arr, Tab, Str as Text}
use Rattle.sifv.specs.Slot.{single_ok, singles_ok}
use Rattle.opc.specs.Op.{Op, Binary, Unary, Ldc, Ldn, Mv, Ldas, Ldav, Upda, Stc, Stn, Str, JmpCnd, Jmpa, Incrr, Decrr, Fn, Call, FnRet, FnStackPush, FnStackPop, Tbli, Tblg, Nop, Stop, Instr, instr, op, Code}
use Rattle.opc.specs.Record.{items_of, literal_items, item_bytes, encode_instr, reg_ok, text_ok, lbl_ok}
use Rattle.opc.specs.Limits.{OpFits, instr_ok, op_ok, literal_ok, params_ok}
use Rattle.tables.specs.Tables.{Program}
use Rattle.tables.specs.ProgramBytes.{record_bytes, pool_bytes, decode_code}
use Rattle.tables.specs.Limits.{item_total, code_ok, program_ok}
use Rattle.tables.specs.laws.ProgramLaws.{limits, code_back}
use Rattle.program_file.specs.ProgramFile.{record_body, item_body, pool_items, record_bodies, program_file, records_from, item_from, records_in, pool_in, instr_count, record_count, bodies_in, read_program}
use Rattle.program_file.specs.laws.BodyLaws.{body_back, entries, item_body_back}

-- ---- records

abbrev instr_body : Instr → List ℕ
instr_body i = record_body (encode_instr i 0)

abbrev single_body : Single → List ℕ
single_body s = item_body (item_bytes s)

records_back : (c : Code) (p : ℕ) → code_ok c ≡ true → records_from p (map instr_body c) ≡ record_bytes c p
records_back [] p e = refl
records_back (i ∷ c) p e =
    let q = p + length (items_of (op i)) in
    ap (λ (r : List ℕ). r ++ records_from (p + get_or r 7 0) (map instr_body c)) (body_back i p (and_left (instr_ok i) (code_ok c) e))
    ∙ ap (λ (n : ℕ). encode_instr i p ++ records_from (p + n) (map instr_body c)) (entries i p)
    ∙ ap (λ (r : List ℕ). encode_instr i p ++ r) (records_back c q (and_right (instr_ok i) (code_ok c) e))

-- ---- items

singles_append : (a b : List Single) → singles_ok a ≡ true → singles_ok b ≡ true → singles_ok (a ++ b) ≡ true
singles_append [] b e f = f
singles_append (s ∷ a) b e f = and_both (and_left (single_ok s) (singles_ok a) e) (singles_append a b (and_right (single_ok s) (singles_ok a) e) f)

texts_ok_lem : (ts : List ℕ) → params_ok ts ≡ true → singles_ok (map Text ts) ≡ true
texts_ok_lem [] e = refl
texts_ok_lem (t ∷ ts) e = and_both (lt-ltb t 64 (omega (arith, leb-true t 63 (and_left (text_ok t) (params_ok ts) e)))) (texts_ok_lem ts (and_right (text_ok t) (params_ok ts) e))

literal_items_ok : (v : Value) → literal_ok v ≡ true → singles_ok (literal_items v) ≡ true
literal_items_ok (One s) e = refl
literal_items_ok (Arr l) e = and_right (leb (length l) 24) (singles_ok l) e
literal_items_ok (Tab t) e = refl

op_items_ok : (o : Op) → op_ok o ≡ true → singles_ok (items_of o) ≡ true
op_items_ok (Binary k a b d) e = refl
op_items_ok (Unary k a d) e = refl
op_items_ok (Ldc d v) e = literal_items_ok v (and_right (reg_ok d) (literal_ok v) e)
op_items_ok (Ldn d n) e = refl
op_items_ok (Mv s d) e = refl
op_items_ok (Ldas n d) e = refl
op_items_ok (Ldav n i d) e = refl
op_items_ok (Upda n i v) e = refl
op_items_ok (Stc v n) e = literal_items_ok v (and_right (text_ok n) (literal_ok v) e)
op_items_ok (Stn s d) e = refl
op_items_ok (Str s n) e = refl
op_items_ok (JmpCnd k s t) e = refl
op_items_ok (Jmpa t) e = refl
op_items_ok (Incrr s) e = refl
op_items_ok (Decrr s) e = refl
op_items_ok (Fn n ps) e = texts_ok_lem ps (and_left (params_ok ps) (leb (length ps) 255) (and_right (text_ok n) (params_ok ps && leb (length ps) 255) e))
op_items_ok (Call n k) e = refl
op_items_ok FnRet e = refl
op_items_ok (FnStackPush s) e = refl
op_items_ok (FnStackPop d) e = refl
op_items_ok (Tbli t k s) e = refl
op_items_ok (Tblg t k d) e = refl
op_items_ok Nop e = refl
op_items_ok Stop e = refl

instr_items_ok : (i : Instr) → instr_ok i ≡ true → singles_ok (items_of (op i)) ≡ true
instr_items_ok (instr l o) e = op_items_ok o (and_right (lbl_ok l) (op_ok o) e)

items_ok_lem : (c : Code) → code_ok c ≡ true → singles_ok (pool_items c) ≡ true
items_ok_lem [] e = refl
items_ok_lem (i ∷ c) e =
    singles_append (items_of (op i)) (pool_items c) (instr_items_ok i (and_left (instr_ok i) (code_ok c) e)) (items_ok_lem c (and_right (instr_ok i) (code_ok c) e))

pub items_counted : (c : Code) → length (pool_items c) ≡ item_total c
items_counted [] = refl
items_counted (i ∷ c) = length-append (items_of (op i)) (pool_items c) ∙ ap (λ (n : ℕ). length (items_of (op i)) + n) (items_counted c)

entries_back : (l : List Single) → singles_ok l ≡ true → concat (map item_from (map single_body l)) ≡ concat (map item_bytes l)
entries_back [] e = refl
entries_back (s ∷ l) e = ap₂ (λ (a b : List ℕ). a ++ b) (item_body_back s (and_left (single_ok s) (singles_ok l) e)) (entries_back l (and_right (single_ok s) (singles_ok l) e))

bytes_append : (a b : List Single) → concat (map item_bytes (a ++ b)) ≡ concat (map item_bytes a) ++ concat (map item_bytes b)
bytes_append [] b = refl
bytes_append (s ∷ a) b = ap (λ (r : List ℕ). item_bytes s ++ r) (bytes_append a b) ∙ sym (append_assoc (item_bytes s) (concat (map item_bytes a)) (concat (map item_bytes b)))

pool_is : (c : Code) → concat (map item_bytes (pool_items c)) ≡ pool_bytes c
pool_is [] = refl
pool_is (i ∷ c) = bytes_append (items_of (op i)) (pool_items c) ∙ ap (λ (r : List ℕ). concat (map item_bytes (items_of (op i))) ++ r) (pool_is c)

-- ---- the file

-- what is made of the fields of a file f
abbrev pub assembled_file : List ℕ → ℕ → List (List ℕ) → ℕ → Option Program
assembled_file f n bs s =
    with (decode_code n (records_in n bs) 0 (pool_in n bs))
    (λ c. let p : Program = record { code = c; code_start = s } in when (program_ok p && same_bytes (program_file p) f) p)

pub read_assembled : (f : List ℕ) → read_program f ≡ assembled_file f (instr_count f) (bodies_in f) (be_value (part f 4 2))
unfolding read_program
read_assembled f = refl

pub bodies_length : (c : Code) → length (map length (record_bodies c)) ≡ length c + length (pool_items c)
bodies_length c =
    length-map (record_bodies c) length
    ∙ length-append (map instr_body c) (map single_body (pool_items c))
    ∙ ap₂ (λ (a b : ℕ). a + b) (length-map c instr_body) (length-map (pool_items c) single_body)

-- the bodies in a file with such counts
bodies_back : (a b s : ℕ) (c : Code) → a < 65536 → b < 65536 → a ≡ length c → b ≡ length (pool_items c)
    → bodies_in (be_bytes 2 a ++ (be_bytes 2 b ++ (be_bytes 2 s ++ (map length (record_bodies c) ++ concat (record_bodies c))))) ≡ record_bodies c
bodies_back a b s c ha hb ea eb =
    let ls = map length (record_bodies c) in
    let bs = concat (record_bodies c) in
    let f = be_bytes 2 a ++ (be_bytes 2 b ++ (be_bytes 2 s ++ (ls ++ bs))) in
    let k : record_count f ≡ length ls = ap₂ (λ (x y : ℕ). x + y) (be_value_be_bytes 2 a ha ∙ ea) (be_value_be_bytes 2 b hb ∙ eb) ∙ sym (bodies_length c) in
    ap (λ (n : ℕ). cut (part f 6 n) (drop (6 + n) f)) k
    ∙ ap₂ (λ (x y : List ℕ). cut x y) (take_at ls bs (length ls) refl) (sym (drop-drop (length ls) 6 f) ∙ drop_at ls bs (length ls) refl)
    ∙ ap (cut ls) (sym (append-nil bs))
    ∙ cut_concat (record_bodies c) []

-- a file's fields give its program back
fields_back : (p : Program) → program_ok p ≡ true → Each (λ (i : Instr). OpFits (op i)) p.code → assembled_file (program_file p) (length p.code) (record_bodies p.code) p.code_start ≡ some p
fields_back p e f =
    let c = p.code in
    let k = limits p e in
    let a = map instr_body c in
    let b = map single_body (pool_items c) in
    let n = length-map c instr_body in
    let r : records_from 0 (take (length c) (a ++ b)) ≡ record_bytes c 0 = ap (records_from 0) (take_at a b (length c) n) ∙ records_back c 0 k.ranged in
    let q : concat (map item_from (drop (length c) (a ++ b))) ≡ pool_bytes c =
    ap (λ (l : List (List ℕ)). concat (map item_from l)) (drop_at a b (length c) n) ∙ entries_back (pool_items c) (items_ok_lem c k.ranged) ∙ pool_is c in
    let d : decode_code (length c) (records_in (length c) (a ++ b)) 0 (pool_in (length c) (a ++ b)) ≡ some c =
    ap₂ (λ (x y : List ℕ). decode_code (length c) (pad 16384 x) 0 (pad 16384 y)) r q
    ∙ code_back c 0 (zeros (16384 - length (record_bytes c 0))) (pad 16384 (pool_bytes c)) (zeros (16384 - length (pool_bytes c))) k.ranged f refl (omega (arith, k.pooled)) in
    rw (d, e, same_refl (program_file p))

pub read_back : (p : Program) → program_ok p ≡ true → Each (λ (i : Instr). OpFits (op i)) p.code → read_program (program_file p) ≡ some p
unfolding program_file
read_back p e f =
    let c = p.code in
    let k = limits p e in
    let m = items_counted c in
    let g = program_file p in
    let e₁ : instr_count g ≡ length c = be_value_be_bytes 2 (length c) (omega (arith, k.count)) in
    let e₂ : bodies_in g ≡ record_bodies c = bodies_back (length c) (length (pool_items c)) p.code_start c (omega (arith, k.count)) (omega (arith, k.pooled)) refl refl in
    let e₃ : be_value (part g 4 2) ≡ p.code_start = be_value_be_bytes 2 p.code_start (omega (arith, k.start, k.count)) in
    read_assembled g ∙ (λ j. assembled_file g (e₁ j) (e₂ j) (e₃ j)) ∙ fields_back p e f

-- ---- one file only

when_some : {A : Type 0} (t : Bool) (a b : A) → when t a ≡ some b → (t ≡ true) × (a ≡ b)
when_some true a b e = (refl, cc)
when_some false a b e = let z : ◌≡◌ {A = ℕ} 0 1 = cc in absurd (omega arith)

-- a file that is read is the file of its program, and the program is within the limits
pub file_is : (f : List ℕ) (p : Program) → read_program f ≡ some p → (program_ok p ≡ true) × (program_file p ≡ f)
file_is f p e =
    by (decode_code n (records_in n bs) 0 (pool_in n bs)) (sym (read_assembled f) ∙ e)
  where
    n : ℕ
    n = instr_count f

    bs : List (List ℕ)
    bs = bodies_in f

    s : ℕ
    s = be_value (part f 4 2)

    by : (o : Option Code) → with o (λ c. let q : Program = record { code = c; code_start = s } in when (program_ok q && same_bytes (program_file q) f) q) ≡ some p → (program_ok p ≡ true) × (program_file p ≡ f)
    by none e = let z : ◌≡◌ {A = ℕ} 0 1 = cc in absurd (omega arith)
    by (some c) e =
        let q : Program = record { code = c; code_start = s } in
        let w = when_some (program_ok q && same_bytes (program_file q) f) q p e in
        let t = subst (λ (x : Program). (program_ok x && same_bytes (program_file x) f) ≡ true) w.1 w.0 in
        (and_left (program_ok p) (same_bytes (program_file p) f) t, same_eq (program_file p) f (and_right (program_ok p) (same_bytes (program_file p) f) t))

-- M-101: "a program has one file only", and a file one program
pub one_program : (p q : Program) → program_ok p ≡ true → program_ok q ≡ true → Each (λ (i : Instr). OpFits (op i)) p.code → Each (λ (i : Instr). OpFits (op i)) q.code
    → program_file p ≡ program_file q → p ≡ q
one_program p q e f h k g = let z : some p ≡ some q = sym (read_back p e h) ∙ ap read_program g ∙ read_back q f k in cc
