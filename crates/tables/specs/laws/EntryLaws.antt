-- The laws of a stored table while it is made: one entry written, one record passed, the end.
use Rattle.std.specs.Prelude.{ℕ, zero, suc, ◌+◌, ◌*◌, ◌≤◌, ◌<◌, ◌≡◌, refl, Bool, true, false, cond, not, ◌&&◌, List, [], ◌∷◌, ◌++◌, leb, eqb, length, get_or, take, drop, replicate}
use Rattle.std.proofs.Common.{sym, ap, ◌∙◌, arith, length-append, drop_at, leb-true, eq-eqb, ne_eqb}
use Rattle.std.proofs.Math.Option.{Option, none, some}
use Rattle.std.proofs.Math.Seq.{take-length}
use Rattle.lent.specs.Bytes.{be_value, be_bytes, part, splice, concat}
use Rattle.lent.specs.laws.Numbers.{length_be_bytes, be_value_be_bytes}
use Rattle.lent.specs.laws.Parts.{length_splice, part_part, part_append_left, part_splice_before, part_splice_behind, part_splice_around, splice_over, splice_part, splice_append_right, get_d_part}
use Rattle.sifv.specs.Value.{One, Arr, Tab}
use Rattle.sifv.specs.laws.Layout.{and_left, and_right}
use Rattle.opc.specs.Op.{Op, Binary, Unary, Ldc, Ldn, Mv, Ldas, Ldav, Upda, Stc, Stn, Str, JmpCnd, Jmpa, Incrr, Decrr, Fn, Call, FnRet, FnStackPush, FnStackPop, Tbli, Tblg, Nop, Stop}
use Rattle.opc.specs.Op.{Instr, instr, label, op, Code}
use Rattle.opc.specs.Record.{encode_instr, items_of, op_fields}
use Rattle.tables.specs.Tables.{entered, label_at, declares, declared}
use Rattle.tables.specs.ProgramBytes.{index_word, record_bytes, label_bytes}
use Rattle.tables.specs.laws.ProgramLaws.{length_record, length_records}
use Rattle.tables.specs.inner.Entries.{table_bytes, SpellsInstr, SpeltAt, Begun, Records}
use Rattle.lent.specs.Lists.{tabulate}
use Rattle.opc.specs.Limits.{params_ok, instr_ok, op_ok}
use Rattle.tables.specs.Limits.{code_ok}

-- ---- entries

tab_same : (n a : ℕ) (f g : ℕ → List ℕ) → ((x : ℕ) → a ≤ x → f x ≡ g x) → concat (tabulate a n f) ≡ concat (tabulate a n g)
tab_same zero a f g h = refl
tab_same (suc n) a f g h = ap (λ (l : List ℕ). f a ++ l) (tab_same n (suc a) f g (λ x k. h x (omega arith))) ∙ ap (λ (l : List ℕ). l ++ concat (tabulate (suc a) n g)) (h a (omega arith))

length_tab : (n a : ℕ) (f : ℕ → List ℕ) → ((x : ℕ) → length (f x) ≡ 2) → length (concat (tabulate a n f)) ≡ 2 * n
length_tab zero a f h = omega arith
length_tab (suc n) a f h = omega (arith, length-append (f a) (concat (tabulate (suc a) n f)), h a, length_tab n (suc a) f h)

-- one entry is written
tab_set : (n a l : ℕ) (f g : ℕ → List ℕ) (b : List ℕ) → ((x : ℕ) → length (f x) ≡ 2) → length b ≡ 2 → l < n → g (a + l) ≡ b → ((x : ℕ) → (x ≡ a + l → ⊥) → f x ≡ g x)
    → splice (concat (tabulate a n f)) (2 * l) b ≡ concat (tabulate a n g)
tab_set zero a l f g b hf hb h e o = absurd (omega (arith, h))
tab_set (suc n) a zero f g b hf hb h e o =
    let r = concat (tabulate (suc a) n f) in
    let z : a + 0 ≡ a = omega arith in
    let d : b ++ drop (length b) (f a ++ r) ≡ b ++ r = ap (λ (l : List ℕ). b ++ l) (drop_at (f a) r (length b) (hf a ∙ sym hb)) in
    d ∙ ap (λ (l : List ℕ). l ++ r) (sym e ∙ ap g z) ∙ ap (λ (l : List ℕ). g a ++ l) (tab_same n (suc a) f g (λ x k. o x (λ q. omega (arith, q))))
tab_set (suc n) a (suc l) f g b hf hb h e o =
    let r = concat (tabulate (suc a) n f) in
    let z : a + suc l ≡ suc a + l = omega arith in
    let p : 2 * suc l ≡ length (f a) + 2 * l = omega (arith, hf a) in
    ap (λ (i : ℕ). splice (f a ++ r) i b) p
    ∙ splice_append_right (f a) r (2 * l) b
    ∙ ap (λ (l : List ℕ). f a ++ l) (tab_set n (suc a) l f g b hf hb (omega (arith, h)) (ap g (sym z) ∙ e) (λ x k. o x (λ q. k (q ∙ z))))
    ∙ ap (λ (l : List ℕ). l ++ concat (tabulate (suc a) n g)) (o a (λ q. omega (arith, q)))

tab_zeros : (n a : ℕ) → concat (tabulate a n (λ l. be_bytes 2 0)) ≡ replicate (2 * n) 0
tab_zeros zero a = refl
tab_zeros (suc n) a = let e : suc (suc (2 * n)) ≡ 2 * suc n = omega arith in ap (λ (l : List ℕ). 0 ∷ (0 ∷ l)) (tab_zeros n (suc a)) ∙ ap (λ (k : ℕ). replicate k 0) e

-- ---- tables

entry_length : (f : ℕ → Option ℕ) (x : ℕ) → length (be_bytes 2 (index_word (f x))) ≡ 2
entry_length f x = length_be_bytes 2 (index_word (f x))

pub length_entries : (m : ℕ) (f : ℕ → Option ℕ) → length (table_bytes m f) ≡ 2 * m
length_entries m f = length_tab m 0 (λ l. be_bytes 2 (index_word (f l))) (entry_length f)

pub entries_same : (m : ℕ) (f g : ℕ → Option ℕ) → ((l : ℕ) → f l ≡ g l) → table_bytes m f ≡ table_bytes m g
entries_same m f g h = tab_same m 0 (λ l. be_bytes 2 (index_word (f l))) (λ l. be_bytes 2 (index_word (g l))) (λ x k. ap (λ (o : Option ℕ). be_bytes 2 (index_word o)) (h x))

-- no entry: zeros
pub entries_none : (m : ℕ) → table_bytes m (λ l. none) ≡ replicate (2 * m) 0
entries_none m = tab_zeros m 0

-- index i, where hit, at entry x
abbrev pub turn : Bool → ℕ → ℕ → (ℕ → Option ℕ) → ℕ → Option ℕ
turn hit x i f l = cond (hit && eqb x l) (some i) (f l)

turn_set : (m x i : ℕ) (f : ℕ → Option ℕ) → x < m → splice (table_bytes m f) (2 * x) (be_bytes 2 (i + 1)) ≡ table_bytes m (turn true x i f)
turn_set m x i f h =
    let n : suc i ≡ i + 1 = omega arith in
    let at : be_bytes 2 (index_word (turn true x i f (0 + x))) ≡ be_bytes 2 (i + 1) = rw (eq-eqb x (0 + x) (omega arith)) (ap (be_bytes 2) n) in
    tab_set m 0 x (λ l. be_bytes 2 (index_word (f l))) (λ l. be_bytes 2 (index_word (turn true x i f l))) (be_bytes 2 (i + 1)) (entry_length f) (length_be_bytes 2 (i + 1)) h
    at (λ y k. rw (ne_eqb x y (λ q. k (omega (arith, q)))))

-- ---- one entry written into the buffer

-- what `enter` leaves
abbrev pub Entered : ℕ → ℕ → ℕ → Bool → List ℕ → List ℕ → Type 0
Entered base x i hit b b' = b' ≡ cond hit (splice b (base + 2 * x) (be_bytes 2 (i + 1))) b

set_length : (base x i : ℕ) (b : List ℕ) (hit : Bool) → base + 2 * x + 2 ≤ length b → length (cond hit (splice b (base + 2 * x) (be_bytes 2 (i + 1))) b) ≡ length b
set_length base x i b true k = length_splice b (base + 2 * x) (be_bytes 2 (i + 1)) (omega (arith, length_be_bytes 2 (i + 1)))
set_length base x i b false k = refl

pub entered_length : (base x i : ℕ) (hit : Bool) (b b' : List ℕ) → base + 2 * x + 2 ≤ length b → Entered base x i hit b b' → length b' ≡ length b
entered_length base x i hit b b' k e = ap length e ∙ set_length base x i b hit k

module _ (base m x i : ℕ) (b : List ℕ) (l : base + 2 * m ≤ length b) where
  -- the records are kept
  set_before : (hit : Bool) → (hit ≡ true → x < m) → (at n : ℕ) → at + n ≤ base → part (cond hit (splice b (base + 2 * x) (be_bytes 2 (i + 1))) b) at n ≡ part b at n
  set_before true h at n k = part_splice_before b (base + 2 * x) (be_bytes 2 (i + 1)) at n (omega arith) (omega (arith, h refl))
  set_before false h at n k = refl

  -- the table has its turn
  set_table : (hit : Bool) → (hit ≡ true → x < m) → (f : ℕ → Option ℕ) → part b base (2 * m) ≡ table_bytes m f
      → part (cond hit (splice b (base + 2 * x) (be_bytes 2 (i + 1))) b) base (2 * m) ≡ table_bytes m (turn hit x i f)
  set_table true h f t =
      part_splice_around b base (2 * m) (2 * x) (be_bytes 2 (i + 1)) (omega (arith, length_be_bytes 2 (i + 1), h refl)) (omega (arith, h refl))
      ∙ ap (λ (d : List ℕ). splice d (2 * x) (be_bytes 2 (i + 1))) t ∙ turn_set m x i f (h refl)
  set_table false h f t = t

  -- a table written over it covers it
  set_over : (hit : Bool) → (hit ≡ true → x < m) → (t : List ℕ) → length t ≡ 2 * m → splice (cond hit (splice b (base + 2 * x) (be_bytes 2 (i + 1))) b) base t ≡ splice b base t
  set_over true h t k = splice_over b (base + 2 * x) (be_bytes 2 (i + 1)) base t (omega arith) (omega (arith, k, length_be_bytes 2 (i + 1), h refl)) (omega (arith, h refl))
  set_over false h t k = refl

-- ---- records

-- the records are as before
pub spelt_kept : (cs : Code) (i : ℕ) (b b' : List ℕ) → i + length cs ≤ 1024 → ((at n : ℕ) → at + n ≤ 16384 → part b' at n ≡ part b at n) → SpeltAt cs i b → SpeltAt cs i b'
spelt_kept [] i b b' l k h = tt
spelt_kept (c ∷ cs) i b b' l k h =
    (record { items = h.0.items; bytes = k (16 * i) 16 (omega (arith, l)) ∙ h.0.bytes; ranged = h.0.ranged }, spelt_kept cs (suc i) b b' (omega (arith, l)) k h.1)

spelt_at : {i j : ℕ} (cs : Code) (b : List ℕ) → i ≡ j → SpeltAt cs i b → SpeltAt cs j b
spelt_at cs b e h = rw (← e) h

-- all records, one after the other
pub spelt_from : (cs : Code) (i p : ℕ) (b : List ℕ) → code_ok cs ≡ true → part b (16 * i) (16 * length cs) ≡ record_bytes cs p → SpeltAt cs i b
spelt_from [] i p b o e = tt
spelt_from (c ∷ cs) i p b o e =
    let q = p + length (items_of (op c)) in
    let z : 16 * i + 0 ≡ 16 * i = omega arith in
    let n : 16 * i + 16 ≡ 16 * suc i = omega arith in
    let head : part b (16 * i) 16 ≡ encode_instr c p =
    ap (λ (k : ℕ). part b k 16) (sym z) ∙ sym (part_part b (16 * i) (16 * length (c ∷ cs)) 0 16 (omega arith)) ∙ ap (λ (d : List ℕ). part d 0 16) e
    ∙ part_append_left (encode_instr c p) (record_bytes cs q) 0 16 (omega (arith, length_record c p)) ∙ whole c p in
    let tail : part b (16 * suc i) (16 * length cs) ≡ record_bytes cs q =
    ap (λ (k : ℕ). part b k (16 * length cs)) (sym n)
    ∙ sym (part_part b (16 * i) (16 * length (c ∷ cs)) 16 (16 * length cs) (omega arith))
    ∙ ap (λ (d : List ℕ). part d 16 (16 * length cs)) e
    ∙ rest c p (record_bytes cs q) (16 * length cs)
    ∙ all cs q in
    (record { items = p; bytes = head; ranged = and_left (instr_ok c) (code_ok cs) o }, spelt_from cs (suc i) q b (and_right (instr_ok c) (code_ok cs) o) tail)
  where
    whole : (c : Instr) (p : ℕ) → part (encode_instr c p) 0 16 ≡ encode_instr c p
    whole (instr l o) p = refl

    rest : (c : Instr) (p : ℕ) (r : List ℕ) (n : ℕ) → part (encode_instr c p ++ r) 16 n ≡ take n r
    rest (instr l o) p r n = refl

    all : (cs : Code) (q : ℕ) → take (16 * length cs) (record_bytes cs q) ≡ record_bytes cs q
    all cs q = let e : 16 * length cs ≡ length (record_bytes cs q) = omega (arith, length_records cs q) in ap (λ (k : ℕ). take k (record_bytes cs q)) e ∙ take-length (record_bytes cs q)

-- ---- what a record says of its instruction

-- the label
field_label : (l : ℕ) (o : Op) (p : ℕ) → (op_fields l o p).lbl ≡ l
field_label l (Binary k a b d) p = refl
field_label l (Unary k a d) p = refl
field_label l (Ldc d (One x)) p = refl
field_label l (Ldc d (Arr x)) p = refl
field_label l (Ldc d (Tab x)) p = refl
field_label l (Ldn d n) p = refl
field_label l (Mv s d) p = refl
field_label l (Ldas n d) p = refl
field_label l (Ldav n i d) p = refl
field_label l (Upda n i v) p = refl
field_label l (Stc (One x) n) p = refl
field_label l (Stc (Arr x) n) p = refl
field_label l (Stc (Tab x) n) p = refl
field_label l (Stn s d) p = refl
field_label l (Str s n) p = refl
field_label l (JmpCnd k s t) p = refl
field_label l (Jmpa t) p = refl
field_label l (Incrr s) p = refl
field_label l (Decrr s) p = refl
field_label l (Fn n ps) p = refl
field_label l (Call n k) p = refl
field_label l FnRet p = refl
field_label l (FnStackPush s) p = refl
field_label l (FnStackPop d) p = refl
field_label l (Tbli t k s) p = refl
field_label l (Tblg t k d) p = refl
field_label l Nop p = refl
field_label l Stop p = refl

-- the function that it declares
field_declares : (l : ℕ) (o : Op) (p x : ℕ) → declares o x ≡ (eqb (op_fields l o p).code 16 && eqb (op_fields l o p).a x)
field_declares l (Binary k a b d) p x = refl
field_declares l (Unary k a d) p x = refl
field_declares l (Ldc d (One y)) p x = refl
field_declares l (Ldc d (Arr y)) p x = refl
field_declares l (Ldc d (Tab y)) p x = refl
field_declares l (Ldn d n) p x = refl
field_declares l (Mv s d) p x = refl
field_declares l (Ldas n d) p x = refl
field_declares l (Ldav n i d) p x = refl
field_declares l (Upda n i v) p x = refl
field_declares l (Stc (One y) n) p x = refl
field_declares l (Stc (Arr y) n) p x = refl
field_declares l (Stc (Tab y) n) p x = refl
field_declares l (Stn s d) p x = refl
field_declares l (Str s n) p x = refl
field_declares l (JmpCnd k s t) p x = refl
field_declares l (Jmpa t) p x = refl
field_declares l (Incrr s) p x = refl
field_declares l (Decrr s) p x = refl
field_declares l (Fn n ps) p x = refl
field_declares l (Call n k) p x = refl
field_declares l FnRet p x = refl
field_declares l (FnStackPush s) p x = refl
field_declares l (FnStackPop d) p x = refl
field_declares l (Tbli t k s) p x = refl
field_declares l (Tblg t k d) p x = refl
field_declares l Nop p x = refl
field_declares l Stop p x = refl

not_fn : {A : Type 0} → false ≡ true → A
not_fn e = let z : ◌≡◌ {A = ℕ} 0 1 = ap (λ (b : Bool). cond b 1 0) e in absurd (omega (arith, z))

field_name : (l : ℕ) (o : Op) (p : ℕ) → op_ok o ≡ true → eqb (op_fields l o p).code 16 ≡ true → (op_fields l o p).a < 64
field_name l (Binary k a b d) p g e = not_fn e
field_name l (Unary k a d) p g e = not_fn e
field_name l (Ldc d (One y)) p g e = not_fn e
field_name l (Ldc d (Arr y)) p g e = not_fn e
field_name l (Ldc d (Tab y)) p g e = not_fn e
field_name l (Ldn d n) p g e = not_fn e
field_name l (Mv s d) p g e = not_fn e
field_name l (Ldas n d) p g e = not_fn e
field_name l (Ldav n i d) p g e = not_fn e
field_name l (Upda n i v) p g e = not_fn e
field_name l (Stc (One y) n) p g e = not_fn e
field_name l (Stc (Arr y) n) p g e = not_fn e
field_name l (Stc (Tab y) n) p g e = not_fn e
field_name l (Stn s d) p g e = not_fn e
field_name l (Str s n) p g e = not_fn e
field_name l (JmpCnd k s t) p g e = not_fn e
field_name l (Jmpa t) p g e = not_fn e
field_name l (Incrr s) p g e = not_fn e
field_name l (Decrr s) p g e = not_fn e
field_name l (Fn n ps) p g e = omega (arith, leb-true n 63 (and_left (leb n 63) (params_ok ps && leb (length ps) 255) g))
field_name l (Call n k) p g e = not_fn e
field_name l FnRet p g e = not_fn e
field_name l (FnStackPush s) p g e = not_fn e
field_name l (FnStackPop d) p g e = not_fn e
field_name l (Tbli t k s) p g e = not_fn e
field_name l (Tblg t k d) p g e = not_fn e
field_name l Nop p g e = not_fn e
field_name l Stop p g e = not_fn e

byte_of : (c : Instr) (i : ℕ) (b : List ℕ) (h : SpellsInstr c i b) (k : ℕ) → k < 16 → get_or b (16 * i + k) 0 ≡ get_or (encode_instr c h.items) k 0
byte_of c i b h k l = sym (get_d_part b (16 * i) 16 k 0 l) ∙ ap (λ (d : List ℕ). get_or d k 0) h.bytes

pub label_small : (c : Instr) → instr_ok c ≡ true → label c ≤ 1023
label_small (instr l o) h = leb-true l 1023 (and_left (leb l 1023) (op_ok o) h)

label_bytes_lem : (c : Instr) (p : ℕ) → part (encode_instr c p) 2 2 ≡ be_bytes 2 (label c)
label_bytes_lem (instr l o) p = ap (be_bytes 2) (field_label l o p)

pub label_is : (c : Instr) (i : ℕ) (b : List ℕ) → SpellsInstr c i b → be_value (part b (16 * i + 2) 2) ≡ label c
label_is c i b h =
    ap be_value (sym (part_part b (16 * i) 16 2 2 (omega arith)) ∙ ap (λ (d : List ℕ). part d 2 2) h.bytes ∙ label_bytes_lem c h.items)
    ∙ be_value_be_bytes 2 (label c) (omega (arith, label_small c h.ranged))

pub declares_is : (c : Instr) (i : ℕ) (b : List ℕ) → SpellsInstr c i b → (x : ℕ) → declares (op c) x ≡ (eqb (get_or b (16 * i) 0) 16 && eqb (get_or b (16 * i + 4) 0) x)
declares_is (instr l o) i b h x =
    let z : 16 * i + 0 ≡ 16 * i = omega arith in
    let k : get_or b (16 * i) 0 ≡ (op_fields l o h.items).code = ap (λ (n : ℕ). get_or b n 0) (sym z) ∙ byte_of (instr l o) i b h 0 (omega arith) in
    let a : get_or b (16 * i + 4) 0 ≡ (op_fields l o h.items).a = byte_of (instr l o) i b h 4 (omega arith) in
    rw (k, a) (field_declares l o h.items x)

pub name_small : (c : Instr) (i : ℕ) (b : List ℕ) → SpellsInstr c i b → eqb (get_or b (16 * i) 0) 16 ≡ true → get_or b (16 * i + 4) 0 < 64
name_small (instr l o) i b h e =
    let z : 16 * i + 0 ≡ 16 * i = omega arith in
    let k : get_or b (16 * i) 0 ≡ (op_fields l o h.items).code = ap (λ (n : ℕ). get_or b n 0) (sym z) ∙ byte_of (instr l o) i b h 0 (omega arith) in
    let a : get_or b (16 * i + 4) 0 ≡ (op_fields l o h.items).a = byte_of (instr l o) i b h 4 (omega arith) in
    rw a (field_name l o h.items (and_right (leb l 1023) (op_ok o) h.ranged) (ap (λ (n : ℕ). eqb n 16) (sym k) ∙ e))

-- ---- a turn of the loop

-- After i of n records: the records left, and the table so far, which `go` takes to `goal`; a table written over it covers what was written.
pub record Turned (base m : ℕ) (go : Code → (ℕ → Option ℕ) → ℕ → Option ℕ) (goal : ℕ → Option ℕ) (n i : ℕ) (b₀ b : List ℕ) : Type 0 where
  pub rest : Code
  pub table : ℕ → Option ℕ
  pub left : n ≡ i + length rest
  pub spelt : SpeltAt rest i b
  pub holds : part b base (2 * m) ≡ table_bytes m table
  pub ends : (l : ℕ) → go rest table l ≡ goal l
  pub over : (t : List ℕ) → length t ≡ 2 * m → splice b base t ≡ splice b₀ base t

pub turned_start : {base m n : ℕ} {cs : Code} {f : ℕ → Option ℕ} {b : List ℕ} (go : Code → (ℕ → Option ℕ) → ℕ → Option ℕ) → Begun base m cs f n b → Turned base m go (go cs f) n 0 b b
turned_start {n = n} {cs = cs} {f = f} go h =
    record { rest = cs; table = f; left = omega (arith, h.count); spelt = h.spelt; holds = h.table; ends = λ l. refl; over = λ t k. refl }

module _ {base m n i : ℕ} {goal : ℕ → Option ℕ} {b₀ b : List ℕ} (go : Code → (ℕ → Option ℕ) → ℕ → Option ℕ) where
  -- the next record is that of an instruction
  pub turned_says : {A : Type 0} → Turned base m go goal n i b₀ b → i < n → ((c : Instr) → SpellsInstr c i b → A) → A
  turned_says {A} t h f = by_rest t.rest t.left t.spelt
    where
      by_rest : (cs : Code) → n ≡ i + length cs → SpeltAt cs i b → A
      by_rest [] e s = absurd (omega (arith, h, e))
      by_rest (c ∷ cs) e s = f c s.0

  -- entry x is set, where hit, and the table takes its turn
  pub turned_next : (go' : Code → (ℕ → Option ℕ) → ℕ → Option ℕ) (x : ℕ) (hit : Bool) {b' : List ℕ} → Turned base m go goal n i b₀ b → i < n → n ≤ 1024 → 16384 ≤ base → base + 2 * m ≤ length b
      → ((c : Instr) → SpellsInstr c i b → hit ≡ true → x < m)
      → ((c : Instr) (cs : Code) → SpellsInstr c i b → (f : ℕ → Option ℕ) (l : ℕ) → go (c ∷ cs) f l ≡ go' cs (turn hit x i f) l)
      → Entered base x i hit b b' → Turned base m go' goal n (i + 1) b₀ b'
  turned_next go' x hit {b'} t h k d l small step e = by_rest t.rest t.left t.spelt t.ends
    where
      by_rest : (cs : Code) → n ≡ i + length cs → SpeltAt cs i b → ((y : ℕ) → go cs t.table y ≡ goal y) → Turned base m go' goal n (i + 1) b₀ b'
      by_rest [] q s g = absurd (omega (arith, h, q))
      by_rest (c ∷ cs) q s g =
          let n₁ : suc i ≡ i + 1 = omega arith in
          let x₁ : hit ≡ true → x < m = small c s.0 in
          record {
            rest = cs;
            table = turn hit x i t.table;
            left = omega (arith, q);
            spelt = spelt_at cs b' n₁ (spelt_kept cs (suc i) b b' (omega (arith, q, k)) (λ at j w. ap (λ (z : List ℕ). part z at j) e ∙ set_before base m x i b l hit x₁ at j (omega arith)) s.1);
            holds = ap (λ (z : List ℕ). part z base (2 * m)) e ∙ set_table base m x i b l hit x₁ t.table t.holds;
            ends = λ y. sym (step c cs s.0 t.table y) ∙ g y;
            over = λ u w. ap (λ (z : List ℕ). splice z base u) e ∙ set_over base m x i b l hit x₁ u w ∙ t.over u w;
          }

  -- no record is left
  pub turned_end : Turned base m go goal n i b₀ b → n ≤ i → base + 2 * m ≤ length b → ((f : ℕ → Option ℕ) (l : ℕ) → go [] f l ≡ f l) → b ≡ splice b₀ base (table_bytes m goal)
  turned_end t h l e = by_rest t.rest t.left t.ends
    where
      by_rest : (cs : Code) → n ≡ i + length cs → ((y : ℕ) → go cs t.table y ≡ goal y) → b ≡ splice b₀ base (table_bytes m goal)
      by_rest [] q g =
          sym (splice_part b base (2 * m) l)
          ∙ ap (splice b base) (t.holds ∙ entries_same m t.table goal (λ y. sym (e t.table y) ∙ g y))
          ∙ t.over (table_bytes m goal) (length_entries m goal)
      by_rest (c ∷ cs) q g = absurd (omega (arith, h, q))

-- ---- the two tables

-- before the first record: label 0 to 0
abbrev pub first : ℕ → Option ℕ
first l = cond (eqb l 0) (some 0) none

-- the label table from index i on, behind label `was`
abbrev pub labels_go : ℕ → ℕ → Code → (ℕ → Option ℕ) → ℕ → Option ℕ
labels_go was i ds g l = entered ds l was i (g l)

module _ {n i was lbl : ℕ} {goal : ℕ → Option ℕ} {b₀ b : List ℕ} where
  pub label_small_next : Turned 32768 1024 (labels_go was i) goal n i b₀ b → i < n → lbl ≡ be_value (part b (16 * i + 2) 2) → lbl < 1024
  label_small_next t h q = turned_says (labels_go was i) t h (λ c s. omega (arith, q, label_is c i b s, label_small c s.ranged))

  pub labels_next : {b' : List ℕ} → Turned 32768 1024 (labels_go was i) goal n i b₀ b → i < n → n ≤ 1024 → 40960 ≤ length b → lbl ≡ be_value (part b (16 * i + 2) 2)
      → Entered 32768 lbl i (not (eqb lbl was)) b b' → Turned 32768 1024 (labels_go lbl (i + 1)) goal n (i + 1) b₀ b'
  labels_next t h k l q e =
      let n₁ : suc i ≡ i + 1 = omega arith in
      turned_next (labels_go was i) (labels_go lbl (i + 1)) lbl (not (eqb lbl was)) t h k (omega arith) (omega arith)
      (λ c s z. label_small_next t h q)
      (λ c cs s f x. let is : lbl ≡ label c = q ∙ label_is c i b s in rw (is, ← n₁))
      e

-- the function table from index i on
abbrev pub functions_go : ℕ → Code → (ℕ → Option ℕ) → ℕ → Option ℕ
functions_go i ds g x = declared ds x i (g x)

pub functions_next : {n i : ℕ} {goal : ℕ → Option ℕ} {b₀ b b' : List ℕ} → Turned 34816 64 (functions_go i) goal n i b₀ b → i < n → n ≤ 1024 → 40960 ≤ length b
    → Entered 34816 (get_or b (16 * i + 4) 0) i (eqb (get_or b (16 * i) 0) 16) b b' → Turned 34816 64 (functions_go (i + 1)) goal n (i + 1) b₀ b'
functions_next {i = i} {b = b} t h k l e =
    let n₁ : suc i ≡ i + 1 = omega arith in
    turned_next (functions_go i) (functions_go (i + 1)) (get_or b (16 * i + 4) 0) (eqb (get_or b (16 * i) 0) 16) t h k (omega arith) (omega arith)
    (λ c s z. name_small c i b s z)
    (λ c cs s f x. rw (declares_is c i b s x, ← n₁))
    e

-- ---- whole tables

records_spelt : (cs : Code) (n : ℕ) (b : List ℕ) → Records cs n b → SpeltAt cs 0 b
records_spelt cs n b r = spelt_from cs 0 0 b r.ranged (ap (λ (k : ℕ). part b 0 (16 * k)) (sym r.count) ∙ r.spelt)

-- the functions: from no entry
pub functions_begun : (cs : Code) (n : ℕ) (b : List ℕ) → Records cs n b → part b 34816 128 ≡ replicate 128 0 → Begun 34816 64 cs (λ x. none) n b
functions_begun cs n b r z = record { count = r.count; spelt = records_spelt cs n b r; table = z ∙ sym (entries_none 64) }

-- the labels: from 0 to 0
first_table : (b : List ℕ) → 40960 ≤ length b → part b 32768 2048 ≡ replicate 2048 0 → part (splice b 32768 (be_bytes 2 1)) 32768 2048 ≡ table_bytes 1024 first
first_table b l z =
    part_splice_around b 32768 2048 0 (be_bytes 2 1) (omega (arith, length_be_bytes 2 1)) (omega arith)
    ∙ ap (λ (d : List ℕ). splice d 0 (be_bytes 2 1)) (z ∙ sym (entries_none 1024))
    ∙ tab_set 1024 0 0 (λ l. be_bytes 2 (index_word none)) (λ l. be_bytes 2 (index_word (first l))) (be_bytes 2 1) (λ x. length_be_bytes 2 0) (length_be_bytes 2 1) (omega arith) refl
    (λ x k. rw (ne_eqb x 0 (λ q. k (omega (arith, q)))))

module _ (b b₁ : List ℕ) (l : 40960 ≤ length b) (e : b₁ ≡ splice b 32768 (be_bytes 2 1)) where
  pub first_length : length b₁ ≡ length b
  first_length = ap length e ∙ length_splice b 32768 (be_bytes 2 1) (omega (arith, length_be_bytes 2 1))

  first_before : (at n : ℕ) → at + n ≤ 16384 → part b₁ at n ≡ part b at n
  first_before at n k = ap (λ (d : List ℕ). part d at n) e ∙ part_splice_before b 32768 (be_bytes 2 1) at n (omega arith) (omega arith)

  pub labels_begun : (cs : Code) (n : ℕ) → n ≤ 1024 → part b 32768 2048 ≡ replicate 2048 0 → Records cs n b → Begun 32768 1024 cs first n b₁
  labels_begun cs n k z r = record {
    count = r.count;
    spelt = spelt_kept cs 0 b b₁ (omega (arith, r.count, k)) first_before (records_spelt cs n b r);
    table = ap (λ (d : List ℕ). part d 32768 2048) e ∙ first_table b l z;
  }

  pub labels_whole : (cs : Code) (n was : ℕ) (b₂ : List ℕ) → 0 < n → Records cs n b → was ≡ be_value (part b₁ 2 2)
      → b₂ ≡ splice b₁ 32768 (table_bytes 1024 (λ x. entered cs x was 0 (first x))) → b₂ ≡ splice b 32768 (label_bytes cs)
  labels_whole cs n was b₂ h r w q = by_code cs r.count (records_spelt cs n b r) q
    where
      by_code : (cs : Code) → n ≡ length cs → SpeltAt cs 0 b → b₂ ≡ splice b₁ 32768 (table_bytes 1024 (λ x. entered cs x was 0 (first x))) → b₂ ≡ splice b 32768 (label_bytes cs)
      by_code [] k s q = absurd (omega (arith, h, k))
      by_code (c ∷ cs) k s q =
          let is : was ≡ label c = w ∙ ap be_value (first_before 2 2 (omega arith)) ∙ label_is c 0 b s.0 in
          let t = table_bytes 1024 (λ x. entered (c ∷ cs) x was 0 (first x)) in
          q
          ∙ ap (λ (d : List ℕ). splice d 32768 t) e
          ∙ splice_over b 32768 (be_bytes 2 1) 32768 t (omega arith) (omega (arith, length_entries 1024 (λ x. entered (c ∷ cs) x was 0 (first x)), length_be_bytes 2 1)) (omega arith)
          ∙ ap (λ (v : ℕ). splice b 32768 (table_bytes 1024 (λ x. entered (c ∷ cs) x v 0 (first x)))) is

-- no record, no label
pub labels_none : (cs : Code) (n : ℕ) (b : List ℕ) → n ≤ 0 → 40960 ≤ length b → part b 32768 2048 ≡ replicate 2048 0 → Records cs n b → b ≡ splice b 32768 (label_bytes cs)
labels_none cs n b h l z r = by_code cs r.count
  where
    by_code : (cs : Code) → n ≡ length cs → b ≡ splice b 32768 (label_bytes cs)
    by_code [] q = sym (ap (splice b 32768) (entries_none 1024 ∙ sym z) ∙ splice_part b 32768 2048 (omega arith))
    by_code (c ∷ cs) q = absurd (omega (arith, h, q))

-- the records and the other table are kept
module _ (cs : Code) (n : ℕ) (b b₁ : List ℕ) (l : 40960 ≤ length b) (e : b₁ ≡ splice b 32768 (label_bytes cs)) where
  pub labels_length : length b₁ ≡ length b
  labels_length = ap length e ∙ length_splice b 32768 (label_bytes cs) (omega (arith, length_entries 1024 (label_at cs)))

  pub labels_records : n ≤ 1024 → Records cs n b → Records cs n b₁
  labels_records k r = record {
    count = r.count;
    ranged = r.ranged;
    spelt = ap (λ (d : List ℕ). part d 0 (16 * n)) e ∙ part_splice_before b 32768 (label_bytes cs) 0 (16 * n) (omega arith) (omega arith) ∙ r.spelt;
  }

  pub labels_behind : part b₁ 34816 128 ≡ part b 34816 128
  labels_behind = ap (λ (d : List ℕ). part d 34816 128) e ∙ part_splice_behind b 32768 (label_bytes cs) 34816 128 (omega (arith, length_entries 1024 (label_at cs))) (omega arith)
