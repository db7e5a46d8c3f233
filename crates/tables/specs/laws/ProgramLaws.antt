-- The laws of the program buffer: a program within the limits is read back from its buffer, whatever lies behind, and the buffer has 40,960 bytes.
-- Document 01, "Numbers given for the input": 8.
use Rattle.std.specs.Prelude.{◌≡◌, refl, true, ◌&&◌, List, [], ◌∷◌, ◌++◌, map, ℕ, zero, suc, ◌+◌, ◌*◌, ◌-◌, ◌≤◌, ◌<◌, leb, length, take, drop, get_or}
use Rattle.std.proofs.Common.{sym, ap, ap₂, ◌∙◌, append_assoc, append-nil, zero-add, add-zero, suc-add, add-suc, le_refl, not-suc-le-zero, le_of_suc-le-suc, arith, length-append, take_at, drop_at, drop-drop, leb-true, le-leb}
use Rattle.std.proofs.Math.Option.{Option, none, some}
use Rattle.std.proofs.lemmas.List.{length-replicate}
use Rattle.lent.specs.Bytes.{be_value, be_bytes, part, same_bytes, concat, Each, none, more}
use Rattle.lent.specs.laws.Numbers.{be_value_be_bytes, length_be_bytes}
use Rattle.lent.specs.laws.Slots.{length_concat, part_concat, Wide}
use Rattle.lent.specs.laws.Same.{same_refl}
use Rattle.sifv.specs.Value.{Single}
use Rattle.sifv.specs.laws.Layout.{and_left, and_right, Sized, end, field, field_behind, length_joined, length_pad}
use Rattle.opc.specs.Op.{Instr, instr, op, Code}
use Rattle.opc.specs.Record.{items_of, item_bytes, encode_instr, decode_instr}
use Rattle.opc.specs.laws.RecordLaws.{instr_back}
use Rattle.tables.specs.Tables.{Program, label_at, function_at}
use Rattle.tables.specs.ProgramBytes.{index_word, record_bytes, pool_bytes, decode_code, label_bytes, function_bytes, encode_program, decode_program}
use Rattle.lent.specs.Lists.{zeros, pad, tabulate, each, when, with, only_if}
use Rattle.opc.specs.Limits.{instr_ok, OpFits}
use Rattle.tables.specs.Limits.{code_ok, item_total, program_ok}
use Rattle.sifv.specs.inner.Forms.{joined_parts}

-- ---- n things of w bytes each

wide_tabulate : (w i n : ℕ) (f : ℕ → List ℕ) → ((k : ℕ) → i ≤ k → k < i + n → length (f k) ≡ w) → Wide w (tabulate i n f)
wide_tabulate w i zero f h = none
wide_tabulate w i (suc n) f h = more (h i (le_refl i) (omega arith)) (wide_tabulate w (suc i) n f (λ k p q. h k (omega arith) (omega arith)))

pub length_tabulate : {A : Type 0} (i n : ℕ) (f : ℕ → A) → length (tabulate i n f) ≡ n
length_tabulate i zero f = refl
length_tabulate i (suc n) f = ap suc (length_tabulate (suc i) n f)

get_d_tabulate : {A : Type 0} (i n k : ℕ) (f : ℕ → A) (z : A) → k < n → get_or (tabulate i n f) k z ≡ f (i + k)
get_d_tabulate i zero k f z h = absurd (not-suc-le-zero h)
get_d_tabulate i (suc n) zero f z h = ap f (sym (add-zero i))
get_d_tabulate i (suc n) (suc k) f z h = get_d_tabulate (suc i) n k f z (le_of_suc-le-suc h) ∙ ap f (suc-add i k ∙ sym (add-suc i k))

module _ (w n : ℕ) (f : ℕ → List ℕ) (h : (k : ℕ) → k < n → length (f k) ≡ w) where
  wide_each : Wide w (tabulate 0 n f)
  wide_each = wide_tabulate w 0 n f (λ k p q. h k (omega arith))

  pub length_each : length (each n f) ≡ n * w
  length_each = length_concat w wide_each ∙ ap (λ (x : ℕ). x * w) (length_tabulate 0 n f)

  -- each of them is found in its place
  pub part_each : (k : ℕ) → k < n → part (each n f) (k * w) w ≡ f k
  part_each k q =
      part_concat w k wide_each (rw (length_tabulate 0 n f) q) ∙ get_d_tabulate 0 n k f [] q ∙ ap f (zero-add k)

-- ---- records and items

length_items : (l : List Single) → length (concat (map item_bytes l)) ≡ length l * 16
length_items [] = refl
length_items (s ∷ l) = length-append (item_bytes s) (concat (map item_bytes l)) ∙ rw (length_items l) (omega arith)

pub length_record : (i : Instr) (p : ℕ) → length (encode_instr i p) ≡ 16
length_record (instr l o) p = refl

pub length_records : (c : Code) (p : ℕ) → length (record_bytes c p) ≡ length c * 16
length_records [] p = refl
length_records (i ∷ c) p =
    length-append (encode_instr i p) (record_bytes c (p + length (items_of (op i))))
    ∙ rw (length_record i p, length_records c (p + length (items_of (op i)))) (omega arith)

pub length_pool : (c : Code) → length (pool_bytes c) ≡ item_total c * 16
length_pool [] = refl
length_pool (i ∷ c) =
    length-append (concat (map item_bytes (items_of (op i)))) (pool_bytes c) ∙ rw (length_items (items_of (op i)), length_pool c) (omega arith)

-- behind the items of one instruction lie those of the next
pool_next : (l : List Single) (p : ℕ) (pool next : List ℕ) → drop (p * 16) pool ≡ concat (map item_bytes l) ++ next → drop ((p + length l) * 16) pool ≡ next
pool_next l p pool next e =
    let k : (p + length l) * 16 ≡ p * 16 + length l * 16 = omega arith in
    ap (λ (x : ℕ). drop x pool) k
    ∙ sym (drop-drop (length l * 16) (p * 16) pool)
    ∙ ap (drop (length l * 16)) e
    ∙ drop_at (concat (map item_bytes l)) next (length l * 16) (length_items l)

-- all records, read back in order
pub code_back : (c : Code) (p : ℕ) (r pool rest : List ℕ) → code_ok c ≡ true → Each (λ (i : Instr). OpFits (op i)) c
    → drop (p * 16) pool ≡ pool_bytes c ++ rest → p + item_total c ≤ 1024 → decode_code (length c) (record_bytes c p ++ r) p pool ≡ some c
code_back c p r pool rest o none e h = refl
code_back c p r pool rest o (more {a = i} {l = d} f g) e h =
    let q = p + length (items_of (op i)) in
    let n = concat (map item_bytes (items_of (op i))) in
    let s : drop (p * 16) pool ≡ n ++ (pool_bytes d ++ rest) = e ∙ append_assoc n (pool_bytes d) rest in
    let b : (encode_instr i p ++ record_bytes d q) ++ r ≡ encode_instr i p ++ (record_bytes d q ++ r) = append_assoc (encode_instr i p) (record_bytes d q) r in
    let y : take 16 ((encode_instr i p ++ record_bytes d q) ++ r) ≡ encode_instr i p = ap (take 16) b ∙ take_at (encode_instr i p) (record_bytes d q ++ r) 16 (length_record i p) in
    let z : drop 16 ((encode_instr i p ++ record_bytes d q) ++ r) ≡ record_bytes d q ++ r = ap (drop 16) b ∙ drop_at (encode_instr i p) (record_bytes d q ++ r) 16 (length_record i p) in
    ap₂ (λ (x w : List ℕ). with (decode_instr x p pool) (λ j. with (decode_code (length d) w (p + length (items_of (op j))) pool) (λ c. some (j ∷ c)))) y z
    ∙ ap (λ (x : Option Instr). with x (λ j. with (decode_code (length d) (record_bytes d q ++ r) (p + length (items_of (op j))) pool) (λ c. some (j ∷ c))))
    (instr_back p pool (pool_bytes d ++ rest) i (and_left (instr_ok i) (code_ok d) o) f s (omega arith))
    ∙ ap (λ (x : Option Code). with x (λ c. some (i ∷ c)))
    (code_back d q r pool rest (and_right (instr_ok i) (code_ok d) o) g (pool_next (items_of (op i)) p pool (pool_bytes d ++ rest) s) (omega arith))

-- ---- the buffer

-- what the six fields say; the tables are those of lb and fb
assembled : (Code → List ℕ) → (Code → List ℕ) → List ℕ → List ℕ → List ℕ → List ℕ → List ℕ → List ℕ → Option Program
assembled lb fb r p l f n s =
    only_if (leb (be_value n) 1024 && leb (be_value s) (be_value n))
    (with (decode_code (be_value n) r 0 p) (λ c. when (same_bytes l (lb c) && same_bytes f (fb c)) (record { code = c; code_start = be_value s })))

decode_assembled : (b : List ℕ) → decode_program b
    ≡ assembled label_bytes function_bytes (part b 0 16384) (part b 16384 16384) (part b 32768 2048) (part b 34816 128) (part b 34944 2) (part b 34946 2)
unfolding decode_program assembled
decode_assembled b = refl

-- the fields of a buffer, and what lies behind it
decode_fields : (r p l f n s z rest : List ℕ) → Sized (r ∷ p ∷ l ∷ f ∷ n ∷ s ∷ []) (16384 ∷ 16384 ∷ 2048 ∷ 128 ∷ 2 ∷ 2 ∷ [])
    → decode_program (joined_parts (r ∷ p ∷ l ∷ f ∷ n ∷ s ∷ []) z ++ rest) ≡ assembled label_bytes function_bytes r p l f n s
decode_fields r p l f n s z rest g =
    decode_assembled (joined_parts (r ∷ p ∷ l ∷ f ∷ n ∷ s ∷ []) z ++ rest)
    ∙ (λ i. assembled label_bytes function_bytes
    (field_behind g 0 z rest (omega arith) i) (field_behind g 1 z rest (omega arith) i) (field_behind g 2 z rest (omega arith) i)
    (field_behind g 3 z rest (omega arith) i) (field_behind g 4 z rest (omega arith) i) (field_behind g 5 z rest (omega arith) i))

assembled_back : (lb fb : Code → List ℕ) (r p n s : List ℕ) (c : Code) (k j : ℕ) → be_value n ≡ k → be_value s ≡ j → k ≤ 1024 → j ≤ k → decode_code k r 0 p ≡ some c
    → assembled lb fb r p (lb c) (fb c) n s ≡ some (record { code = c; code_start = j })
unfolding assembled
assembled_back lb fb r p n s c k j en es h g e =
    rw (en, es, le-leb k 1024 h, le-leb j k g, e, same_refl (lb c), same_refl (fb c))

-- ---- the laws

-- what `program_ok` says
pub record Limits (p : Program) : Type 0 where
  pub count : length p.code ≤ 1024
  pub start : p.code_start ≤ length p.code
  pub pooled : item_total p.code ≤ 1024
  pub ranged : code_ok p.code ≡ true

pub limits : (p : Program) → program_ok p ≡ true → Limits p
limits p e =
    let a = leb (length p.code) 1024 in
    let b = leb p.code_start (length p.code) in
    let d = leb (item_total p.code) 1024 in
    let o = code_ok p.code in
    let f = and_right a (b && (d && o)) e in
    let g = and_right b (d && o) f in
    record {
      count = leb-true (length p.code) 1024 (and_left a (b && (d && o)) e);
      start = leb-true p.code_start (length p.code) (and_left b (d && o) f);
      pooled = leb-true (item_total p.code) 1024 (and_left d o g);
      ranged = and_right d o g;
    }

pub program_fields : (p : Program) → Limits p
    → let c = p.code in
    Sized (pad 16384 (record_bytes c 0) ∷ pad 16384 (pool_bytes c) ∷ label_bytes c ∷ function_bytes c ∷ be_bytes 2 (length c) ∷ be_bytes 2 p.code_start ∷ [])
    (16384 ∷ 16384 ∷ 2048 ∷ 128 ∷ 2 ∷ 2 ∷ [])
program_fields p k =
    let c = p.code in
    field (length_pad 16384 (record_bytes c 0) (rw (length_records c 0) (omega (arith, k.count))))
    (field (length_pad 16384 (pool_bytes c) (rw (length_pool c) (omega (arith, k.pooled))))
    (field (length_each 2 1024 (λ (l : ℕ). be_bytes 2 (index_word (label_at c l))) (λ l q. length_be_bytes 2 (index_word (label_at c l))))
    (field (length_each 2 64 (λ (x : ℕ). be_bytes 2 (index_word (function_at c x))) (λ x q. length_be_bytes 2 (index_word (function_at c x))))
    (field (length_be_bytes 2 (length c)) (field (length_be_bytes 2 p.code_start) end)))))

-- the buffer has 40,960 bytes
pub program_length : (p : Program) → program_ok p ≡ true → length (encode_program p) ≡ 40960
unfolding encode_program
program_length p e = length_joined (program_fields p (limits p e)) (zeros 6012) ∙ ap (λ (n : ℕ). 34948 + n) (length-replicate {A = ℕ} 6012 0)

-- a program within the limits, whose numbers fit, is read back, whatever lies behind the buffer
pub program_behind : (p : Program) (rest : List ℕ) → program_ok p ≡ true → Each (λ (i : Instr). OpFits (op i)) p.code → decode_program (encode_program p ++ rest) ≡ some p
unfolding encode_program
program_behind p rest e f =
    let k = limits p e in
    let c = p.code in
    let r = pad 16384 (record_bytes c 0) in
    let q = pad 16384 (pool_bytes c) in
    let n = be_bytes 2 (length c) in
    let s = be_bytes 2 p.code_start in
    decode_fields r q (label_bytes c) (function_bytes c) n s (zeros 6012) rest (program_fields p k)
    ∙ assembled_back label_bytes function_bytes r q n s c (length c) p.code_start
    (be_value_be_bytes 2 (length c) (omega (arith, k.count))) (be_value_be_bytes 2 p.code_start (omega (arith, k.count, k.start))) k.count k.start
    (code_back c 0 (zeros (16384 - length (record_bytes c 0))) q (zeros (16384 - length (pool_bytes c))) k.ranged f refl (omega (arith, k.pooled)))

pub program_back : (p : Program) → program_ok p ≡ true → Each (λ (i : Instr). OpFits (op i)) p.code → decode_program (encode_program p) ≡ some p
program_back p e f = ap decode_program (sym (append-nil (encode_program p))) ∙ program_behind p [] e f
