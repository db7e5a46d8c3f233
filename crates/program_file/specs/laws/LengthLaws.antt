-- The longest file there can be has 24,281 bytes: no accepted program has a longer one, and one has it.
use Rattle.std.specs.Prelude.{◌≡◌, refl, true, List, [], ◌∷◌, ◌++◌, map, ℕ, suc, ◌+◌, ◌*◌, ◌≤◌, leb, length, replicate}
use Rattle.std.proofs.Common.{ap, ◌∙◌, arith, length-append, leb-true}
use Rattle.std.proofs.Math.Decide.{dec_le}
use Rattle.numeric.specs.Whole.{whole}
use Rattle.std.proofs.lemmas.List.{length-map}
use Rattle.lent.specs.Bytes.{concat}
use Rattle.lent.specs.Lists.{sum}
use Rattle.lent.specs.laws.Cuts.{concat_length}
use Rattle.lent.specs.laws.Truths.{and_left, and_right}
use Rattle.sifv.specs.Value.{Single, Num, Bl, Null, Value, One, Arr, Tab, Str as Text}
use Rattle.sifv.specs.Slot.{singles_ok}
use Rattle.opc.specs.Op.{Op, Binary, Unary, Ldc, Ldn, Mv, Ldas, Ldav, Upda, Stc, Stn, Str, JmpCnd, Jmpa, Incrr, Decrr, Fn, Call, FnRet, FnStackPush, FnStackPop, Tbli, Tblg, Nop, Stop, Instr, instr, op, Code}
use Rattle.opc.specs.Record.{items_of, literal_items, item_bytes, encode_instr, reg_ok, text_ok, lbl_ok}
use Rattle.opc.specs.Limits.{instr_ok, op_ok, literal_ok}
use Rattle.tables.specs.Tables.{Program}
use Rattle.tables.specs.Limits.{code_ok, program_ok}
use Rattle.tables.specs.laws.ProgramLaws.{limits}
use Rattle.program_file.specs.ProgramFile.{record_body, item_body, pool_items, program_file, longest_file}
use Rattle.program_file.specs.laws.ReadLaws.{items_counted}

-- ---- how long bodies are

abbrev instr_length : Instr → ℕ
instr_length i = length (record_body (encode_instr i 0))

abbrev item_length : Single → ℕ
item_length s = length (item_body (item_bytes s))

item_most : (s : Single) → item_length s ≤ 9
item_most (Num x) = omega arith
item_most (Text t) = omega arith
item_most (Bl b) = omega arith
item_most Null = omega arith

abbrev item_lengths : List Single → ℕ
item_lengths [] = 0
item_lengths (s ∷ l) = item_length s + item_lengths l

items_most : (l : List Single) → item_lengths l ≤ 9 * length l
items_most [] = omega arith
items_most (s ∷ l) = omega (arith, item_most s, items_most l)

texts_length : (ts : List ℕ) → item_lengths (map Text ts) ≡ 2 * length ts
texts_length [] = refl
texts_length (t ∷ ts) = omega (arith, texts_length ts)

-- An instruction takes at most 13 bytes. j of 1 tells an array: it takes 7 fewer, has at most 24 items, and each of them at most 9 bytes; a parameter takes 2. So items that take 9
-- bytes are at most 24 j.
pub record Weighs (o j n : ℕ) (items : List Single) : Type 0 where
  pub own : ℕ
  pub nine : ℕ
  pub weight : o + 7 * j + item_lengths items ≤ 13 * n + (9 * nine + 2 * own)
  pub counted : own + nine ≡ length items
  pub few : nine ≤ 24 * j

ldc_weighs : (l a : ℕ) (v : Value) → literal_ok v ≡ true → (j : ℕ) × Weighs (instr_length (instr l (Ldc a v))) j 1 (literal_items v)
ldc_weighs l a (One (Num x)) h = (0, record { own = 0; nine = 0; weight = omega arith; counted = refl; few = omega arith })
ldc_weighs l a (One (Text t)) h = (0, record { own = 0; nine = 0; weight = omega arith; counted = refl; few = omega arith })
ldc_weighs l a (One (Bl b)) h = (0, record { own = 0; nine = 0; weight = omega arith; counted = refl; few = omega arith })
ldc_weighs l a (One Null) h = (0, record { own = 0; nine = 0; weight = omega arith; counted = refl; few = omega arith })
ldc_weighs l a (Arr is) h = (1, record { own = 0; nine = length is; weight = omega (arith, items_most is); counted = omega arith; few = omega (arith, leb-true (length is) 24 (and_left (leb (length is) 24) (singles_ok is) h)) })
ldc_weighs l a (Tab t) h = (0, record { own = 0; nine = 0; weight = omega arith; counted = refl; few = omega arith })

stc_weighs : (l a : ℕ) (v : Value) → literal_ok v ≡ true → (j : ℕ) × Weighs (instr_length (instr l (Stc v a))) j 1 (literal_items v)
stc_weighs l a (One (Num x)) h = (0, record { own = 0; nine = 0; weight = omega arith; counted = refl; few = omega arith })
stc_weighs l a (One (Text t)) h = (0, record { own = 0; nine = 0; weight = omega arith; counted = refl; few = omega arith })
stc_weighs l a (One (Bl b)) h = (0, record { own = 0; nine = 0; weight = omega arith; counted = refl; few = omega arith })
stc_weighs l a (One Null) h = (0, record { own = 0; nine = 0; weight = omega arith; counted = refl; few = omega arith })
stc_weighs l a (Arr is) h = (1, record { own = 0; nine = length is; weight = omega (arith, items_most is); counted = omega arith; few = omega (arith, leb-true (length is) 24 (and_left (leb (length is) 24) (singles_ok is) h)) })
stc_weighs l a (Tab t) h = (0, record { own = 0; nine = 0; weight = omega arith; counted = refl; few = omega arith })

op_weighs : (l : ℕ) (o : Op) → op_ok o ≡ true → (j : ℕ) × Weighs (instr_length (instr l o)) j 1 (items_of o)
op_weighs l (Binary k a b d) e = (0, record { own = 0; nine = 0; weight = omega arith; counted = refl; few = omega arith })
op_weighs l (Unary k a d) e = (0, record { own = 0; nine = 0; weight = omega arith; counted = refl; few = omega arith })
op_weighs l (Ldc d v) e = ldc_weighs l d v (and_right (reg_ok d) (literal_ok v) e)
op_weighs l (Ldn d n) e = (0, record { own = 0; nine = 0; weight = omega arith; counted = refl; few = omega arith })
op_weighs l (Mv s d) e = (0, record { own = 0; nine = 0; weight = omega arith; counted = refl; few = omega arith })
op_weighs l (Ldas n d) e = (0, record { own = 0; nine = 0; weight = omega arith; counted = refl; few = omega arith })
op_weighs l (Ldav n i d) e = (0, record { own = 0; nine = 0; weight = omega arith; counted = refl; few = omega arith })
op_weighs l (Upda n i v) e = (0, record { own = 0; nine = 0; weight = omega arith; counted = refl; few = omega arith })
op_weighs l (Stc v n) e = stc_weighs l n v (and_right (text_ok n) (literal_ok v) e)
op_weighs l (Stn s d) e = (0, record { own = 0; nine = 0; weight = omega arith; counted = refl; few = omega arith })
op_weighs l (Str s n) e = (0, record { own = 0; nine = 0; weight = omega arith; counted = refl; few = omega arith })
op_weighs l (JmpCnd k s t) e = (0, record { own = 0; nine = 0; weight = omega arith; counted = refl; few = omega arith })
op_weighs l (Jmpa t) e = (0, record { own = 0; nine = 0; weight = omega arith; counted = refl; few = omega arith })
op_weighs l (Incrr s) e = (0, record { own = 0; nine = 0; weight = omega arith; counted = refl; few = omega arith })
op_weighs l (Decrr s) e = (0, record { own = 0; nine = 0; weight = omega arith; counted = refl; few = omega arith })
op_weighs l (Fn n ps) e = (0, record { own = length ps; nine = 0; weight = omega (arith, texts_length ps); counted = omega (arith, length-map ps Text); few = omega arith })
op_weighs l (Call n k) e = (0, record { own = 0; nine = 0; weight = omega arith; counted = refl; few = omega arith })
op_weighs l FnRet e = (0, record { own = 0; nine = 0; weight = omega arith; counted = refl; few = omega arith })
op_weighs l (FnStackPush s) e = (0, record { own = 0; nine = 0; weight = omega arith; counted = refl; few = omega arith })
op_weighs l (FnStackPop d) e = (0, record { own = 0; nine = 0; weight = omega arith; counted = refl; few = omega arith })
op_weighs l (Tbli t k s) e = (0, record { own = 0; nine = 0; weight = omega arith; counted = refl; few = omega arith })
op_weighs l (Tblg t k d) e = (0, record { own = 0; nine = 0; weight = omega arith; counted = refl; few = omega arith })
op_weighs l Nop e = (0, record { own = 0; nine = 0; weight = omega arith; counted = refl; few = omega arith })
op_weighs l Stop e = (0, record { own = 0; nine = 0; weight = omega arith; counted = refl; few = omega arith })

lengths_append : (a b : List Single) → item_lengths (a ++ b) ≡ item_lengths a + item_lengths b
lengths_append [] b = omega arith
lengths_append (s ∷ a) b = omega (arith, lengths_append a b)

abbrev instr_lengths : Code → ℕ
instr_lengths [] = 0
instr_lengths (i ∷ c) = instr_length i + instr_lengths c

instr_weighs : (i : Instr) → instr_ok i ≡ true → (j : ℕ) × Weighs (instr_length i) j 1 (items_of (op i))
instr_weighs (instr l o) e = op_weighs l o (and_right (lbl_ok l) (op_ok o) e)

weights : (o₁ o₂ j₁ j₂ m s₁ s₂ s a₁ a₂ b₁ b₂ : ℕ) → o₁ + 7 * j₁ + s₁ ≤ 13 * 1 + (9 * b₁ + 2 * a₁) → o₂ + 7 * j₂ + s₂ ≤ 13 * m + (9 * b₂ + 2 * a₂) → s ≡ s₁ + s₂
    → o₁ + o₂ + 7 * (j₁ + j₂) + s ≤ 13 * suc m + (9 * (b₁ + b₂) + 2 * (a₁ + a₂))
weights o₁ o₂ j₁ j₂ m s₁ s₂ s a₁ a₂ b₁ b₂ h g e = omega arith

counts : (a₁ a₂ b₁ b₂ n₁ n₂ n : ℕ) → a₁ + b₁ ≡ n₁ → a₂ + b₂ ≡ n₂ → n ≡ n₁ + n₂ → a₁ + a₂ + (b₁ + b₂) ≡ n
counts a₁ a₂ b₁ b₂ n₁ n₂ n e f g = omega arith

fews : (b₁ b₂ j₁ j₂ : ℕ) → b₁ ≤ 24 * j₁ → b₂ ≤ 24 * j₂ → b₁ + b₂ ≤ 24 * (j₁ + j₂)
fews b₁ b₂ j₁ j₂ h g = omega arith

code_weighs : (c : Code) → code_ok c ≡ true → (j : ℕ) × Weighs (instr_lengths c) j (length c) (pool_items c)
code_weighs [] e = (0, record { own = 0; nine = 0; weight = omega arith; counted = refl; few = omega arith })
code_weighs (i ∷ c) e =
    let a = instr_weighs i (and_left (instr_ok i) (code_ok c) e) in
    let b = code_weighs c (and_right (instr_ok i) (code_ok c) e) in
    let x = a.1 in
    let y = b.1 in (
      a.0 + b.0,
      record {
        own = x.own + y.own;
        nine = x.nine + y.nine;
        weight = weights (instr_length i) (instr_lengths c) a.0 b.0 (length c) (item_lengths (items_of (op i))) (item_lengths (pool_items c)) (item_lengths (pool_items (i ∷ c))) x.own y.own x.nine y.nine x.weight y.weight (lengths_append (items_of (op i)) (pool_items c));
        counted = counts x.own y.own x.nine y.nine (length (items_of (op i))) (length (pool_items c)) (length (pool_items (i ∷ c))) x.counted y.counted (length-append (items_of (op i)) (pool_items c));
        few = fews x.nine y.nine a.0 b.0 x.few y.few;
      },
    )

-- ---- the file

sum_append : (a b : List (List ℕ)) → sum (map length (a ++ b)) ≡ sum (map length a) + sum (map length b)
sum_append [] b = omega arith
sum_append (x ∷ a) b = omega (arith, sum_append a b)

sum_instrs : (c : Code) → sum (map length (map (λ (i : Instr). record_body (encode_instr i 0)) c)) ≡ instr_lengths c
sum_instrs [] = refl
sum_instrs (i ∷ c) = ap (λ (n : ℕ). instr_length i + n) (sum_instrs c)

sum_items : (l : List Single) → sum (map length (map (λ (s : Single). item_body (item_bytes s)) l)) ≡ item_lengths l
sum_items [] = refl
sum_items (s ∷ l) = ap (λ (n : ℕ). item_length s + n) (sum_items l)

pub file_length_lem : (p : Program) → length (program_file p) ≡ 6 + (length p.code + length (pool_items p.code)) + (instr_lengths p.code + item_lengths (pool_items p.code))
unfolding program_file
file_length_lem p =
    let c = p.code in
    let a = map (λ (i : Instr). record_body (encode_instr i 0)) c in
    let b = map (λ (s : Single). item_body (item_bytes s)) (pool_items c) in
    omega (arith, length-append (map length (a ++ b)) (concat (a ++ b)), length-map (a ++ b) length, length-append a b, length-map c (λ (i : Instr). record_body (encode_instr i 0)), length-map (pool_items c) (λ (s : Single). item_body (item_bytes s)), concat_length (a ++ b), sum_append a b, sum_instrs c, sum_items (pool_items c))

-- with at most 1,024 instructions and items: 43 arrays hold 1,024 items, 42 fewer
heaviest : (t n j nine own : ℕ) → t + 7 * j ≤ 13 * n + (9 * nine + 2 * own) → nine ≤ 24 * j → own + nine ≤ 1024 → n ≤ 1024 → 6 + (n + (own + nine)) + t ≤ 24281
heaviest t n j nine own a b c d = by (dec_le j 42)
  where
    by : Dec (j ≤ 42) → 6 + (n + (own + nine)) + t ≤ 24281
    by (yes h) = omega arith
    by (no h) = omega arith

pub file_most : (p : Program) → program_ok p ≡ true → length (program_file p) ≤ longest_file
file_most p e =
    let c = p.code in
    let k = limits p e in
    let w = code_weighs c k.ranged in
    let x = w.1 in
    let h = heaviest (instr_lengths c + item_lengths (pool_items c)) (length c) w.0 x.nine x.own (omega (arith, x.weight)) x.few (omega (arith, x.counted, items_counted c, k.pooled)) k.count in
    omega (arith, h, x.counted, file_length_lem p)

-- ---- and one has it

abbrev number : Single
number = Num (whole 0)

abbrev longest : Program
longest = record {
  code = replicate 981 (instr 0 (Ldc 0 (One number))) ++ (replicate 42 (instr 0 (Ldc 0 (Arr (replicate 24 number)))) ++ (instr 0 (Ldc 0 (Arr (replicate 16 number))) ∷ []));
  code_start = 0;
}

longest_ok : program_ok longest ≡ true
longest_ok = refl

longest_length : length (program_file longest) ≡ longest_file
longest_length = file_length_lem longest ∙ refl
