-- Laws of a program's lines, as the code writes them.
use Rattle.std.specs.Prelude.{◌≡◌, refl, Bool, true, false, cond, not, ◌&&◌, List, [], ◌∷◌, ◌++◌, map, ℕ, zero, suc, ◌+◌, ◌-◌, ◌≤◌, ◌<◌, eqb, length}
use Rattle.std.proofs.Common.{sym, ap, ap₂, ◌∙◌, subst, append_assoc, add-zero, add-one, arith, ne_eqb}
use Rattle.std.proofs.Math.Bool.{and-false}
use Rattle.std.proofs.Math.Option.{Option, none, some}
use Prim.Native.String.{String}
use Rattle.std.proofs.lemmas.List.{length-map}
use Rattle.lent.specs.Bytes.{be_value, concat}
use Rattle.lent.specs.laws.Numbers.{be_value_be_bytes}
use Rattle.sifv.specs.Value.{Str as Text}
use Rattle.opc.specs.Op.{Op, Binary, Unary, Ldc, Ldn, Mv, Ldas, Ldav, Upda, Stc, Stn, Str, JmpCnd, Jmpa, Incrr, Decrr, Fn, Call, FnRet, FnStackPush, FnStackPop, Tbli, Tblg, Nop, Stop, Instr, instr, label, op, Code}
use Rattle.opc.specs.Record.{Fields, literal_items}
use Rattle.tables.specs.Tables.{Program, entered, label_at, declares, declared, function_at}
use Rattle.tables.specs.ProgramBytes.{index_word}
use Rattle.vm_laws.specs.laws.StateLaws.{below_word}
use Rattle.vm_laws.specs.laws.Kept.{label_below}
use Rattle.text.specs.Text.{ascii, decimal, joined, words, line_of}
use Rattle.listing_text.specs.ProgramText.{op_words, op_line, op_lines, index_line, index_lines, highest, program_text}
use Rattle.ops.specs.inner.Told.{item_told, param_at, literal_told, Within, PooledTold, instr_at, entry_line, table_entry}
use Rattle.ops.specs.laws.ToldLaws.{length_tabulate, Accepted}
use Rattle.lent.specs.Lists.{tabulate}

-- ---- one entry more

pub tabulate_end : {A : Type 0} (i n : ℕ) (f : ℕ → A) → tabulate i (n + 1) f ≡ tabulate i n f ++ (f (i + n) ∷ [])
tabulate_end {A} i n f = ap (λ (k : ℕ). tabulate i k f) (add-one n) ∙ more i n
  where
    more : (i n : ℕ) → tabulate i (suc n) f ≡ tabulate i n f ++ (f (i + n) ∷ [])
    more i zero = ap (λ (k : ℕ). f k ∷ []) (sym (add-zero i))
    more i (suc n) = let e : suc i + n ≡ i + suc n = omega arith in ap (λ (l : List A). f i ∷ l) (more (suc i) n ∙ ap (λ (k : ℕ). tabulate (suc i) n f ++ (f k ∷ [])) e)

-- ---- what is in the pool

-- what an array's literal and a function keep in the pool: as many entries as the record says
module _ (b : List ℕ) (f : Fields) where
  pub literal_within : Within f.word (length (literal_items (literal_told b f.kind f.len f.word))) → f.kind ≡ 5 → Within f.word f.len
  literal_within h e =
      subst (Within f.word) (ap (λ (k : ℕ). length (literal_items (literal_told b k f.len f.word))) e ∙ length_tabulate f.word f.len (item_told b)) h

  pub fn_within : PooledTold f.word (Fn f.a (tabulate f.word f.len (param_at b))) → Within f.word f.len
  fn_within h = subst (Within f.word) (length-map (tabulate f.word f.len (param_at b)) Text ∙ length_tabulate f.word f.len (param_at b)) h

-- ---- the line of an instruction

-- an operation has a name
op_words_lem : (a : List ℕ) (o : Op) → joined (ascii " ") (a ∷ op_words o) ≡ a ++ (ascii " " ++ joined (ascii " ") (op_words o))
op_words_lem a (Binary k x y z) = refl
op_words_lem a (Unary k x y) = refl
op_words_lem a (Ldc x v) = refl
op_words_lem a (Ldn x y) = refl
op_words_lem a (Mv x y) = refl
op_words_lem a (Ldas x y) = refl
op_words_lem a (Ldav x y z) = refl
op_words_lem a (Upda x y z) = refl
op_words_lem a (Stc v x) = refl
op_words_lem a (Stn x y) = refl
op_words_lem a (Str x y) = refl
op_words_lem a (JmpCnd k x l) = refl
op_words_lem a (Jmpa l) = refl
op_words_lem a (Incrr x) = refl
op_words_lem a (Decrr x) = refl
op_words_lem a (Fn x ps) = refl
op_words_lem a (Call x n) = refl
op_words_lem a FnRet = refl
op_words_lem a (FnStackPush x) = refl
op_words_lem a (FnStackPop x) = refl
op_words_lem a (Tbli x y z) = refl
op_words_lem a (Tblg x y z) = refl
op_words_lem a Nop = refl
op_words_lem a Stop = refl

line_joined : (a b w z : List ℕ) → (a ++ (32 ∷ (b ++ (32 ∷ w)))) ++ z ≡ (a ++ (32 ∷ b)) ++ (32 ∷ (w ++ z))
line_joined a b w z =
    append_assoc a (32 ∷ (b ++ (32 ∷ w))) z ∙ ap (λ (t : List ℕ). a ++ (32 ∷ t)) (append_assoc b (32 ∷ w) z) ∙ sym (append_assoc a (32 ∷ b) (32 ∷ (w ++ z)))

pub instr_text : (i l : ℕ) (o : Op)
    → op_line i (instr l o) ≡ joined (ascii " ") (ascii "op" ∷ map decimal (i ∷ (l ∷ []))) ++ (ascii " " ++ (joined (ascii " ") (op_words o) ++ ascii "\n"))
instr_text i l o =
    ap (λ (t : List ℕ). (ascii "op " ++ (decimal i ++ (ascii " " ++ t))) ++ ascii "\n") (op_words_lem (decimal l) o)
    ∙ ap (λ (t : List ℕ). ascii "op " ++ t) (line_joined (decimal i) (decimal l) (joined (ascii " ") (op_words o)) (ascii "\n"))

-- ---- the lines of a table

pub entry_some : (w : List ℕ) (i t : ℕ) → 0 < t → entry_line w i t ≡ joined (ascii " ") (w ∷ map decimal (i ∷ ((t - 1) ∷ []))) ++ ascii "\n"
entry_some w i zero h = absurd (omega arith)
entry_some w i (suc j) h = let e : j ≡ suc j - 1 = omega arith in ap (λ (k : ℕ). line_of (w ∷ (decimal i ∷ (decimal k ∷ [])))) e

index_line_lem : (s : String) (i : ℕ) (o : Option ℕ) → entry_line (ascii s) i (index_word o) ≡ index_line s i o
index_line_lem s i none = refl
index_line_lem s i (some j) = refl

table_lines : (s : String) (e : ℕ → ℕ) (f : ℕ → Option ℕ) (i n : ℕ) → ((k : ℕ) → k < i + n → e k ≡ index_word (f k)) → index_lines s i n f ≡ concat (tabulate i n (λ k. entry_line (ascii s) k (e k)))
table_lines s e f i zero h = refl
table_lines s e f i (suc n) h =
    ap₂ (λ (x y : List ℕ). x ++ y) (sym (ap (entry_line (ascii s) i) (h i (omega arith)) ∙ index_line_lem s i (f i))) (table_lines s e f (suc i) n (λ k g. h k (omega arith)))

op_lines_lem : (g : ℕ → Instr) (i n : ℕ) → op_lines i (tabulate i n g) ≡ concat (tabulate i n (λ k. op_line k (g k)))
op_lines_lem g i zero = refl
op_lines_lem g i (suc n) = ap (λ (t : List ℕ). op_line i (g i) ++ t) (op_lines_lem g (suc i) n)

-- numbers without an index have no line
index_cut : (s : String) (f : ℕ → Option ℕ) (i n m : ℕ) → n ≤ m → ((k : ℕ) → i + n ≤ k → f k ≡ none) → index_lines s i n f ≡ index_lines s i m f
index_cut s f i zero zero h g = refl
index_cut s f i zero (suc m) h g =
    index_cut s f (suc i) zero m (omega arith) (λ k q. g k (omega arith)) ∙ ap (λ (o : Option ℕ). index_line s i o ++ index_lines s (suc i) m f) (sym (g i (omega arith)))
index_cut s f i (suc n) zero h g = absurd (omega arith)
index_cut s f i (suc n) (suc m) h g = ap (λ (t : List ℕ). index_line s i (f i) ++ t) (index_cut s f (suc i) n m (omega arith) (λ k q. g k (omega arith)))

-- ---- no label beyond the highest has an index

entered_none : (cs : Code) (l was i : ℕ) → highest cs < l → entered cs l was i none ≡ none
entered_none [] l was i h = refl
entered_none (c ∷ cs) l was i h =
    ap (λ (t : Bool). entered cs l (label c) (suc i) (cond (not (eqb (label c) was) && t) (some i) none)) (ne_eqb (label c) l (λ e. omega arith))
    ∙ ap (λ (t : Bool). entered cs l (label c) (suc i) (cond t (some i) none)) (and-false (not (eqb (label c) was)))
    ∙ entered_none cs l (label c) (suc i) (omega arith)

pub label_none : (c : Code) (l : ℕ) → highest c < l → label_at c l ≡ none
label_none [] l h = refl
label_none (c ∷ cs) l h = ap (λ (t : Bool). entered (c ∷ cs) l (label c) 0 (cond t (some 0) none)) (ne_eqb l 0 (λ e. omega arith)) ∙ entered_none (c ∷ cs) l (label c) 0 h

-- ---- indexes are small

declared_small : (c : Code) (x i : ℕ) (o : Option ℕ) → index_word o ≤ i → index_word (declared c x i o) ≤ i + length c
declared_small [] x i o h = omega arith
declared_small (d ∷ c) x i o h = omega (arith, declared_small c x (suc i) (cond (declares (op d) x) (some i) o) (later (declares (op d) x)))
  where
    later : (t : Bool) → index_word (cond t (some i) o) ≤ suc i
    later true = omega arith
    later false = omega arith

module _ (b : List ℕ) (p : Program) (a : Accepted b p) where
  label_entry_lem : (l : ℕ) → l < 1024 → table_entry b 32768 l ≡ index_word (label_at p.code l)
  label_entry_lem l h = ap be_value (a.labels l h) ∙ be_value_be_bytes 2 (index_word (label_at p.code l)) (below_word (length p.code) (label_at p.code l) a.few (label_below p.code l))

  function_entry_lem : (x : ℕ) → x < 64 → table_entry b 34816 x ≡ index_word (function_at p.code x)
  function_entry_lem x h = ap be_value (a.functions x h) ∙ be_value_be_bytes 2 (index_word (function_at p.code x)) (omega (arith, declared_small p.code x 0 none (omega arith), a.few))

  -- ---- the whole, as the code writes it
  pub program_lines : {s n : ℕ} → s ≡ p.code_start → n ≡ length p.code
      → program_text p ≡ line_of (words "start" (s ∷ [])) ++ (concat (tabulate 0 n (λ i. op_line i (instr_at b i))) ++
      (concat (tabulate 0 1024 (λ i. entry_line (ascii "label") i (table_entry b 32768 i))) ++ concat (tabulate 0 64 (λ i. entry_line (ascii "fn") i (table_entry b 34816 i)))))
  program_lines {s} {n} u v =
      let small = a.small in
      let starts : line_of (words "start" (p.code_start ∷ [])) ≡ line_of (words "start" (s ∷ [])) = ap (λ (k : ℕ). line_of (words "start" (k ∷ []))) (sym u) in
      let ops : op_lines 0 p.code ≡ concat (tabulate 0 n (λ i. op_line i (instr_at b i))) =
      ap (op_lines 0) (sym a.code ∙ ap (λ (k : ℕ). tabulate 0 k (instr_at b)) (sym v)) ∙ op_lines_lem (instr_at b) 0 n in
      let labels : index_lines "label" 0 (suc (highest p.code)) (label_at p.code) ≡ concat (tabulate 0 1024 (λ i. entry_line (ascii "label") i (table_entry b 32768 i))) =
      index_cut "label" (label_at p.code) 0 (suc (highest p.code)) 1024 (omega arith) (λ k g. label_none p.code k (omega arith))
      ∙ table_lines "label" (table_entry b 32768) (label_at p.code) 0 1024 (λ k g. label_entry_lem k (omega arith)) in
      let functions : index_lines "fn" 0 64 (function_at p.code) ≡ concat (tabulate 0 64 (λ i. entry_line (ascii "fn") i (table_entry b 34816 i))) =
      table_lines "fn" (table_entry b 34816) (function_at p.code) 0 64 (λ k g. function_entry_lem k (omega arith)) in
      ap₂ (λ (x y : List ℕ). x ++ y) starts (ap₂ (λ (x y : List ℕ). x ++ y) ops (ap₂ (λ (x y : List ℕ). x ++ y) labels functions))
