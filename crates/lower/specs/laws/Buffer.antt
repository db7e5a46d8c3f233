-- The program buffer: what the passes, the tables and the counts leave in a buffer of zeros is the program's.
use Rattle.std.specs.Prelude.{ℕ, ◌+◌, ◌*◌, ◌-◌, ◌≤◌, ◌≡◌, refl, true, List, [], ◌∷◌, ◌++◌, length, take, drop}
use Rattle.std.proofs.Common.{sym, ap, ◌∙◌, append_assoc, add-zero, arith, length-append, take_at, drop_at}
use Rattle.std.proofs.lemmas.List.{length-replicate, replicate-append-replicate}
use Rattle.lent.specs.Bytes.{be_bytes, part, splice}
use Rattle.lent.specs.laws.Numbers.{length_be_bytes}
use Rattle.lent.specs.laws.Parts.{length_splice, splice_append, splice_comm, splice_append_right}
use Rattle.sifv.specs.laws.Layout.{Sized, end, field, field_at, length_joined, length_pad}
use Rattle.opc.specs.Op.{Code}
use Rattle.tables.specs.Tables.{Program, label_at, function_at}
use Rattle.tables.specs.ProgramBytes.{record_bytes, pool_bytes, label_bytes, function_bytes, encode_program}
use Rattle.tables.specs.inner.Entries.{Records}
use Rattle.tables.specs.laws.EntryLaws.{length_entries}
use Rattle.emit.specs.inner.Run.{instr_items}
use Rattle.emit.specs.laws.Joins.{pool_count, written, record_append, pool_append, length_pool, length_records}
use Rattle.lent.specs.Lists.{zeros, pad}
use Rattle.tables.specs.Limits.{item_total, code_ok}
use Rattle.sifv.specs.inner.Forms.{joined_parts}

-- ---- fields, one of them written

abbrev sizes : List (List ℕ) → ℕ
sizes [] = 0
sizes (a ∷ l) = length a + sizes l

put_field : (fs : List (List ℕ)) (a s : List ℕ) (gs : List (List ℕ)) (z : List ℕ) (at : ℕ) → at ≡ sizes fs → length s ≡ length a
    → splice (joined_parts (fs ++ (a ∷ gs)) z) at s ≡ joined_parts (fs ++ (s ∷ gs)) z
put_field [] a s gs z at e h =
    ap (λ (k : ℕ). splice (a ++ joined_parts gs z) k s) e ∙ ap (λ (r : List ℕ). s ++ r) (drop_at a (joined_parts gs z) (length s) (sym h))
put_field (f ∷ fs) a s gs z at e h =
    ap (λ (k : ℕ). splice (f ++ joined_parts (fs ++ (a ∷ gs)) z) k s) e
    ∙ splice_append_right f (joined_parts (fs ++ (a ∷ gs)) z) (sizes fs) s
    ∙ ap (λ (r : List ℕ). f ++ r) (put_field fs a s gs z (sizes fs) refl h)

-- over zeros
pad_put : (n : ℕ) (s t : List ℕ) → length s ≤ n → splice (zeros n ++ t) 0 s ≡ pad n s ++ t
pad_put n s t h =
    let k = length s in
    let m = n - k in
    let e : k + m ≡ n = omega arith in
    let a : zeros n ++ t ≡ zeros k ++ (zeros m ++ t) =
    ap (λ (x : ℕ). zeros x ++ t) (sym e) ∙ ap (λ (l : List ℕ). l ++ t) (sym (replicate-append-replicate k m 0)) ∙ append_assoc (zeros k) (zeros m) t in
    ap (λ (l : List ℕ). s ++ drop k l) a
    ∙ ap (λ (l : List ℕ). s ++ l) (drop_at (zeros k) (zeros m ++ t) k (length-replicate {A = ℕ} k 0))
    ∙ sym (append_assoc s (zeros m) t)

pad_behind : (a : List ℕ) (w n : ℕ) (s t : List ℕ) → length a ≡ w → length s ≤ n → splice (a ++ (zeros n ++ t)) w s ≡ a ++ (pad n s ++ t)
pad_behind a w n s t e h =
    let k : w ≡ length a + 0 = sym (add-zero (length a) ∙ e) in
    ap (λ (x : ℕ). splice (a ++ (zeros n ++ t)) x s) k ∙ splice_append_right a (zeros n ++ t) 0 s ∙ ap (λ (l : List ℕ). a ++ l) (pad_put n s t h)

zeros_add : (n m : ℕ) (t : List ℕ) → zeros (n + m) ++ t ≡ zeros n ++ (zeros m ++ t)
zeros_add n m t = ap (λ (l : List ℕ). l ++ t) (sym (replicate-append-replicate n m 0)) ∙ append_assoc (zeros n) (zeros m) t

zeros_fields : (a b c d e f g : ℕ) (t : List ℕ) → zeros (a + (b + (c + (d + (e + (f + g)))))) ++ t ≡ joined_parts (zeros a ∷ zeros b ∷ zeros c ∷ zeros d ∷ zeros e ∷ zeros f ∷ []) (zeros g ++ t)
zeros_fields a b c d e f g t =
    zeros_add a (b + (c + (d + (e + (f + g))))) t
    ∙ ap (λ (l : List ℕ). zeros a ++ l) (zeros_add b (c + (d + (e + (f + g)))) t
    ∙ ap (λ (l : List ℕ). zeros b ++ l) (zeros_add c (d + (e + (f + g))) t
    ∙ ap (λ (l : List ℕ). zeros c ++ l) (zeros_add d (e + (f + g)) t
    ∙ ap (λ (l : List ℕ). zeros d ++ l) (zeros_add e (f + g) t
    ∙ ap (λ (l : List ℕ). zeros e ++ l) (zeros_add f g t)))))

behind : (a b c d e f g r : List ℕ) → (a ++ (b ++ (c ++ (d ++ (e ++ (f ++ g)))))) ++ r ≡ joined_parts (a ∷ b ∷ c ∷ d ∷ e ∷ f ∷ []) (g ++ r)
behind a b c d e f g r = simp append_assoc

-- ---- the records and items of two lots of code

pub pool_items_lem : (c : Code) → pool_count c ≡ item_total c
pool_items_lem [] = refl
pool_items_lem (i ∷ c) = ap (λ (n : ℕ). instr_items i + n) (pool_items_lem c)

pub written_append : (b : List ℕ) (c d : Code) → length c + length d ≤ 1024 → pool_count c + pool_count d ≤ 1024 → 40960 ≤ length b
    → written (written b 0 0 c) (length c) (pool_count c) d ≡ written b 0 0 (c ++ d)
written_append b c d h g l =
    let pc = pool_bytes c in
    let pd = pool_bytes d in
    let rc = record_bytes c 0 in
    let rd = record_bytes d (0 + pool_count c) in
    let lpc = length_pool c in
    let lpd = length_pool d in
    let lrc = length_records c 0 in
    let b₁ = splice b 16384 pc in
    let l₁ = length_splice b 16384 pc (omega (arith, lpc)) in
    let l₂ = length_splice b₁ (16384 + length pc) pd (omega (arith, lpc, lpd, l₁)) in
    let e₁ : 16384 + 16 * pool_count c ≡ 16384 + length pc = omega (arith, lpc) in
    let e₂ : 16 * length c ≡ 0 + length rc = omega (arith, lrc) in
    let e₃ : pool_count c ≡ 0 + pool_count c = omega arith in
    ap (λ (x : ℕ). splice (splice (splice b₁ 0 rc) x pd) (16 * length c) (record_bytes d (pool_count c))) e₁
    ∙ ap (λ (x : List ℕ). splice x (16 * length c) (record_bytes d (pool_count c))) (splice_comm b₁ 0 rc (16384 + length pc) pd (omega (arith, lrc)) (omega (arith, lpc, lpd, l₁)))
    ∙ ap (λ (x : ℕ). splice (splice (splice b₁ (16384 + length pc) pd) 0 rc) x (record_bytes d (pool_count c))) e₂
    ∙ ap (λ (x : ℕ). splice (splice (splice b₁ (16384 + length pc) pd) 0 rc) (0 + length rc) (record_bytes d x)) e₃
    ∙ sym (splice_append (splice b₁ (16384 + length pc) pd) 0 rc rd (omega arith))
    ∙ ap (λ (x : List ℕ). splice x 0 (rc ++ rd)) (sym (splice_append b 16384 pc pd (omega arith)))
    ∙ ap (λ (x : List ℕ). splice (splice b 16384 (pc ++ pd)) 0 x) (sym (record_append c d 0))
    ∙ ap (λ (x : List ℕ). splice (splice b 16384 x) 0 (record_bytes (c ++ d) 0)) (sym (pool_append c d))

-- ---- the buffer after the passes

-- the fields of the buffer of some code: records, items, labels, functions, count, start
abbrev fields : Code → List ℕ → List ℕ → List ℕ → List ℕ → List (List ℕ)
fields c l f n s = pad 16384 (record_bytes c 0) ∷ pad 16384 (pool_bytes c) ∷ l ∷ f ∷ n ∷ s ∷ []

abbrev pub passed : Code → List ℕ → List ℕ
passed c rest = joined_parts (fields c (zeros 2048) (zeros 128) (zeros 2) (zeros 2)) (zeros 6012 ++ rest)

module _ (c : Code) (rest : List ℕ) (h : length c ≤ 1024) (g : item_total c ≤ 1024) where
  records_fit : length (record_bytes c 0) ≤ 16384
  records_fit = omega (arith, length_records c 0)

  pool_fits_lem : length (pool_bytes c) ≤ 16384
  pool_fits_lem = omega (arith, length_pool c, pool_items_lem c)

  pub passes_fields : written (zeros 40960 ++ rest) 0 0 c ≡ passed c rest
  passes_fields =
      let t = joined_parts (zeros 2048 ∷ zeros 128 ∷ zeros 2 ∷ zeros 2 ∷ []) (zeros 6012 ++ rest) in
      ap (λ (x : List ℕ). splice (splice x 16384 (pool_bytes c)) 0 (record_bytes c 0)) (zeros_fields 16384 16384 2048 128 2 2 6012 rest)
      ∙ ap (λ (x : List ℕ). splice x 0 (record_bytes c 0)) (pad_behind (zeros 16384) 16384 16384 (pool_bytes c) t (length-replicate {A = ℕ} 16384 0) pool_fits_lem)
      ∙ pad_put 16384 (record_bytes c 0) (pad 16384 (pool_bytes c) ++ t) records_fit

  passes_sized : Sized (fields c (zeros 2048) (zeros 128) (zeros 2) (zeros 2)) (16384 ∷ 16384 ∷ 2048 ∷ 128 ∷ 2 ∷ 2 ∷ [])
  passes_sized =
      field (length_pad 16384 (record_bytes c 0) records_fit) (field (length_pad 16384 (pool_bytes c) pool_fits_lem)
      (field (length-replicate {A = ℕ} 2048 0) (field (length-replicate {A = ℕ} 128 0) (field (length-replicate {A = ℕ} 2 0) (field (length-replicate {A = ℕ} 2 0) end)))))

  -- what the tables ask for
  pub passes_long : 40960 ≤ length (passed c rest)
  passes_long = omega (arith, length_joined passes_sized (zeros 6012 ++ rest), length-append (zeros 6012) rest, length-replicate {A = ℕ} 6012 0)

  pub passes_labels : part (passed c rest) 32768 2048 ≡ zeros 2048
  passes_labels = field_at passes_sized 2 (zeros 6012 ++ rest) (omega arith)

  pub passes_functions : part (passed c rest) 34816 128 ≡ zeros 128
  passes_functions = field_at passes_sized 3 (zeros 6012 ++ rest) (omega arith)

  pub passes_records : code_ok c ≡ true → (n : ℕ) → n ≡ length c → Records c n (passed c rest)
  passes_records o n e =
      let r = record_bytes c 0 in
      let t = joined_parts (pad 16384 (pool_bytes c) ∷ zeros 2048 ∷ zeros 128 ∷ zeros 2 ∷ zeros 2 ∷ []) (zeros 6012 ++ rest) in
      record {
        count = e;
        ranged = o;
        spelt =
            ap (take (16 * n)) (append_assoc r (zeros (16384 - length r)) t) ∙ take_at r (zeros (16384 - length r) ++ t) (16 * n) (omega (arith, length_records c 0, e));
      }

  -- ---- the tables, the counts

  pub program_fields : (s : ℕ) (b₂ b₃ b₄ b₅ : List ℕ) → b₂ ≡ passed c rest → b₃ ≡ splice (splice b₂ 32768 (label_bytes c)) 34816 (function_bytes c)
      → b₄ ≡ splice b₃ 34944 (be_bytes 2 (length c)) → b₅ ≡ splice b₄ 34946 (be_bytes 2 s)
      → b₅ ≡ joined_parts (fields c (label_bytes c) (function_bytes c) (be_bytes 2 (length c)) (be_bytes 2 s)) (zeros 6012 ++ rest)
  program_fields s b₂ b₃ b₄ b₅ e₂ e₃ e₄ e₅ =
      let r = pad 16384 (record_bytes c 0) in
      let p = pad 16384 (pool_bytes c) in
      let lr = length_pad 16384 (record_bytes c 0) records_fit in
      let lp = length_pad 16384 (pool_bytes c) pool_fits_lem in
      let ll = length_entries 1024 (label_at c) in
      let lf = length_entries 64 (function_at c) in
      let n = be_bytes 2 (length c) in
      let z = zeros 6012 ++ rest in
      e₅
      ∙ ap (λ (x : List ℕ). splice x 34946 (be_bytes 2 s)) (e₄
      ∙ ap (λ (x : List ℕ). splice x 34944 n) (e₃
      ∙ ap (λ (x : List ℕ). splice (splice x 32768 (label_bytes c)) 34816 (function_bytes c)) e₂
      ∙ ap (λ (x : List ℕ). splice x 34816 (function_bytes c))
      (put_field (r ∷ p ∷ []) (zeros 2048) (label_bytes c) (zeros 128 ∷ zeros 2 ∷ zeros 2 ∷ []) z 32768 (omega (arith, lr, lp)) (ll ∙ sym (length-replicate {A = ℕ} 2048 0)))
      ∙ put_field (r ∷ p ∷ label_bytes c ∷ []) (zeros 128) (function_bytes c) (zeros 2 ∷ zeros 2 ∷ []) z 34816 (omega (arith, lr, lp, ll)) (lf ∙ sym (length-replicate {A = ℕ} 128 0)))
      ∙ put_field (r ∷ p ∷ label_bytes c ∷ function_bytes c ∷ []) (zeros 2) n (zeros 2 ∷ []) z 34944 (omega (arith, lr, lp, ll, lf)) (length_be_bytes 2 (length c)))
      ∙ put_field (r ∷ p ∷ label_bytes c ∷ function_bytes c ∷ n ∷ []) (zeros 2) (be_bytes 2 s) [] z 34946 (omega (arith, lr, lp, ll, lf, length_be_bytes 2 (length c))) (length_be_bytes 2 s)

-- the program's buffer, and what lies behind
pub program_buffer : (p : Program) (rest : List ℕ) → encode_program p ++ rest
    ≡ joined_parts (fields p.code (label_bytes p.code) (function_bytes p.code) (be_bytes 2 (length p.code)) (be_bytes 2 p.code_start)) (zeros 6012 ++ rest)
unfolding encode_program
program_buffer p rest =
    behind (pad 16384 (record_bytes p.code 0)) (pad 16384 (pool_bytes p.code)) (label_bytes p.code) (function_bytes p.code) (be_bytes 2 (length p.code)) (be_bytes 2 p.code_start) (zeros 6012) rest
