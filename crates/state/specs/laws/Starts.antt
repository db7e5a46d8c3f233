-- A state at its start: the function table and the first position of an accepted program, in cleared bytes.
use Rattle.std.specs.Prelude.{◌≡◌, refl, ◌&&◌, List, ◌++◌, ◌⊎◌, ℕ, zero, suc, ◌+◌, ◌*◌, ◌≤◌, leb, length, drop, replicate}
use Rattle.std.proofs.Common.{sym, ap₂, ◌∙◌, subst, inl, inr, zero-add, arith}
use Rattle.std.proofs.Math.Path.{ap}
use Rattle.std.proofs.Math.Option.{some}
use Rattle.std.proofs.lemmas.List.{length-replicate}
use Rattle.lent.specs.Bytes.{be_value, be_bytes, part, splice, same_bytes}
use Rattle.lent.specs.laws.Parts.{length_splice, part_splice, part_splice_before, part_splice_behind, part_splice_within, part_replicate, drop_splice, splice_part}
use Rattle.lent.specs.laws.Numbers.{length_be_bytes}
use Rattle.lent.specs.laws.Same.{same_eq}
use Rattle.sifv.specs.Slot.{encode_slot}
use Rattle.sifv.specs.laws.Layout.{and_right}
use Rattle.tables.specs.Tables.{Program, function_at}
use Rattle.tables.specs.ProgramBytes.{index_word, decode_code, label_bytes, function_bytes, tables_ok, decode_program}
use Rattle.tables.specs.laws.ProgramLaws.{length_each}
use Rattle.vm.specs.Operation.{empty}
use Rattle.vm.specs.Machine.{initial, started}
use Rattle.stored.specs.StateBytes.{mark, encode_state}
use Rattle.vm_laws.specs.laws.StateLaws.{region}
use Rattle.execute.specs.inner.View.{Holds}
use Rattle.opc.specs.laws.Fetched.{when_elim, with_elim, guarded}
use Rattle.state.specs.laws.Whole.{written_back}
use Rattle.lent.specs.Lists.{zeros}

-- what an accepted program's buffer says of its functions and of its first position
abbrev Tabled : List ℕ → Program → Type 0
Tabled q p = (part q 34816 128 ≡ function_bytes p.code) × (be_value (part q 34946 2) ≡ p.code_start)

accepted_tables : (q : List ℕ) (p : Program) → decode_program q ≡ some p → Tabled q p
unfolding decode_program
accepted_tables q p e =
    let n = be_value (part q 34944 2) in
    let s = be_value (part q 34946 2) in
    with_elim (Tabled q) (decode_code n (part q 0 16384) 0 (part q 16384 16384)) _
    (λ c r u. when_elim (Tabled q) (tables_ok q c)
    (λ t. (same_eq (part q 34816 128) (function_bytes c) (and_right (same_bytes (part q 32768 2048) (label_bytes c)) (same_bytes (part q 34816 128) (function_bytes c)) t), refl)) u)
    (guarded (leb n 1024 && leb s n) _ e).1

mark_empty : (n x : ℕ) → mark x n empty ≡ 0
mark_empty zero x = refl
mark_empty (suc n) x = omega (arith, mark_empty n (suc x))

-- zeros that are there already are written: nothing changes
zeros_there : (d : List ℕ) (at n : ℕ) {s : List ℕ} → at + n ≤ length d → part d at n ≡ zeros n → s ≡ zeros n → d ≡ splice d at s
zeros_there d at n h e f = sym (splice_part d at n h) ∙ ap (splice d at) (e ∙ sym f)

-- cleared, and with a function table
cleared : List ℕ → List ℕ
cleared b = splice b 0 (replicate 47360 0)

tabled : List ℕ → List ℕ → List ℕ
tabled b fs = splice (cleared b) 47200 fs

module _ (b : List ℕ) (l : 47360 ≤ length b) where
  cleared_length : length (cleared b) ≡ length b
  unfolding cleared
  cleared_length = length_splice b 0 (replicate 47360 0) (rw (length-replicate {A = ℕ} 47360 0) (omega arith))

  cleared_part : (at n : ℕ) → at + n ≤ 47360 → part (cleared b) at n ≡ zeros n
  unfolding cleared
  cleared_part at n h =
      ap (λ (x : ℕ). part (splice b 0 (replicate 47360 0)) x n) (sym (zero-add at))
      ∙ part_splice_within b 0 (replicate 47360 0) at n (rw (length-replicate {A = ℕ} 47360 0) h) (omega arith)
      ∙ part_replicate 47360 0 at n h

  module _ (fs : List ℕ) (g : length fs ≡ 128) where
    tabled_length : length (tabled b fs) ≡ length b
    unfolding tabled
    tabled_length = length_splice (cleared b) 47200 fs (omega (arith, cleared_length)) ∙ cleared_length

    tabled_part : (at n : ℕ) → (at + n ≤ 47200) ⊎ ((47328 ≤ at) × (at + n ≤ 47360)) → part (tabled b fs) at n ≡ zeros n
    unfolding tabled
    tabled_part at n (inl h) = part_splice_before (cleared b) 47200 fs at n h (omega (arith, cleared_length)) ∙ cleared_part at n (omega arith)
    tabled_part at n (inr h) = part_splice_behind (cleared b) 47200 fs at n (omega arith) (omega (arith, cleared_length)) ∙ cleared_part at n h.1

    tabled_fns : part (tabled b fs) 47200 128 ≡ fs
    unfolding tabled
    tabled_fns = part_splice (cleared b) 47200 fs 128 g (omega (arith, cleared_length))

    tabled_drop : drop 47360 (tabled b fs) ≡ drop 47360 b
    unfolding tabled cleared
    tabled_drop =
        drop_splice (splice b 0 (replicate 47360 0)) 47200 fs 47360 (omega arith) (rw cleared_length (omega arith))
        ∙ drop_splice b 0 (replicate 47360 0) 47360 (rw (length-replicate {A = ℕ} 47360 0) (omega arith)) (omega arith)

-- ---- the bytes of a start

length_functions : (p : Program) → length (function_bytes p.code) ≡ 128
length_functions p = length_each 2 64 (λ (x : ℕ). be_bytes 2 (index_word (function_at p.code x))) (λ k q. length_be_bytes 2 (index_word (function_at p.code k)))

-- they hold the machine at its start
start_holds : (b : List ℕ) (p : Program) → 47360 ≤ length b → Holds (tabled b (function_bytes p.code)) (initial p)
unfolding encode_slot
start_holds b p l =
    let fs = function_bytes p.code in
    let g = length_functions p in
    record {
      room = subst (λ (x : ℕ). 47360 ≤ x) (sym (tabled_length b l fs g)) l;
      in_regs = λ k q. tabled_part b l fs g (0 + k * 256) 256 (inl (omega arith));
      in_names = λ k q. tabled_part b l fs g (24576 + k * 256) 256 (inl (omega arith));
      in_stack = λ k q. tabled_part b l fs g (40960 + k * 256) 256 (inl (omega arith));
      in_calls = λ k q. tabled_part b l fs g (47104 + k * 4) 4 (inl (omega arith));
      in_fns = region 2 64 47200 (λ (x : ℕ). be_bytes 2 (index_word (function_at p.code x))) (λ k q. length_be_bytes 2 (index_word (function_at p.code k))) (tabled b fs) (tabled_fns b l fs g);
      in_rest = tabled_part b l fs g 47348 12 (inr (omega arith));
    }

-- the position, written behind them
start_whole : (w : List ℕ) (p : Program) → 47360 ≤ length w → Holds w (initial p) → ((at n : ℕ) → 47328 ≤ at → at + n ≤ 47360 → part w at n ≡ zeros n)
    → splice w 47344 (be_bytes 2 p.code_start) ≡ encode_state (started p) ++ drop 47360 w
start_whole w p m h z =
    let d = splice w 47344 (be_bytes 2 p.code_start) in
    let n : length d ≡ length w = length_splice w 47344 (be_bytes 2 p.code_start) (omega arith) in
    let behind : (at : ℕ) → 47346 ≤ at → at + 1 ≤ 47360 → part d at 1 ≡ zeros 1 =
    λ at i j. part_splice_behind w 47344 (be_bytes 2 p.code_start) at 1 (omega arith) (omega arith) ∙ z at 1 (omega arith) j in
    written_back w (started p) h (omega arith) (omega arith)
    (zeros_there w 47328 8 (omega arith) (z 47328 8 (omega arith) (omega arith)) (ap (be_bytes 8) (mark_empty 64 0)))
    (zeros_there w 47336 8 (omega arith) (z 47336 8 (omega arith) (omega arith)) refl)
    refl
    (zeros_there d 47346 1 (omega arith) (behind 47346 (omega arith) (omega arith)) refl)
    (zeros_there d 47347 1 (omega arith) (behind 47347 (omega arith) (omega arith)) refl)

start_tabled : (b q : List ℕ) (p : Program) {b₁ b₂ : List ℕ} → decode_program q ≡ some p → b₁ ≡ splice b 0 (replicate 47360 0) → b₂ ≡ splice b₁ 47200 (part q 34816 128)
    → b₂ ≡ tabled b (function_bytes p.code)
unfolding tabled cleared
start_tabled b q p e e1 e2 = e2 ∙ ap₂ (λ (x y : List ℕ). splice x 47200 y) e1 (accepted_tables q p e).0

pub start_written : (b q : List ℕ) (p : Program) {b₁ b₂ b₃ : List ℕ} {s : ℕ} → 47360 ≤ length b → decode_program q ≡ some p → b₁ ≡ splice b 0 (replicate 47360 0)
    → b₂ ≡ splice b₁ 47200 (part q 34816 128) → s ≡ be_value (part q 34946 2) → b₃ ≡ splice b₂ 47344 (be_bytes 2 s) → b₃ ≡ encode_state (started p) ++ drop 47360 b
start_written b q p l e e1 e2 e3 e4 =
    let fs = function_bytes p.code in
    let g = length_functions p in
    let w = tabled b fs in
    e4
    ∙ ap₂ (λ (x : List ℕ) (y : ℕ). splice x 47344 (be_bytes 2 y)) (start_tabled b q p e e1 e2) (e3 ∙ (accepted_tables q p e).1)
    ∙ start_whole w p (subst (λ (x : ℕ). 47360 ≤ x) (sym (tabled_length b l fs g)) l) (start_holds b p l) (λ at n h k. tabled_part b l fs g at n (inr (h, k)))
    ∙ ap (λ (x : List ℕ). encode_state (started p) ++ x) (tabled_drop b l fs g)
