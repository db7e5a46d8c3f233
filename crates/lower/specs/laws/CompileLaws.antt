-- The laws of `compile`: both passes, tables and counts of a tree make its program's buffer.
use Rattle.std.specs.Prelude.{ℕ, suc, leb, ◌+◌, ◌*◌, ◌≤◌, ◌<◌, ◌≡◌, refl, Bool, true, false, cond, List, [], ◌∷◌, ◌++◌, map, length, drop, replicate}
use Rattle.std.proofs.Common.{sym, ap, ◌∙◌, arith, length-append, drop_at}
use Rattle.std.proofs.lemmas.List.{length-replicate}
use Rattle.lent.specs.Bytes.{be_bytes, part, splice, concat}
use Rattle.lent.specs.laws.Parts.{length_splice, drop_splice, splice_none}
use Rattle.opc.specs.Op.{Instr, op, Code}
use Rattle.opc.specs.Record.{items_of, item_bytes, encode_instr}
use Rattle.tables.specs.ProgramBytes.{label_bytes, function_bytes, encode_program}
use Rattle.tables.specs.laws.ProgramLaws.{limits, program_length}
use Rattle.tables.specs.inner.Entries.{Records}
use Rattle.ast.specs.Tree.{Stmts}
use Rattle.ast.specs.Flat.{flat}
use Rattle.compiler.specs.Lower.{Decl, Main, Event, Reg, Push, Below, lower_tree, refusal, code_of, program_of, decide}
use Rattle.compiler.specs.Within.{StmtsIn}
use Rattle.compiler.proofs.laws.Accepted.{tree_items, unrefused_length, lowered_within}
use Rattle.emit.specs.declared.Low.{Low}
use Rattle.emit.specs.inner.Run.{kept, instr_items, step_event, after_events, put_instr, goes, write, wrote, Ready, Did}
use Rattle.emit.specs.laws.Laws.{length_items, length_record, length_put, goes_room}
use Rattle.emit.specs.laws.Joins.{pool_count, Room, refused_is, wrote_is, written}
use Rattle.lower.specs.inner.Compile.{Cleared, Compiled, first_pass, second_pass, one_pass, finished}
use Rattle.lower.specs.laws.Passes.{refused_first, Ended, ended, counts}
use Rattle.lower.specs.laws.Buffer.{pool_items_lem, written_append, passed, passes_fields, passes_long, passes_labels, passes_functions, passes_records, program_fields, program_buffer}
use Rattle.lent.specs.Lists.{zeros}
use Rattle.tables.specs.Limits.{item_total, code_ok}

-- ---- what lies behind the buffer is untouched

put_behind : (i : Instr) (s : Low) (b : List ℕ) → s.items + instr_items i ≤ 1024 → s.recs < 1024 → 40960 ≤ length b → drop 40960 (put_instr i s b) ≡ drop 40960 b
put_behind i s b h g l =
    let is = concat (map item_bytes (items_of (op i))) in
    let a = 16384 + 16 * s.items in
    let li = length_items (items_of (op i)) in
    let e = length_splice b a is (omega (arith, li)) in
    drop_splice (splice b a is) (16 * s.recs) (encode_instr i s.items) 40960 (omega (arith, length_record i s.items)) (omega (arith, e)) ∙ drop_splice b a is 40960 (omega (arith, li)) (omega arith)

-- the buffer keeps its length and what lies behind
record Behind (b d : List ℕ) : Type 0 where
  size : length d ≡ length b
  rest : drop 40960 d ≡ drop 40960 b

put_cond : (i : Instr) (s : Low) (b : List ℕ) (k : Bool) (q : Bool) → goes k s (instr_items i) ≡ q → 40960 ≤ length b → Behind b (cond q (put_instr i s b) b)
put_cond i s b k true e l =
    let r = goes_room k s (instr_items i) e in
    record { size = length_put i s b r.1 r.0 l; rest = put_behind i s b r.1 r.0 l }
put_cond i s b k false e l = record { size = refl; rest = refl }

write_behind : (e : Event) (s : Low) (b : List ℕ) → 40960 ≤ length b → Behind b (write e s b)
write_behind Reg s b l = record { size = refl; rest = refl }
write_behind (Push w i) s b l = put_cond i s b (kept s.decls w.section) (goes (kept s.decls w.section) s (instr_items i)) refl l
write_behind Below s b l = record { size = refl; rest = refl }

wrote_behind : (es : List Event) (s : Low) (b : List ℕ) → 40960 ≤ length b → Behind b (wrote es s b)
wrote_behind [] s b l = record { size = refl; rest = refl }
wrote_behind (e ∷ es) s b l =
    let a = write_behind e s b l in
    let d = wrote_behind es (step_event e s) (write e s b) (omega (arith, a.size)) in
    record { size = d.size ∙ a.size; rest = d.rest ∙ a.rest }

-- ---- a tree within the limits, a buffer of zeros

-- what the tables ask for: n records of the code c, and both tables zero
pub record Asked (c : Code) (n : ℕ) (b : List ℕ) : Type 0 where
  pub long : 40960 ≤ length b
  pub few : n ≤ 1024
  pub labels : part b 32768 2048 ≡ zeros 2048
  pub functions : part b 34816 128 ≡ zeros 128
  pub records : Records c n b

items_append : (c d : Code) → item_total (c ++ d) ≡ item_total c + item_total d
items_append [] d = omega arith
items_append (i ∷ c) d = omega (arith, items_append c d)

zero_more : (n : ℕ) → 0 + n ≡ n
zero_more n = omega arith

no_length : (c : Code) → length c ≡ 0 → c ≡ []
no_length [] e = refl
no_length (i ∷ c) e = absurd (omega (arith, e))

-- zeros, whatever was there
pub clears : (b : List ℕ) {d : List ℕ} → d ≡ splice b 0 (replicate 40960 0) → Cleared (drop 40960 b) d
clears b q = record { zero = q ∙ ap (λ (n : ℕ). zeros 40960 ++ drop n b) (length-replicate {A = ℕ} 40960 0) }

pub cleared_long : {rest b : List ℕ} → Cleared rest b → 40960 ≤ length b
cleared_long {rest} z = omega (arith, ap length z.zero, length-append (zeros 40960) rest, length-replicate {A = ℕ} 40960 0)

module _ (t : Stmts) (rest b₀ : List ℕ) (w : StmtsIn t) (f : length (flat t) ≤ 1024) (cl : Cleared rest b₀) where
  z : b₀ ≡ zeros 40960 ++ rest
  z = cl.zero

  zero_long : 40960 ≤ length b₀
  zero_long = cleared_long cl

  zero_behind : drop 40960 b₀ ≡ rest
  zero_behind = ap (drop 40960) z ∙ drop_at (zeros 40960) rest 40960 (length-replicate {A = ℕ} 40960 0)

  all_items : pool_count (code_of Decl (lower_tree t)) + pool_count (code_of Main (lower_tree t)) ≤ 1024
  all_items = omega (arith, tree_items t w f, items_append (code_of Decl (lower_tree t)) (code_of Main (lower_tree t)), pool_items_lem (code_of Decl (lower_tree t)), pool_items_lem (code_of Main (lower_tree t)))

  pub first_ready : Ready first_pass b₀
  first_ready = record { registers = omega arith; pushed = omega arith; records = omega arith; pool = omega arith; room = zero_long }

  pub one_ready : Ready one_pass b₀
  one_ready = record { registers = omega arith; pushed = omega arith; records = omega arith; pool = omega arith; room = zero_long }

  -- a pass over the zeros: what lies behind is untouched
  module _ (s d : Low) (b₁ : List ℕ) (did : Did (lower_tree t) s b₀ d b₁) where
    pass_behind : Behind b₀ b₁
    pass_behind = let a = wrote_behind (lower_tree t) s b₀ zero_long in record { size = ap length did.buffer ∙ a.size; rest = ap (drop 40960) did.buffer ∙ a.rest }

    pub pass_long : 40960 ≤ length b₁
    pass_long = omega (arith, pass_behind.size, zero_long)

    pass_rest : drop 40960 b₁ ≡ rest
    pass_rest = pass_behind.rest ∙ zero_behind

    pub pass_cleared : (b₂ : List ℕ) → b₂ ≡ splice b₁ 0 (replicate 40960 0) → Cleared rest b₂
    pass_cleared b₂ q = rw pass_rest at (clears b₁ q)

    -- every pass gives the refusal
    module _ (r : (after_events (lower_tree t) s).refused ≡ refusal (lower_tree t) 0 0) where
      pass_number : d.refused ≡ refusal (lower_tree t) 0 0
      pass_number = ap (λ (x : Low). x.refused) did.state ∙ r

      pass_refused : (d.refused ≡ 0 → ⊥) → Compiled t rest d.refused b₁
      pass_refused n = record { number = pass_number; made = λ z. absurd (n z); behind = pass_rest; long = pass_long }

  -- the first pass, then the second

  module _ (d : Low) (b₁ : List ℕ) (did : Did (lower_tree t) first_pass b₀ d b₁) where
    first_is : (after_events (lower_tree t) first_pass).refused ≡ refusal (lower_tree t) 0 0
    first_is = refused_first (lower_tree t) first_pass refl (record { few = omega arith; room = omega (arith, all_items) })

    pub first_number : d.refused ≡ refusal (lower_tree t) 0 0
    first_number = pass_number first_pass d b₁ did first_is

    pub first_refused : (d.refused ≡ 0 → ⊥) → Compiled t rest d.refused b₁
    first_refused = pass_refused first_pass d b₁ did first_is

    module _ (none-refused : refusal (lower_tree t) 0 0 ≡ 0) where
      first_none : (after_events (lower_tree t) first_pass).refused ≡ 0
      first_none = first_is ∙ none-refused

      few_instructions : length (code_of Decl (lower_tree t)) + length (code_of Main (lower_tree t)) ≤ 1024
      few_instructions = omega (arith, unrefused_length (lower_tree t) none-refused, length-append (code_of Decl (lower_tree t)) (code_of Main (lower_tree t)))

      first_ended : Ended (lower_tree t) first_pass d
      first_ended =
          let e = ended (lower_tree t) first_pass first_none in
          record { recs = ap (λ (s : Low). s.recs) did.state ∙ e.recs; items = ap (λ (s : Low). s.items) did.state ∙ e.items }

      pub second_ready : Ready (second_pass d) b₁
      second_ready = record {
        registers = omega arith;
        pushed = omega arith;
        records = omega (arith, first_ended.recs, few_instructions);
        pool = omega (arith, first_ended.items, all_items);
        room = pass_long first_pass d b₁ did;
      }

      first_written : b₁ ≡ written b₀ 0 0 (code_of Decl (lower_tree t))
      first_written =
          did.buffer
          ∙ wrote_is (lower_tree t) first_pass b₀ (record { recs = omega (arith, few_instructions); items = omega (arith, all_items) }) zero_long
          first_none

      module _ (e : Low) (b₂ : List ℕ) (did₂ : Did (lower_tree t) (second_pass d) b₁ e b₂) where
        second_room : Room (lower_tree t) (second_pass d)
        second_room = record { recs = omega (arith, first_ended.recs, few_instructions); items = omega (arith, first_ended.items, all_items) }

        second_none : (after_events (lower_tree t) (second_pass d)).refused ≡ 0
        second_none = refused_is (lower_tree t) (second_pass d) refl second_room ∙ none-refused

        pub second_recs : e.recs ≡ length (program_of (lower_tree t)).code
        second_recs =
            let k = ended (lower_tree t) (second_pass d) second_none in
            omega (arith, ap (λ (s : Low). s.recs) did₂.state, k.recs, first_ended.recs, length-append (code_of Decl (lower_tree t)) (code_of Main (lower_tree t)))

        second_written : b₂ ≡ written (zeros 40960 ++ rest) 0 0 (program_of (lower_tree t)).code
        second_written =
            let c = code_of Decl (lower_tree t) in
            did₂.buffer
            ∙ wrote_is (lower_tree t) (second_pass d) b₁ second_room (pass_long first_pass d b₁ did) second_none
            ∙ ap (λ (n : ℕ). written b₁ n d.items (code_of Main (lower_tree t))) (first_ended.recs ∙ zero_more (length c))
            ∙ ap (λ (n : ℕ). written b₁ (length c) n (code_of Main (lower_tree t))) (first_ended.items ∙ zero_more (pool_count c))
            ∙ ap (λ (b : List ℕ). written b (length c) (pool_count c) (code_of Main (lower_tree t))) first_written
            ∙ written_append b₀ c (code_of Main (lower_tree t)) few_instructions all_items zero_long
            ∙ ap (λ (b : List ℕ). written b 0 0 (program_of (lower_tree t)).code) z

        few_code : length (program_of (lower_tree t)).code ≤ 1024
        few_code = unrefused_length (lower_tree t) none-refused

        is_passed : b₂ ≡ passed (program_of (lower_tree t)).code rest
        is_passed = second_written ∙ passes_fields (program_of (lower_tree t)).code rest few_code (tree_items t w f)

        program_ok_lem : code_ok (program_of (lower_tree t)).code ≡ true
        program_ok_lem = (limits (program_of (lower_tree t)) (lowered_within t (program_of (lower_tree t)) w f (ap (λ (k : ℕ). decide k (program_of (lower_tree t))) none-refused)).0).ranged

        pub tables_ask : Asked (program_of (lower_tree t)).code e.recs b₂
        tables_ask =
            let c = (program_of (lower_tree t)).code in
            let i = tree_items t w f in
            record {
              long = rw is_passed (passes_long c rest few_code i);
              few = omega (arith, second_recs, few_code);
              labels = ap (λ (b : List ℕ). part b 32768 2048) is_passed ∙ passes_labels c rest few_code i;
              functions = ap (λ (b : List ℕ). part b 34816 128) is_passed ∙ passes_functions c rest few_code i;
              records = rw is_passed (passes_records c rest few_code i program_ok_lem e.recs second_recs);
            }

        -- the whole
        pub compiled_gives : (b₅ : List ℕ) → b₅ ≡ finished (program_of (lower_tree t)).code e.recs d.recs b₂ → Compiled t rest 0 b₅
        compiled_gives b₅ e₅ =
            let p = program_of (lower_tree t) in
            let s = length (code_of Decl (lower_tree t)) in
            let m : b₅ ≡ encode_program p ++ rest =
            program_fields p.code rest few_code (tree_items t w f) s b₂ _ _ b₅ is_passed refl
            (ap (λ (n : ℕ). splice (splice (splice b₂ 32768 (label_bytes p.code)) 34816 (function_bytes p.code)) 34944 (be_bytes 2 n)) second_recs)
            (e₅ ∙ ap (λ (n : ℕ). finished p.code e.recs n b₂) (first_ended.recs ∙ zero_more s))
            ∙ sym (program_buffer p rest) in
            let k = program_length p (lowered_within t p w f (ap (λ (k : ℕ). decide k p) none-refused)).0 in
            record {
              number = sym none-refused;
              made = λ q. m;
              behind = ap (drop 40960) m ∙ drop_at (encode_program p) rest 40960 k;
              long = omega (arith, ap length m, length-append (encode_program p) rest, k);
            }

  -- ---- the code alone: where as many records are written as instructions are pushed, there is no declaration, and the first pass would write nothing

  module _ (e : Low) (b₂ : List ℕ) (did : Did (lower_tree t) one_pass b₀ e b₂) where
    one_is : (after_events (lower_tree t) one_pass).refused ≡ refusal (lower_tree t) 0 0
    one_is = refused_first (lower_tree t) one_pass refl (record { few = omega arith; room = omega (arith, all_items) })

    pub one_number : e.refused ≡ refusal (lower_tree t) 0 0
    one_number = pass_number one_pass e b₂ did one_is

    pub one_refused : (e.refused ≡ 0 → ⊥) → Compiled t rest e.refused b₂
    one_refused = pass_refused one_pass e b₂ did one_is

    module _ (o : e.refused ≡ 0) (h : e.recs ≡ e.count) where
      one_none : (after_events (lower_tree t) one_pass).refused ≡ 0
      one_none = ap (λ (s : Low). s.refused) (sym did.state) ∙ o

      no_declaration : code_of Decl (lower_tree t) ≡ []
      no_declaration =
          no_length (code_of Decl (lower_tree t))
          (omega (arith, h, ap (λ (s : Low). s.recs) did.state, ap (λ (s : Low). s.count) did.state, counts (lower_tree t) one_pass one_none, (ended (lower_tree t) one_pass one_none).recs))

      abbrev d : Low
      d = after_events (lower_tree t) first_pass

      abbrev b₁ : List ℕ
      b₁ = wrote (lower_tree t) first_pass b₀

      did₁ : Did (lower_tree t) first_pass b₀ d b₁
      did₁ = record { state = refl; buffer = refl }

      n : refusal (lower_tree t) 0 0 ≡ 0
      n = sym one_number ∙ o

      none_written : d.recs ≡ 0
      none_written = (first_ended d b₁ did₁ n).recs ∙ ap (λ (c : Code). 0 + length c) no_declaration

      no_items_lem : d.items ≡ 0
      no_items_lem = (first_ended d b₁ did₁ n).items ∙ ap (λ (c : Code). 0 + pool_count c) no_declaration

      still_zero : b₁ ≡ b₀
      still_zero = first_written d b₁ did₁ n ∙ ap (written b₀ 0 0) no_declaration ∙ splice_none (splice b₀ 16384 []) 0 ∙ splice_none b₀ 16384

      did₂ : Did (lower_tree t) (second_pass d) b₁ e b₂
      did₂ = rw (none_written, no_items_lem, still_zero) did

      pub one_asks : Asked (program_of (lower_tree t)).code e.recs b₂
      one_asks = tables_ask d b₁ did₁ n e b₂ did₂

      pub one_gives : (b₅ : List ℕ) → b₅ ≡ finished (program_of (lower_tree t)).code e.recs 0 b₂ → Compiled t rest 0 b₅
      one_gives b₅ q = compiled_gives d b₁ did₁ n e b₂ did₂ b₅ (q ∙ ap (λ (x : ℕ). finished (program_of (lower_tree t)).code e.recs x b₂) (sym none_written))

-- a refusal that is neither 0 nor 6 is 7
seven_or : (b : Bool) {x y : ℕ} → x ≡ cond b 7 y → (x ≡ y → 7 ≡ x) → 7 ≡ x
seven_or true h f = sym h
seven_or false h f = f h

pub refusal_last : (es : List Event) (r k x : ℕ) → x ≡ refusal es r k → (x ≡ 0 → ⊥) → (x ≡ 6 → ⊥) → 7 ≡ x
refusal_last [] r k x e h g = absurd (h e)
refusal_last (Reg ∷ es) r k x e h g = seven_or (leb 96 r) e (λ f. refusal_last es (suc r) k x f h g)
refusal_last (Push w i ∷ es) r k x e h g = seven_or (leb 1024 k) e (λ f. refusal_last es r (suc k) x f h g)
refusal_last (Below ∷ es) r k x e h g = absurd (g e)
