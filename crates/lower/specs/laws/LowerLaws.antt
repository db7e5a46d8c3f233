-- The laws of the call lower: a buffer too short, a file refused, a tree refused, a tree lowered.
use Rattle.std.specs.Prelude.{ℕ, zero, suc, ◌+◌, ◌*◌, ◌-◌, ◌≤◌, ◌<◌, ◌≡◌, refl, List, ◌++◌, length, get_or, take, drop, replicate}
use Rattle.std.proofs.Common.{sym, ap, ◌∙◌, arith, length-drop, take_all, le-leb}
use Rattle.std.proofs.lemmas.List.{length-replicate}
use Rattle.std.proofs.lemmas.Bool.{lt-leb}
use Rattle.lent.specs.Bytes.{AreBytes, be_value, part, splice}
use Rattle.lent.specs.laws.Parts.{length_part, part_lent}
use Rattle.ast.specs.Tree.{Stmts}
use Rattle.ast.specs.File.{read_tree, Read, Refused, Tree, contents_size, lengths, node_bodies}
use Rattle.ast.specs.inner.Answer.{answer_of}
use Rattle.ast.specs.laws.Reading.{read_flat, read_numbers}
use Rattle.ast.specs.laws.PlainFile.{accepted, entries_slice}
use Rattle.tables.specs.ProgramBytes.{encode_program}
use Rattle.tables.specs.laws.ProgramLaws.{program_length}
use Rattle.compiler.specs.Lower.{lower_tree, refusal, program_of, decide, lower, lowered}
use Rattle.compiler.specs.laws.ReadWithin.{read_within}
use Rattle.compiler.proofs.laws.Accepted.{lowered_within}
use Rattle.lent.specs.Answered.{over, answered}
use Rattle.boundary.specs.LowerCall.{lower_made, lower_read, lower_call}
use Rattle.lower.specs.inner.Compile.{Spelt, Cleared, Compiled}
use Rattle.lower.specs.laws.CompileLaws.{clears}
use Rattle.lent.specs.Lists.{zeros, sum}

-- ---- the parts of a file that is read, as slices

module _ (f : List ℕ) (o : answer_of (read_tree f) ≡ 0) (n : ℕ) (en : n ≡ be_value (part f 0 2)) where
  pub contents_fit : 3 + get_or f 2 0 + 2 * n ≤ length f
  contents_fit = omega (arith, (accepted f o).inside, en)

  pub slice_lengths : take (3 + get_or f 2 0 - 3) (drop 3 f) ≡ lengths f
  slice_lengths = part_lent f 3 (get_or f 2 0)

  pub lengths_few : length (take (3 + get_or f 2 0 - 3) (drop 3 f)) ≤ 64
  lengths_few = omega (arith, ap length slice_lengths, length_part f 3 (get_or f 2 0) (omega (arith, contents_fit)), (accepted f o).few_texts)

  module _ (total : ℕ) (et : total ≡ sum (take (3 + get_or f 2 0 - 3) (drop 3 f))) where
    total_is : total ≡ sum (lengths f)
    total_is = et ∙ ap sum slice_lengths

    pub texts_fit : 3 + get_or f 2 0 + 2 * n + total ≤ length f
    texts_fit = omega (arith, (accepted f o).whole, en, total_is)

    slice_bodies : take (length f - (3 + get_or f 2 0 + 2 * n + total)) (drop (3 + get_or f 2 0 + 2 * n + total) f) ≡ node_bodies f
    slice_bodies =
        let k = 3 + get_or f 2 0 + 2 * n + total in
        let e : k ≡ contents_size f + sum (lengths f) = omega (arith, en, total_is) in
        take_all (length f - k) (drop k f) (omega (arith, length-drop k f)) ∙ ap (λ (x : ℕ). drop x f) e

    pub tree_spelt : (t : Stmts) → AreBytes f → read_tree f ≡ Tree t
        → Spelt t (take (3 + get_or f 2 0 + 2 * n - (3 + get_or f 2 0)) (drop (3 + get_or f 2 0) f))
        (take (length f - (3 + get_or f 2 0 + 2 * n + total)) (drop (3 + get_or f 2 0 + 2 * n + total) f))
    tree_spelt t a e =
        let w = read_within a e in
        let k = read_flat a e in
        record { within = w.0; few = w.1; contents = entries_slice f refl en ∙ k.0; parts = slice_bodies ∙ k.1; numbers = read_numbers a e }

-- ---- what the call answers

module _ (f buf : List ℕ) where
  pub short_gives : length buf < 40960 → answered 9 buf ≡ lower_call f buf
  unfolding lower_call
  short_gives h = rw (lt-leb 40960 (length buf) h)

  module _ (h : 40960 ≤ length buf) where
    read_gives : lower_call f buf ≡ lower_read (read_tree f) buf
    unfolding lower_call
    read_gives = rw (le-leb 40960 (length buf) h)

    by_read : (r : Read) (n : ℕ) (b : List ℕ) → n ≡ answer_of r → (n ≡ 0 → ⊥) → b ≡ over (zeros 40960) buf → answered n b ≡ lower_read r buf
    by_read (Refused k) n b e o q = rw (e, q)
    by_read (Tree t) n b e o q = absurd (o e)

    -- a refused file
    pub refused_file : (n : ℕ) (b : List ℕ) → n ≡ answer_of (read_tree f) → (n ≡ 0 → ⊥) → b ≡ splice buf 0 (replicate 40960 0) → answered n b ≡ lower_call f buf
    refused_file n b e o q = by_read (read_tree f) n b e o q ∙ sym read_gives

    -- the cleared buffer is one of zeros, with what lies behind
    pub cleared : (b : List ℕ) → b ≡ splice buf 0 (replicate 40960 0) → Cleared (drop 40960 buf) b
    cleared b q = clears buf q

    module _ (t : Stmts) (e : read_tree f ≡ Tree t) where
      tree_gives : (k : ℕ) → refusal (lower_tree t) 0 0 ≡ k → lower_call f buf ≡ lower_made (decide k (program_of (lower_tree t))) buf
      tree_gives k q = read_gives ∙ ap (λ (r : Read). lower_read r buf) e ∙ ap (λ (n : ℕ). lower_made (decide n (program_of (lower_tree t))) buf) q

      -- a refused tree: the buffer is cleared again
      pub refused_tree : (r : ℕ) (b b' : List ℕ) → Compiled t (drop 40960 buf) r b → (r ≡ 0 → ⊥) → b' ≡ splice b 0 (replicate 40960 0) → answered r b' ≡ lower_call f buf
      refused_tree zero b b' c o q = absurd (o refl)
      refused_tree (suc r) b b' c o q =
          let z = length-replicate {A = ℕ} 40960 0 in
          let k : b' ≡ over (zeros 40960) buf = q ∙ ap (λ (n : ℕ). zeros 40960 ++ drop n b) z ∙ ap (λ (l : List ℕ). zeros 40960 ++ l) c.behind ∙ sym (ap (λ (n : ℕ). zeros 40960 ++ drop n buf) z) in
          ap (answered (suc r)) k ∙ sym (tree_gives (suc r) (sym c.number))

      -- a lowered tree
      pub lowered_tree : (b : List ℕ) → AreBytes f → Compiled t (drop 40960 buf) 0 b → answered 0 b ≡ lower_call f buf
      lowered_tree b a c =
          let p = program_of (lower_tree t) in
          let w = read_within a e in
          let o : lower t ≡ lowered p = ap (λ (n : ℕ). decide n p) (sym c.number) in
          let k = program_length p (lowered_within t p w.0 w.1 o).0 in
          ap (answered 0) (c.made refl ∙ ap (λ (n : ℕ). encode_program p ++ drop n buf) (sym k)) ∙ sym (tree_gives 0 (sym c.number))
