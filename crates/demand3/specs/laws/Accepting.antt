-- What lower accepts of a file of bytes, start accepts: a lowered program is never 8. Document 01, "Numbers given for the input".
use Rattle.std.specs.Prelude.{◌≡◌, true, List, [], ◌∷◌, ℕ, zero, suc, ◌≤◌, length}
use Rattle.std.proofs.Math.Path.{refl}
use Rattle.std.proofs.Common.{sym, ap, ◌∙◌, arith}
use Rattle.std.proofs.Math.Option.{some}
use Rattle.lent.specs.Bytes.{Each, none, more, AreBytes}
use Rattle.lent.specs.laws.Guarded.{Passed, deed_done, all_passed, long_enough}
use Rattle.opc.specs.Op.{Instr, op}
use Rattle.ast.specs.Tree.{Stmts}
use Rattle.ast.specs.File.{Read, Tree, read_tree}
use Rattle.ast.specs.laws.Reading.{Has, refused, tree, read_has}
use Rattle.tables.specs.Tables.{Program}
use Rattle.tables.specs.ProgramBytes.{program_size, encode_program, decode_program}
use Rattle.tables.specs.laws.ProgramLaws.{program_length}
use Rattle.compiler.specs.Lower.{lowered, lower, decide, refusal, lower_tree, program_of}
use Rattle.compiler.proofs.laws.Accepted.{lowered_within}
use Rattle.vm.specs.Machine.{started}
use Rattle.stored.specs.StateBytes.{state_size, encode_state}
use Rattle.lent.specs.Answered.{over, Answered, answered, size_check}
use Rattle.boundary.specs.LowerCall.{lower_made, lower_read, lower_call}
use Rattle.boundary.specs.StartCall.{start_call}
use Rattle.demand3.specs.laws.CallLaws.{length_over, lowers, lowers_back, lowers_starts}
use Rattle.compiler.specs.laws.ReadWithin.{read_within}
use Rattle.opc.specs.Limits.{OpFits}
use Rattle.tables.specs.Limits.{program_ok}

-- ---- what an answer of 0 tells

-- the tree that was read, the program that it is lowered to, and what lower and start write
pub record Accepts (file program : List ℕ) : Type 0 where
  pub tree : Stmts
  pub made : Program
  pub reads : read_tree file ≡ Tree tree
  pub lowers : lower tree ≡ lowered made
  pub within : program_ok made ≡ true
  pub numbers : Each (λ (i : Instr). OpFits (op i)) made.code
  pub writes : lower_call file program ≡ answered 0 (over (encode_program made) program)
  pub size : program_size ≤ length (lower_call file program).buffer
  pub back : decode_program (lower_call file program).buffer ≡ some made
  pub starts : (state : List ℕ) → state_size ≤ length state → start_call (lower_call file program).buffer state ≡ answered 0 (over (encode_state (started made)) state)

module _ (file program : List ℕ) (a : AreBytes file) where
  by_lowered : (t : Stmts) → read_tree file ≡ Tree t → program_size ≤ length program → (k : ℕ) (q : Program) → lower t ≡ decide k q
      → (lower_made (decide k q) program).result ≡ 0 → Accepts file program
  by_lowered t er h zero q el e =
      let w = read_within a er in
      let k = lowered_within t q w.0 w.1 el in
      let e = lowers file program t q er el w.0 w.1 h in
      let n = program_length q k.0 in
      let m = length_over (encode_program q) program (omega arith) in
      record {
        tree = t;
        made = q;
        reads = er;
        lowers = el;
        within = k.0;
        numbers = k.1;
        writes = e;
        size = omega (arith, ap (λ (x : Answered). length x.buffer) e);
        back = lowers_back file program t q er el w.0 w.1 h;
        starts = lowers_starts file program t q er el w.0 w.1 h;
      }
  by_lowered t er h (suc k) q el e = absurd (omega arith)

  -- no refusal has the number 0
  by_read : {P : Stmts → Type 0} {r : Read} → read_tree file ≡ r → program_size ≤ length program → Has P r → (lower_read r program).result ≡ 0 → Accepts file program
  by_read er h (refused k) e = absurd (omega arith)
  by_read er h (tree {t = t} p) e = by_lowered t er h (refusal (lower_tree t) 0 0) (program_of (lower_tree t)) refl e

  pub accepts : (lower_call file program).result ≡ 0 → Accepts file program
  unfolding lower_call
  accepts e = by_checks (all_passed (λ n. answered n program) (lower_read (read_tree file) program) (λ a. a.result) (λ n. refl) (size_check program_size program ∷ []) e)
    where
      by_checks : Passed (size_check program_size program ∷ []) → Accepts file program
      by_checks (more c none) =
          by_read refl (long_enough program_size program c) (read_has file)
          (ap (λ (a : Answered). a.result) (sym (deed_done (λ n. answered n program) (lower_read (read_tree file) program) (more c none))) ∙ e)

  -- what lower accepts, start never refuses
  pub start_accepts : (lower_call file program).result ≡ 0 → (state : List ℕ) → state_size ≤ length state → (start_call (lower_call file program).buffer state).result ≡ 0
  start_accepts e state h = ap (λ (x : Answered). x.result) ((accepts e).starts state h)
