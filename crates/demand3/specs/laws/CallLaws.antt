-- The calls fit together: what lower writes is never refused with 8. Document 01, "Numbers given for the input".
use Rattle.std.specs.Prelude.{◌≡◌, List, ℕ, ◌≤◌, length, drop}
use Rattle.std.proofs.Math.Path.{refl}
use Rattle.std.proofs.Common.{ap, ◌∙◌, arith, length-append, length-drop}
use Rattle.std.proofs.Math.Option.{some}
use borrow.Author.Tests.{le-leb}
use Rattle.ast.specs.Tree.{Stmts}
use Rattle.ast.specs.Flat.{flat}
use Rattle.ast.specs.File.{read_tree, Tree}
use Rattle.tables.specs.Tables.{Program}
use Rattle.tables.specs.ProgramBytes.{program_size, encode_program, decode_program}
use Rattle.tables.specs.laws.ProgramLaws.{program_length}
use Rattle.compiler.specs.Lower.{lower, lowered}
use Rattle.compiler.specs.Within.{StmtsIn}
use Rattle.compiler.proofs.laws.Accepted.{lowered_within, lowered_back}
use Rattle.vm.specs.Machine.{started}
use Rattle.stored.specs.StateBytes.{state_size, encode_state}
use Rattle.lent.specs.Answered.{over, Answered, answered}
use Rattle.boundary.specs.LowerCall.{lower_call}
use Rattle.boundary.specs.StartCall.{start_call}

-- a buffer keeps its length
pub length_over : (new buf : List ℕ) → length new ≤ length buf → length (over new buf) ≡ length buf
length_over new buf h = rw (length-append new (drop (length new) buf), length-drop (length new) buf) (omega arith)

-- a file that is read as the tree t, which is within the limits and lowered to p
module _ (file program : List ℕ) (t : Stmts) (p : Program) (er : read_tree file ≡ Tree t) (el : lower t ≡ lowered p) (i : StmtsIn t) (h : length (flat t) ≤ 1024) (hp : program_size ≤ length program) where
  -- lower answers 0 and writes p
  pub lowers : lower_call file program ≡ answered 0 (over (encode_program p) program)
  unfolding lower_call
  lowers = rw (le-leb program_size (length program) hp, er, el) refl

  -- and p is read from what it wrote
  pub lowers_back : decode_program (lower_call file program).buffer ≡ some p
  lowers_back = ap (λ (a : Answered). decode_program a.buffer) lowers ∙ lowered_back t p (drop (length (encode_program p)) program) i h el

  pub lowers_size : program_size ≤ length (lower_call file program).buffer
  lowers_size =
      let n = program_length p (lowered_within t p i h el).0 in
      let m = length_over (encode_program p) program (omega arith) in
      omega (arith, ap (λ (a : Answered). length a.buffer) lowers)

  -- so start answers 0 and writes the state of p at its start
  pub lowers_starts : (state : List ℕ) → state_size ≤ length state → start_call (lower_call file program).buffer state ≡ answered 0 (over (encode_state (started p)) state)
  unfolding start_call
  lowers_starts state hs =
      let b = (lower_call file program).buffer in
      rw (le-leb program_size (length b) lowers_size, le-leb state_size (length state) hs, lowers_back) refl
