use mathlib.Core.Path.{◌≡◌}
use Prim.Native.Nat.{◌+◌, ◌-◌, ◌*◌}
use lib.ListN.{length}
use Rattle.emit.specs.laws.Loops.{LoopLeft}
use Rattle.stmt.specs.inner.Parts.{lists}
use Rattle.stmt.specs.laws.Ifs.{IfLeft}
use Rattle.stmt.proofs.+arm_block_block_at_blocks_body_body_at_fndecl_forstmt_ifstmt_stmts.Given as goal

abbrev pub decreases-arm : goal.decreases-arm
decreases-arm l = (length l.contents.now - l.p.cont) * 8 + 0

abbrev pub decreases-block : goal.decreases-block
decreases-block l = length l.contents.now * 8 + 1

abbrev pub decreases-block_at : goal.decreases-block_at
decreases-block_at l = (length l.contents.now - l.p.cont) * 8 + 2

abbrev pub decreases-blocks : goal.decreases-blocks
decreases-blocks l = (length l.contents.now - l.p.cont) * 8 + 4

abbrev pub decreases-body : goal.decreases-body
decreases-body l = length l.contents.now * 8 + 0

abbrev pub decreases-body_at : goal.decreases-body_at
decreases-body_at l = (length l.contents.now - l.p.cont) * 8 + 2

abbrev pub decreases-fndecl : goal.decreases-fndecl
decreases-fndecl l = length l.contents.now * 8 + 0

abbrev pub decreases-forstmt : goal.decreases-forstmt
decreases-forstmt l = length l.contents.now * 8 + 0

abbrev pub decreases-ifstmt : goal.decreases-ifstmt
decreases-ifstmt l = length l.contents.now * 8 + 0

abbrev pub invariant-ifstmt-loop-more : goal.invariant-ifstmt-loop-more
invariant-ifstmt-loop-more l = (length l.out ≡ length l.initial.out) × IfLeft l.n l.rest l.contents l.bodies l.keep l.initial.q l.initial.out l.last l.more l.q l.out

abbrev pub decreases-stmts : goal.decreases-stmts
decreases-stmts l = (length l.contents.now - l.p.cont) * 8 + 3

abbrev pub invariant-stmts-loop : goal.invariant-stmts-loop
invariant-stmts-loop l = (length l.out ≡ length l.initial.out) × LoopLeft (lists l.initial.q.lbl l.n) (lists l.q.lbl (l.n - l.counter)) l.contents l.bodies l.keep l.initial.q l.initial.out l.q l.out
