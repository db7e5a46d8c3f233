use Rattle.std.proofs.Common.{ℕ, ◌+◌, ◌*◌, eqb, get_or, ap, arith}
use Rattle.records.proofs.Places.{first_byte, byte_of}
use Rattle.program.specs.inner.Marked.{is_fn, name_of}
use Rattle.program.proofs.Marks.{fill_turn, name_within}
use Rattle.program.proofs.fill_functions.Goals as goal

pub mark-requires : goal.mark-requires
mark-requires c =
    let i = c.loop-i.i in
    (omega arith, λ q. omega (arith, c.loop-i.invariant.sized, name_within c.args.program.now c.args.n c.requires.2 i c.loop-i-test.true q))

pub loop-i-preserved : goal.loop-i-preserved
loop-i-preserved c =
    let b = c.args.program.now in
    let n = c.args.n in
    let l = c.loop-i in
    let at = 16 * l.i in
    fill_turn (is_fn b) (name_of b) 64 n c.args.t.now l.i l.t (eqb (get_or b at 0) 16) (get_or b (at + 4) 0) c.loop-i-test.true l.invariant
    (ap (λ (x : ℕ). eqb x 16) (first_byte b at)) (byte_of b at 4 (omega arith)) (name_within b n c.requires.2 l.i c.loop-i-test.true) c.mark.ensures
