use Rattle.std.proofs.Common.{◌≡◌, ℕ, ◌+◌, ◌-◌, not, eqb, ltb, length, ap, ap₂, ◌∙◌, arith}
use Rattle.program.specs.inner.Marked.{enters, lbl_of}
use Rattle.program.proofs.Marks.{mark_length, fill_turn}
use Rattle.program.proofs.fill_labels.Goals as goal

pub loop-i-preserved : goal.loop-i-preserved
loop-i-preserved c =
    let a = c.args in
    let l = c.loop-i in
    let b = a.program.now in
    let new = c.label-l in
    let k = c.requires.2 l.i (omega arith) in
    let u = mark_length a.t.now (ltb 0 a.n) 0 0 c.mark.ensures in
    let e : l.i ≡ l.i + 1 - 1 = omega arith in (
      new.ensures ∙ ap (lbl_of b) e,
      fill_turn (enters b) (lbl_of b) (length c.mark.new.t) a.n c.mark.new.t l.i l.t (not (eqb new.result l.was)) new.result c.loop-i-test.true l.invariant.1
          (ap₂ (λ (x y : ℕ). not (eqb x y)) new.ensures l.invariant.0) new.ensures (λ _. omega (arith, new.ensures, u, k)) c.mark-in-loop-i.ensures,
    )
