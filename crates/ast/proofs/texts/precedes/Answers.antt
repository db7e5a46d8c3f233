use Rattle.ast.proofs.Compare.{before_short, before_ends, before_less, before_more, before_same}
use Rattle.std.proofs.Common.{◌≡◌, sym, ◌∙◌, arith, length}
use Rattle.ast.proofs.texts.precedes.Goals as goal

pub returns-then-b-i : goal.returns-then-b-i
returns-then-b-i c = sym (c.loop-i.invariant ∙ before_short c.args.a.now c.args.b.now c.loop-i.i (omega arith) (omega arith))

pub returns-then-x-y : goal.returns-then-x-y
returns-then-x-y c =
    sym (c.loop-i.invariant ∙ before_less c.args.a.now c.args.b.now c.loop-i.i (omega arith) (omega arith) c.if-x-y.true)

pub returns-then-y-x : goal.returns-then-y-x
returns-then-y-x c =
    sym (c.loop-i.invariant ∙ before_more c.args.a.now c.args.b.now c.loop-i.i (omega arith) (omega arith) c.if-y-x.true)

pub loop-i-preserved : goal.loop-i-preserved
loop-i-preserved c =
    c.loop-i.invariant ∙ before_same c.args.a.now c.args.b.now c.loop-i.i (omega arith) (omega arith) (omega arith) (omega arith)

pub returns : goal.returns
returns c =
    let e : c.loop-i.i ≡ length c.args.a.now = omega arith in
    rw (← e) (sym (c.loop-i.invariant ∙ before_ends c.args.a.now c.args.b.now c.loop-i.i (omega arith)))
