use native.Mathlib.Omega.{arith}
use mathlib.Core.Path.{refl}
use borrow.Author.Rules.{rules}
use Rattle.stmt.specs.laws.Fns.{pops_start, pops_turn, pops_end, pop_ready}
use Rattle.stmt.proofs.fns.pops.Goals as goal

pub loop-i-init : goal.loop-i-init
loop-i-init c =
    (refl, c.requires.0, pops_start c.args.keep c.args.names.now c.args.reg c.args.lbl c.args.low c.args.out.now)

pub pop-q-requires : goal.pop-q-requires
pop-q-requires c =
    c.loop-i.invariant.1

pub loop-i-preserved : goal.loop-i-preserved
loop-i-preserved c =
    let l = c.loop-i in
    (search rules, pop_ready l.invariant.1 c.pop-q.ensures, pops_turn c.low-r.result _ l.invariant.2 (omega arith) c.low-r.ensures refl c.pop-q.ensures)

pub shape_of-out : goal.shape_of-out
shape_of-out c = c.loop-i.invariant.0

pub returns : goal.returns
returns c =
    let l = c.loop-i in
    pops_end l.i l.invariant.2 (omega arith)
