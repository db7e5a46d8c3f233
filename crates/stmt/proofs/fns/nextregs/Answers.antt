use native.Mathlib.Omega.{arith}
use mathlib.Core.Path.{sym, ◌∙◌}
use Rattle.stmt.specs.laws.Fns.{step_bound, regs_start, regs_turn, regs_end}
use Rattle.stmt.proofs.fns.nextregs.Goals as goal

pub loop-init : goal.loop-init
loop-init c = (c.requires, regs_start c.args.n c.args.low)

pub nextreg-q-requires : goal.nextreg-q-requires
nextreg-q-requires c = c.loop.invariant.0

pub loop-preserved : goal.loop-preserved
loop-preserved c = let l = c.loop in (step_bound l.q c.nextreg-q.ensures l.invariant.0, sym (regs_turn c.args.n l.counter l.q (omega arith) c.nextreg-q.ensures) ∙ l.invariant.1)

pub returns : goal.returns
returns c = let l = c.loop in sym (regs_end c.args.n l.counter l.q (omega arith)) ∙ l.invariant.1
