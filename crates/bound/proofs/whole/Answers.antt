use borrow.Author.Tests.{eq-eqb, ne_eqb}
use Prim.Native.Nat.{◌+◌, ◌*◌, ◌≤◌}
use native.Mathlib.Omega.{arith}
use Rattle.bound.proofs.Steps.{weight_small, loop_fits}
use Rattle.bound.proofs.whole.Goals as goal
use Rattle.bound.proofs.whole.Goals.{Start}

-- a loop's weight fits
fits : (s : Start) → s.args.l * (7 + s.args.sum) ≤ 255 * 281474976710662
fits s = loop_fits s.args.l s.args.sum s.requires.0 s.requires.1

pub overflow_mul-result : goal.overflow_mul-result
overflow_mul-result c = omega (arith, fits (goal.at.overflow_mul-result c).Start)

pub overflow_add-result-then-kind-eq5 : goal.overflow_add-result-then-kind-eq5
overflow_add-result-then-kind-eq5 c = omega (arith, fits (goal.at.overflow_add-result-then-kind-eq5 c).Start)

pub returns-then-kind-eq5 : goal.returns-then-kind-eq5
returns-then-kind-eq5 c = rw (eq-eqb _ 5 c.if-kind-eq5.true)

pub overflow_add-result-2 : goal.overflow_add-result-2
overflow_add-result-2 c = let a = c.args in omega (arith, c.weight.ensures, weight_small a.under a.kind a.count)

pub returns : goal.returns
returns c = rw (ne_eqb _ 5 c.if-kind-eq5.false, c.weight.ensures)
