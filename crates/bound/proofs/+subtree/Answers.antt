use Rattle.std.proofs.Common.{refl, arith}
use Rattle.std.proofs.Math.Nat.{sub-zero}
use Rattle.std.proofs.lemmas.List.{take_rest}
use Rattle.bound.proofs.Steps.{begins, turn, finish, stops, short, goes, counts_small}
use Rattle.bound.proofs.+subtree.Goals as goal

pub children-loop-init : goal.children-loop-init
children-loop-init t c = rw sub-zero (begins _)

pub children-overflow_add-cost : goal.children-overflow_add-cost
children-overflow_add-cost t c = omega (arith, c.loop.invariant.small, counts_small c.subtree-p.ensures)

pub children-loop-preserved : goal.children-loop-preserved
children-loop-preserved t c = turn _ _ c.loop.counter c.loop-test.true c.loop.invariant c.subtree-p.ensures

pub children-returns : goal.children-returns
children-returns t c = finish _ _ c.loop.counter _ refl c.loop-test.false c.loop.invariant

pub subtree-returns-then-depth-eq0 : goal.subtree-returns-then-depth-eq0
subtree-returns-then-depth-eq0 t c = stops c.args.depth _ _ c.if-depth-eq0.true refl

pub subtree-returns-in_default : goal.subtree-returns-in_default
subtree-returns-in_default t c = short c.args.depth _ _ _ c.in_default.len_below refl

pub subtree-whole-requires : goal.subtree-whole-requires
subtree-whole-requires t c = (c.requires, counts_small c.children-p.ensures)

pub subtree-returns : goal.subtree-returns
subtree-returns t c =
    goes _ c.args.depth _ _ (omega arith) c.in-len2-up.len_at_least c.wide-kind.ensures.0 c.wide-count.ensures.0 (simp take_rest at c.children-p.ensures) c.whole.ensures
