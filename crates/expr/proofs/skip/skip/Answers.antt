use native.Mathlib.Omega.{arith}
use Rattle.ast.specs.Tree.{Expr}
use Rattle.ast.specs.Flat.{flat_expr}
use Rattle.emit.specs.inner.Made.{Spells}
use Rattle.expr.specs.laws.AwaitsLaws.{Turn, left_start, left_end, turn}
use Rattle.expr.proofs.skip.skip.Goals as goal
use Rattle.expr.proofs.skip.skip.Goals.{In-loop-more}

-- a turn, where the bytes spell e
abbrev TurnOf : In-loop-more → Expr → Type 0
TurnOf c e =
    let a = c.args in
    let l = c.loop-more in
    Turn (flat_expr e) a.entries.now a.bodies.now l.u l.v l.more

turned : (c : In-loop-more) (e : Expr) → Spells (flat_expr e) c.args.entries.now c.args.bodies.now → TurnOf c e
turned c e h =
    let a = c.args in
    let l = c.loop-more in
    turn (flat_expr e) a.entries.now a.bodies.now l.u l.v l.more c.loop-more-test.true l.invariant.0 l.invariant.1 (l.invariant.2 e h)

-- they do, for the tree that is asked for
taken : (c : In-loop-more) → TurnOf c c.requires.0
taken c = turned c c.requires.0 c.requires.1

pub loop-more-init : goal.loop-more-init
loop-more-init c = (omega arith, omega arith, λ e h. left_start e _ _ h)

pub bounds-entries-u : goal.bounds-entries-u
bounds-entries-u c = omega (arith, (taken (goal.at.bounds-entries-u c).In-loop-more).within)

pub overflow_add-v : goal.overflow_add-v
overflow_add-v c = omega (arith, (taken (goal.at.overflow_add-v c).In-loop-more).bodies, c.body_size-v.ensures)

pub overflow_add-more : goal.overflow_add-more
overflow_add-more c = omega (arith, (taken (goal.at.overflow_add-more c).In-loop-more).within)

pub bounds-entries-u-in-loop-more : goal.bounds-entries-u-in-loop-more
bounds-entries-u-in-loop-more c = omega (arith, (taken (goal.at.bounds-entries-u-in-loop-more c).In-loop-more).within)

pub overflow_cast-more : goal.overflow_cast-more
overflow_cast-more c = omega (arith, (taken (goal.at.overflow_cast-more c).In-loop-more).small)

pub overflow_add-more-in-loop-more : goal.overflow_add-more-in-loop-more
overflow_add-more-in-loop-more c = omega (arith, (taken (goal.at.overflow_add-more-in-loop-more c).In-loop-more).small)

pub overflow_add-u : goal.overflow_add-u
overflow_add-u c = omega (arith, (taken (goal.at.overflow_add-u c).In-loop-more).within)

pub loop-more-smaller : goal.loop-more-smaller
loop-more-smaller c = omega (arith, (taken (goal.at.loop-more-smaller c).In-loop-more).within)

pub loop-more-preserved : goal.loop-more-preserved
loop-more-preserved c =
    let i = (goal.at.loop-more-preserved c).In-loop-more in
    let n = c.body_size-v.ensures in
    let t = taken i in
    (t.within, rw n t.bodies, λ e h. rw n ((turned i e h).left _ (omega (arith, i.loop-more-test.true))))

pub returns : goal.returns
returns c = λ e h. left_end (omega (arith, c.loop-more-test.false)) (c.loop-more.invariant.2 e h)
