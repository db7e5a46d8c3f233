use native.Mathlib.Omega.{arith}
use mathlib.Core.Path.{refl}
use mathlib.Core.List.{List}
use Rattle.ast.specs.Tree.{Lit}
use Rattle.expr.specs.inner.Arrays.{Lits}
use Rattle.expr.specs.laws.ArrayLaws.{Next, more_start, more_end, next}
use Rattle.expr.proofs.array.arrayitems.Goals as goal
use Rattle.expr.proofs.array.arrayitems.Goals.{In-loop-i}

-- an item, where the bytes spell ls
abbrev NextOf : In-loop-i → List Lit → Type 0
NextOf c ls =
    let a = c.args in
    let l = c.loop-i in
    Next ls a.n a.contents.now a.bodies.now a.keep a.k a.out.now l.at l.i l.out

nexts : (c : In-loop-i) (ls : List Lit) → Lits c.args.n ls c.args.contents.now c.args.bodies.now → NextOf c ls
nexts c ls h =
    let a = c.args in
    let l = c.loop-i in
    let more = c.loop-i-test.true in
    next ls a.n a.contents.now a.bodies.now a.keep a.k a.out.now l.at l.i l.out
    (λ e. omega (arith, c.requires.n_bound.2 e, l.invariant.0, more)) more l.invariant.1 (l.invariant.2 ls h)

-- they do, for the items that are asked for
item : (c : In-loop-i) → NextOf c c.requires.lits.0
item c = nexts c c.requires.lits.0 c.requires.lits.1

pub loop-i-init : goal.loop-i-init
loop-i-init c = (refl, omega (arith, c.requires.lits.1.head), λ ls h. more_start ls _ _ _ _ _ _ h)

pub overflow_mul-kind : goal.overflow_mul-kind
overflow_mul-kind c = omega (arith, c.requires.n_bound.0, c.loop-i-test.true)

pub overflow_add-kind : goal.overflow_add-kind
overflow_add-kind c = omega (arith, c.requires.n_bound.0, c.loop-i-test.true)

pub bounds-contents-i : goal.bounds-contents-i
bounds-contents-i c = omega (arith, (item (goal.at.bounds-contents-i c).In-loop-i).entry)

pub literal_value-v-requires : goal.literal_value-v-requires
literal_value-v-requires c =
    let t = item (goal.at.literal_value-v-requires c).In-loop-i in
    (t.num, t.text)

pub overflow_add-k : goal.overflow_add-k
overflow_add-k c =
    let p = c.requires.n_bound in
    omega (arith, p.0, p.1, c.loop-i-test.true)

pub keep_item-requires : goal.keep_item-requires
keep_item-requires c =
    λ e. omega (arith, c.requires.n_bound.2 e, c.loop-i.invariant.0, c.loop-i-test.true)

pub overflow_add-at : goal.overflow_add-at
overflow_add-at c =
    let i = (goal.at.overflow_add-at c).In-loop-i in
    omega (arith, (item i).size, c.literal_size-at.ensures)

pub loop-i-preserved : goal.loop-i-preserved
loop-i-preserved c =
    let kept = c.keep_item in
    let i = (goal.at.loop-i-preserved c).In-loop-i in
    let l = i.loop-i in (
      omega (arith, kept.auto, l.invariant.0),
      omega (arith, (item i).entry),
      λ ls h. rw c.literal_size-at.ensures ((nexts i ls h).more _ _ c.literal_value-v.ensures kept.ensures),
    )

pub shape_of-out : goal.shape_of-out
shape_of-out c = c.loop-i.invariant.0

pub returns : goal.returns
returns c = λ ls h. more_end c.loop-i-test.false (c.loop-i.invariant.2 ls h)
