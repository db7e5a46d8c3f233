use Rattle.ast.proofs.Fields.{room, binary_field, unary_field, for_field, if_field, text_field, other_field}
use native.Mathlib.Omega.{arith}
use mathlib.Core.Path.{sym, ◌∙◌}
use Rattle.ast.proofs.bodies.field_ok.Goals as goal

pub bounds-bodies-0 : goal.bounds-bodies-0
bounds-bodies-0 c =
    let e = c.if-kind-eq17.true in room 0 c.args.kind c.args.bodies.now c.requires.1 1 (rw e)

pub returns-then-kind-eq17 : goal.returns-then-kind-eq17
returns-then-kind-eq17 c =
    rw (c.within.ensures, c.wide.ensures.0) (binary_field c.args.texts c.args.kind c.args.bodies.now c.requires.1 c.if-kind-eq17.true)

pub bounds-bodies-0-then-kind-eq18 : goal.bounds-bodies-0-then-kind-eq18
bounds-bodies-0-then-kind-eq18 c =
    let e = c.if-kind-eq18.true in room 0 c.args.kind c.args.bodies.now c.requires.1 1 (rw e)

pub returns-then-kind-eq18 : goal.returns-then-kind-eq18
returns-then-kind-eq18 c =
    rw (c.within-then-kind-eq18.ensures, c.wide-then-kind-eq18.ensures.0) (unary_field c.args.texts c.args.kind c.args.bodies.now c.requires.1 c.if-kind-eq18.true)

pub bounds-bodies-0-then-kind-eq5 : goal.bounds-bodies-0-then-kind-eq5
bounds-bodies-0-then-kind-eq5 c =
    let e = c.if-kind-eq5.true in omega (arith, room 0 c.args.kind c.args.bodies.now c.requires.1 2 (rw e))

pub bounds-bodies-1 : goal.bounds-bodies-1
bounds-bodies-1 c =
    let e = c.if-kind-eq5.true in omega (arith, room 0 c.args.kind c.args.bodies.now c.requires.1 2 (rw e))

pub returns-then-kind-eq5 : goal.returns-then-kind-eq5
returns-then-kind-eq5 c =
    rw (c.wide-then-kind-eq5-2.ensures.0, c.wide-then-kind-eq5.ensures.0) (for_field c.args.texts c.args.kind c.args.bodies.now c.requires.1 c.if-kind-eq5.true)

pub returns-then-kind-eq3 : goal.returns-then-kind-eq3
returns-then-kind-eq3 c =
    if_field c.args.texts c.args.kind c.args.bodies.now c.requires.1 c.if-kind-eq3.true

pub returns-then-n-eq1 : goal.returns-then-n-eq1
returns-then-n-eq1 c =
    rw c.wide-then-n-eq1.ensures.0 (text_field c.args.texts c.args.kind c.args.bodies.now c.requires.1 c.requires.0 c.if-kind-eq17.false c.if-kind-eq18.false c.if-kind-eq5.false c.if-kind-eq3.false (sym c.size-n.ensures.0 ∙ c.if-n-eq1.true))

pub returns : goal.returns
returns c =
    other_field c.args.texts c.args.kind c.args.bodies.now c.requires.1 c.requires.0 c.if-kind-eq17.false c.if-kind-eq18.false c.if-kind-eq5.false c.if-kind-eq3.false (λ e. c.if-n-eq1.false (c.size-n.ensures.0 ∙ e))
