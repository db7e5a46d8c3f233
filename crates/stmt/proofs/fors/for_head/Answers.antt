use native.Mathlib.Omega.{arith}
use mathlib.Core.Path.{◌∙◌}
use Rattle.stmt.specs.laws.Leaves.{emitted_ready, emitted_lbl, label_next}
use Rattle.stmt.specs.laws.Fors.{head₁, head₂, head₃, head₄, head₅}
use Rattle.stmt.proofs.fors.for_head.Goals as goal

pub load_at-b-requires : goal.load_at-b-requires
load_at-b-requires c =
    emitted_ready (head₁ c.fields_of.ensures c.push_at-a.ensures) c.requires.0

pub push_at-c-requires : goal.push_at-c-requires
push_at-c-requires c =
    emitted_ready (head₂ c.fields_of.ensures c.push_at-a.ensures c.fields_of-2.ensures c.load_at-b.ensures) c.requires.0

pub overflow_add-l-2 : goal.overflow_add-l-2
overflow_add-l-2 c =
    omega (arith, c.requires.1)

pub load_at-d-requires : goal.load_at-d-requires
load_at-d-requires c =
    let h = head₃ c.fields_of.ensures c.push_at-a.ensures c.fields_of-2.ensures c.load_at-b.ensures
    c.fields_of-3.ensures c.push_at-c.ensures in
    emitted_ready h c.requires.0

pub overflow_add-l-3 : goal.overflow_add-l-3
overflow_add-l-3 c =
    omega (arith, c.requires.1)

pub push_at-e-requires : goal.push_at-e-requires
push_at-e-requires c =
    let h = head₄ c.fields_of.ensures c.push_at-a.ensures c.fields_of-2.ensures c.load_at-b.ensures
    c.fields_of-3.ensures c.push_at-c.ensures c.fields_of-4.ensures c.load_at-d.ensures in
    emitted_ready h c.requires.0

pub newlbl-requires : goal.newlbl-requires
newlbl-requires c =
    let h = head₅ c.fields_of.ensures c.push_at-a.ensures c.fields_of-2.ensures c.load_at-b.ensures
    c.fields_of-3.ensures c.push_at-c.ensures c.fields_of-4.ensures c.load_at-d.ensures
    c.fields_of-5.ensures c.push_at-e.ensures in
    omega (arith, emitted_lbl h, c.requires.1)

pub shape_of-out : goal.shape_of-out
shape_of-out c =
    c.push_at-e.auto.out ∙ c.load_at-d.auto.out ∙ c.push_at-c.auto.out
    ∙ c.load_at-b.auto.out ∙ c.push_at-a.auto.out

pub returns : goal.returns
returns c =
    let h = head₅ c.fields_of.ensures c.push_at-a.ensures c.fields_of-2.ensures c.load_at-b.ensures
    c.fields_of-3.ensures c.push_at-c.ensures c.fields_of-4.ensures c.load_at-d.ensures
    c.fields_of-5.ensures c.push_at-e.ensures in
    label_next h c.newlbl.ensures
