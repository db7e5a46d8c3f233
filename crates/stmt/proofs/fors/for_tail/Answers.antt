use mathlib.Core.Path.{◌∙◌}
use Rattle.stmt.specs.laws.Leaves.{emitted_ready}
use Rattle.stmt.specs.laws.Fors.{tail₁, tail₂, tail₃, tail₄}
use Rattle.stmt.proofs.fors.for_tail.Goals as goal

pub push_at-b-requires : goal.push_at-b-requires
push_at-b-requires c =
    emitted_ready (tail₁ c.fields_of.ensures c.push_at-a.ensures) c.requires

pub load_at-c-requires : goal.load_at-c-requires
load_at-c-requires c =
    emitted_ready (tail₂ c.fields_of.ensures c.push_at-a.ensures c.fields_of-2.ensures c.push_at-b.ensures) c.requires

pub push_at-requires : goal.push_at-requires
push_at-requires c =
    let h = tail₃ c.fields_of.ensures c.push_at-a.ensures c.fields_of-2.ensures c.push_at-b.ensures
    c.fields_of-3.ensures c.load_at-c.ensures in
    emitted_ready h c.requires

pub shape_of-out : goal.shape_of-out
shape_of-out c =
    c.push_at.auto.out ∙ c.load_at-c.auto.out
    ∙ c.push_at-b.auto.out ∙ c.push_at-a.auto.out

pub returns : goal.returns
returns c =
    tail₄ c.fields_of.ensures c.push_at-a.ensures c.fields_of-2.ensures c.push_at-b.ensures
    c.fields_of-3.ensures c.load_at-c.ensures c.fields_of-4.ensures c.push_at.ensures
