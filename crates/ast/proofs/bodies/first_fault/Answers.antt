use mathlib.Core.Bool.{not}
use Rattle.ast.proofs.Rooms.{size_in, at_place, to_end}
use Rattle.ast.proofs.Scan.{nodes_end}
use Rattle.ast.proofs.Faults.{fault_field, fault_number, fault_later}
use Rattle.ast.specs.inner.Room.{Room}
use Rattle.ast.specs.File.{nodes_from}
use Rattle.ast.specs.inner.Answer.{fault_or}
use lib.ListN.{length, get_or, take, drop}
use native.Mathlib.Omega.{arith}
use borrow.Author.Tests.{not-true, not-false}
use Prim.Native.Nat.{ℕ, ◌+◌, ◌≤◌, ◌<◌, ◌-◌}
use mathlib.Core.List.{List}
use mathlib.Core.Path.{◌≡◌, refl, sym, ap, ◌∙◌}
use Rattle.ast.proofs.bodies.first_fault.Goals as goal
use Rattle.ast.proofs.bodies.first_fault.Goals.{After-size-at}

abbrev Later : ℕ → List ℕ → List ℕ → ℕ → ℕ → Type 0
Later texts es bs i at =
    (at ≤ length bs) × Room (drop (i + 2) es) (drop at bs) × (fault_or texts (nodes_from es bs) 0 ≡ fault_or texts (nodes_from (drop (i + 2) es) (drop at bs)) 0)

-- what the tests of a node's body ask
asked : (es bs : List ℕ) (i at : ℕ) → at ≤ length bs → Room (drop i es) (drop at bs) → i < length es → (get_or es i 0 < 24) × (size_in es i ≤ length (take (length bs - at) (drop at bs)))
asked es bs i at l r h = let p = at_place es bs i at r h l in (p.known, rw (to_end at) p.fits)

pub loop-i-init : goal.loop-i-init
loop-i-init c = (omega arith, c.requires.1, refl)

pub field_ok-requires : goal.field_ok-requires
field_ok-requires c =
    let l = c.loop-i in
    asked c.args.entries.now c.args.bodies.now l.i l.at l.invariant.0 l.invariant.1 (omega arith)

pub returns-then-not-field_ok : goal.returns-then-not-field_ok
returns-then-not-field_ok c =
    let l = c.loop-i in
    let a = c.args in
    let p = at_place a.entries.now a.bodies.now l.i l.at l.invariant.1 (omega arith) (omega arith) in
    let e = rw (to_end l.at) at c.field_ok.ensures in
    sym (l.invariant.2 ∙ fault_field a.texts 0 p.nodes (sym e ∙ not-true c.field_ok.result (ap not c.if-not-field_ok.true)))

pub finite-requires : goal.finite-requires
finite-requires c =
    let l = c.loop-i in
    asked c.args.entries.now c.args.bodies.now l.i l.at l.invariant.0 l.invariant.1 (omega arith)

pub returns-then-not-finite : goal.returns-then-not-finite
returns-then-not-finite c =
    let l = c.loop-i in
    let a = c.args in
    let p = at_place a.entries.now a.bodies.now l.i l.at l.invariant.1 (omega arith) (omega arith) in
    let e = rw (to_end l.at) at c.field_ok.ensures in
    let d = rw (to_end l.at) at c.finite.ensures in
    sym (l.invariant.2 ∙ fault_number a.texts 0 p.nodes (sym e ∙ not-false c.field_ok.result (ap not c.if-not-field_ok.false)) (sym d ∙ not-true c.finite.result (ap not c.if-not-finite.true)))

pub overflow_add-at : goal.overflow_add-at
overflow_add-at c =
    let p = at_place c.args.entries.now c.args.bodies.now c.loop-i.i c.loop-i.at c.loop-i.invariant.1 (omega arith) (omega arith) in
    omega (arith, p.inside, c.size-at.ensures.0)

-- no fault at this node: the later ones decide
later : (c : After-size-at) → Later c.args.texts c.args.entries.now c.args.bodies.now c.loop-i.i (c.loop-i.at + c.size-at.result)
later c =
    let l = c.loop-i in
    let a = c.args in
    let p = at_place a.entries.now a.bodies.now l.i l.at l.invariant.1 (omega arith) (omega arith) in
    let e = rw (to_end l.at) at c.field_ok.ensures in
    let d = rw (to_end l.at) at c.finite.ensures in
    let k = fault_later a.texts 0 p.nodes (sym e ∙ not-false c.field_ok.result (ap not c.if-not-field_ok.false)) (sym d ∙ not-false c.finite.result (ap not c.if-not-finite.false)) in
    rw c.size-at.ensures.0 (p.inside, p.rest, l.invariant.2 ∙ k)

pub loop-i-preserved : goal.loop-i-preserved
loop-i-preserved c = later (goal.at.loop-i-preserved c).After-size-at

pub returns-else-not-finite : goal.returns-else-not-finite
returns-else-not-finite c =
    let w = later (goal.at.returns-else-not-finite c).After-size-at in
    sym (w.2 ∙ ap (λ ns. fault_or c.args.texts ns 0) (nodes_end c.args.entries.now (drop (c.loop-i.at + c.size-at.result) c.args.bodies.now) (c.loop-i.i + 2) (omega arith)))

pub returns : goal.returns
returns c =
    let l = c.loop-i in
    sym (l.invariant.2 ∙ ap (λ ns. fault_or c.args.texts ns 0) (nodes_end c.args.entries.now (drop l.at c.args.bodies.now) l.i (omega arith)))
