use mathlib.Core.Path.{ap}
use mathlib.Core.Bool.{not}
use Rattle.ast.proofs.Order.{refuses, passes}
use Rattle.ast.proofs.Faults.{fault_told, no_fault}
use Rattle.ast.proofs.Rooms.{to_end}
use Rattle.ast.specs.File.{nodes_from}
use Rattle.lent.specs.Lists.{sum}
use lib.ListN.{length, take, drop}
use Prim.Native.Nat.{◌-◌}
use borrow.Author.Tests.{not-true, not-false}
use mathlib.Core.Path.{refl, sym, ◌∙◌}
use Rattle.lent.specs.inner.Answers.{answer_number}
use Rattle.lent.specs.laws.Answers.{refusal_number_ne0, raised_number, ok_zero}
use Rattle.ast.proofs.read_bodies.Goals as goal

pub returns-then-not-texts_ok : goal.returns-then-not-texts_ok
returns-then-not-texts_ok c = refuses _ 3 _ (sym c.texts_ok.ensures ∙ not-true c.texts_ok.result (ap not c.if-not-texts_ok.true))

pub first_fault-requires : goal.first_fault-requires
first_fault-requires c =
    (c.requires.count_bound.3, rw (to_end c.args.total c.args.bodies.now) c.requires.total_value.2)

pub returns-in_err-first_fault : goal.returns-in_err-first_fault
returns-in_err-first_fault c =
    let a = c.args in
    let f = c.first_fault.ensures in
    let e = rw (to_end a.total a.bodies.now, c.requires.total_value.0) at f in
    let n = sym (ap answer_number c.in_err-first_fault.was) ∙ e in
    raised_number _ _ c.from_residual.ensures
    ∙ n
    ∙ (passes _ 3 _ (sym c.texts_ok.ensures ∙ not-false c.texts_ok.result (ap not c.if-not-texts_ok.false))
    (fault_told a.count (nodes_from a.entries.now (drop (sum a.lengths.now) a.bodies.now)) _ (λ z. refusal_number_ne0 _ (n ∙ z))))

pub structure_ok-requires : goal.structure_ok-requires
structure_ok-requires c =
    let a = c.args in
    let b = a.bodies.now in
    record {
      texts = a.count;
      few = c.requires.count_bound.0;
      room = rw (to_end a.total b) c.requires.total_value.2;
      fields = (no_fault a.count (nodes_from a.entries.now (take (length b - a.total) (drop a.total b))) 0 (ok_zero c.first_fault.ensures c.in_ok-first_fault.was)).0;
    }

pub returns-then-not-structure_ok : goal.returns-then-not-structure_ok
returns-then-not-structure_ok c =
    let a = c.args in
    let e = rw (to_end a.total a.bodies.now, c.requires.total_value.0) at c.first_fault.ensures in
    let g = rw (to_end a.total a.bodies.now, c.requires.total_value.0) at c.structure_ok.ensures in
    passes _ 3 _ (sym c.texts_ok.ensures ∙ not-false c.texts_ok.result (ap not c.if-not-texts_ok.false))
    (refuses _ 4 _ (sym g ∙ not-true c.structure_ok.result (ap not c.if-not-structure_ok.true)) ∙ (no_fault a.count (nodes_from a.entries.now (drop (sum a.lengths.now) a.bodies.now)) _ (ok_zero e c.in_ok-first_fault.was)).1)

pub returns : goal.returns
returns c =
    let a = c.args in
    let e = rw (to_end a.total a.bodies.now, c.requires.total_value.0) at c.first_fault.ensures in
    let g = rw (to_end a.total a.bodies.now, c.requires.total_value.0) at c.structure_ok.ensures in
    passes _ 3 _ (sym c.texts_ok.ensures ∙ not-false c.texts_ok.result (ap not c.if-not-texts_ok.false))
    (passes _ 4 0 (sym g ∙ not-false c.structure_ok.result (ap not c.if-not-structure_ok.false)) refl ∙ (no_fault a.count (nodes_from a.entries.now (drop (sum a.lengths.now) a.bodies.now)) _ (ok_zero e c.in_ok-first_fault.was)).1)
