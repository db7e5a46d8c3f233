use mathlib.Core.Path.{ap}
use mathlib.Core.Bool.{not}
use Rattle.ast.proofs.Order.{refuses, passes}
use Rattle.ast.proofs.Rooms.{room_of}
use lib.ListN.{length-drop}
use native.Mathlib.Omega.{arith}
use borrow.Author.Tests.{not-true, not-false, eq-eqb, ne_eqb}
use mathlib.Core.Path.{sym, ◌∙◌}
use Rattle.ast.proofs.read_parts.Goals as goal

pub returns-then-not-kinds_ok : goal.returns-then-not-kinds_ok
returns-then-not-kinds_ok c = refuses _ 4 _ (sym c.kinds_ok.ensures ∙ not-true c.kinds_ok.result (ap not c.if-not-kinds_ok.true))

pub returns-then-not-lengths_ok : goal.returns-then-not-lengths_ok
returns-then-not-lengths_ok c =
    passes _ 4 _ (sym c.kinds_ok.ensures ∙ not-false c.kinds_ok.result (ap not c.if-not-kinds_ok.false))
    (refuses _ 3 _ (sym c.lengths_ok.ensures ∙ not-true c.lengths_ok.result (ap not c.if-not-lengths_ok.true)))

pub returns-then-size-bodies : goal.returns-then-size-bodies
returns-then-size-bodies c =
    passes _ 4 _ (sym c.kinds_ok.ensures ∙ not-false c.kinds_ok.result (ap not c.if-not-kinds_ok.false))
    (passes _ 3 _ (sym c.lengths_ok.ensures ∙ not-false c.lengths_ok.result (ap not c.if-not-lengths_ok.false))
    (refuses _ 1 _ (ne_eqb _ _ (rw (c.text_bytes-total.ensures.0, c.node_bytes.ensures.0) at c.if-size-bodies.true))))

pub read_bodies-requires : goal.read_bodies-requires
read_bodies-requires c =
    let a = c.args in
    let t = c.text_bytes-total.ensures.0 in
    let n = c.node_bytes.ensures.0 in
    let d = length-drop c.text_bytes-total.result a.bodies.now in record {
      count_bound = (c.requires.0, c.requires.1, c.requires.2, c.requires.3);
      total_value = (
        t,
        omega arith,
        room_of a.nodes a.entries.now _ c.requires.4 (sym c.kinds_ok.ensures ∙ not-false c.kinds_ok.result (ap not c.if-not-kinds_ok.false)) (omega arith),
      );
    }

pub returns : goal.returns
returns c =
    passes _ 4 _ (sym c.kinds_ok.ensures ∙ not-false c.kinds_ok.result (ap not c.if-not-kinds_ok.false))
    (passes _ 3 _ (sym c.lengths_ok.ensures ∙ not-false c.lengths_ok.result (ap not c.if-not-lengths_ok.false))
    (passes _ 1 _ (eq-eqb _ _ (rw (c.text_bytes-total.ensures.0, c.node_bytes.ensures.0) at c.if-size-bodies.false)) c.read_bodies.ensures))
