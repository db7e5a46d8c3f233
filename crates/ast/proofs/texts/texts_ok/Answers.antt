use Rattle.ast.proofs.Rooms.{to_end}
use Rattle.ast.proofs.Cuts.{sum_first, texts_all}
use lib.ListN.{length-drop}
use native.Mathlib.Nat.{sub-zero}
use native.Mathlib.Omega.{arith}
use Rattle.ast.proofs.texts.texts_ok.Goals as goal

pub none_fortmp-later-requires : goal.none_fortmp-later-requires
none_fortmp-later-requires c =
    let a = c.args in
    rw (to_end 1 a.lengths.now, to_end _ a.texts.now) (simp length-drop (omega arith, omega (arith, sum_first a.lengths.now (omega arith))))

pub in_order-order-requires : goal.in_order-order-requires
in_order-order-requires c =
    let a = c.args in
    rw (to_end 1 a.lengths.now, to_end _ a.texts.now) (simp length-drop (omega arith, omega (arith, sum_first a.lengths.now (omega arith))))

pub returns : goal.returns
returns c =
    let a = c.args in
    rw (c.printable.ensures, c.in_order-order.ensures, c.none_fortmp-later.ensures, c.is_fortmp-first.ensures)
    (simp (to_end, sub-zero) (texts_all a.lengths.now a.texts.now a.total (omega arith) (omega arith)))
