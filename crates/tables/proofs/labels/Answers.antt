use Prim.Native.Nat.{ℕ}
use mathlib.Core.Path.{refl}
use mathlib.Core.Bool.{not}
use mathlib.Core.Option.{Option}
use native.Mathlib.Omega.{arith}
use lib.Dec.{eqb}
use Rattle.opc.specs.Op.{Code}
use Rattle.tables.specs.Tables.{entered}
use Rattle.tables.specs.inner.Entries.{Begun}
use Rattle.tables.specs.laws.EntryLaws.{Turned, labels_go, turned_start, turned_end, label_small_next, labels_next}
use Rattle.tables.proofs.labels.Goals as goal

pub loop-i-init : goal.loop-i-init
loop-i-init c = λ cs f h. turned_start (labels_go c.args.first 0) h

pub enter-requires : goal.enter-requires
enter-requires c =
    let l = c.loop-i in
    (omega (arith, label_small_next (l.invariant c.requires.by_index.0 c.requires.by_index.1 c.requires.by_index.2) (omega arith) c.get_u16-lbl.ensures.0, c.requires.in_bounds.0), omega arith)

pub loop-i-preserved : goal.loop-i-preserved
loop-i-preserved c =
    let l = c.loop-i in
    let i = c.loop-i-test.true in
    let t : (cs : Code) (f : ℕ → Option ℕ) → Begun 32768 1024 cs f c.args.n c.args.program.now → Turned 32768 1024 (labels_go l.was l.i) (λ x. entered cs x c.args.first 0 (f x)) c.args.n l.i c.args.program.now l.program = l.invariant in
    let x = label_small_next (t c.requires.by_index.0 c.requires.by_index.1 c.requires.by_index.2) i c.get_u16-lbl.ensures.0 in
    λ cs f h. labels_next (t cs f h) i c.requires.in_bounds.1 (omega (arith, c.requires.in_bounds.0)) c.get_u16-lbl.ensures.0 c.enter.ensures

pub returns : goal.returns
returns c cs f h =
    let l = c.loop-i in turned_end (labels_go l.was l.i) (l.invariant cs f h) (omega arith) (omega (arith, c.requires.in_bounds.0)) (λ g x. refl)
