use Prim.Native.Nat.{◌+◌, ◌*◌}
use mathlib.Core.Path.{refl}
use native.Mathlib.Omega.{arith}
use lib.Dec.{eqb}
use lib.ListN.{get_or}
use Rattle.tables.specs.laws.EntryLaws.{functions_go, turned_start, turned_end, functions_next}
use Rattle.tables.proofs.functions.Goals as goal

pub loop-i-init : goal.loop-i-init
loop-i-init c = λ cs h. turned_start (functions_go 0) h

pub overflow_cast-name : goal.overflow_cast-name
overflow_cast-name c = omega (arith, c.slice_known-in-loop-i-1.given (16 * c.loop-i.i + 4))

pub overflow_mul-name-in-loop-i : goal.overflow_mul-name-in-loop-i
overflow_mul-name-in-loop-i c = omega (arith, c.slice_known-in-loop-i-1.given (16 * c.loop-i.i + 4))

pub overflow_add-name-in-loop-i : goal.overflow_add-name-in-loop-i
overflow_add-name-in-loop-i c = omega (arith, c.slice_known-in-loop-i-1.given (16 * c.loop-i.i + 4))

pub enter-requires : goal.enter-requires
enter-requires c =
    let l = c.loop-i in
    (omega (arith, c.slice_known-in-loop-i-1.given (16 * l.i + 4), c.requires.in_bounds.0), omega arith)

pub loop-i-preserved : goal.loop-i-preserved
loop-i-preserved c =
    let l = c.loop-i in
    let i = c.loop-i-test.true in
    let e = c.enter.ensures in
    λ cs h. functions_next (l.invariant cs h) i c.requires.in_bounds.1 (omega (arith, c.requires.in_bounds.0)) e

pub returns : goal.returns
returns c cs h =
    let l = c.loop-i in turned_end (functions_go l.i) (l.invariant cs h) (omega arith) (omega (arith, c.requires.in_bounds.0)) (λ g x. refl)
