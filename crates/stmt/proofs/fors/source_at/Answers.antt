use native.Mathlib.Omega.{arith}
use Rattle.emit.specs.laws.Places.{reads_from, at_within, at_goes}
use Rattle.stmt.specs.inner.Parts.{sources}
use Rattle.stmt.proofs.fors.source_at.Goals as goal

pub slice_bounds-source-count : goal.slice_bounds-source-count
slice_bounds-source-count c = c.requires.cont

pub slice_bounds-source-start : goal.slice_bounds-source-start
slice_bounds-source-start c = c.requires.cont

pub slice_bounds-source-count-2 : goal.slice_bounds-source-count-2
slice_bounds-source-count-2 c = c.requires.body

pub slice_bounds-source-start-2 : goal.slice_bounds-source-start-2
slice_bounds-source-start-2 c = c.requires.body

pub source-r-requires : goal.source-r-requires
source-r-requires c =
    reads_from sources c.requires

pub moved-requires : goal.moved-requires
moved-requires c =
    let q = at_within sources c.args.contents.now c.args.bodies.now c.args.p c.requires c.source-r.ensures in
    (omega (arith, q.0, c.well_formed.0.0), omega (arith, q.1, c.well_formed.1.0.0))

pub returns : goal.returns
returns c =
    at_goes sources c.args.contents.now c.args.bodies.now c.args.keep c.args.p c.args.out.now c.source-r.ensures c.moved.ensures
