use native.Mathlib.Omega.{arith}
use mathlib.Core.Path.{refl}
use Rattle.stmt.specs.laws.Whole.{tree_room, tree_reads, tree_did}
use Rattle.stmt.proofs.lower_tree.Goals as goal

pub bounds-entries-1 : goal.bounds-entries-1
bounds-entries-1 c =
    omega (arith, tree_room c.args.entries.now c.args.bodies.now c.requires.stmts_in.0 c.requires.stmts_in.2 c.requires.stmts_in.3 c.requires.stmts_in.4 c.requires.stmts_in.5)

pub blocks-d-requires : goal.blocks-d-requires
blocks-d-requires c =
    tree_reads c.args.entries.now c.args.bodies.now c.requires.stmts_in.0 c.requires.stmts_in.2 c.requires.stmts_in.3 c.requires.stmts_in.4 c.requires.stmts_in.5 c.start-p.ensures c.requires.ready

pub returns : goal.returns
returns c =
    λ t i few ec eb fit z. tree_did c.args.entries.now c.args.bodies.now t few ec eb fit c.start-p.ensures refl z c.blocks-d.ensures
