-- `ast::bodies::finite` meets its contract.
use Rattle.ast.proofs.Fields.{room}
use Rattle.ast.proofs.Table.{no_number_lem}
use Rattle.ast.proofs.bodies.finite.Goals as goal

pub get_u64-requires : goal.get_u64-requires
get_u64-requires c =
    let e = c.if-kind-eq19.true in room 0 c.args.kind c.args.bodies.now c.requires.1 8 (rw e)

pub returns-then-kind-eq19 : goal.returns-then-kind-eq19
returns-then-kind-eq19 c =
    let e = c.if-kind-eq19.true in rw (c.finite.ensures, c.get_u64.ensures, e)

pub returns : goal.returns
returns c =
    no_number_lem c.args.kind _ c.requires.0 c.if-kind-eq19.false
