-- `state::start` meets its contract.
use Rattle.state.specs.laws.Starts.{start_written}
use Rattle.tables.specs.ProgramBytes.{program_in}
use Rattle.state.proofs.start.Goals as goal

pub returns : goal.returns
returns c =
    let a = c.args in
    start_written a.state.now a.program.now (program_in a.program.now) c.requires.1 c.requires.2
    c.clear.ensures c.copy.ensures c.get_u16.ensures.0 c.put_u16.ensures
