-- `state::write_back` meets its contract.
use Rattle.state.specs.laws.Whole.{run_written}
use Rattle.state.proofs.write_back.Goals as goal

pub returns : goal.returns
returns c =
    run_written c.args.state.now c.args.p.loc c.args.p.count c.requires.0 c.requires.1 c.requires.2 c.mark_of.ensures
    c.put_u64.ensures c.put_u64-2.ensures c.put_u16.ensures c.put_u8.ensures c.put_u8-2.ensures
