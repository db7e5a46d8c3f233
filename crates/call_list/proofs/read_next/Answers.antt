use Rattle.call_list.proofs.Carrying.{read_follows}
use Rattle.call_list.proofs.read_next.Goals as goal

pub returns : goal.returns
returns c =
    read_follows c.args.program.now c.args.state.now c.args.text c.args.out.now c.args.last
