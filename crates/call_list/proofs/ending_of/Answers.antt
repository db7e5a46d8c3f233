use Rattle.call_list.proofs.ending_of.Goals as goal

pub returns : goal.returns
returns c = rw (c.get_u64.ensures, c.get_u64-2.ensures, c.get_u64-3.ensures)
