-- `state::progress_of` meets its contract.
use Rattle.state.proofs.progress_of.Goals as goal

pub returns : goal.returns
returns c = λ i. record { loc = c.loc_of.ensures i; count = c.get_u64.ensures i }
