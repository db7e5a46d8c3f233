-- `calls::run_call::run_used` meets its contract: what `run` leaves is what `write_back` writes.
use Rattle.tables.specs.ProgramBytes.{program_in}
use mathlib.Core.Path.{◌∙◌}
use Rattle.calls.proofs.Answered.{to_write, finished}
use Rattle.calls.proofs.run_call.run_used.Goals as goal

pub write_back-requires : goal.write_back-requires
write_back-requires c = to_write c.run-answer.ensures

pub returns : goal.returns
returns c =
    finished (program_in c.args.program.now) c.args.steps c.args.state.now c.args.first c.run-answer.ensures (c.run-answer.auto.state ∙ c.requires.4) c.write_back.ensures
