-- `report::line` meets its contract.
use Rattle.report.specs.laws.Told.{line_law}
use Rattle.std.proofs.Common.{arith}
use Rattle.report.proofs.line.Goals as goal

pub returns : goal.returns
returns c =
    let a = c.args in
    line_law a.start a.pos c.wrapping_sub_u64.result c.requires.0 c.requires.1 (omega arith) c.wrapping_sub_u64.ensures.value
