-- `report::write_report` meets its contract.
use Rattle.std.proofs.Common.{drop, rules}
use Rattle.report.specs.laws.Told.{told_done, told_spent, told_stopped}
use Rattle.report.proofs.write_report.Goals as goal

pub enum_told-1 : goal.enum_told-1
enum_told-1 c = search rules

pub returns-in-Done : goal.returns-in-Done
returns-in-Done c =
    let o = c.args in
    told_done o.start o.pos o.took (drop 48 o.out.now) c.in-Done.is c.put_fields.ensures

pub returns-in-Stopped : goal.returns-in-Stopped
returns-in-Stopped c =
    let o = c.args in
    told_stopped o.start o.pos o.took (drop 48 o.out.now) c.in-Stopped.is c.line.result c.number.ensures c.line.ensures c.details.ensures c.put_fields-in-Stopped.ensures

pub returns-in-Spent : goal.returns-in-Spent
returns-in-Spent c =
    let o = c.args in
    told_spent o.start o.pos o.took (drop 48 o.out.now) c.in-Spent.is c.put_fields-in-Spent.ensures
