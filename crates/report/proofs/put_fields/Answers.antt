-- `report::put_fields` meets its contract.
use Rattle.report.specs.laws.Told.{fields_written}
use Rattle.report.proofs.put_fields.Goals as goal

pub returns : goal.returns
returns c =
    let a = c.args in
    fields_written a.out.now a.answer a.number a.line a.details a.took c.put_u8.ensures c.put_u8-2.ensures c.zero.ensures
    c.put_u64.ensures c.put_u64-2.ensures c.put_u64-3.ensures c.put_u64-4.ensures c.put_u64-5.ensures
