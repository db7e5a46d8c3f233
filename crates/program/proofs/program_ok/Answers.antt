use mathlib.Core.Path.{ap}
use mathlib.Core.Bool.{not}
use native.Mathlib.Omega.{arith}
use borrow.Author.Tests.{not-true, not-false}
use Rattle.lent.specs.laws.Each.{bytes_of}
use Rattle.program.proofs.Programs.{over_count, over_start, bad_records, bad_pool, tables_tell}
use Rattle.program.proofs.program_ok.Goals as goal

pub returns-then-n-gt-INSTRUCTIONS : goal.returns-then-n-gt-INSTRUCTIONS
returns-then-n-gt-INSTRUCTIONS c =
    let b = c.args.program.now in
    over_count b (bytes_of b (λ i. omega (arith, c.type_inv.program i))) (omega arith) c.get_u16-n.ensures.0 c.get_u16-start.ensures.0 c.if-n-gt-INSTRUCTIONS.true

pub returns-then-n-start : goal.returns-then-n-start
returns-then-n-start c =
    let b = c.args.program.now in
    over_start b (bytes_of b (λ i. omega (arith, c.type_inv.program i))) (omega arith) c.get_u16-n.ensures.0 c.get_u16-start.ensures.0 c.if-n-start.true

pub returns-then-not-records_ok : goal.returns-then-not-records_ok
returns-then-not-records_ok c =
    let b = c.args.program.now in
    bad_records b (bytes_of b (λ i. omega (arith, c.type_inv.program i))) (omega arith) c.get_u16-n.ensures.0 c.get_u16-start.ensures.0 c.records_ok.ensures (not-true c.records_ok.result (ap not c.if-not-records_ok.true))

pub returns-then-not-pool_ok : goal.returns-then-not-pool_ok
returns-then-not-pool_ok c =
    let b = c.args.program.now in
    bad_pool b (bytes_of b (λ i. omega (arith, c.type_inv.program i))) (omega arith) c.get_u16-n.ensures.0 c.get_u16-start.ensures.0 c.pool_ok.ensures (not-true c.pool_ok.result (ap not c.if-not-pool_ok.true))

pub returns : goal.returns
returns c =
    let b = c.args.program.now in
    tables_tell b (bytes_of b (λ i. omega (arith, c.type_inv.program i))) (omega arith) c.get_u16-n.ensures.0 c.get_u16-start.ensures.0 (omega arith) (omega arith) c.records_ok.ensures (not-false c.records_ok.result (ap not c.if-not-records_ok.false)) c.pool_ok.ensures (not-false c.pool_ok.result (ap not c.if-not-pool_ok.false)) c.labels_ok.ensures c.functions_ok.ensures
