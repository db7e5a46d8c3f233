use Prim.Native.Nat.{◌+◌}
use Rattle.lent.specs.Bytes.{be_value, part}
use Rattle.call_list.proofs.Carrying.{none_follows, call_at, kind_run, kind_read, kind_none, lent_out_lem}
use Rattle.call_list.proofs.call_next.Goals as goal

pub returns-then-kind-eq-CALL_RUN : goal.returns-then-kind-eq-CALL_RUN
returns-then-kind-eq-CALL_RUN c =
    call_at c.args.calls.now c.args.at c.requires c.get_u64-number.ensures (lent_out_lem c.out_length-len.result (be_value (part c.args.calls.now (c.args.at + 6) 2)) c.out_length-len.ensures) (kind_run _ _ _ c.if-kind-eq-CALL_RUN.true) c.run_next.ensures

pub returns-then-kind-eq-CALL_READ_NAME : goal.returns-then-kind-eq-CALL_READ_NAME
returns-then-kind-eq-CALL_READ_NAME c =
    call_at c.args.calls.now c.args.at c.requires c.get_u64-number.ensures (lent_out_lem c.out_length-len.result (be_value (part c.args.calls.now (c.args.at + 6) 2)) c.out_length-len.ensures) (kind_read _ _ _ c.if-kind-eq-CALL_READ_NAME.true) c.read_next.ensures

pub returns : goal.returns
returns c =
    call_at c.args.calls.now c.args.at c.requires c.get_u64-number.ensures (lent_out_lem c.out_length-len.result (be_value (part c.args.calls.now (c.args.at + 6) 2)) c.out_length-len.ensures) (kind_none _ _ _ c.if-kind-eq-CALL_RUN.false c.if-kind-eq-CALL_READ_NAME.false) (none_follows _ _ _)
