use mathlib.Core.Bool.{not}
use borrow.Author.Rules.{rules}
use Rattle.lent.specs.laws.Parts.{part_lent}
use Rattle.lent.specs.Bytes.{splice}
use Prim.Native.Nat.{◌+◌, ◌*◌}
use mathlib.Core.Path.{ap, ◌∙◌}
use native.Mathlib.Omega.{arith}
use borrow.Author.Tests.{not-true, not-false}
use Rattle.lent.specs.laws.Each.{each_of}
use Rattle.calls.proofs.Answered.{read_short_state, read_short_out, read_no_text, read_refused, read_written}
use Rattle.calls.proofs.read_call.read_name.Goals as goal

pub returns-then-state-lt-STATE_SIZE : goal.returns-then-state-lt-STATE_SIZE
returns-then-state-lt-STATE_SIZE c =
    read_short_state c.args.state.now c.args.text c.args.out.now c.if-state-lt-STATE_SIZE.true

pub returns-then-out-lt-VALUE_SIZE : goal.returns-then-out-lt-VALUE_SIZE
returns-then-out-lt-VALUE_SIZE c =
    read_short_out c.args.state.now c.args.text c.args.out.now c.if-state-lt-STATE_SIZE.false c.if-out-lt-VALUE_SIZE.true

pub returns-then-text-gt63 : goal.returns-then-text-gt63
returns-then-text-gt63 c =
    read_no_text c.args.state.now c.args.text c.args.out.now c.if-state-lt-STATE_SIZE.false c.if-out-lt-VALUE_SIZE.false c.if-text-gt63.true

pub returns-then-not-state_ok : goal.returns-then-not-state_ok
returns-then-not-state_ok c =
    read_refused c.args.state.now c.args.text c.args.out.now c.if-state-lt-STATE_SIZE.false c.if-out-lt-VALUE_SIZE.false c.if-text-gt63.false c.state_ok.ensures (not-true c.state_ok.result (ap not c.if-not-state_ok.true))

pub returns : goal.returns
returns c =
    read_written c.args.state.now c.args.text c.args.out.now c.if-state-lt-STATE_SIZE.false c.if-out-lt-VALUE_SIZE.false c.if-text-gt63.false (each_of c.args.state.now 0 (λ i h. omega (arith, c.type_inv.state i))) c.state_ok.ensures (not-false c.state_ok.result (ap not c.if-not-state_ok.false)) (c.copy.ensures ∙ ap (splice c.args.out.now 0) (part_lent c.args.state.now (24576 + c.args.text * 256) 256)) (search rules)
