use Rattle.std.proofs.Common.{take}
use Rattle.opc.specs.Op.{Stop}
use Rattle.opc.specs.inner.Fetch.{fields_told}
use Rattle.text.specs.laws.Writing.{appended_then}
use Rattle.ops.specs.inner.Told.{operations_told}
use Rattle.ops.specs.laws.ToldLaws.{last_picked}
use Rattle.ops.specs.laws.TextLaws.{literal_within, fn_within}
use Rattle.ops.proofs.put_op.Goals as goal

pub put_ldc-requires : goal.put_ldc-requires
put_ldc-requires c = (c.requires.0, literal_within c.args.program.now (fields_told c.args.f) (rw c.in-3.is at c.requires.1))

pub put_stc-requires : goal.put_stc-requires
put_stc-requires c = (c.requires.0, literal_within c.args.program.now (fields_told c.args.f) (rw c.in-9.is at c.requires.1))

pub put_fn-requires : goal.put_fn-requires
put_fn-requires c = (c.requires.0, fn_within c.args.program.now (fields_told c.args.f) (rw c.in-16.is at c.requires.1))

pub returns-in-1 : goal.returns-in-1
returns-in-1 c = rw c.in-1.is (appended_then c.put_all.ensures (rw (← c.binary_name.ensures) c.put_words.ensures))

pub returns-in-2 : goal.returns-in-2
returns-in-2 c = rw c.in-2.is (appended_then c.put_all-in-2.ensures (rw (← c.unary_name.ensures) c.put_words-in-2.ensures))

pub returns-in-12 : goal.returns-in-12
returns-in-12 c = rw c.in-12.is (appended_then c.put_all-in-12.ensures (rw (← c.jump_name.ensures) c.put_words-in-12.ensures))

pub returns-in-19 : goal.returns-in-19
returns-in-19 c = rw c.in-19.is c.put_words-in-19.ensures

pub returns-in-20 : goal.returns-in-20
returns-in-20 c = rw c.in-20.is c.put_words-in-20.ensures

-- another number is as the last
pub returns-in_default : goal.returns-in_default
returns-in_default c =
    rw (last_picked Stop (take 23 (operations_told c.args.program.now (fields_told c.args.f))) c.args.f.code c.in_default.in_default-own.rest) c.put_all-in_default.ensures
