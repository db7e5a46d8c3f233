-- `opc::fetch` meets its contract.
use mathlib.Core.Path.{ap, ◌∙◌}
use Prim.Native.Nat.{◌*◌}
use Rattle.lent.specs.Bytes.{part}
use Rattle.opc.specs.Record.{fields_of}
use Rattle.opc.specs.inner.Fetch.{pick_or, operations}
use Rattle.opc.specs.declared.Op.TheVariants.{Bad}
use Rattle.opc.specs.laws.Fetched.{misses}
use Rattle.opc.proofs.Laws.{none_picked}
use Rattle.opc.proofs.fetch.Goals as goal

pub returns-in_default : goal.returns-in_default
returns-in_default c =
    let ops = operations c.args.index (fields_of (part c.args.program.now (16 * c.args.index) 16)) in
    none_picked Bad ops c.args.code (misses ops 1 c.args.code c.in_default.in_default-own.rest) ∙ ap (pick_or Bad ops) c.requires.1
