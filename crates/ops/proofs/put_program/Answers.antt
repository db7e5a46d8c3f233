use Rattle.std.proofs.Common.{◌≡◌, length, arith}
use Rattle.tables.specs.ProgramBytes.{program_in}
use Rattle.text.specs.laws.Writing.{appended_as}
use Rattle.text.specs.laws.Joined.{appended_four}
use Rattle.ops.specs.laws.ToldLaws.{accepted}
use Rattle.ops.specs.laws.TextLaws.{program_lines}
use Rattle.ops.proofs.put_program.Goals as goal

pub put_code-requires : goal.put_code-requires
put_code-requires c =
    let b = c.args.program.now in
    let a = accepted b (program_in b) c.requires.1 in
    let e : c.count_of.result ≡ length (program_in b).code = c.count_of.ensures (program_in b) c.requires.1 in
    (c.requires.0, omega (arith, e, a.few), λ i h. a.pooled i (omega (arith, e, h)))

pub returns : goal.returns
returns c =
    let b = c.args.program.now in
    appended_as (program_lines b _ (accepted b _ c.requires.1) (c.start_of.ensures _ c.requires.1) (c.count_of.ensures _ c.requires.1))
    (appended_four c.put_line.ensures c.put_code.ensures c.put_table.ensures c.put_table-2.ensures)
