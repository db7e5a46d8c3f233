use Rattle.std.proofs.Common.{sym, ap, ◌∙◌}
use Rattle.opc.specs.Op.{instr}
use Rattle.opc.specs.Record.{Fields}
use Rattle.opc.specs.inner.Fetch.{fields_told}
use Rattle.text.specs.laws.Writing.{appended_as}
use Rattle.text.specs.laws.Joined.{appended_four}
use Rattle.listing_text.specs.ProgramText.{op_line}
use Rattle.ops.specs.inner.Told.{op_in}
use Rattle.ops.specs.laws.TextLaws.{instr_text}
use Rattle.ops.proofs.put_instr.Goals as goal

pub returns : goal.returns
returns c =
    let e = c.fetch_fields-f.result in
    appended_as (ap (λ (g : Fields). op_line c.args.i (instr g.lbl (op_in c.args.program.now g))) (sym c.fetch_fields-f.ensures) ∙ instr_text c.args.i e.lbl (op_in c.args.program.now (fields_told e)))
    (appended_four c.put_words.ensures c.put_all.ensures c.put_op.ensures c.put_all-2.ensures)
