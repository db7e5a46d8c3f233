use mathlib.Core.Path.{◌∙◌, ap, sym}
use mathlib.Core.Option.{some}
use native.Mathlib.Omega.{arith}
use Rattle.lent.specs.laws.Each.{each_of}
use Rattle.lent.specs.inner.Answers.{answer_number}
use Rattle.lent.specs.laws.Answers.{refusal_number_ne0}
use Rattle.listing_text.specs.Listing.{refused_text}
use Rattle.text.specs.laws.Writing.{appended_as}
use Rattle.listing.proofs.Whole.{Made, listing_refused, calls_made, program_of_lem, listed}
use Rattle.listing.proofs.list.Goals as goal
use Rattle.listing.proofs.list.Goals.{After-run}

-- what the calls leave of an accepted file
made : (k : After-run) → Made k.args.file.now k.lower.new.program k.run.new.state k.run.new.report
made k =
    calls_made k.args.file.now k.args.program.now k.args.state.now k.args.report.now (each_of k.args.file.now 0 (λ i h. omega (arith, k.type_inv.file i)))
    k.requires.0 k.requires.1 k.requires.2 k.lower.ensures (ap answer_number k.in_default.is) k.start.ensures k.run.ensures

pub returns-in-Err : goal.returns-in-Err
returns-in-Err c =
    appended_as (listing_refused c.args.file.now c.args.program.now c.requires.0 (rw c.in-Err.is at c.lower.ensures) (refusal_number_ne0 c.in-Err.refusal) ∙ ap refused_text (sym c.number.ensures)) c.put_line.ensures

pub put_program-requires : goal.put_program-requires
put_program-requires c = let m = made (goal.at.put_program-requires c).After-run in (m.size, m.back ∙ ap some (sym (program_of_lem m)))

pub returns : goal.returns
returns c =
    listed (made (goal.at.returns c).After-run) c.put_program.ensures c.put_bound.ensures c.put_ran.ensures
