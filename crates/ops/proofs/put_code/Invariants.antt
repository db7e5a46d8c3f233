use Rattle.lent.specs.Bytes.{concat}
use Rattle.lent.specs.Lists.{tabulate}
use Rattle.listing_text.specs.ProgramText.{op_line}
use Rattle.ops.specs.inner.Told.{instr_at}
use Rattle.text.specs.inner.Appended.{Appended}
use Rattle.ops.proofs.put_code.Given as goal

abbrev pub invariant-loop-i : goal.invariant-loop-i
invariant-loop-i l = Appended l.initial.w (concat (tabulate 0 l.i (λ k. op_line k (instr_at l.program k)))) l.w
