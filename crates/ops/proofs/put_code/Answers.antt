use Rattle.std.proofs.Common.{ℕ, List, refl}
use Rattle.lent.specs.Bytes.{concat}
use Rattle.lent.specs.Lists.{tabulate}
use Rattle.text.specs.laws.Joined.{appended_turn}
use Rattle.listing_text.specs.ProgramText.{op_line}
use Rattle.ops.specs.inner.Told.{instr_at}
use Rattle.ops.proofs.put_code.Goals as goal

pub loop-i-preserved : goal.loop-i-preserved
loop-i-preserved c =
    let t : ℕ → List ℕ = λ i. op_line i (instr_at c.args.program.now i) in
    appended_turn t (λ (i n : ℕ). concat (tabulate i n t)) (λ i. refl) (λ i n. refl) c.loop-i.i c.loop-i.invariant c.put_instr.ensures
