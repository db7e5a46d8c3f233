use Rattle.std.proofs.Common.{arith}
use Rattle.lower.specs.laws.CompileLaws.{refusal_last}
use Rattle.lower.proofs.passed.Goals as goal

pub returns-in_default : goal.returns-in_default
returns-in_default c es r k e =
    refusal_last es r k c.args.refused e (λ z. omega (arith, z)) (λ z. omega (arith, z))
