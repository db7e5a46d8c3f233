use Rattle.std.proofs.Common.{rules, sym, arith}
use Rattle.ast.proofs.Compare.{spelled, not_six}
use Rattle.ast.proofs.texts.is_fortmp.Goals as goal

pub returns-in-102 : goal.returns-in-102
returns-in-102 c = search (rules, spelled)

pub returns-in_default : goal.returns-in_default
returns-in_default c = sym (not_six c.args.text.now (λ e. omega arith))

pub returns-in_default-8 : goal.returns-in_default-8
returns-in_default-8 c = sym (not_six c.args.text.now (λ e. omega arith))
