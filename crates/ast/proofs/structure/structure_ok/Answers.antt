use Rattle.std.proofs.Common.{sym, ap, ◌∙◌}
use Rattle.ast.specs.File.{nodes_from}
use Rattle.ast.specs.inner.Answer.{all_used_up}
use Rattle.ast.proofs.Same.{parse_pass}
use Rattle.ast.proofs.Steps.{all_nodes}
use Rattle.ast.proofs.Agree.{refused, goes_on}
use Rattle.ast.proofs.structure.structure_ok.Goals as goal

pub returns-in_default : goal.returns-in_default
returns-in_default c =
    let a = c.args in sym (parse_pass (nodes_from a.entries.now a.bodies.now) ∙ ap all_used_up (refused c.node.ensures c.in_default.is))

pub returns : goal.returns
returns c =
    let a = c.args in
    let g = goes_on c.node.ensures c.in-Some.is in
    all_nodes g.0 ∙ ap all_used_up (sym g.1) ∙ sym (parse_pass (nodes_from a.entries.now a.bodies.now))
