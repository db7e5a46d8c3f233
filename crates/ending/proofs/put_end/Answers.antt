use Rattle.std.proofs.Common.{◌≡◌, get_or, ne_eqb, rules}
use Rattle.ending.proofs.put_end.Goals as goal

pub returns-in-1 : goal.returns-in-1
returns-in-1 c = rw c.in-1.is c.put_stop.ensures

pub returns-in_default : goal.returns-in_default
returns-in_default c =
    let answer = get_or c.args.report.now 0 0 in
    let not_0 : answer ≡ 0 → ⊥ = search rules in
    let not_1 : answer ≡ 1 → ⊥ = search rules in
    rw (ne_eqb answer 0 not_0, ne_eqb answer 1 not_1) c.put_line-in_default.ensures
