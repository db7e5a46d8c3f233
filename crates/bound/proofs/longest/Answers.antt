use Rattle.std.proofs.Common.{◌≡◌, ◌+◌, ◌*◌, arith, rules}
use Rattle.bound.proofs.Steps.{longest_end, longest_turn, longer_small}
use Rattle.bound.proofs.longest.Goals as goal

pub loop-i-preserved : goal.loop-i-preserved
loop-i-preserved c =
    let l = c.loop-i in
    let w = c.wide-count in
    let next : 2 * l.i + 2 ≡ 2 * (l.i + 1) = omega arith in
    rw (← next)
    (longer_small _ c.wide-kind.result _ l.invariant.0 w.ensures.1 c.items.ensures (search rules), longest_turn c.args.entries.now l.most (2 * l.i) c.wide-kind.result w.result (omega arith) c.wide-kind.ensures.0 w.ensures.0 c.items.ensures (search rules) l.invariant.1)

pub returns : goal.returns
returns c =
    let l = c.loop-i in
    (omega (arith, l.invariant.1, longest_end c.args.entries.now (2 * l.i) (omega arith)), l.invariant.0)
