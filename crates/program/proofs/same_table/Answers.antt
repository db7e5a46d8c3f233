use Rattle.std.proofs.Common.{ℕ, ◌+◌, ◌*◌, ◌-◌, eqb, length, get_or, ap, ◌∙◌}
use Rattle.lent.specs.Bytes.{be_value, part}
use Rattle.program.specs.inner.Marked.{same_table}
use Rattle.records.proofs.Scan.{scan_turn, scan_end}
use Rattle.program.proofs.Stored.{same_less}
use Rattle.program.proofs.same_table.Goals as goal

pub loop-l-preserved : goal.loop-l-preserved
loop-l-preserved c =
    let a = c.args in
    let l = c.loop-l in
    let h = c.loop-l-test.true in
    let t = a.t.now in
    let v = be_value (part a.program.now (a.at + 2 * l.l) 2) in
    scan_turn (λ (j : ℕ). eqb (be_value (part a.program.now (a.at + 2 * j) 2) + 1) (get_or t j 0)) (length t) l.l l.ok _ h l.invariant
    (ap (λ (x : ℕ). eqb x (get_or t l.l 0 - 1)) c.entry_at.ensures ∙ same_less v (get_or t l.l 0) (c.requires.1 l.l h))

pub returns : goal.returns
unfolding same_table
returns c =
    let a = c.args in
    let l = c.loop-l in
    scan_end (λ (j : ℕ). eqb (be_value (part a.program.now (a.at + 2 * j) 2) + 1) (get_or a.t.now j 0)) (length a.t.now) l.l l.ok c.loop-l-test.false l.invariant
