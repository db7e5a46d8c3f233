use Rattle.std.proofs.Common.{ℕ, ◌<◌, cond, ◌&&◌, ltb, eqb, ap, ◌∙◌, arith}
use lib.ListN.{get_or-replicate}
use Rattle.program.specs.inner.Marked.{enters, lbl_of, marked, label_entry}
use Rattle.program.proofs.Stored.{table_made, made_least, first_least}
use Rattle.program.proofs.labels_agree.Goals as goal

pub same_table-requires : goal.same_table-requires
same_table-requires g c =
    let b = c.args.program.now in
    let f = c.fill_labels in (
      omega (arith, f.ensures.0),
      λ l h.
          let k : l < g.row.N = omega (arith, f.ensures.0) in
          made_least (enters b) (lbl_of b) l c.args.n (f.ensures.1 l (omega (arith, k))) (first_least (ltb 0 c.args.n && eqb 0 l) _ (get_or-replicate g.row.N l 1 0 k)),
    )

pub returns : goal.returns
returns g c =
    let a = c.args in
    let b = a.program.now in
    let f = c.fill_labels in
    table_made b 32768 g.row.N f.new.t (label_entry b a.n) c.same_table.ensures (omega (arith, f.ensures.0))
    (λ l h. f.ensures.1 l (omega (arith, h)) ∙ ap (λ (x : ℕ). marked (enters b) (lbl_of b) l a.n 0 (cond (ltb 0 a.n && eqb 0 l) 2 x)) (get_or-replicate g.row.N l 1 0 h))
