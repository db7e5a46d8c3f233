use native.Mathlib.Omega.{arith}
use mathlib.Core.Path.{sym, ◌∙◌}
use Rattle.emit.specs.laws.Laws.{roomy}
use Rattle.emit.specs.laws.Items.{items_refused, items_full, items_put}
use Rattle.emit.proofs.push_items.Goals as goal

pub returns-then-low-ne0 : goal.returns-then-low-ne0
returns-then-low-ne0 c = items_refused _ _ _ _ _ c.if-low-ne0.true

pub returns-then-is_full : goal.returns-then-is_full
returns-then-is_full c = items_full _ _ _ _ _ c.if-low-ne0.false (sym c.is_full.ensures ∙ c.if-is_full.true) c.refused.ensures

pub keep_record-requires : goal.keep_record-requires
keep_record-requires c =
    let a = c.args in λ k. omega (arith, ((roomy a.keep a.low a.n (sym c.is_full.ensures ∙ c.if-is_full.false)).1 k).0, c.requires.0.room)

pub returns : goal.returns
returns c =
    items_put _ _ _ _ _ c.if-low-ne0.false (sym c.is_full.ensures ∙ c.if-is_full.false) c.requires.0 c.count.ensures c.keep_record.ensures
