-- `execute::newarrv` meets its contract.
use mathlib.Core.Path.{◌≡◌, refl, sym, ap, ◌∙◌}
use mathlib.Core.Option.{Option, some}
use Rattle.sifv.specs.Value.{Value, One, Num}
use Rattle.sifv.specs.inner.Seen.{seen, kind_in}
use Rattle.numeric.proofs.laws.IndexLaws.{told_at, told_none}
use Rattle.execute.specs.inner.View.{regs_of}
use Rattle.execute.specs.laws.Acts.{reg_formed, reg_value, kind_none}
use Rattle.execute.specs.laws.Arrays.{index_none, newarrv_index, newarrv_none, newarrv_no_index, newarrv_at}
use Rattle.execute.proofs.newarrv.Goals as goal
use Rattle.execute.proofs.newarrv.Goals.{After-number_at, Else-kind_at-eq0, Start}

-- the one register holds the number, the other something
number_in : (c : After-number_at) → regs_of c.args.state.now c.args.idx ≡ some (One (Num c.number_at.result))
number_in c =
    sym (reg_value _ c.requires.0 _ c.requires.2 c.reg-at.ensures) ∙ c.number_at.ensures

value_in : (c : Else-kind_at-eq0) → kind_in (seen (regs_of c.args.state.now c.args.val)) ≡ 0 → ⊥
value_in c z =
    c.if-kind_at-eq0.false ((c.kind_at-2.ensures ∙ ap (λ (o : Option Value). kind_in (seen o)) (reg_value _ c.requires.0 _ c.requires.3 c.reg.ensures)) ∙ z)

pub kind_at-requires : goal.kind_at-requires
kind_at-requires c =
    (reg_formed _ c.requires.0 _ c.requires.2 c.reg-at.ensures)

pub returns-then-kind_at-ne1 : goal.returns-then-kind_at-ne1
returns-then-kind_at-ne1 c =
    newarrv_index c.args.state.now c.args.name (regs_of c.args.state.now c.args.idx) (regs_of c.args.state.now c.args.val) (c.kind_at.ensures ∙ ap (λ (o : Option Value). kind_in (seen o)) (reg_value _ c.requires.0 _ c.requires.2 c.reg-at.ensures)) c.if-kind_at-ne1.true refl refl

pub kind_at-requires-2 : goal.kind_at-requires-2
kind_at-requires-2 c =
    (reg_formed _ c.requires.0 _ c.requires.3 c.reg.ensures)

pub returns-then-kind_at-eq0 : goal.returns-then-kind_at-eq0
returns-then-kind_at-eq0 c =
    newarrv_none c.args.state.now c.args.name (regs_of c.args.state.now c.args.idx) (regs_of c.args.state.now c.args.val) (kind_none (regs_of c.args.state.now c.args.val) (sym (c.kind_at-2.ensures ∙ ap (λ (o : Option Value). kind_in (seen o)) (reg_value _ c.requires.0 _ c.requires.3 c.reg.ensures)) ∙ c.if-kind_at-eq0.true)) refl refl

pub number_at-requires : goal.number_at-requires
number_at-requires c =
    let f = (reg_formed _ c.requires.0 _ c.requires.2 c.reg-at.ensures) in (f.0, f.1, sym c.kind_at.ensures ∙ c.if-kind_at-ne1.false)

pub update-requires : goal.update-requires
update-requires c =
    (c.requires.0, c.requires.1, c.requires.3, value_in (goal.at.update-requires c).Else-kind_at-eq0)

pub returns : goal.returns
returns c =
    let s = (goal.at.returns c).Start in
    newarrv_at s.args.state.now s.args.name (regs_of s.args.state.now s.args.idx) (regs_of s.args.state.now s.args.val) (number_in (goal.at.returns c).After-number_at) (told_at _ c.index_of.ensures c.in-Some.is) c.update.ensures

pub returns-in_default : goal.returns-in_default
returns-in_default c =
    let s = (goal.at.returns-in_default c).Start in
    newarrv_no_index s.args.state.now s.args.name (regs_of s.args.state.now s.args.idx) (regs_of s.args.state.now s.args.val) (number_in (goal.at.returns-in_default c).After-number_at) (told_none _ c.index_of.ensures (index_none _ c.in_default.not-Some)) (value_in (goal.at.returns-in_default c).Else-kind_at-eq0) refl refl
