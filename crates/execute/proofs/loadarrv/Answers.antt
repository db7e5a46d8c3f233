-- `execute::loadarrv` meets its contract.
use mathlib.Core.Path.{refl, ◌≡◌, sym, ap, ◌∙◌}
use mathlib.Core.Option.{Option, some}
use Rattle.sifv.specs.Value.{Value, One, Num}
use Rattle.sifv.specs.inner.Seen.{seen, kind_in}
use Rattle.numeric.proofs.laws.IndexLaws.{told_at, told_none}
use Rattle.execute.specs.inner.View.{names_of, regs_of, err}
use Rattle.execute.specs.laws.Acts.{reg_formed, reg_value}
use Rattle.execute.specs.laws.Arrays.{index_none, loadarrv_off, loadarrv_at}
use Rattle.execute.proofs.loadarrv.Goals as goal
use Rattle.execute.proofs.loadarrv.Goals.{After-number_at, Start}

-- the register holds the number
number_in : (c : After-number_at) → regs_of c.args.state.now c.args.idx ≡ some (One (Num c.number_at.result))
number_in c =
    sym (reg_value _ c.requires.0 _ c.requires.2 c.reg-at.ensures) ∙ c.number_at.ensures

pub kind_at-requires : goal.kind_at-requires
kind_at-requires c = let s = (goal.at.kind_at-requires c).Start in reg_formed _ s.requires.0 _ s.requires.2 c.reg-at.ensures

pub returns-then-kind_at-ne1 : goal.returns-then-kind_at-ne1
returns-then-kind_at-ne1 c =
    loadarrv_off (names_of c.args.state.now) c.args.name (regs_of c.args.state.now c.args.idx) (c.kind_at.ensures ∙ ap (λ (o : Option Value). kind_in (seen o)) (reg_value _ c.requires.0 _ c.requires.2 c.reg-at.ensures)) c.if-kind_at-ne1.true refl

pub number_at-requires : goal.number_at-requires
number_at-requires c =
    let f = (reg_formed _ c.requires.0 _ c.requires.2 c.reg-at.ensures) in
    (f.0, f.1, sym c.kind_at.ensures ∙ c.if-kind_at-ne1.false)

pub returns : goal.returns
returns c =
    loadarrv_at (names_of c.args.state.now) c.args.name (regs_of c.args.state.now c.args.idx) (number_in (goal.at.returns c).After-number_at) (told_at _ c.index_of.ensures c.in-Some.is) c.item.ensures

pub returns-in_default : goal.returns-in_default
returns-in_default c =
    loadarrv_at (names_of c.args.state.now) c.args.name (regs_of c.args.state.now c.args.idx) (number_in (goal.at.returns-in_default c).After-number_at) (told_none _ c.index_of.ensures (index_none _ c.in_default.not-Some)) (err refl)
