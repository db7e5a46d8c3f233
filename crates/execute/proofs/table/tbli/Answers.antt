-- `execute::table::tbli` meets its contract.
use mathlib.Core.Path.{refl, sym, ap, ◌∙◌}
use mathlib.Core.Option.{Option}
use native.Mathlib.Omega.{arith}
use Rattle.sifv.specs.Value.{Value}
use Rattle.sifv.specs.inner.Seen.{seen, kind_in}
use Rattle.execute.specs.inner.View.{regs_of}
use Rattle.execute.specs.laws.Acts.{name_formed, name_value, reg_formed, reg_value}
use Rattle.execute.specs.laws.Tabled.{tabled_unset, tabled_off, tabled_none, tabled_multi}
use Rattle.execute.proofs.table.tbli.Goals as goal

pub kind_at-k-requires : goal.kind_at-k-requires
kind_at-k-requires c =
    (name_formed _ c.requires.0 _ c.requires.1 c.slot.ensures)

pub returns-then-k-eq0 : goal.returns-then-k-eq0
returns-then-k-eq0 c =
    tabled_unset c.args.state.now c.requires.0 c.args.tabname c.requires.1 c.slot.ensures c.args.key (regs_of c.args.state.now c.args.src) c.kind_at-k.ensures c.if-k-eq0.true refl refl

pub returns-then-k-ne6 : goal.returns-then-k-ne6
returns-then-k-ne6 c =
    tabled_off c.args.state.now c.requires.0 c.args.tabname c.requires.1 c.slot.ensures c.args.key (regs_of c.args.state.now c.args.src) c.kind_at-k.ensures c.if-k-eq0.false c.if-k-ne6.true refl refl

pub kind_at-j-requires : goal.kind_at-j-requires
kind_at-j-requires c =
    (reg_formed _ c.requires.0 _ c.requires.3 c.reg.ensures)

pub returns-then-j-eq0 : goal.returns-then-j-eq0
returns-then-j-eq0 c =
    tabled_none c.args.state.now c.requires.0 c.args.tabname c.requires.1 c.slot.ensures c.args.key (regs_of c.args.state.now c.args.src) (sym c.kind_at-k.ensures ∙ c.if-k-ne6.false) refl (c.kind_at-j.ensures ∙ ap (λ (o : Option Value). kind_in (seen o)) (reg_value _ c.requires.0 _ c.requires.3 c.reg.ensures)) c.if-j-eq0.true refl refl

pub returns-then-j-ge5 : goal.returns-then-j-ge5
returns-then-j-ge5 c =
    tabled_multi c.args.state.now c.requires.0 c.args.tabname c.requires.1 c.slot.ensures c.args.key (regs_of c.args.state.now c.args.src) (sym c.kind_at-k.ensures ∙ c.if-k-ne6.false) refl (c.kind_at-j.ensures ∙ ap (λ (o : Option Value). kind_in (seen o)) (reg_value _ c.requires.0 _ c.requires.3 c.reg.ensures)) c.if-j-ge5.true refl refl

pub insert-requires : goal.insert-requires
insert-requires c =
    let k = (c.kind_at-j.ensures ∙ ap (λ (o : Option Value). kind_in (seen o)) (reg_value _ c.requires.0 _ c.requires.3 c.reg.ensures)) in (c.requires.0, c.requires.1, c.requires.2, c.requires.3, c.requires.4, sym (ap (λ (o : Option Value). kind_in (seen o)) (name_value _ c.requires.0 _ c.requires.1 c.slot.ensures)) ∙ (sym c.kind_at-k.ensures ∙ c.if-k-ne6.false), omega (arith, k, c.if-j-eq0.false), omega (arith, k, c.if-j-ge5.false))
