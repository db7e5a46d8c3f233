-- `execute::moved` meets its contract.
use mathlib.Core.Path.{sym, ap, ◌∙◌}
use mathlib.Core.Option.{Option}
use Rattle.sifv.specs.Value.{Value}
use Rattle.sifv.specs.inner.Seen.{seen, kind_in}
use Rattle.std.specs.Float.Ieee as Ieee
use Rattle.execute.specs.inner.View.{regs_of}
use Rattle.execute.specs.laws.Acts.{reg_formed, reg_value}
use Rattle.execute.specs.laws.Readers.{moved_none, moved_off, moved_on}
use Rattle.std.specs.declared.result.Result.TheVariants as got
use Rattle.execute.proofs.moved.Goals as goal

pub kind_at-k-requires : goal.kind_at-k-requires
kind_at-k-requires c =
    reg_formed _ c.requires.0 _ c.requires.1 c.reg-at.ensures

pub number_at-requires : goal.number_at-requires
number_at-requires c =
    let f = reg_formed _ c.requires.0 _ c.requires.1 c.reg-at.ensures in (f.0, f.1, sym c.kind_at-k.ensures ∙ c.if-k-eq1.true)

pub returns-then-k-eq1 : goal.returns-then-k-eq1
returns-then-k-eq1 c x y e g =
    moved_on (λ n. Ieee.add Ieee.binary64 n c.args.step) x y (sym (reg_value _ c.requires.0 _ c.requires.1 c.reg-at.ensures) ∙ c.number_at.ensures) (ap got.Ok c.pack.ensures)

pub returns-then-k-eq0 : goal.returns-then-k-eq0
returns-then-k-eq0 c x y e g =
    moved_none (regs_of c.args.state.now c.args.src) (c.kind_at-k.ensures ∙ ap (λ (o : Option Value). kind_in (seen o)) (reg_value _ c.requires.0 _ c.requires.1 c.reg-at.ensures)) (λ n. Ieee.add Ieee.binary64 n c.args.step) x y c.if-k-eq0.true (ap got.Err e)

pub returns : goal.returns
returns c x y e g =
    moved_off (regs_of c.args.state.now c.args.src) (c.kind_at-k.ensures ∙ ap (λ (o : Option Value). kind_in (seen o)) (reg_value _ c.requires.0 _ c.requires.1 c.reg-at.ensures)) (λ n. Ieee.add Ieee.binary64 n c.args.step) x y c.if-k-eq0.false c.if-k-eq1.false (ap got.Err g)
