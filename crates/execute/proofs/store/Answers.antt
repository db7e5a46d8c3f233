-- `execute::store` meets its contract.
use mathlib.Core.Path.{refl, sym, ap, ◌∙◌}
use native.Mathlib.Omega.{arith}
use mathlib.Core.Option.{some}
use lib.ListN.{length}
use Rattle.lent.specs.Bytes.{part, splice}
use Rattle.lent.specs.laws.Parts.{length_part}
use Rattle.sifv.specs.Value.{One, Null}
use Rattle.sifv.specs.Slot.{decode_slot}
use Rattle.sifv.specs.declared.SifVal.TheVariants as show
use Rattle.execute.specs.laws.Acts.{name_formed, length_bare}
use Rattle.execute.specs.laws.Stacks.{stored_law, null_none, null_some}
use Rattle.execute.proofs.store.Goals as goal

pub set-requires : goal.set-requires
set-requires c =
    name_formed _ c.requires.0 _ c.requires.1 c.slot.ensures

pub returns-then-kind_at-eq0 : goal.returns-then-kind_at-eq0
returns-then-kind_at-eq0 c =
    let v = decode_slot (part c.args.state.now c.args.from 256) in
    stored_law c.args.state.now c.args.name v (some (One Null)) c.requires.1 (null_none v (sym c.kind_at.ensures ∙ c.if-kind_at-eq0.true)) c.slot.ensures (length_bare show.Null) refl c.set.ensures

pub move_to-requires : goal.move_to-requires
move_to-requires c =
    let t = name_formed _ c.requires.0 _ c.requires.1 c.slot-2.ensures in
    (c.requires.2, t.0, omega (arith, c.requires.4, c.slot-2.ensures), c.requires.3, t.1)

pub returns : goal.returns
returns c =
    let b = c.args.state.now in
    let v = decode_slot (part b c.args.from 256) in
    stored_law b c.args.name v v c.requires.1 (null_some v (λ z. c.if-kind_at-eq0.false (c.kind_at.ensures ∙ z))) c.slot-2.ensures
    (ap length c.requires.3 ∙ length_part b c.args.from 256 c.requires.2) refl (c.move_to.ensures ∙ ap (splice b c.slot-2.result) (sym c.requires.3))
