-- `execute::item` meets its contract.
use mathlib.Core.Path.{refl, sym, ap, ◌∙◌}
use native.Mathlib.Omega.{arith}
use mathlib.Core.Option.{Option}
use Rattle.lent.specs.Bytes.{part}
use Rattle.sifv.specs.Value.{Value}
use Rattle.sifv.specs.inner.Seen.{seen, kind_in}
use Rattle.execute.specs.inner.View.{names_of}
use Rattle.execute.specs.laws.Acts.{name_formed, name_value}
use Rattle.execute.specs.laws.Arrays.{item_off, item_past, item_in_lem}
use Rattle.std.specs.declared.result.Result.TheVariants as got
use Rattle.execute.proofs.item.Goals as goal

pub kind_at-k-requires : goal.kind_at-k-requires
kind_at-k-requires c =
    (name_formed _ c.requires.0 _ c.requires.1 c.slot-at.ensures)

pub returns-then-k-ne5 : goal.returns-then-k-ne5
returns-then-k-ne5 c =
    item_off (names_of c.args.state.now c.args.name) c.args.name c.args.i (c.kind_at-k.ensures ∙ ap (λ (o : Option Value). kind_in (seen o)) (name_value _ c.requires.0 _ c.requires.1 c.slot-at.ensures)) c.if-k-ne5.true (ap got.Err c.no_array.ensures)

pub len_at-n-requires : goal.len_at-n-requires
len_at-n-requires c =
    (name_formed _ c.requires.0 _ c.requires.1 c.slot-at.ensures)

pub returns-then-n-i : goal.returns-then-n-i
returns-then-n-i c =
    item_past (part c.args.state.now c.slot-at.result 256) (name_formed _ c.requires.0 _ c.requires.1 c.slot-at.ensures).1 (sym c.kind_at-k.ensures ∙ c.if-k-ne5.false) (names_of c.args.state.now c.args.name) (name_value _ c.requires.0 _ c.requires.1 c.slot-at.ensures) c.args.name c.args.i c.len_at-n.result c.len_at-n.ensures c.if-n-i.true refl

pub item-requires : goal.item-requires
item-requires c =
    let f = name_formed _ c.requires.0 _ c.requires.1 c.slot-at.ensures in (f.0, f.1, omega (arith, c.if-n-i.false, c.len_at-n.ensures))

pub returns : goal.returns
returns c =
    item_in_lem (part c.args.state.now c.slot-at.result 256) (name_formed _ c.requires.0 _ c.requires.1 c.slot-at.ensures).1 (sym c.kind_at-k.ensures ∙ c.if-k-ne5.false) (names_of c.args.state.now c.args.name) (name_value _ c.requires.0 _ c.requires.1 c.slot-at.ensures) c.args.name c.args.i c.len_at-n.result c.len_at-n.ensures c.if-n-i.false (ap got.Ok c.item.ensures)
