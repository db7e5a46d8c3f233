-- `execute::table::tblg` meets its contract.
use mathlib.Core.Bool.{not}
use mathlib.Core.Path.{refl, sym, ap, ◌∙◌}
use native.Mathlib.Omega.{arith}
use borrow.Author.Tests.{not-true, not-false}
use Rattle.lent.specs.Bytes.{part}
use Rattle.sifv.specs.laws.Inserts.{key_in}
use Rattle.execute.specs.laws.Acts.{name_formed, reg_formed}
use Rattle.execute.specs.laws.Tabled.{name_small, looked_unset, looked_off, looked_absent, looked_found}
use Rattle.execute.proofs.table.tblg.Goals as goal

pub kind_at-k-requires : goal.kind_at-k-requires
kind_at-k-requires c =
    (name_formed _ c.requires.0 _ c.requires.1 c.slot-at.ensures)

pub returns-then-k-eq0 : goal.returns-then-k-eq0
returns-then-k-eq0 c =
    looked_unset c.args.state.now c.requires.0 c.args.tabname c.requires.1 c.slot-at.ensures c.args.key c.args.dest c.kind_at-k.ensures c.if-k-eq0.true refl refl

pub returns-then-k-ne6 : goal.returns-then-k-ne6
returns-then-k-ne6 c =
    looked_off c.args.state.now c.requires.0 c.args.tabname c.requires.1 c.slot-at.ensures c.args.key c.args.dest c.kind_at-k.ensures c.if-k-eq0.false c.if-k-ne6.true refl refl

pub len_at-n-requires : goal.len_at-n-requires
len_at-n-requires c =
    (name_formed _ c.requires.0 _ c.requires.1 c.slot-at.ensures)

pub key_place-i-requires : goal.key_place-i-requires
key_place-i-requires c =
    ((name_formed _ c.requires.0 _ c.requires.1 c.slot-at.ensures).0, name_small c.args.state.now c.requires.0 c.args.tabname c.requires.1 c.slot-at.ensures (sym c.kind_at-k.ensures ∙ c.if-k-ne6.false) c.len_at-n.ensures)

pub has_key-requires : goal.has_key-requires
has_key-requires c =
    ((name_formed _ c.requires.0 _ c.requires.1 c.slot-at.ensures).0, name_small c.args.state.now c.requires.0 c.args.tabname c.requires.1 c.slot-at.ensures (sym c.kind_at-k.ensures ∙ c.if-k-ne6.false) c.len_at-n.ensures, c.key_place-i.ensures)

pub returns-then-not-has_key : goal.returns-then-not-has_key
returns-then-not-has_key c =
    looked_absent c.args.state.now c.requires.0 c.args.tabname c.requires.1 c.slot-at.ensures c.args.key c.args.dest (sym c.kind_at-k.ensures ∙ c.if-k-ne6.false) c.len_at-n.ensures c.requires.3 c.has_key.ensures (not-true c.has_key.result (ap not c.if-not-has_key.true)) refl refl

pub item-v-requires : goal.item-v-requires
item-v-requires c =
    let g = key_in (part c.args.state.now c.slot-at.result 256) c.key_place-i.result c.args.key (name_formed _ c.requires.0 _ c.requires.1 c.slot-at.ensures).1 (sym c.kind_at-k.ensures ∙ c.if-k-ne6.false) c.len_at-n.ensures c.key_place-i.ensures (sym c.has_key.ensures ∙ not-false c.has_key.result (ap not c.if-not-has_key.false)) in ((name_formed _ c.requires.0 _ c.requires.1 c.slot-at.ensures).0, (name_formed _ c.requires.0 _ c.requires.1 c.slot-at.ensures).1, omega (arith, g, c.len_at-n.ensures))

pub put-requires : goal.put-requires
put-requires c =
    reg_formed _ c.requires.0 _ c.requires.2 c.reg.ensures

pub returns : goal.returns
returns c =
    looked_found c.args.state.now c.requires.0 c.args.tabname c.requires.1 c.slot-at.ensures c.args.key c.args.dest (sym c.kind_at-k.ensures ∙ c.if-k-ne6.false) c.len_at-n.ensures c.key_place-i.result c.key_place-i.ensures c.has_key.ensures (not-false c.has_key.result (ap not c.if-not-has_key.false)) c.item-v.ensures c.reg.ensures refl c.put.ensures
