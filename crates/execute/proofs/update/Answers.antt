-- `execute::update` meets its contract.
use mathlib.Core.Path.{◌≡◌, refl, sym, ap, ◌∙◌}
use native.Mathlib.Omega.{arith}
use mathlib.Core.Option.{Option}
use Rattle.lent.specs.Bytes.{part, splice}
use Rattle.sifv.specs.Value.{Value}
use Rattle.sifv.specs.inner.Seen.{seen, single_seen, kind_in, set_item}
use Rattle.execute.specs.inner.View.{regs_of}
use Rattle.execute.specs.laws.Acts.{reg_formed, reg_value, name_formed, name_value}
use Rattle.execute.specs.laws.Arrays.{arr_len, update_off, update_past, update_multi, update_in}
use Rattle.std.specs.declared.result.Result.TheVariants as got
use Rattle.execute.proofs.update.Goals as goal

pub kind_at-k-requires : goal.kind_at-k-requires
kind_at-k-requires c =
    (name_formed _ c.requires.0 _ c.requires.1 c.slot-at.ensures)

pub returns-then-k-ne5 : goal.returns-then-k-ne5
returns-then-k-ne5 c =
    update_off c.args.state.now c.args.name c.args.i (regs_of c.args.state.now c.args.val) c.requires.3 (c.kind_at-k.ensures ∙ ap (λ (o : Option Value). kind_in (seen o)) (name_value _ c.requires.0 _ c.requires.1 c.slot-at.ensures)) c.if-k-ne5.true (ap got.Err c.no_array.ensures) refl

pub len_at-len-requires : goal.len_at-len-requires
len_at-len-requires c =
    (name_formed _ c.requires.0 _ c.requires.1 c.slot-at.ensures)

pub returns-then-len-i : goal.returns-then-len-i
returns-then-len-i c =
    update_past c.args.state.now c.args.name c.args.i (regs_of c.args.state.now c.args.val) c.requires.3 (part c.args.state.now c.slot-at.result 256) (name_formed _ c.requires.0 _ c.requires.1 c.slot-at.ensures).1 (sym c.kind_at-k.ensures ∙ c.if-k-ne5.false) (name_value _ c.requires.0 _ c.requires.1 c.slot-at.ensures) c.len_at-len.ensures c.if-len-i.true refl refl

pub kind_at-requires : goal.kind_at-requires
kind_at-requires c =
    (reg_formed _ c.requires.0 _ c.requires.2 c.reg-from.ensures)

pub returns-then-kind_at-ge5 : goal.returns-then-kind_at-ge5
returns-then-kind_at-ge5 c =
    update_multi c.args.state.now c.args.name c.args.i (regs_of c.args.state.now c.args.val) c.requires.3 (part c.args.state.now c.slot-at.result 256) (name_formed _ c.requires.0 _ c.requires.1 c.slot-at.ensures).1 (sym c.kind_at-k.ensures ∙ c.if-k-ne5.false) (name_value _ c.requires.0 _ c.requires.1 c.slot-at.ensures) c.len_at-len.ensures c.if-len-i.false (c.kind_at.ensures ∙ ap (λ (o : Option Value). kind_in (seen o)) (reg_value _ c.requires.0 _ c.requires.2 c.reg-from.ensures)) c.if-kind_at-ge5.true refl refl

pub store_item-requires : goal.store_item-requires
store_item-requires c =
    let t = (name_formed _ c.requires.0 _ c.requires.1 c.slot-at.ensures) in
    let f = (reg_formed _ c.requires.0 _ c.requires.2 c.reg-from.ensures) in
    let l = arr_len (part c.args.state.now c.slot-at.result 256) (name_formed _ c.requires.0 _ c.requires.1 c.slot-at.ensures).1 (sym c.kind_at-k.ensures ∙ c.if-k-ne5.false) c.len_at-len.ensures in
    let k : c.kind_at.result ≡ 0 → ⊥ = λ z. c.requires.3 (sym (c.kind_at.ensures ∙ ap (λ (o : Option Value). kind_in (seen o)) (reg_value _ c.requires.0 _ c.requires.2 c.reg-from.ensures)) ∙ z) in
    (t.0, f.0, omega (arith, c.slot-at.ensures, c.reg-from.ensures), omega (arith, l.1, c.if-len-i.false), f.1, omega (arith, c.kind_at.ensures, k), omega (arith, c.kind_at.ensures, c.if-kind_at-ge5.false))

pub returns : goal.returns
returns c =
    update_in c.args.state.now c.args.name c.args.i (regs_of c.args.state.now c.args.val) c.requires.3 (part c.args.state.now c.slot-at.result 256) (name_formed _ c.requires.0 _ c.requires.1 c.slot-at.ensures).1 (sym c.kind_at-k.ensures ∙ c.if-k-ne5.false) (name_value _ c.requires.0 _ c.requires.1 c.slot-at.ensures) c.len_at-len.ensures c.if-len-i.false (c.kind_at.ensures ∙ ap (λ (o : Option Value). kind_in (seen o)) (reg_value _ c.requires.0 _ c.requires.2 c.reg-from.ensures)) c.if-kind_at-ge5.false c.requires.1 c.slot-at.ensures refl (c.store_item.ensures ∙ ap (λ (v : Option Value). splice c.args.state.now c.slot-at.result (set_item (part c.args.state.now c.slot-at.result 256) c.args.i (single_seen (seen v)))) (reg_value _ c.requires.0 _ c.requires.2 c.reg-from.ensures))
