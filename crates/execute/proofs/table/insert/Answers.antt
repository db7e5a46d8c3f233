-- `execute::table::insert` meets its contract.
use mathlib.Core.Path.{◌≡◌, refl, sym, ap, ◌∙◌, subst}
use mathlib.Core.List.{List}
use mathlib.Core.Option.{Option, some}
use Prim.Native.Nat.{ℕ, ◌+◌, ◌*◌, ◌<◌, ◌≤◌}
use native.Mathlib.Omega.{arith}
use Rattle.lent.specs.Bytes.{part, splice}
use Rattle.sifv.specs.Value.{Value, Tab, insert}
use Rattle.sifv.specs.Slot.{encode_slot, decode_slot}
use Rattle.sifv.specs.inner.Seen.{seen, single_seen, kind_in, set_item, entries_in}
use Rattle.sifv.specs.laws.Inserts.{key_in, tab_length, new_size}
use Rattle.execute.specs.inner.View.{Neat, names_of, regs_of}
use Rattle.execute.specs.laws.Acts.{name_formed, name_value, reg_formed, reg_value}
use Rattle.execute.specs.laws.Tabled.{name_small, tabled_set, tabled_full, tabled_new}
use Rattle.execute.proofs.table.insert.Goals as goal

module _ (b : List ℕ) (n : Neat b) {at : ℕ} where
  -- the slot of a name that holds a table
  table_kind : (k : ℕ) → k < 64 → at ≡ 24576 + k * 256 → kind_in (seen (names_of b k)) ≡ 6 → kind_in (seen (decode_slot (part b at 256))) ≡ 6
  table_kind k h e o = ap (λ (v : Option Value). kind_in (seen v)) (name_value b n k h e) ∙ o

  -- the slot of a register that holds a single value
  single_kind_lem : (k : ℕ) → k < 96 → at ≡ 0 + k * 256 → 0 < kind_in (seen (regs_of b k)) → kind_in (seen (regs_of b k)) ≤ 4
      → (0 < kind_in (seen (decode_slot (part b at 256)))) × (kind_in (seen (decode_slot (part b at 256))) ≤ 4)
  single_kind_lem k h e f g = subst (λ (v : Option Value). (0 < kind_in (seen v)) × (kind_in (seen v) ≤ 4)) (sym (reg_value b n k h e)) (f, g)

pub len_at-n-requires : goal.len_at-n-requires
len_at-n-requires c =
    name_formed _ c.requires.0 _ c.requires.1 c.slot-at.ensures

pub key_place-i-requires : goal.key_place-i-requires
key_place-i-requires c =
    let p = c.requires in
    let e = c.slot-at.ensures in
    let o = table_kind _ p.0 _ p.1 e p.5 in
    ((name_formed _ p.0 _ p.1 e).0, name_small _ p.0 _ p.1 e o c.len_at-n.ensures)

pub has_key-requires : goal.has_key-requires
has_key-requires c =
    let p = c.requires in
    let e = c.slot-at.ensures in
    let o = table_kind _ p.0 _ p.1 e p.5 in
    ((name_formed _ p.0 _ p.1 e).0, name_small _ p.0 _ p.1 e o c.len_at-n.ensures, c.key_place-i.ensures)

pub store_item-requires : goal.store_item-requires
store_item-requires c =
    let p = c.requires in
    let e = c.slot-at.ensures in
    let r = c.reg-from.ensures in
    let l = c.len_at-n.ensures in
    let i = c.key_place-i in
    let t = name_formed _ p.0 _ p.1 e in
    let f = reg_formed _ p.0 _ p.3 r in
    let o = table_kind _ p.0 _ p.1 e p.5 in
    let v = single_kind_lem _ p.0 _ p.3 r p.6 p.7 in
    let there = sym c.has_key.ensures ∙ c.if-has_key.true in
    let within = key_in (part c.args.state.now c.slot-at.result 256) i.result c.args.key t.1 o l i.ensures there in
    (t.0, f.0, omega (arith, e, r), omega (arith, within, name_small _ p.0 _ p.1 e o l), f.1, v.0, v.1)

pub returns-then-has_key : goal.returns-then-has_key
returns-then-has_key c =
    let b = c.args.state.now in
    let at = c.slot-at.result in
    let p = c.requires in
    let e = c.slot-at.ensures in
    let i = c.key_place-i in
    let o = table_kind _ p.0 _ p.1 e p.5 in
    let w = reg_value _ p.0 _ p.3 c.reg-from.ensures in
    let put = ap (λ (v : Option Value). splice b at (set_item (part b at 256) i.result (single_seen (seen v)))) w in
    tabled_set b p.0 c.args.tabname p.1 e c.args.key (regs_of b c.args.src) o c.len_at-n.ensures p.6 p.7
    i.result i.ensures c.has_key.ensures c.if-has_key.true refl (c.store_item.ensures ∙ put)

pub returns-then-n-ge-TABLE_ITEMS : goal.returns-then-n-ge-TABLE_ITEMS
returns-then-n-ge-TABLE_ITEMS c =
    let b = c.args.state.now in
    let p = c.requires in
    let e = c.slot-at.ensures in
    let o = table_kind _ p.0 _ p.1 e p.5 in
    tabled_full b p.0 c.args.tabname p.1 e c.args.key (regs_of b c.args.src) o c.len_at-n.ensures p.6 p.7
    p.4 c.has_key.ensures c.if-has_key.false c.if-n-ge-TABLE_ITEMS.true refl refl

pub insert_new-requires : goal.insert_new-requires
insert_new-requires c =
    let p = c.requires in
    let e = c.slot-at.ensures in
    let r = c.reg-from.ensures in
    let t = name_formed _ p.0 _ p.1 e in
    let f = reg_formed _ p.0 _ p.3 r in
    let o = table_kind _ p.0 _ p.1 e p.5 in
    let v = single_kind_lem _ p.0 _ p.3 r p.6 p.7 in
    let absent = sym c.has_key.ensures ∙ c.if-has_key.false in record {
      at_in_bounds = (t.0, f.0, omega (arith, e, r), t.1, o, c.len_at-n.ensures, c.if-n-ge-TABLE_ITEMS.false);
      i_value = (c.key_place-i.ensures, absent, p.2, f.1, v.0, v.1);
    }

pub returns : goal.returns
returns c =
    let b = c.args.state.now in
    let k = c.args.key in
    let at = c.slot-at.result in
    let p = c.requires in
    let e = c.slot-at.ensures in
    let l = c.len_at-n.ensures in
    let t = entries_in c.len_at-n.result (part b at 256) in
    let o = table_kind _ p.0 _ p.1 e p.5 in
    let w = reg_value _ p.0 _ p.3 c.reg-from.ensures in
    let absent = sym c.has_key.ensures ∙ c.if-has_key.false in
    let few = tab_length (part b at 256) (name_formed _ p.0 _ p.1 e).1 o l in
    let size = new_size t k (single_seen (seen (regs_of b c.args.src))) absent (omega (arith, c.if-n-ge-TABLE_ITEMS.false, few)) in
    let put = ap (λ (v : Option Value). splice b at (encode_slot (some (Tab (insert t k (single_seen (seen v))))))) w in
    tabled_new b p.0 c.args.tabname p.1 e k (regs_of b c.args.src) o l p.6 p.7
    p.4 c.has_key.ensures c.if-has_key.false c.if-n-ge-TABLE_ITEMS.false refl size (c.insert_new.ensures ∙ put)
