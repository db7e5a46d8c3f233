-- `sifv::table::insert_new` meets its contract.
use mathlib.Core.Path.{sym, ap, ◌∙◌, subst}
use Prim.Native.Nat.{ℕ, ◌+◌, ◌≤◌, ◌<◌}
use mathlib.Core.List.{List}
use native.Mathlib.Omega.{arith}
use lib.ListN.{set}
use Rattle.lent.specs.Bytes.{part, splice}
use Rattle.sifv.specs.Slot.{decode_slot}
use Rattle.sifv.specs.inner.Seen.{seen, single_seen, kind_in, set_item}
use Rattle.sifv.specs.laws.Gaps.{open_length}
use Rattle.sifv.specs.laws.Inserts.{low_same, new_place, new_from, new_law}
use Rattle.sifv.specs.inner.Forms.{Formed}
use Rattle.sifv.proofs.table.insert_new.Goals as goal

pub open_entry-requires : goal.open_entry-requires
open_entry-requires c =
    (c.requires.at_in_bounds.0, new_place c.args.s.now c.args.at c.args.n c.args.i c.args.key c.requires.at_in_bounds.0 c.requires.at_in_bounds.3 c.requires.at_in_bounds.4 c.requires.at_in_bounds.5 c.requires.at_in_bounds.6 c.requires.i_value.0, c.requires.at_in_bounds.6)

pub overflow_add-s : goal.overflow_add-s
overflow_add-s c =
    omega (arith, new_place c.args.s.now c.args.at c.args.n c.args.i c.args.key c.requires.at_in_bounds.0 c.requires.at_in_bounds.3 c.requires.at_in_bounds.4 c.requires.at_in_bounds.5 c.requires.at_in_bounds.6 c.requires.i_value.0)

pub overflow_add-s-2 : goal.overflow_add-s-2
overflow_add-s-2 c =
    omega (arith, new_place c.args.s.now c.args.at c.args.n c.args.i c.args.key c.requires.at_in_bounds.0 c.requires.at_in_bounds.3 c.requires.at_in_bounds.4 c.requires.at_in_bounds.5 c.requires.at_in_bounds.6 c.requires.i_value.0, c.requires.at_in_bounds.0)

pub bounds-s-at : goal.bounds-s-at
bounds-s-at c =
    let g = new_place c.args.s.now c.args.at c.args.n c.args.i c.args.key c.requires.at_in_bounds.0 c.requires.at_in_bounds.3 c.requires.at_in_bounds.4 c.requires.at_in_bounds.5 c.requires.at_in_bounds.6 c.requires.i_value.0 in
    omega (arith, open_length c.args.s.now c.args.at c.args.i c.args.n c.requires.at_in_bounds.0 c.requires.at_in_bounds.6 g c.open_entry.ensures)

pub store_item-requires : goal.store_item-requires
store_item-requires c =
    let g = new_place c.args.s.now c.args.at c.args.n c.args.i c.args.key c.requires.at_in_bounds.0 c.requires.at_in_bounds.3 c.requires.at_in_bounds.4 c.requires.at_in_bounds.5 c.requires.at_in_bounds.6 c.requires.i_value.0 in
    let q = new_from c.args.s.now c.args.at c.args.n c.args.i c.args.key c.requires.at_in_bounds.0 c.requires.at_in_bounds.3 c.requires.at_in_bounds.4 c.requires.at_in_bounds.5 c.requires.at_in_bounds.6 c.requires.i_value.0 c.args.from c.requires.at_in_bounds.2 c.requires.i_value.5 c.open_entry.ensures (ap (set c.open_entry.new.s (c.args.at + (232 + c.args.i))) (low_same c.args.key c.low.ensures (omega (arith, c.requires.i_value.2)))) in
    (omega (arith, q.1, c.requires.at_in_bounds.0), omega (arith, q.1, c.requires.at_in_bounds.1), c.requires.at_in_bounds.2, omega (arith, g, c.requires.at_in_bounds.6), subst Formed (sym q.0) c.requires.i_value.3, subst (λ (r : List ℕ). 0 < kind_in (seen (decode_slot r))) (sym q.0) c.requires.i_value.4, subst (λ (r : List ℕ). kind_in (seen (decode_slot r)) ≤ 4) (sym q.0) c.requires.i_value.5)

pub returns : goal.returns
returns c =
    let q = new_from c.args.s.now c.args.at c.args.n c.args.i c.args.key c.requires.at_in_bounds.0 c.requires.at_in_bounds.3 c.requires.at_in_bounds.4 c.requires.at_in_bounds.5 c.requires.at_in_bounds.6 c.requires.i_value.0 c.args.from c.requires.at_in_bounds.2 c.requires.i_value.5 c.open_entry.ensures (ap (set c.open_entry.new.s (c.args.at + (232 + c.args.i))) (low_same c.args.key c.low.ensures (omega (arith, c.requires.i_value.2)))) in
    let e₂ = set c.open_entry.new.s (c.args.at + (232 + c.args.i)) c.low.result in
    new_law c.args.s.now c.args.at c.args.n c.args.i c.args.key c.requires.at_in_bounds.0 c.requires.at_in_bounds.3 c.requires.at_in_bounds.4 c.requires.at_in_bounds.5 c.requires.at_in_bounds.6 c.requires.i_value.0 (single_seen (seen (decode_slot (part c.args.s.now c.args.from 256)))) c.requires.i_value.1 c.open_entry.ensures (ap (set c.open_entry.new.s (c.args.at + (232 + c.args.i))) (low_same c.args.key c.low.ensures (omega (arith, c.requires.i_value.2))))
    (c.store_item.ensures ∙ ap (λ (r : List ℕ). splice e₂ c.args.at (set_item (part e₂ c.args.at 256) c.args.i (single_seen (seen (decode_slot r))))) q.0)
    (ap (set c.store_item.new.s (c.args.at + 1)) (low_same (c.args.n + 1) c.low-2.ensures (omega (arith, c.requires.at_in_bounds.6))))
