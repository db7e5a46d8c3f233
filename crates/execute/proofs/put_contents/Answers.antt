-- `execute::put_contents` meets its contract.
use mathlib.Core.Path.{sym, ap, ap₂, ◌∙◌}
use mathlib.Core.Option.{some}
use Prim.Native.Nat.{ℕ}
use Rattle.lent.specs.Bytes.{splice}
use Rattle.sifv.specs.Value.{Value}
use Rattle.sifv.specs.Slot.{encode_slot}
use Rattle.execute.specs.inner.View.{pool_of, array_at}
use Rattle.execute.specs.laws.Literals.{literal_array, literal_table, pool_read}
use Rattle.execute.proofs.put_contents.Goals as goal

pub put_array-requires : goal.put_array-requires
put_array-requires c =
    let b = c.args.program.now in
    let k = c.args.val in
    (c.requires.0, c.requires.1, pool_read (pool_of b) (literal_array b k c.requires.4 (sym c.kind_of.ensures ∙ c.if-kind_of-eq5.true)).0 c.len_of.ensures c.word_of.ensures)

pub returns-then-kind_of-eq5 : goal.returns-then-kind_of-eq5
returns-then-kind_of-eq5 c =
    let b = c.args.program.now in
    let k = c.args.val in
    c.put_array.ensures ∙ ap₂ (λ (n p : ℕ). splice c.args.state.now c.args.at (encode_slot (some (array_at b n p)))) c.len_of.ensures c.word_of.ensures ∙ ap (λ (v : Value). splice c.args.state.now c.args.at (encode_slot (some v))) (sym (literal_array b k c.requires.4 (sym c.kind_of.ensures ∙ c.if-kind_of-eq5.true)).1)

pub returns : goal.returns
returns c =
    let b = c.args.program.now in
    let k = c.args.val in
    c.set.ensures ∙ ap (λ (v : Value). splice c.args.state.now c.args.at (encode_slot (some v))) (sym (literal_table b k c.requires.4 c.requires.5 (λ z. c.if-kind_of-eq5.false (c.kind_of.ensures ∙ z))))
