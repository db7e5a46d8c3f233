-- `execute::loadarrs` meets its contract.
use mathlib.Core.Path.{sym, ap, ◌∙◌}
use mathlib.Core.Option.{Option}
use Rattle.sifv.specs.Value.{Value}
use Rattle.sifv.specs.inner.Seen.{seen, kind_in}
use native.Mathlib.Omega.{arith}
use Prim.Native.Nat.{◌^◌}
use lib.Dec.{le→leb}
use lib.Ieee.{in_float}
use Rattle.lent.specs.Bytes.{part}
use Rattle.execute.specs.inner.View.{names_of}
use Rattle.execute.specs.laws.Acts.{name_formed, name_value}
use Rattle.execute.specs.laws.Arrays.{arr_len}
use Rattle.execute.specs.laws.Readers.{size_off, size_in_lem}
use Rattle.std.specs.declared.result.Result.TheVariants as got
use Rattle.execute.proofs.loadarrs.Goals as goal

pub kind_at-k-requires : goal.kind_at-k-requires
kind_at-k-requires c =
    name_formed _ c.requires.0 _ c.requires.1 c.slot-at.ensures

pub returns-then-k-ne5 : goal.returns-then-k-ne5
returns-then-k-ne5 c =
    size_off (names_of c.args.state.now) c.args.name (c.kind_at-k.ensures ∙ ap (λ (o : Option Value). kind_in (seen o)) (name_value _ c.requires.0 _ c.requires.1 c.slot-at.ensures)) c.if-k-ne5.true (ap got.Err c.no_array.ensures)

pub len_at-n-requires : goal.len_at-n-requires
len_at-n-requires c =
    name_formed _ c.requires.0 _ c.requires.1 c.slot-at.ensures

pub int_to_float-n : goal.int_to_float-n
unfolding in_float
int_to_float-n c =
    le→leb c.len_at-n.result (2 ^ 53) (let l = arr_len (part c.args.state.now c.slot-at.result 256) (name_formed _ c.requires.0 _ c.requires.1 c.slot-at.ensures).1 (sym c.kind_at-k.ensures ∙ c.if-k-ne5.false) c.len_at-n.ensures in omega (arith, l.1))

pub returns : goal.returns
returns c =
    size_in_lem (names_of c.args.state.now) c.args.name (part c.args.state.now c.slot-at.result 256) (name_formed _ c.requires.0 _ c.requires.1 c.slot-at.ensures).1 (sym c.kind_at-k.ensures ∙ c.if-k-ne5.false) (name_value _ c.requires.0 _ c.requires.1 c.slot-at.ensures) c.len_at-n.ensures (ap got.Ok c.pack.ensures)
