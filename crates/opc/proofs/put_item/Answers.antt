use mathlib.Core.Path.{◌∙◌}
use Prim.Native.Nat.{◌+◌, ◌*◌}
use Rattle.sifv.specs.inner.Seen.{single_seen}
use Rattle.sifv.specs.laws.Laws.{word_plain}
use Rattle.opc.proofs.Laws.{item_law}
use Rattle.opc.proofs.put_item.Goals as goal

pub returns : goal.returns
returns c =
    let s_args = c.args in
    (item_law s_args.program.now (16384 + 16 * s_args.k) (single_seen s_args.v) c.item_kind.ensures (c.word_of.ensures.0 ∙ word_plain s_args.v) c.put_u64.ensures c.copy.ensures, c.word_of.ensures.1)
