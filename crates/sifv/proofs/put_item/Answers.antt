use Rattle.sifv.specs.inner.Seen.{single_seen}
use mathlib.Core.Path.{refl, ◌∙◌}
use Rattle.sifv.specs.laws.Items.{put_item_law}
use Rattle.sifv.specs.laws.Laws.{word_plain}
use Rattle.sifv.proofs.put_item.Goals as goal

pub returns : goal.returns
returns c =
    (put_item_law c.args.s.now c.args.at c.args.i (single_seen c.args.v) c.requires.0 c.requires.1 c.item_kind.ensures (c.word_of.ensures.0 ∙ word_plain c.args.v) refl c.put_u64.ensures, c.word_of.ensures.1)
