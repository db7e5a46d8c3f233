use Rattle.std.proofs.Common.{[], ◌∷◌}
use Rattle.text.specs.Text.{ascii, decimal}
use Rattle.text.specs.laws.Writing.{appended_then}
use Rattle.text.specs.laws.Joined.{appended_field}
use Rattle.ops.proofs.put_ldc.Goals as goal

pub returns : goal.returns
returns c = appended_field (ascii "Ldc") (decimal c.args.f.a ∷ []) c.put_words.ensures (appended_then c.put_all.ensures c.put_literal.ensures)
