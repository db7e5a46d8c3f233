use Rattle.std.proofs.Common.{[], ◌∷◌}
use Rattle.lent.specs.Lists.{tabulate}
use Rattle.text.specs.Text.{ascii, decimal}
use Rattle.text.specs.laws.Joined.{appended_fields}
use Rattle.ops.specs.inner.Told.{param_at}
use Rattle.ops.proofs.put_fn.Goals as goal

pub returns : goal.returns
returns c =
    appended_fields (ascii "Fn") (decimal c.args.f.a ∷ []) (tabulate c.args.f.word c.args.f.len (param_at c.args.program.now)) c.put_words.ensures c.put_params.ensures
