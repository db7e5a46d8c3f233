-- `sifv::set` meets its contract.
use mathlib.Core.Path.{sym, ap, ◌∙◌}
use mathlib.Core.List.{◌++◌}
use Rattle.lent.specs.Bytes.{splice}
use Rattle.sifv.specs.inner.Seen.{head_bytes}
use Rattle.sifv.specs.laws.Laws.{encode_bare}
use Rattle.sifv.specs.declared.Stored.{Stored}
use Rattle.lent.specs.Lists.{zeros}
use Rattle.sifv.proofs.set.Goals as goal

pub returns : goal.returns
returns c =
    c.put.ensures ∙ ap (λ (x : Stored). splice c.args.s.now c.args.at (head_bytes x.kind 0 x.word ++ zeros 240)) c.pack.ensures ∙ ap (splice c.args.s.now c.args.at) (sym (encode_bare c.args.v))
