use Prim.Native.Nat.{ℕ}
use mathlib.Core.Path.{ap, ◌∙◌}
use mathlib.Core.List.{List}
use Rattle.lent.specs.Bytes.{be_bytes, splice}
use Rattle.lower.proofs.finish.Goals as goal

pub returns : goal.returns
returns c cs r =
    let a = c.args in
    c.put_u16-2.ensures
    ∙ ap (λ (b : List ℕ). splice b 34946 (be_bytes 2 a.start))
    (c.put_u16.ensures ∙ ap (λ (b : List ℕ). splice b 34944 (be_bytes 2 a.n)) (c.compute.ensures cs r))
