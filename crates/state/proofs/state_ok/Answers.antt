-- `state::state_ok` meets its contract.
use mathlib.Core.Path.{ap, ap₂, ◌∙◌}
use mathlib.Core.Bool.{Bool, ◌&&◌}
use lib.Dec.{eqb}
use native.Mathlib.Omega.{arith}
use Rattle.lent.specs.laws.Each.{bytes_of}
use Rattle.execute.specs.declared.Loc.{Loc}
use Rattle.state.specs.inner.Fields.{stack_ok, frames_ok}
use Rattle.state.specs.laws.Checks.{fields_law}
use Rattle.state.proofs.state_ok.Goals as goal

pub returns : goal.returns
returns c =
    let b = c.args.state.now in
    let n = c.args.n in
    let l = c.loc_of-loc.ensures in
    let s = c.stack_ok.ensures ∙ ap (λ (x : Loc). stack_ok b x.depth) l in
    let f = c.frames_ok.ensures ∙ ap (λ (x : Loc). frames_ok b x.calls n) l in
    let m = ap₂ eqb c.mark_of.ensures c.get_u64.ensures in
    ap₂ (λ (x y : Bool). x && y) c.small_ok.ensures
    (ap₂ (λ (x y : Bool). x && y) (ap₂ (λ (x y : Bool). x && y) s f) (ap₂ (λ (x y : Bool). x && y) (ap₂ (λ (x y : Bool). x && y) c.fns_ok.ensures m) c.slots_ok.ensures))
    ∙ fields_law n b c.requires.1 (bytes_of b (λ i. omega (arith, c.type_inv.state i))) c.requires.0
