-- `state::small_ok` meets its contract.
use mathlib.Core.Path.{ap₂}
use mathlib.Core.Bool.{Bool, ◌&&◌}
use Prim.Native.Nat.{ℕ}
use lib.Dec.{leb}
use Rattle.execute.specs.declared.Loc.{Loc}
use Rattle.state.proofs.small_ok.Goals as goal

pub returns : goal.returns
returns c =
    let n = c.args.n in
    ap₂ (λ (x : Loc) (y : Bool). leb x.depth 24 && (leb x.calls 24 && y)) c.loc_of-loc.ensures
    (ap₂ (λ (x : ℕ) (y : Bool). leb x n && y) c.get_u16.ensures.0 c.all_zero.ensures)
