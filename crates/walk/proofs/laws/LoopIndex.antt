-- A pass of a loop reads by its own index k, up to 2^53, and gets item k there or meets 20, 28 or 31, never 38: document 02, M-103. The body may meet 38.
use Rattle.std.specs.Prelude.{◌≡◌, ℕ, suc, ◌^◌, ◌≤◌}
use Rattle.std.proofs.Common.{ap}
use Rattle.std.proofs.Math.Option.{Option, some}
use Rattle.numeric.specs.Whole.{whole}
use Rattle.numeric.proofs.laws.IndexLaws.{index_whole}
use Rattle.sifv.specs.Value.{Num, One}
use Rattle.vm.specs.Operation.{Names, put, located, item_in}
use Rattle.walk.specs.Walk.{Walked, counting, ◌>>=◌, steps, gets, pass}

pub loop_index : (body : Names → Walked (Unit {0})) (i v a k : ℕ) (e : Names) → k ≤ 2 ^ 53
    → pass body i v a k e ≡ counting 1 (gets e (item_in (e a) a k) >>= λ e₁ w. counting 1 (body (put e₁ v (some w)) >>= λ e₂ u. steps 4 (put e₂ i (some (One (Num (whole (suc k))))))))
loop_index body i v a k e h =
    ap (λ (o : Option ℕ). counting 1 (gets e (located o (λ j. item_in (e a) a j)) >>= λ e₁ w. counting 1 (body (put e₁ v (some w)) >>= λ e₂ u. steps 4 (put e₂ i (some (One (Num (whole (suc k)))))))))
    (index_whole k h)
