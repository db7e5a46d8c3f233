use mathlib.Core.Path.{◌≡◌, refl}
use mathlib.Core.Bool.{true, ◌&&◌}
use mathlib.Core.List.{List, [], ◌∷◌}
use Prim.Native.Nat.{ℕ, suc, ◌+◌, ◌*◌, ◌≤◌, ◌<◌}
use native.Mathlib.Numerals.{add-one}
use native.Mathlib.Omega.{arith}
use lib.ListN.{length, get_or, drop, length-drop}
use lib.Seq.{drop-cons}
use Rattle.ast.specs.inner.Under as Rule
use Rattle.ast.proofs.Scan.{turn, done}
use Rattle.ast.proofs.plain.scan.Goals as goal

-- the next entry
scan_next : (l : List ℕ) (i u w : ℕ) → i + 1 < length l
    → Rule.scan u w (drop i l)
    ≡ (Rule.allowed u (get_or l i 0) && Rule.scan (Rule.under (Rule.waits w (get_or l i 0) (get_or l (i + 1) 0)) (get_or l i 0)) (Rule.waits w (get_or l i 0) (get_or l (i + 1) 0)) (drop (i + 2) l))
scan_next l i u w h =
    let two : i + 2 ≡ suc (suc i) = omega arith in
    rw (two, add-one i, drop-cons l i 0 (omega arith), drop-cons l (suc i) 0 (omega arith))

-- no entry is left
short : (l : List ℕ) (u w : ℕ) → length l ≤ 1 → Rule.scan u w l ≡ true
short [] u w h = refl
short (k ∷ []) u w h = refl
short (k ∷ (c ∷ l)) u w h = absurd (omega arith)

scan_end : (l : List ℕ) (i u w : ℕ) → length l ≤ i + 1 → Rule.scan u w (drop i l) ≡ true
scan_end l i u w h = short (drop i l) u w (omega (arith, length-drop i l))

pub loop-i-preserved : goal.loop-i-preserved
loop-i-preserved c =
    let l = c.loop-i in
    let two : 2 * l.i + 2 ≡ 2 * (l.i + 1) = omega arith in (
      omega arith,
      rw (← two, c.under-above.ensures, c.waits-left.ensures.0, c.allowed-ok.ensures, c.wide-count.ensures.0, c.wide-kind.ensures.0)
          (turn l.ok _ _ l.invariant.1 (scan_next c.args.entries.now (2 * l.i) l.above l.left (omega arith))),
    )

pub returns : goal.returns
returns c =
    let l = c.loop-i in
    done l.ok l.invariant.1 (scan_end c.args.entries.now (2 * l.i) l.above l.left (omega arith))
