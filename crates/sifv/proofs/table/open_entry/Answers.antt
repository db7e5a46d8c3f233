use mathlib.Core.Path.{◌≡◌, refl, sym, ap, ◌∙◌}
use Prim.Native.Nat.{ℕ, ◌+◌, ◌-◌}
use native.Mathlib.Omega.{arith}
use Rattle.lent.specs.Bytes.{part, splice}
use Rattle.sifv.specs.laws.Gaps.{opened_none, open_turn}
use Rattle.sifv.specs.inner.Forms.{opened}
use Rattle.sifv.proofs.table.open_entry.Goals as goal

pub loop-j-init : goal.loop-j-init
loop-j-init c = (c.requires.1, sym (opened_none c.args.s.now c.args.at c.args.n c.requires.0))

pub loop-j-preserved : goal.loop-j-preserved
loop-j-preserved c =
    let a = c.args in
    let l = c.loop-j in
    let e : l.j - 1 + 1 ≡ l.j = omega arith in
    (omega arith, open_turn a.s.now a.at (l.j - 1) a.n c.requires.0 c.requires.2 (omega arith) (l.invariant.1 ∙ ap (λ (k : ℕ). splice a.s.now a.at (opened (part a.s.now a.at 256) k a.n)) (sym e)) (omega arith) c.move_u64.ensures refl refl)

pub returns : goal.returns
returns c =
    let a = c.args in
    let e : c.loop-j.j ≡ a.i = omega arith in
    c.loop-j.invariant.1 ∙ ap (λ (k : ℕ). splice a.s.now a.at (opened (part a.s.now a.at 256) k a.n)) e
