use Rattle.ast.proofs.Agree.{past, only_23}
use mathlib.Core.Path.{◌≡◌}
use Prim.Native.Nat.{ℕ, zero, suc, ◌≤◌}
use native.Mathlib.Omega.{arith}
use Rattle.ast.proofs.structure.plan_of.Goals as goal

-- what a match tells of a number in its last arm: it is none of 1 to n
abbrev Passed : ℕ → ℕ → Type 0
Passed zero k = Unit {0}
Passed (suc n) k = Passed n k × (k ≡ suc n → ⊥)

beyond : (n : ℕ) {k : ℕ} → 1 ≤ k → Passed n k → suc n ≤ k
beyond zero h r = h
beyond (suc n) h r = omega (arith, past (suc n) (beyond n h r.0) r.1)

pub returns-in-1 : goal.returns-in-1
returns-in-1 c = rw (c.only_first.ensures, c.in-1.is)

pub returns-in-2 : goal.returns-in-2
returns-in-2 c = rw (c.only_first-in-2.ensures, c.in-2.is)

pub returns-in-3 : goal.returns-in-3
returns-in-3 c = rw (c.if_plan.ensures, c.in-3.is)

pub returns-in-4 : goal.returns-in-4
returns-in-4 c = rw (c.then_block.ensures, c.in-4.is)

pub returns-in-5 : goal.returns-in-5
returns-in-5 c = rw (c.then_block-in-5.ensures, c.saturating_sub.ensures, c.in-5.is)

pub returns-in-6 : goal.returns-in-6
returns-in-6 c = rw (c.only_first-in-6.ensures, c.in-6.is)

pub returns-in-7 : goal.returns-in-7
returns-in-7 c = rw (c.only_first-in-7.ensures, c.in-7.is)

pub returns-in-8 : goal.returns-in-8
returns-in-8 c = rw (c.only_first-in-8.ensures, c.in-8.is)

pub returns-in-9 : goal.returns-in-9
returns-in-9 c = rw (c.then_block-in-9.ensures, c.saturating_sub-in-9.ensures, c.in-9.is)

pub returns-in-10 : goal.returns-in-10
returns-in-10 c = rw (c.only_first-in-10.ensures, c.in-10.is)

pub returns-in-11 : goal.returns-in-11
returns-in-11 c = rw (c.only_first-in-11.ensures, c.in-11.is)

pub returns-in-12 : goal.returns-in-12
returns-in-12 c = rw (c.only_first-in-12.ensures, c.in-12.is)

pub returns-in-13 : goal.returns-in-13
returns-in-13 c = rw (c.only_first-in-13.ensures, c.in-13.is)

pub returns-in-14 : goal.returns-in-14
returns-in-14 c = rw (c.only_first-in-14.ensures, c.in-14.is)

pub returns-in-15 : goal.returns-in-15
returns-in-15 c = rw (c.only_first-in-15.ensures, c.in-15.is)

pub returns-in-16 : goal.returns-in-16
returns-in-16 c = rw (c.only_first-in-16.ensures, c.in-16.is)

pub returns-in-17 : goal.returns-in-17
returns-in-17 c = rw (c.only_first-in-17.ensures, c.in-17.is)

pub returns-in-18 : goal.returns-in-18
returns-in-18 c = rw (c.only_first-in-18.ensures, c.in-18.is)

pub returns-in-19 : goal.returns-in-19
returns-in-19 c = rw (c.only_first-in-19.ensures, c.in-19.is)

pub returns-in-20 : goal.returns-in-20
returns-in-20 c = rw (c.only_first-in-20.ensures, c.in-20.is)

pub returns-in-21 : goal.returns-in-21
returns-in-21 c = rw (c.only_first-in-21.ensures, c.in-21.is)

pub returns-in-22 : goal.returns-in-22
returns-in-22 c = rw (c.only_first-in-22.ensures, c.in-22.is)

pub returns-in_default : goal.returns-in_default
returns-in_default c =
    let e : c.args.kind ≡ 23 = only_23 (beyond 22 c.requires.0 c.in_default.in_default-own.rest) c.requires.1 in
    rw (c.only_first-in_default.ensures, e)
