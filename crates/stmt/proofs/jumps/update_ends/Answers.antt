use native.Mathlib.Omega.{arith}
use mathlib.Core.Path.{refl, sym}
use Prim.Native.Nat.{◌-◌, ◌*◌}
use borrow.Author.Rules.{rules}
use Rattle.stmt.specs.laws.Ends.{ends_start, ends_room, ends_falls, ends_turn, ends_all}
use Rattle.stmt.proofs.jumps.update_ends.Goals as goal

pub loop-i-init : goal.loop-i-init
loop-i-init c = (refl, λ xs e w. ends_start xs c.args.lblidx c.args.out.now e w)

pub overflow_mul-at : goal.overflow_mul-at
overflow_mul-at c =
    let l = c.loop-i in
    omega (arith, ends_room (l.invariant.1 c.requires.by_index.0 c.requires.by_index.1 c.requires.by_index.2) (λ z. omega (arith, z)))

pub get_u64-before-requires : goal.get_u64-before-requires
get_u64-before-requires c =
    let r = ends_room (c.loop-i.invariant.1 c.requires.by_index.0 c.requires.by_index.1 c.requires.by_index.2) (λ z. omega (arith, z)) in
    omega (arith, r, c.loop-i.invariant.0, c.requires.in_bounds)

pub put_u64-requires : goal.put_u64-requires
put_u64-requires c =
    let r = ends_room (c.loop-i.invariant.1 c.requires.by_index.0 c.requires.by_index.1 c.requires.by_index.2) (λ z. omega (arith, z)) in
    omega (arith, r, c.loop-i.invariant.0, c.requires.in_bounds)

pub loop-i-smaller : goal.loop-i-smaller
loop-i-smaller c =
    let f = ends_falls (c.loop-i.invariant.1 c.requires.by_index.0 c.requires.by_index.1 c.requires.by_index.2) (λ z. omega (arith, z)) (16 * c.loop-i.i - 8) (omega arith) in
    omega (arith, f, c.get_u64-before.ensures)

pub loop-i-preserved : goal.loop-i-preserved
loop-i-preserved c = (
  search rules,
  λ xs e w.
      let turned = ends_turn (c.loop-i.invariant.1 xs e w) (λ z. omega (arith, z)) (16 * c.loop-i.i - 8) (omega arith) (omega (arith, c.loop-i.invariant.0, c.requires.in_bounds)) in
      rw c.put_u64.ensures (rw (sym c.get_u64-before.ensures) at turned),
)

pub shape_of-out : goal.shape_of-out
shape_of-out c = c.loop-i.invariant.0

pub returns : goal.returns
returns c = λ xs e w. ends_all (c.loop-i.invariant.1 xs e w) (omega arith)
