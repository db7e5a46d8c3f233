-- `execute::put_literal` meets its contract.
use mathlib.Core.Path.{subst}
use Prim.Native.Nat.{ℕ, ◌<◌}
use native.Mathlib.Omega.{arith}
use Rattle.sifv.specs.Slot.{single_of}
use Rattle.execute.specs.laws.Literals.{literal_single, stored_put}
use Rattle.opc.specs.inner.Fetch.{record_at}
use Rattle.execute.proofs.put_literal.Goals as goal

pub stored-requires : goal.stored-requires
stored-requires c =
    let b = c.args.program.now in
    let k = c.args.val in
    (omega (arith, c.requires.0), c.requires.3, (literal_single b k c.requires.4 (subst (λ (x : ℕ). x < 5) c.kind_of.ensures c.if-kind_of-lt5.true)).0)

pub returns-then-kind_of-lt5 : goal.returns-then-kind_of-lt5
returns-then-kind_of-lt5 c =
    let b = c.args.program.now in
    let k = c.args.val in
    stored_put (single_of (record_at b k).kind (record_at b k).word) c.args.state.now c.args.at c.stored.ensures (literal_single b k c.requires.4 (subst (λ (x : ℕ). x < 5) c.kind_of.ensures c.if-kind_of-lt5.true)).1 c.put.ensures

pub put_contents-requires : goal.put_contents-requires
put_contents-requires c =
    (c.requires.0, c.requires.1, c.requires.2, c.requires.3, c.requires.4, λ z. omega (arith, c.if-kind_of-lt5.false, c.kind_of.ensures, z))
