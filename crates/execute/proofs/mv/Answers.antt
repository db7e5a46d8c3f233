use Prim.Native.Nat.{◌+◌, ◌*◌}
use mathlib.Core.Path.{refl}
use native.Mathlib.Omega.{arith}
use Rattle.execute.specs.inner.View.{regs_of}
use Rattle.execute.specs.laws.Acts.{reg_formed, reg_bytes, wrote_moved}
use Rattle.execute.proofs.mv.Goals as goal

-- `execute::mv` meets its contract.
pub move_to-requires : goal.move_to-requires
move_to-requires c =
    let f = reg_formed _ c.requires.0 _ c.requires.1 c.reg.ensures in
    let t = reg_formed _ c.requires.0 _ c.requires.2 c.reg-2.ensures in
    (f.0, t.0, omega (arith, c.reg.ensures, c.reg-2.ensures), f.1, t.1)

pub returns : goal.returns
returns c =
    let b = c.args.state.now in
    wrote_moved b c.reg.result (0 + c.args.dest * 256) (regs_of b c.args.src) (reg_formed b c.requires.0 c.args.src c.requires.1 c.reg.ensures).0
    (reg_bytes b c.requires.0 c.args.src c.requires.1 c.reg.ensures) c.reg-2.ensures refl c.move_to.ensures
