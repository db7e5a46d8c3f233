-- `execute::put_item` meets its contract.
use mathlib.Core.Path.{refl, ◌∙◌}
use Prim.Native.Nat.{◌+◌, ◌*◌}
use native.Mathlib.Omega.{arith}
use lib.ListN.{length-set}
use Rattle.execute.specs.laws.Literals.{entry_is, entry_put}
use Rattle.execute.proofs.put_item.Goals as goal

pub stored_word-word-requires : goal.stored_word-word-requires
stored_word-word-requires c =
    entry_is c.args.program.now (16384 + 16 * c.args.k) c.requires.4 refl c.get_u64.ensures

pub put_u64-requires : goal.put_u64-requires
put_u64-requires c = simp length-set (omega arith)

pub shape_of-state : goal.shape_of-state
shape_of-state c = c.put_u64.auto.d ∙ simp length-set

pub returns : goal.returns
returns c =
    entry_put c.args.program.now (16384 + 16 * c.args.k) c.requires.4 refl c.get_u64.ensures c.args.state.now c.args.at c.args.i c.requires.1 c.requires.2 c.stored_word-word.ensures refl c.put_u64.ensures
