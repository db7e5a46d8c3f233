-- `execute::loadc` meets its contract.
use mathlib.Core.Path.{refl}
use Rattle.execute.specs.laws.Acts.{reg_formed}
use Rattle.execute.specs.laws.Literals.{literal_reg}
use Rattle.execute.proofs.loadc.Goals as goal

pub put_literal-requires : goal.put_literal-requires
put_literal-requires c =
    let f = reg_formed _ c.requires.1 _ c.requires.2 c.reg.ensures in (c.requires.0, f.0, f.1, c.requires.3, c.requires.4)

pub returns : goal.returns
returns c =
    literal_reg c.args.state.now c.args.program.now c.args.val c.requires.4 refl c.put_literal.ensures c.args.dest c.reg.ensures
