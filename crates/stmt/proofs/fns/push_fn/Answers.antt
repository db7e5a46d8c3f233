use Rattle.std.proofs.Common.{refl, arith}
use Rattle.stmt.specs.laws.Fns.{fn_items}
use Rattle.stmt.proofs.fns.push_fn.Goals as goal

pub keep_params-requires : goal.keep_params-requires
keep_params-requires c = λ e. (c.push_items-q.ensures.room e, omega (arith, c.requires.0.room, c.push_items-q.auto))

pub returns : goal.returns
returns c = fn_items refl c.push_items-q.ensures c.keep_params.ensures
