use Rattle.stmt.proofs.fns.keep_params.Goals as goal

pub param_items-requires : goal.param_items-requires
param_items-requires c = c.requires c.if-keep.true

pub returns-then-keep : goal.returns-then-keep
returns-then-keep c = rw c.if-keep.true c.param_items.ensures
