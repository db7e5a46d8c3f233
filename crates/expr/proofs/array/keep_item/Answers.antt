use Rattle.expr.proofs.array.keep_item.Goals as goal

pub put_item-requires : goal.put_item-requires
put_item-requires c = c.requires c.if-keep.true

pub returns-then-keep : goal.returns-then-keep
returns-then-keep c =
    rw c.if-keep.true c.put_item.ensures.0
