use Rattle.std.proofs.Common.{arith}
use Rattle.ast.proofs.Agree.{key_none, key_other, key_item, key_small, key_in}
use Rattle.ast.proofs.structure.first_key.Goals as goal

pub returns-then-entries-eq0 : goal.returns-then-entries-eq0
returns-then-entries-eq0 c = (omega arith, key_none _ _ c.if-entries-eq0.true)

pub returns-then-kind-ne-KIND_ITEM : goal.returns-then-kind-ne-KIND_ITEM
returns-then-kind-ne-KIND_ITEM c = (omega arith, key_other c.requires (omega arith) c.if-kind-ne-KIND_ITEM.true)

pub bounds-bodies-0 : goal.bounds-bodies-0
bounds-bodies-0 c = key_in c.requires (omega arith) c.if-kind-ne-KIND_ITEM.false

pub returns : goal.returns
returns c =
    rw c.wide.ensures.0 (key_small c.requires (omega arith) c.if-kind-ne-KIND_ITEM.false, key_item c.requires (omega arith) c.if-kind-ne-KIND_ITEM.false)
