use native.Mathlib.Omega.{arith}
use Rattle.stmt.specs.laws.Kinds.{stmt_room}
use Rattle.stmt.specs.laws.Simple.{var_room, var_front, init_reads, init_front}
use Rattle.stmt.proofs.simple.vardecl.Goals as goal

pub bounds-bodies-0 : goal.bounds-bodies-0
bounds-bodies-0 c =
    omega (arith, var_room c.args.lbl c.requires.contents_value c.requires.reads)

pub bounds-contents-1 : goal.bounds-contents-1
bounds-contents-1 c =
    omega (arith, stmt_room c.args.lbl c.requires.reads)

pub push_at-requires : goal.push_at-requires
push_at-requires c =
    rw c.start-p.ensures c.requires.reads.ready

pub returns-then-contents-eq0 : goal.returns-then-contents-eq0
returns-then-contents-eq0 c =
    var_front c.args.lbl c.start-p.ensures c.requires.contents_value c.if-contents-eq0.true c.fields_of-f.ensures c.push_at.ensures

pub assign_at-requires : goal.assign_at-requires
assign_at-requires c =
    init_reads c.args.lbl c.start-p.ensures c.requires.contents_value c.if-contents-eq0.false c.requires.reads

pub returns : goal.returns
returns c =
    init_front c.args.lbl c.start-p.ensures c.requires.contents_value c.if-contents-eq0.false c.assign_at.ensures
