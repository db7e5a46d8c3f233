use native.Mathlib.Omega.{arith}
use Prim.Native.Nat.{◌-◌}
use lib.ListN.{get_or}
use Rattle.stmt.specs.laws.Fns.{regs_ready, fn_ready}
use Rattle.stmt.specs.laws.FnLaws.{is_a_fn, fn_room, fn_names_length, head_goes}
use Rattle.stmt.proofs.fns.fn_head.Goals as goal

pub bounds-contents-1 : goal.bounds-contents-1
bounds-contents-1 c =
    omega (arith, (fn_room (is_a_fn c.args.lbl c.requires.contents_value c.requires.reads)).1)

pub overflow_cast-count : goal.overflow_cast-count
overflow_cast-count c =
    let r = fn_room (is_a_fn c.args.lbl c.requires.contents_value c.requires.reads) in
    omega (arith, r.0, r.2)

pub overflow_sub-count : goal.overflow_sub-count
overflow_sub-count c =
    omega (arith, (fn_room (is_a_fn c.args.lbl c.requires.contents_value c.requires.reads)).0)

pub nextregs-q-requires : goal.nextregs-q-requires
nextregs-q-requires c = c.requires.reads.ready.registers

pub bounds-bodies-0 : goal.bounds-bodies-0
bounds-bodies-0 c =
    omega (arith, (fn_room (is_a_fn c.args.lbl c.requires.contents_value c.requires.reads)).2)

pub slice_bounds-push_fn-count : goal.slice_bounds-push_fn-count
slice_bounds-push_fn-count c =
    let r = fn_room (is_a_fn c.args.lbl c.requires.contents_value c.requires.reads) in
    omega (arith, r.0, r.2)

pub slice_bounds-push_fn-start : goal.slice_bounds-push_fn-start
slice_bounds-push_fn-start c =
    let r = fn_room (is_a_fn c.args.lbl c.requires.contents_value c.requires.reads) in
    omega (arith, r.0, r.2)

pub slice_bounds-push_fn-end : goal.slice_bounds-push_fn-end
slice_bounds-push_fn-end c =
    let r = fn_room (is_a_fn c.args.lbl c.requires.contents_value c.requires.reads) in
    omega (arith, r.0, r.2)

pub push_fn-f-requires : goal.push_fn-f-requires
push_fn-f-requires c =
    let f = is_a_fn c.args.lbl c.requires.contents_value c.requires.reads in (
      regs_ready (get_or c.args.contents.now 1 0 - 1) c.requires.reads.ready c.nextregs-q.ensures,
      omega (arith, fn_names_length f, (fn_room f).0, c.type_inv.contents 1),
    )

pub slice_bounds-pops-count : goal.slice_bounds-pops-count
slice_bounds-pops-count c =
    let r = fn_room (is_a_fn c.args.lbl c.requires.contents_value c.requires.reads) in
    omega (arith, r.0, r.2)

pub slice_bounds-pops-start : goal.slice_bounds-pops-start
slice_bounds-pops-start c =
    let r = fn_room (is_a_fn c.args.lbl c.requires.contents_value c.requires.reads) in
    omega (arith, r.0, r.2)

pub slice_bounds-pops-end : goal.slice_bounds-pops-end
slice_bounds-pops-end c =
    let r = fn_room (is_a_fn c.args.lbl c.requires.contents_value c.requires.reads) in
    omega (arith, r.0, r.2)

pub pops-d-requires : goal.pops-d-requires
pops-d-requires c =
    let f = is_a_fn c.args.lbl c.requires.contents_value c.requires.reads in
    let r = regs_ready (get_or c.args.contents.now 1 0 - 1) c.requires.reads.ready c.nextregs-q.ensures in (
      fn_ready r c.push_fn-f.ensures,
      omega (arith, fn_names_length f, (fn_room f).0, c.type_inv.contents 1),
    )

pub overflow_mul-count : goal.overflow_mul-count
overflow_mul-count c =
    let r = fn_room (is_a_fn c.args.lbl c.requires.contents_value c.requires.reads) in
    omega (arith, r.0, r.1, c.well_formed.0.0)

pub returns : goal.returns
returns c =
    head_goes c.requires.reads.ready c.nextregs-q.ensures c.push_fn-f.ensures c.pops-d.ensures c.start.ensures
