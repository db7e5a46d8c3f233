use native.Mathlib.Omega.{arith}
use mathlib.Core.Path.{◌≡◌, refl, ap, ◌∙◌}
use Prim.Native.Nat.{◌+◌, ◌-◌, suc}
use lib.ListN.{get_or}
use borrow.Author.Rules.{rules}
use Rattle.emit.specs.declared.Done.{Done}
use Rattle.emit.specs.laws.Spell.{length_from}
use Rattle.emit.specs.laws.Places.{reads_from, at_within, at_goes}
use Rattle.emit.specs.laws.Loops.{left_start, left_turn, left_end}
use Rattle.stmt.specs.inner.Parts.{statements}
use Rattle.stmt.specs.laws.Kinds.{kind_here, others, stmt_room, from_kind}
use Rattle.stmt.specs.laws.Lists.{list_none, list_first, list_falls, list_next, list_goes, body_list, body_none, body_some, block_reads, block_front}
use Rattle.stmt.specs.laws.Arms.{arm_reads, test_ready, test_label, jump_ready, arm_block_reads, arm_block_kind, arm_falls, block_ready, block_room, end_ready, arm_goes, if_counts, if_reads, if_front}
use Rattle.stmt.specs.laws.Ifs.{if_start, if_arm_reads, turn_room, if_turn, if_else_reads, if_else_asks, if_waits, if_ready, if_end}
use Rattle.stmt.specs.laws.ForLaws.{is_a_for, for_room, for_source_reads, head_asks, for_block_reads, for_block_kind, for_falls, tail_asks, for_front}
use Rattle.stmt.specs.laws.FnLaws.{is_a_fn, fn_block_reads, fn_block_kind, fn_falls, fn_label, fn_front}
use Rattle.stmt.proofs.+arm_block_block_at_blocks_body_body_at_fndecl_forstmt_ifstmt_stmts.Goals as goal

pub arm-expr_at-c-requires : goal.arm-expr_at-c-requires
arm-expr_at-c-requires t c =
    arm_reads c.args.last c.args.contents.now c.args.bodies.now c.args.p c.requires

pub arm-jump_false-j-requires : goal.arm-jump_false-j-requires
arm-jump_false-j-requires t c =
    let a = c.args in
    let e = c.expr_at-c.ensures in
    (test_ready a.last a.contents.now a.bodies.now a.p c.requires e, test_label a.last a.contents.now a.bodies.now a.p c.requires e)

pub arm-body_at-b-requires : goal.arm-body_at-b-requires
arm-body_at-b-requires t c =
    let a = c.args in
    let e = c.expr_at-c.ensures in
    let j = c.jump_false-j.ensures in
    let f = arm_falls a.last a.contents.now a.bodies.now a.p c.requires e j in (
      omega (arith, f.0, f.1),
      (arm_block_reads a.last a.contents.now a.bodies.now a.p c.requires e j, arm_block_kind a.last a.contents.now a.bodies.now a.p c.requires e j),
    )

pub arm-jump_end-e-requires : goal.arm-jump_end-e-requires
arm-jump_end-e-requires t c =
    let a = c.args in
    let e = c.expr_at-c.ensures in
    let j = c.jump_false-j.ensures in
    let b = c.body_at-b.ensures in
    (block_ready a.last a.contents.now a.bodies.now a.p c.requires e j b, block_room a.last a.contents.now a.bodies.now a.p c.requires e j b)

pub arm-update_op_at-requires : goal.arm-update_op_at-requires
arm-update_op_at-requires t c =
    let a = c.args in
    let e = c.expr_at-c.ensures in
    let j = c.jump_false-j.ensures in (
      (jump_ready a.last a.contents.now a.bodies.now a.p c.requires e j).records,
      (end_ready a.last a.contents.now a.bodies.now a.p c.requires e j c.body_at-b.ensures c.jump_end-e.ensures).room,
    )

pub arm-shape_of-out : goal.arm-shape_of-out
arm-shape_of-out t c =
    c.update_op_at.auto.out ∙ c.jump_end-e.auto.out
    ∙ c.body_at-b.auto.out ∙ c.jump_false-j.auto.out ∙ c.expr_at-c.auto.out

pub arm-returns : goal.arm-returns
arm-returns t c =
    let a = c.args in
    arm_goes a.last a.contents.now a.bodies.now a.p c.requires.ready c.expr_at-c.ensures c.jump_false-j.ensures
    c.body_at-b.ensures c.jump_end-e.ensures c.update_op_at.ensures

pub block-bounds-contents-0 : goal.block-bounds-contents-0
block-bounds-contents-0 t c =
    omega (arith, stmt_room c.args.lbl c.requires)

pub block-body-requires : goal.block-body-requires
block-body-requires t c =
    (omega arith, (c.requires, c.if-kind-eq-KIND_BLOCK.true))

pub block-shape_of-out-then-kind-eq-KIND_BLOCK : goal.block-shape_of-out-then-kind-eq-KIND_BLOCK
block-shape_of-out-then-kind-eq-KIND_BLOCK t c = c.body.auto.out

pub block-returns-then-kind-eq-KIND_BLOCK : goal.block-returns-then-kind-eq-KIND_BLOCK
block-returns-then-kind-eq-KIND_BLOCK t c = c.body.ensures

pub block-ifstmt-requires : goal.block-ifstmt-requires
block-ifstmt-requires t c =
    (omega arith, (c.requires, c.if-kind-eq-KIND_IF.true))

pub block-shape_of-out-then-kind-eq-KIND_IF : goal.block-shape_of-out-then-kind-eq-KIND_IF
block-shape_of-out-then-kind-eq-KIND_IF t c = c.ifstmt.auto.out

pub block-returns-then-kind-eq-KIND_IF : goal.block-returns-then-kind-eq-KIND_IF
block-returns-then-kind-eq-KIND_IF t c = c.ifstmt.ensures

pub block-forstmt-requires : goal.block-forstmt-requires
block-forstmt-requires t c =
    (omega arith, (c.requires, c.if-kind-eq-KIND_FOR.true))

pub block-shape_of-out-then-kind-eq-KIND_FOR : goal.block-shape_of-out-then-kind-eq-KIND_FOR
block-shape_of-out-then-kind-eq-KIND_FOR t c = c.forstmt.auto.out

pub block-returns-then-kind-eq-KIND_FOR : goal.block-returns-then-kind-eq-KIND_FOR
block-returns-then-kind-eq-KIND_FOR t c = c.forstmt.ensures

pub block-ret-requires : goal.block-ret-requires
block-ret-requires t c =
    record { reads = c.requires; contents_value = c.if-kind-eq-KIND_RETURN.true }

pub block-shape_of-out-then-kind-eq-KIND_RETURN : goal.block-shape_of-out-then-kind-eq-KIND_RETURN
block-shape_of-out-then-kind-eq-KIND_RETURN t c = c.ret.auto.out

pub block-returns-then-kind-eq-KIND_RETURN : goal.block-returns-then-kind-eq-KIND_RETURN
block-returns-then-kind-eq-KIND_RETURN t c = c.ret.ensures

pub block-expr_stmt-requires : goal.block-expr_stmt-requires
block-expr_stmt-requires t c =
    record { reads = c.requires; contents_value = c.if-kind-eq-KIND_EXPR_STMT.true }

pub block-shape_of-out-then-kind-eq-KIND_EXPR_STMT : goal.block-shape_of-out-then-kind-eq-KIND_EXPR_STMT
block-shape_of-out-then-kind-eq-KIND_EXPR_STMT t c = c.expr_stmt.auto.out

pub block-returns-then-kind-eq-KIND_EXPR_STMT : goal.block-returns-then-kind-eq-KIND_EXPR_STMT
block-returns-then-kind-eq-KIND_EXPR_STMT t c = c.expr_stmt.ensures

pub block-vardecl-requires : goal.block-vardecl-requires
block-vardecl-requires t c =
    record { reads = c.requires; contents_value = c.if-kind-eq-KIND_VAR_DECL.true }

pub block-shape_of-out-then-kind-eq-KIND_VAR_DECL : goal.block-shape_of-out-then-kind-eq-KIND_VAR_DECL
block-shape_of-out-then-kind-eq-KIND_VAR_DECL t c = c.vardecl.auto.out

pub block-returns-then-kind-eq-KIND_VAR_DECL : goal.block-returns-then-kind-eq-KIND_VAR_DECL
block-returns-then-kind-eq-KIND_VAR_DECL t c = c.vardecl.ensures

pub block-fndecl-requires : goal.block-fndecl-requires
block-fndecl-requires t c =
    let r = c.requires in
    let k = kind_here r.tree r.spelt.spells refl in (
      omega arith,
      (r, others k c.if-kind-eq-KIND_BLOCK.false c.if-kind-eq-KIND_IF.false c.if-kind-eq-KIND_FOR.false c.if-kind-eq-KIND_RETURN.false c.if-kind-eq-KIND_EXPR_STMT.false c.if-kind-eq-KIND_VAR_DECL.false),
    )

pub block-shape_of-out : goal.block-shape_of-out
block-shape_of-out t c = c.fndecl.auto.out

pub block-returns : goal.block-returns
block-returns t c =
    c.fndecl.ensures c.args.keep

pub block_at-slice_bounds-block-count : goal.block_at-slice_bounds-block-count
block_at-slice_bounds-block-count t c = c.requires.cont

pub block_at-slice_bounds-block-start : goal.block_at-slice_bounds-block-start
block_at-slice_bounds-block-start t c = c.requires.cont

pub block_at-slice_bounds-block-count-2 : goal.block_at-slice_bounds-block-count-2
block_at-slice_bounds-block-count-2 t c =
    c.requires.body

pub block_at-slice_bounds-block-start-2 : goal.block_at-slice_bounds-block-start-2
block_at-slice_bounds-block-start-2 t c =
    c.requires.body

pub block_at-block-r-requires : goal.block_at-block-r-requires
block_at-block-r-requires t c =
    (omega (arith, length_from c.args.p.cont c.args.contents.now), reads_from (statements c.args.p.lbl) c.requires)

pub block_at-moved-requires : goal.block_at-moved-requires
block_at-moved-requires t c =
    let q = at_within (statements c.args.p.lbl) c.args.contents.now c.args.bodies.now c.args.p c.requires c.block-r.ensures in
    (omega (arith, q.0, c.well_formed.0.0), omega (arith, q.1, c.well_formed.1.0.0))

pub block_at-returns : goal.block_at-returns
block_at-returns t c =
    let a = c.args in
    at_goes (statements a.p.lbl) a.contents.now a.bodies.now a.keep a.p a.out.now
    c.block-r.ensures c.moved.ensures

pub blocks-nop-requires : goal.blocks-nop-requires
blocks-nop-requires t c =
    c.requires.ready

pub blocks-shape_of-out-then-n-eq0 : goal.blocks-shape_of-out-then-n-eq0
blocks-shape_of-out-then-n-eq0 t c = c.nop.auto.out

pub blocks-returns-then-n-eq0 : goal.blocks-returns-then-n-eq0
blocks-returns-then-n-eq0 t c =
    body_none c.args.n c.if-n-eq0.true c.nop.ensures

pub blocks-stmts-requires : goal.blocks-stmts-requires
blocks-stmts-requires t c =
    (omega arith, body_list c.args.n c.requires)

pub blocks-shape_of-out : goal.blocks-shape_of-out
blocks-shape_of-out t c = c.stmts.auto.out

pub blocks-returns : goal.blocks-returns
blocks-returns t c =
    body_some c.args.n c.if-n-eq0.false c.stmts.ensures

pub body-bounds-contents-1 : goal.body-bounds-contents-1
body-bounds-contents-1 t c =
    omega (arith, stmt_room c.args.lbl c.requires.reads)

pub body-blocks-requires : goal.body-blocks-requires
body-blocks-requires t c =
    let l = c.args.lbl in
    let d = c.start-p.ensures in (
      omega (arith, stmt_room l c.requires.reads, ap (λ (d : Done). d.cont) d),
      block_reads l c.requires.contents_value d c.requires.reads,
    )

pub body-shape_of-out : goal.body-shape_of-out
body-shape_of-out t c = c.blocks-2.auto.out

pub body-returns : goal.body-returns
body-returns t c =
    block_front c.args.lbl c.requires.contents_value c.start-p.ensures c.blocks-2.ensures

pub body_at-slice_bounds-body-count : goal.body_at-slice_bounds-body-count
body_at-slice_bounds-body-count t c = c.requires.reads_at.cont

pub body_at-slice_bounds-body-start : goal.body_at-slice_bounds-body-start
body_at-slice_bounds-body-start t c = c.requires.reads_at.cont

pub body_at-slice_bounds-body-count-2 : goal.body_at-slice_bounds-body-count-2
body_at-slice_bounds-body-count-2 t c =
    c.requires.reads_at.body

pub body_at-slice_bounds-body-start-2 : goal.body_at-slice_bounds-body-start-2
body_at-slice_bounds-body-start-2 t c =
    c.requires.reads_at.body

pub body_at-body-r-requires : goal.body_at-body-r-requires
body_at-body-r-requires t c =
    let a = c.args in (
      omega (arith, length_from a.p.cont a.contents.now),
      (reads_from (statements a.p.lbl) c.requires.reads_at, from_kind a.p.cont a.contents.now c.requires.cont_value),
    )

pub body_at-moved-requires : goal.body_at-moved-requires
body_at-moved-requires t c =
    let q = at_within (statements c.args.p.lbl) c.args.contents.now c.args.bodies.now c.args.p c.requires.reads_at c.body-r.ensures in
    (omega (arith, q.0, c.well_formed.0.0), omega (arith, q.1, c.well_formed.1.0.0))

pub body_at-returns : goal.body_at-returns
body_at-returns t c =
    let a = c.args in
    at_goes (statements a.p.lbl) a.contents.now a.bodies.now a.keep a.p a.out.now
    c.body-r.ensures c.moved.ensures

pub fndecl-fn_head-h-requires : goal.fndecl-fn_head-h-requires
fndecl-fn_head-h-requires t c =
    record { reads = c.requires.reads; contents_value = c.requires.contents_value }

pub fndecl-body_at-d-requires : goal.fndecl-body_at-d-requires
fndecl-body_at-d-requires t c =
    let f = is_a_fn c.args.lbl c.requires.contents_value c.requires.reads in
    let r = c.requires.reads.ready in
    let h = c.fn_head-h.ensures in
    (omega (arith, (fn_falls f r h).0, (fn_falls f r h).1), (fn_block_reads f r h, fn_block_kind f r h))

pub fndecl-newlbl-requires : goal.fndecl-newlbl-requires
fndecl-newlbl-requires t c =
    fn_label (is_a_fn c.args.lbl c.requires.contents_value c.requires.reads) c.requires.reads.ready c.fn_head-h.ensures c.body_at-d.ensures

pub fndecl-shape_of-out : goal.fndecl-shape_of-out
fndecl-shape_of-out t c =
    c.body_at-d.auto.out ∙ c.fn_head-h.auto.out

pub fndecl-returns : goal.fndecl-returns
fndecl-returns t c =
    λ k. fn_front c.requires.contents_value c.fn_head-h.ensures c.body_at-d.ensures c.newlbl.ensures

pub forstmt-bounds-bodies-0 : goal.forstmt-bounds-bodies-0
forstmt-bounds-bodies-0 t c =
    omega (arith, (for_room (is_a_for c.args.lbl c.requires.contents_value c.requires.reads)).1)

pub forstmt-bounds-bodies-1 : goal.forstmt-bounds-bodies-1
forstmt-bounds-bodies-1 t c =
    omega (arith, (for_room (is_a_for c.args.lbl c.requires.contents_value c.requires.reads)).1)

pub forstmt-bounds-contents-2 : goal.forstmt-bounds-contents-2
forstmt-bounds-contents-2 t c =
    omega (arith, (for_room (is_a_for c.args.lbl c.requires.contents_value c.requires.reads)).0)

pub forstmt-bounds-bodies-2 : goal.forstmt-bounds-bodies-2
forstmt-bounds-bodies-2 t c =
    omega (arith, (for_room (is_a_for c.args.lbl c.requires.contents_value c.requires.reads)).1)

pub forstmt-nextreg-requires : goal.forstmt-nextreg-requires
forstmt-nextreg-requires t c =
    c.requires.reads.ready.registers

pub forstmt-source_at-s-requires : goal.forstmt-source_at-s-requires
forstmt-source_at-s-requires t c =
    let f = is_a_for c.args.lbl c.requires.contents_value c.requires.reads in
    let r = c.requires.reads.ready in
    for_source_reads f r c.nextreg.ensures c.start-p.ensures

pub forstmt-for_head-h-requires : goal.forstmt-for_head-h-requires
forstmt-for_head-h-requires t c =
    let f = is_a_for c.args.lbl c.requires.contents_value c.requires.reads in
    let r = c.requires.reads.ready in
    head_asks f r c.nextreg.ensures c.start-p.ensures c.source_at-s.ensures

pub forstmt-body_at-d-requires : goal.forstmt-body_at-d-requires
forstmt-body_at-d-requires t c =
    let f = is_a_for c.args.lbl c.requires.contents_value c.requires.reads in
    let r = c.requires.reads.ready in
    let n = c.nextreg.ensures in
    let p = c.start-p.ensures in
    let o = c.source_at-s.ensures in
    let h = c.for_head-h.ensures in
    let d = for_falls f r n p o h in
    (omega (arith, d.0, d.1), (for_block_reads f r n p o h, for_block_kind f r n p o h))

pub forstmt-for_tail-requires : goal.forstmt-for_tail-requires
forstmt-for_tail-requires t c =
    let f = is_a_for c.args.lbl c.requires.contents_value c.requires.reads in
    let r = c.requires.reads.ready in
    tail_asks f r c.nextreg.ensures c.start-p.ensures c.source_at-s.ensures c.for_head-h.ensures c.body_at-d.ensures

pub forstmt-shape_of-out : goal.forstmt-shape_of-out
forstmt-shape_of-out t c =
    c.for_tail.auto.out ∙ c.body_at-d.auto.out
    ∙ c.for_head-h.auto.out ∙ c.source_at-s.auto.out

pub forstmt-returns : goal.forstmt-returns
forstmt-returns t c =
    for_front c.requires.contents_value c.nextreg.ensures c.start-p.ensures c.source_name-name.ensures
    c.source_at-s.ensures c.for_head-h.ensures c.body_at-d.ensures c.for_tail.ensures

pub ifstmt-bounds-bodies-0 : goal.ifstmt-bounds-bodies-0
ifstmt-bounds-bodies-0 t c =
    omega (arith, (if_counts c.args.lbl c.requires.contents_value c.requires.reads).1)

pub ifstmt-bounds-contents-1 : goal.ifstmt-bounds-contents-1
ifstmt-bounds-contents-1 t c =
    omega (arith, stmt_room c.args.lbl c.requires.reads)

pub ifstmt-overflow_sub-rest : goal.ifstmt-overflow_sub-rest
ifstmt-overflow_sub-rest t c =
    omega (arith, (if_counts c.args.lbl c.requires.contents_value c.requires.reads).0)

pub ifstmt-overflow_sub-rest-2 : goal.ifstmt-overflow_sub-rest-2
ifstmt-overflow_sub-rest-2 t c =
    omega (arith, (if_counts c.args.lbl c.requires.contents_value c.requires.reads).0)

pub ifstmt-overflow_step-more : goal.ifstmt-overflow_step-more
ifstmt-overflow_step-more t c =
    omega (arith, c.type_inv.contents 1, (if_counts c.args.lbl c.requires.contents_value c.requires.reads).0)

pub ifstmt-loop-more-init : goal.ifstmt-loop-more-init
ifstmt-loop-more-init t c =
    let l = c.args.lbl in
    let n = get_or c.args.bodies.now 0 0 in
    let rest = get_or c.args.contents.now 1 0 - 2 - n in
    let counts = (if_counts l c.requires.contents_value c.requires.reads).0 in
    (refl, if_start (if_reads l c.requires.contents_value c.start-q.ensures n rest refl (omega (arith, counts)) c.requires.reads))

pub ifstmt-arm-a-requires : goal.ifstmt-arm-a-requires
ifstmt-arm-a-requires t c =
    let l = c.loop-more in
    let r = if_arm_reads l.invariant.1 (l.more - 1) (omega arith) in
    (omega (arith, stmt_room c.args.lbl c.requires.reads, ap (λ (d : Done). d.cont) c.start-q.ensures, l.invariant.1.behind), r)

pub ifstmt-next_arm-q-requires : goal.ifstmt-next_arm-q-requires
ifstmt-next_arm-q-requires t c =
    let l = c.loop-more in
    let r = turn_room l.invariant.1 (l.more - 1) (omega arith) c.arm-a.ensures in
    (omega (arith, r.0, c.well_formed.0.0), omega (arith, r.1, c.well_formed.1.0.0))

pub ifstmt-loop-more-preserved : goal.ifstmt-loop-more-preserved
ifstmt-loop-more-preserved t c =
    let l = c.loop-more in
    (c.arm-a.auto.out ∙ l.invariant.0, if_turn l.invariant.1 (l.more - 1) (omega arith) c.arm-a.ensures c.waiting-last.ensures c.next_arm-q.ensures)

pub ifstmt-stmts-s-requires : goal.ifstmt-stmts-s-requires
ifstmt-stmts-s-requires t c =
    let l = c.loop-more in
    (omega (arith, stmt_room c.args.lbl c.requires.reads, ap (λ (d : Done). d.cont) c.start-q.ensures, l.invariant.1.behind), if_else_reads l.invariant.1 (omega arith))

pub ifstmt-if_end-e-requires : goal.ifstmt-if_end-e-requires
ifstmt-if_end-e-requires t c =
    if_else_asks c.loop-more.invariant.1 (omega arith) c.stmts-s.ensures

pub ifstmt-update_ends-requires : goal.ifstmt-update_ends-requires
ifstmt-update_ends-requires t c =
    let i = c.loop-more.invariant.1 in
    let k = c.stmts-s.ensures in
    let e = c.if_end-e.ensures in
    record { by_index = if_waits i (omega arith) k e; in_bounds = if_ready i (omega arith) k e }

pub ifstmt-shape_of-out : goal.ifstmt-shape_of-out
ifstmt-shape_of-out t c =
    c.update_ends.auto.out ∙ c.if_end-e.auto.out ∙ c.stmts-s.auto.out ∙ c.loop-more.invariant.0

pub ifstmt-returns : goal.ifstmt-returns
ifstmt-returns t c =
    let l = c.args.lbl in
    let n = get_or c.args.bodies.now 0 0 in
    let rest = get_or c.args.contents.now 1 0 - 2 - n in
    let counts = (if_counts l c.requires.contents_value c.requires.reads).0 in
    if_front l c.requires.contents_value c.start-q.ensures n rest refl (omega (arith, counts))
    (if_end c.loop-more.invariant.1 (omega arith) c.stmts-s.ensures c.if_end-e.ensures c.update_ends.ensures)

pub stmts-loop-init : goal.stmts-loop-init
stmts-loop-init t c = let z : c.args.n - 0 ≡ c.args.n = omega arith in (refl, rw z (left_start c.requires))

pub stmts-block_at-q-requires : goal.stmts-block_at-q-requires
stmts-block_at-q-requires t c =
    let l = c.loop in
    let m = c.args.n - l.counter in
    let z : m ≡ 0 → ⊥ = λ e. omega (arith, e) in
    (omega (arith, l.invariant.1.behind), list_first m z l.invariant.1.reads)

pub stmts-loop-preserved : goal.stmts-loop-preserved
stmts-loop-preserved t c =
    let l = c.loop in
    let m = c.args.n - l.counter in
    let z : m ≡ 0 → ⊥ = λ e. omega (arith, e) in
    let g = c.block_at-q.ensures in
    let s : suc (c.args.n - (l.counter + 1)) ≡ m = omega arith in
    let reads = l.invariant.1.reads in (
      search rules,
      left_turn l.invariant.1 (omega (arith, (list_falls m z g reads).0)) (list_next m z g (c.args.n - (l.counter + 1)) s reads)
          (λ r d x. list_goes m z g (c.args.n - (l.counter + 1)) s x),
    )

pub stmts-shape_of-out : goal.stmts-shape_of-out
stmts-shape_of-out t c = c.loop.invariant.0

pub stmts-returns : goal.stmts-returns
stmts-returns t c = left_end c.loop.invariant.1 (list_none (c.args.n - c.loop.counter) (omega arith))
