use native.Mathlib.Omega.{arith}
use mathlib.Core.Path.{◌≡◌, refl, ap}
use Prim.Native.Nat.{◌+◌, ◌-◌, suc}
use Rattle.emit.specs.declared.Done.{Done}
use Rattle.emit.specs.laws.Spell.{length_from}
use Rattle.emit.specs.laws.Leaves.{ready_start}
use Rattle.emit.specs.laws.Places.{reads_from, at_within, at_goes}
use Rattle.emit.specs.laws.Loops.{left_start, left_turn, left_end}
use Rattle.expr.specs.inner.Parts as part
use Rattle.expr.proofs.Exprs.{one_asks, one_ready, call_one, un_made, bin_room, bin_roomb, bin_reads₁, bin_cont₁, bin_reads₂, bin_ready₂, bin_made, operand_goes, operand_reads, operand_within}
use Rattle.expr.proofs.Exprs.{mut_room, mut_roomb, mut_skips, mut_reads₁, mut_reads₂, mut_ready₃, mut_made, params_none, par_reads, par_next, par_ready, par_goes, call_ready₂, call_made}
use Rattle.expr.proofs.Exprs.{asg_made, reads_room, mut_asks, call_asks, asg_asks, bin_asks, un_asks, num_asks, text_asks, name_asks}
use Rattle.expr.proofs.Exprs.{mut_front, call_front, asg_front, bin_front, un_front, lit_front, name_front, truth_front, arg_front, none_front}
use Rattle.expr.proofs.Rights.{front_ready, str_front, acc_made, acc_loads, tab_room, tab_cont, tab_reads, tab_made, items_none, items_room, item_reads, item_ready, item_next, item_goes}
use Rattle.expr.proofs.Rights.{right_reads, tab_asks, acc_asks, exp_reads, tab_front, acc_front, lit_stores, name_stores, expr_stores}
use Rattle.expr.proofs.+arrayaccess_arraymutexpr_assign_assign_at_binarg_binarg_at_binop_expr_expr_assign_expr_at_fncallexpr_match_table_assign_params_table_items_unop_varassign.Goals as goal

pub arrayaccess-bounds-bodies-0 : goal.arrayaccess-bounds-bodies-0
arrayaccess-bounds-bodies-0 t c =
    omega (arith, (acc_asks (c.requires.reads, c.requires.contents_value)).body)

pub arrayaccess-expr_at-a-requires : goal.arrayaccess-expr_at-a-requires
arrayaccess-expr_at-a-requires t c =
    one_asks (acc_asks (c.requires.reads, c.requires.contents_value)) c.requires.reads.ready c.start-p.ensures 4 (omega arith) (omega arith)

pub arrayaccess-load_at-d-requires : goal.arrayaccess-load_at-d-requires
arrayaccess-load_at-d-requires t c =
    one_ready (acc_asks (c.requires.reads, c.requires.contents_value)) c.requires.reads.ready c.start-p.ensures c.expr_at-a.ensures

pub arrayaccess-push_at-requires : goal.arrayaccess-push_at-requires
arrayaccess-push_at-requires t c =
    let f = rw c.prevreg.ensures at c.fields_of-f.ensures in
    acc_loads (c.requires.reads, c.requires.contents_value) c.requires.reads.ready c.start-p.ensures c.expr_at-a.ensures f c.load_at-d.ensures

pub arrayaccess-shape_of-out : goal.arrayaccess-shape_of-out
arrayaccess-shape_of-out t c =
    omega (arith, c.push_at.auto, c.load_at-d.auto, c.expr_at-a.auto)

pub arrayaccess-returns : goal.arrayaccess-returns
arrayaccess-returns t c =
    let f = rw c.prevreg.ensures at c.fields_of-f.ensures in
    let g = rw c.prevreg-2.ensures at c.fields_of-g.ensures in
    acc_front c.requires.contents_value (λ a i h. acc_made h c.requires.reads.ready c.start-p.ensures c.expr_at-a.ensures f
    c.load_at-d.ensures g c.push_at.ensures)

pub arraymutexpr-bounds-bodies-0 : goal.arraymutexpr-bounds-bodies-0
arraymutexpr-bounds-bodies-0 t c =
    omega (arith, mut_roomb (mut_asks (c.requires.reads, c.requires.contents_value)).3)

pub arraymutexpr-slice_bounds-skip-count : goal.arraymutexpr-slice_bounds-skip-count
arraymutexpr-slice_bounds-skip-count t c =
    omega (arith, mut_room (mut_asks (c.requires.reads, c.requires.contents_value)).3)

pub arraymutexpr-slice_bounds-skip-start : goal.arraymutexpr-slice_bounds-skip-start
arraymutexpr-slice_bounds-skip-start t c =
    omega (arith, mut_room (mut_asks (c.requires.reads, c.requires.contents_value)).3)

pub arraymutexpr-slice_bounds-skip-count-2 : goal.arraymutexpr-slice_bounds-skip-count-2
arraymutexpr-slice_bounds-skip-count-2 t c =
    omega (arith, mut_roomb (mut_asks (c.requires.reads, c.requires.contents_value)).3)

pub arraymutexpr-slice_bounds-skip-start-2 : goal.arraymutexpr-slice_bounds-skip-start-2
arraymutexpr-slice_bounds-skip-start-2 t c =
    omega (arith, mut_roomb (mut_asks (c.requires.reads, c.requires.contents_value)).3)

pub arraymutexpr-skip-s-requires : goal.arraymutexpr-skip-s-requires
arraymutexpr-skip-s-requires t c =
    let h = mut_asks (c.requires.reads, c.requires.contents_value) in
    (h.1, mut_skips h.3)

pub arraymutexpr-overflow_add-s : goal.arraymutexpr-overflow_add-s
arraymutexpr-overflow_add-s t c =
    let h = mut_asks (c.requires.reads, c.requires.contents_value) in
    let e = c.skip-s.ensures h.1 (mut_skips h.3) in
    omega (arith, e.0, mut_room h.3)

pub arraymutexpr-overflow_add-s-2 : goal.arraymutexpr-overflow_add-s-2
arraymutexpr-overflow_add-s-2 t c =
    let h = mut_asks (c.requires.reads, c.requires.contents_value) in
    let e = c.skip-s.ensures h.1 (mut_skips h.3) in
    omega (arith, e.1, mut_roomb h.3)

pub arraymutexpr-expr_at-v-requires : goal.arraymutexpr-expr_at-v-requires
arraymutexpr-expr_at-v-requires t c =
    let h = mut_asks (c.requires.reads, c.requires.contents_value) in
    let e = c.skip-s.ensures h.1 (mut_skips h.3) in
    let d = c.start-p.ensures in
    (omega (arith, mut_room h.3, e.0, ap (λ (d : Done). d.cont) d), mut_reads₁ h.3 c.requires.reads.ready e.0 e.1 d)

pub arraymutexpr-expr_at-i-requires : goal.arraymutexpr-expr_at-i-requires
arraymutexpr-expr_at-i-requires t c =
    let h = mut_asks (c.requires.reads, c.requires.contents_value) in
    let e = c.skip-s.ensures h.1 (mut_skips h.3) in
    let d = c.start-q.ensures in (
      omega (arith, mut_room h.3, ap (λ (d : Done). d.cont) d),
      mut_reads₂ h.3 c.requires.reads.ready e.0 e.1 c.start-p.ensures c.expr_at-v.ensures c.below.ensures d,
    )

pub arraymutexpr-push_op-u-requires : goal.arraymutexpr-push_op-u-requires
arraymutexpr-push_op-u-requires t c =
    let h = mut_asks (c.requires.reads, c.requires.contents_value) in
    let e = c.skip-s.ensures h.1 (mut_skips h.3) in
    mut_ready₃ h.3 c.requires.reads.ready e.0 e.1 c.start-p.ensures c.expr_at-v.ensures
    c.below.ensures c.start-q.ensures c.expr_at-i.ensures

pub arraymutexpr-shape_of-out : goal.arraymutexpr-shape_of-out
arraymutexpr-shape_of-out t c =
    omega (arith, c.push_op-u.auto, c.expr_at-i.auto, c.expr_at-v.auto)

pub arraymutexpr-returns : goal.arraymutexpr-returns
arraymutexpr-returns t c =
    let f = rw (c.prevreg.ensures, c.prevreg-2.ensures) at c.fields_of-f.ensures in
    mut_front c.requires.contents_value (λ x i v h.
    let e = c.skip-s.ensures i (mut_skips h) in
    mut_made h c.requires.reads.ready e.0 e.1 c.start-p.ensures c.expr_at-v.ensures
    c.below.ensures c.start-q.ensures c.expr_at-i.ensures f c.push_op-u.ensures c.with.ensures)

pub assign-bounds-contents-0 : goal.assign-bounds-contents-0
assign-bounds-contents-0 t c =
    omega (arith, right_reads c.requires)

pub assign-match_table_assign-requires : goal.assign-match_table_assign-requires
assign-match_table_assign-requires t c =
    (omega arith, (c.requires, c.if-kind-eq-KIND_TABLE.true))

pub assign-returns-then-kind-eq-KIND_TABLE : goal.assign-returns-then-kind-eq-KIND_TABLE
assign-returns-then-kind-eq-KIND_TABLE t c = c.match_table_assign.ensures

pub assign-arraydecl-requires : goal.assign-arraydecl-requires
assign-arraydecl-requires t c =
    record { reads = c.requires; contents_value = c.if-kind-eq-KIND_ARRAY.true }

pub assign-returns-then-kind-eq-KIND_ARRAY : goal.assign-returns-then-kind-eq-KIND_ARRAY
assign-returns-then-kind-eq-KIND_ARRAY t c = c.arraydecl.ensures

pub assign-arrayaccess-requires : goal.assign-arrayaccess-requires
assign-arrayaccess-requires t c =
    (omega arith, (c.requires, c.if-kind-eq-KIND_ARRAY_ACCESS.true))

pub assign-returns-then-kind-eq-KIND_ARRAY_ACCESS : goal.assign-returns-then-kind-eq-KIND_ARRAY_ACCESS
assign-returns-then-kind-eq-KIND_ARRAY_ACCESS t c = c.arrayaccess.ensures

pub assign-put_name-requires : goal.assign-put_name-requires
assign-put_name-requires t c =
    (c.requires.ready, name_asks (exp_reads c.requires c.if-kind-eq-KIND_TABLE.false c.if-kind-eq-KIND_ARRAY.false c.if-kind-eq-KIND_ARRAY_ACCESS.false) c.if-kind-eq-KIND_NAME.true)

pub assign-returns-then-kind-eq-KIND_NAME : goal.assign-returns-then-kind-eq-KIND_NAME
assign-returns-then-kind-eq-KIND_NAME t c =
    name_stores c.if-kind-eq-KIND_NAME.true c.put_name.ensures

pub assign-put_literal-requires : goal.assign-put_literal-requires
assign-put_literal-requires t c =
    let r = exp_reads c.requires c.if-kind-eq-KIND_TABLE.false c.if-kind-eq-KIND_ARRAY.false c.if-kind-eq-KIND_ARRAY_ACCESS.false in
    (c.requires.ready, λ e. num_asks r (omega (arith, e)), λ e. text_asks r (omega (arith, e)))

pub assign-returns-then-kind-ge-KIND_NUM : goal.assign-returns-then-kind-ge-KIND_NUM
assign-returns-then-kind-ge-KIND_NUM t c =
    lit_stores c.if-kind-eq-KIND_NAME.false c.if-kind-ge-KIND_NUM.true c.put_literal.ensures

pub assign-expr_assign-requires : goal.assign-expr_assign-requires
assign-expr_assign-requires t c =
    (omega arith, (exp_reads c.requires c.if-kind-eq-KIND_TABLE.false c.if-kind-eq-KIND_ARRAY.false c.if-kind-eq-KIND_ARRAY_ACCESS.false))

pub assign-returns : goal.assign-returns
assign-returns t c =
    expr_stores c.if-kind-eq-KIND_TABLE.false c.if-kind-eq-KIND_ARRAY.false c.if-kind-eq-KIND_ARRAY_ACCESS.false c.if-kind-ge-KIND_NUM.false
    c.expr_assign.ensures

pub assign_at-slice_bounds-assign-count : goal.assign_at-slice_bounds-assign-count
assign_at-slice_bounds-assign-count t c = c.requires.cont

pub assign_at-slice_bounds-assign-start : goal.assign_at-slice_bounds-assign-start
assign_at-slice_bounds-assign-start t c = c.requires.cont

pub assign_at-slice_bounds-assign-count-2 : goal.assign_at-slice_bounds-assign-count-2
assign_at-slice_bounds-assign-count-2 t c =
    c.requires.body

pub assign_at-slice_bounds-assign-start-2 : goal.assign_at-slice_bounds-assign-start-2
assign_at-slice_bounds-assign-start-2 t c =
    c.requires.body

pub assign_at-assign-r-requires : goal.assign_at-assign-r-requires
assign_at-assign-r-requires t c =
    let a = c.args in
    (omega (arith, length_from a.p.cont a.contents.now), reads_from (part.rights c.args.x) c.requires)

pub assign_at-moved-requires : goal.assign_at-moved-requires
assign_at-moved-requires t c =
    let a = c.args in
    let q = at_within (part.rights c.args.x) a.contents.now a.bodies.now a.p c.requires c.assign-r.ensures in
    (omega (arith, q.0), omega (arith, q.1))

pub assign_at-returns : goal.assign_at-returns
assign_at-returns t c =
    let a = c.args in
    at_goes (part.rights c.args.x) a.contents.now a.bodies.now a.keep a.p a.out.now c.assign-r.ensures c.moved.ensures

pub binarg-bounds-contents-0 : goal.binarg-bounds-contents-0
binarg-bounds-contents-0 t c =
    omega (arith, reads_room c.requires)

pub binarg-load_literal-requires : goal.binarg-load_literal-requires
binarg-load_literal-requires t c =
    (c.requires.ready, num_asks c.requires, text_asks c.requires)

pub binarg-returns-then-kind : goal.binarg-returns-then-kind
binarg-returns-then-kind t c =
    truth_front c.if-kind.true c.load_literal.ensures

pub binarg-expr-requires : goal.binarg-expr-requires
binarg-expr-requires t c =
    (omega arith, c.requires)

pub binarg-returns : goal.binarg-returns
binarg-returns t c =
    arg_front c.if-kind.false c.expr.ensures

pub binarg_at-slice_bounds-binarg-count : goal.binarg_at-slice_bounds-binarg-count
binarg_at-slice_bounds-binarg-count t c = c.requires.cont

pub binarg_at-slice_bounds-binarg-start : goal.binarg_at-slice_bounds-binarg-start
binarg_at-slice_bounds-binarg-start t c = c.requires.cont

pub binarg_at-slice_bounds-binarg-count-2 : goal.binarg_at-slice_bounds-binarg-count-2
binarg_at-slice_bounds-binarg-count-2 t c =
    c.requires.body

pub binarg_at-slice_bounds-binarg-start-2 : goal.binarg_at-slice_bounds-binarg-start-2
binarg_at-slice_bounds-binarg-start-2 t c =
    c.requires.body

pub binarg_at-binarg-r-requires : goal.binarg_at-binarg-r-requires
binarg_at-binarg-r-requires t c =
    let a = c.args in
    (omega (arith, length_from a.p.cont a.contents.now), operand_reads c.requires)

pub binarg_at-shift-requires : goal.binarg_at-shift-requires
binarg_at-shift-requires t c =
    let a = c.args in
    let q = operand_within a.contents.now a.bodies.now a.p c.requires c.binarg-r.ensures in
    (omega (arith, q.0), omega (arith, q.1))

pub binarg_at-returns : goal.binarg_at-returns
binarg_at-returns t c =
    let a = c.args in
    operand_goes a.contents.now a.bodies.now a.keep a.p a.out.now c.binarg-r.ensures c.shift.ensures

pub binop-bounds-bodies-0 : goal.binop-bounds-bodies-0
binop-bounds-bodies-0 t c =
    omega (arith, bin_roomb (bin_asks (c.requires.reads, c.requires.contents_value)).3)

pub binop-binarg_at-a-requires : goal.binop-binarg_at-a-requires
binop-binarg_at-a-requires t c =
    let h = bin_asks (c.requires.reads, c.requires.contents_value) in
    (omega (arith, bin_room h.3, ap (λ (d : Done). d.cont) c.start-p.ensures), bin_reads₁ h.3 c.requires.reads.ready c.start-p.ensures)

pub binop-binarg_at-b-requires : goal.binop-binarg_at-b-requires
binop-binarg_at-b-requires t c =
    let h = bin_asks (c.requires.reads, c.requires.contents_value) in
    let d = c.start-p.ensures in
    let g = c.binarg_at-a.ensures in
    (omega (arith, bin_room h.3, bin_cont₁ h.3 c.requires.reads.ready d g), bin_reads₂ h.3 c.requires.reads.ready d g)

pub binop-load_at-requires : goal.binop-load_at-requires
binop-load_at-requires t c =
    bin_ready₂ (bin_asks (c.requires.reads, c.requires.contents_value)).3 c.requires.reads.ready c.start-p.ensures c.binarg_at-a.ensures c.binarg_at-b.ensures

pub binop-returns : goal.binop-returns
binop-returns t c =
    let f = rw (c.bin_code-kind.ensures, c.prevreg.ensures, c.prevreg-2.ensures) at c.fields_of-f.ensures in
    bin_front c.requires.contents_value (λ k x y h. bin_made h c.requires.reads.ready c.start-p.ensures
    c.binarg_at-a.ensures c.binarg_at-b.ensures f c.load_at.ensures)

pub expr-bounds-contents-0 : goal.expr-bounds-contents-0
expr-bounds-contents-0 t c =
    omega (arith, reads_room c.requires)

pub expr-arraymutexpr-requires : goal.expr-arraymutexpr-requires
expr-arraymutexpr-requires t c =
    (omega arith, (c.requires, c.if-kind-eq-KIND_ARRAY_MUT.true))

pub expr-returns-then-kind-eq-KIND_ARRAY_MUT : goal.expr-returns-then-kind-eq-KIND_ARRAY_MUT
expr-returns-then-kind-eq-KIND_ARRAY_MUT t c = c.arraymutexpr.ensures

pub expr-fncallexpr-requires : goal.expr-fncallexpr-requires
expr-fncallexpr-requires t c =
    (omega arith, (c.requires, c.if-kind-eq-KIND_CALL.true))

pub expr-returns-then-kind-eq-KIND_CALL : goal.expr-returns-then-kind-eq-KIND_CALL
expr-returns-then-kind-eq-KIND_CALL t c = c.fncallexpr.ensures

pub expr-varassign-requires : goal.expr-varassign-requires
expr-varassign-requires t c =
    (omega arith, (c.requires, c.if-kind-eq-KIND_ASSIGN.true))

pub expr-returns-then-kind-eq-KIND_ASSIGN : goal.expr-returns-then-kind-eq-KIND_ASSIGN
expr-returns-then-kind-eq-KIND_ASSIGN t c = c.varassign.ensures

pub expr-binop-requires : goal.expr-binop-requires
expr-binop-requires t c =
    (omega arith, (c.requires, c.if-kind-eq-KIND_BINARY.true))

pub expr-returns-then-kind-eq-KIND_BINARY : goal.expr-returns-then-kind-eq-KIND_BINARY
expr-returns-then-kind-eq-KIND_BINARY t c = c.binop.ensures

pub expr-unop-requires : goal.expr-unop-requires
expr-unop-requires t c =
    (omega arith, (c.requires, c.if-kind-eq-KIND_UNARY.true))

pub expr-returns-then-kind-eq-KIND_UNARY : goal.expr-returns-then-kind-eq-KIND_UNARY
expr-returns-then-kind-eq-KIND_UNARY t c = c.unop.ensures

pub expr-load_literal-requires : goal.expr-load_literal-requires
expr-load_literal-requires t c =
    (c.requires.ready, num_asks c.requires, text_asks c.requires)

pub expr-returns-then-kind : goal.expr-returns-then-kind
expr-returns-then-kind t c =
    lit_front c.if-kind.true c.load_literal.ensures

pub expr-load_name-requires : goal.expr-load_name-requires
expr-load_name-requires t c =
    (c.requires.ready, name_asks c.requires c.if-kind-eq-KIND_NAME.true)

pub expr-returns-then-kind-eq-KIND_NAME : goal.expr-returns-then-kind-eq-KIND_NAME
expr-returns-then-kind-eq-KIND_NAME t c =
    name_front c.if-kind-eq-KIND_NAME.true c.load_name.ensures

pub expr-returns : goal.expr-returns
expr-returns t c =
    none_front c.start.ensures c.if-kind-eq-KIND_ARRAY_MUT.false c.if-kind-eq-KIND_CALL.false c.if-kind-eq-KIND_ASSIGN.false c.if-kind-eq-KIND_BINARY.false c.if-kind-eq-KIND_UNARY.false
    c.if-kind.false c.if-kind-eq-KIND_NAME.false

pub expr_assign-expr-a-requires : goal.expr_assign-expr-a-requires
expr_assign-expr-a-requires t c =
    (omega arith, c.requires)

pub expr_assign-push_at-requires : goal.expr_assign-push_at-requires
expr_assign-push_at-requires t c =
    front_ready part.exprs c.requires c.expr-a.ensures

pub expr_assign-returns : goal.expr_assign-returns
expr_assign-returns t c =
    str_front c.expr-a.ensures (rw c.prevreg.ensures at c.fields_of-f.ensures) c.push_at.ensures

pub expr_at-slice_bounds-expr-count : goal.expr_at-slice_bounds-expr-count
expr_at-slice_bounds-expr-count t c = c.requires.cont

pub expr_at-slice_bounds-expr-start : goal.expr_at-slice_bounds-expr-start
expr_at-slice_bounds-expr-start t c = c.requires.cont

pub expr_at-slice_bounds-expr-count-2 : goal.expr_at-slice_bounds-expr-count-2
expr_at-slice_bounds-expr-count-2 t c =
    c.requires.body

pub expr_at-slice_bounds-expr-start-2 : goal.expr_at-slice_bounds-expr-start-2
expr_at-slice_bounds-expr-start-2 t c =
    c.requires.body

pub expr_at-expr-r-requires : goal.expr_at-expr-r-requires
expr_at-expr-r-requires t c =
    let a = c.args in
    (omega (arith, length_from a.p.cont a.contents.now), reads_from part.exprs c.requires)

pub expr_at-moved-requires : goal.expr_at-moved-requires
expr_at-moved-requires t c =
    let a = c.args in
    let q = at_within part.exprs a.contents.now a.bodies.now a.p c.requires c.expr-r.ensures in
    (omega (arith, q.0), omega (arith, q.1))

pub expr_at-returns : goal.expr_at-returns
expr_at-returns t c =
    let a = c.args in
    at_goes part.exprs a.contents.now a.bodies.now a.keep a.p a.out.now c.expr-r.ensures c.moved.ensures

pub fncallexpr-bounds-bodies-0 : goal.fncallexpr-bounds-bodies-0
fncallexpr-bounds-bodies-0 t c =
    omega (arith, (call_one (call_asks (c.requires.reads, c.requires.contents_value)).2).body)

pub fncallexpr-bounds-contents-1 : goal.fncallexpr-bounds-contents-1
fncallexpr-bounds-contents-1 t c =
    omega (arith, (call_one (call_asks (c.requires.reads, c.requires.contents_value)).2).cont)

pub fncallexpr-params-a-requires : goal.fncallexpr-params-a-requires
fncallexpr-params-a-requires t c =
    one_asks (call_one (call_asks (c.requires.reads, c.requires.contents_value)).2) c.requires.reads.ready c.start-p.ensures 5 (omega arith) (omega arith)

pub fncallexpr-push_at-b-requires : goal.fncallexpr-push_at-b-requires
fncallexpr-push_at-b-requires t c =
    one_ready (call_one (call_asks (c.requires.reads, c.requires.contents_value)).2) c.requires.reads.ready c.start-p.ensures c.params-a.ensures

pub fncallexpr-load_at-requires : goal.fncallexpr-load_at-requires
fncallexpr-load_at-requires t c =
    call_ready₂ (call_asks (c.requires.reads, c.requires.contents_value)).2 c.requires.reads.ready c.start-p.ensures c.params-a.ensures
    c.wide.ensures.0 c.fields_of-f.ensures c.push_at-b.ensures

pub fncallexpr-returns : goal.fncallexpr-returns
fncallexpr-returns t c =
    call_front c.requires.contents_value (λ g ps h. call_made h c.requires.reads.ready c.start-p.ensures c.params-a.ensures
    c.wide.ensures.0 c.fields_of-f.ensures c.push_at-b.ensures
    c.fields_of-g.ensures c.load_at.ensures)

pub match_table_assign-bounds-contents-1 : goal.match_table_assign-bounds-contents-1
match_table_assign-bounds-contents-1 t c =
    omega (arith, tab_room (tab_asks (c.requires.reads, c.requires.contents_value)).1)

pub match_table_assign-push_at-a-requires : goal.match_table_assign-push_at-a-requires
match_table_assign-push_at-a-requires t c =
    ready_start c.start-p.ensures c.requires.reads.ready

pub match_table_assign-table_items-requires : goal.match_table_assign-table_items-requires
match_table_assign-table_items-requires t c =
    let h = (tab_asks (c.requires.reads, c.requires.contents_value)).1 in
    let d = c.start-p.ensures in
    let f = c.fields_of-f.ensures in
    let u = c.push_at-a.ensures in
    (omega (arith, tab_room h, tab_cont h c.requires.reads.ready d f u), tab_reads h c.requires.reads.ready d f u)

pub match_table_assign-returns : goal.match_table_assign-returns
match_table_assign-returns t c =
    tab_front c.requires.contents_value (λ is h. tab_made h c.requires.reads.ready c.start-p.ensures c.fields_of-f.ensures
    c.push_at-a.ensures c.table_items.ensures)

pub params-loop-init : goal.params-loop-init
params-loop-init t c = let z : c.args.n - 0 ≡ c.args.n = omega arith in (refl, rw z (left_start c.requires))

pub params-expr_at-a-requires : goal.params-expr_at-a-requires
params-expr_at-a-requires t c =
    let l = c.loop in
    let m = c.args.n - l.counter in
    let z : m ≡ 0 → ⊥ = λ e. omega (arith, e) in
    (omega (arith, l.invariant.1.behind), par_reads z l.invariant.1.reads)

pub params-push_at-q-requires : goal.params-push_at-q-requires
params-push_at-q-requires t c =
    let l = c.loop in
    let m = c.args.n - l.counter in
    let z : m ≡ 0 → ⊥ = λ e. omega (arith, e) in
    par_ready c.expr_at-a.ensures z l.invariant.1.reads

pub params-loop-preserved : goal.params-loop-preserved
params-loop-preserved t c =
    let l = c.loop in
    let m = c.args.n - l.counter in
    let g = c.expr_at-a.ensures in
    let f = rw c.prevreg.ensures at c.fields_of-f.ensures in
    let u = c.push_at-q in
    let z : m ≡ suc (c.args.n - (l.counter + 1)) = omega arith in
    let n = par_next g f u.ensures z l.invariant.1.reads in
    (omega (arith, u.auto, c.expr_at-a.auto, l.invariant.0), left_turn l.invariant.1 (omega (arith, n.0)) n.1 (λ r d x. par_goes g f u.ensures z x))

pub params-shape_of-out : goal.params-shape_of-out
params-shape_of-out t c = c.loop.invariant.0

pub params-returns : goal.params-returns
params-returns t c = left_end c.loop.invariant.1 (params_none (omega arith))

pub table_items-loop-init : goal.table_items-loop-init
table_items-loop-init t c = let z : c.args.n - 0 ≡ c.args.n = omega arith in (refl, rw z (left_start c.requires))

pub table_items-bounds-bodies-at : goal.table_items-bounds-bodies-at
table_items-bounds-bodies-at t c =
    let l = c.loop in
    let m = c.args.n - l.counter in
    let z : m ≡ 0 → ⊥ = λ e. omega (arith, e) in
    omega (arith, (items_room z l.invariant.1.reads).1)

pub table_items-pass-i-requires : goal.table_items-pass-i-requires
table_items-pass-i-requires t c =
    let l = c.loop in
    let m = c.args.n - l.counter in
    let z : m ≡ 0 → ⊥ = λ e. omega (arith, e) in
    let q = items_room z l.invariant.1.reads in
    (omega (arith, q.0), omega (arith, q.1))

pub table_items-expr_at-a-requires : goal.table_items-expr_at-a-requires
table_items-expr_at-a-requires t c =
    let a = c.args in
    let l = c.loop in
    let m = c.args.n - l.counter in
    let i = c.pass-i.ensures in
    let z : m ≡ 0 → ⊥ = λ e. omega (arith, e) in
    (omega (arith, l.invariant.1.behind, ap (λ (d : Done). d.cont) i), item_reads m a.x a.contents.now a.bodies.now l.q i z l.invariant.1.reads)

pub table_items-push_at-q-requires : goal.table_items-push_at-q-requires
table_items-push_at-q-requires t c =
    let a = c.args in
    let l = c.loop in
    let m = c.args.n - l.counter in
    let z : m ≡ 0 → ⊥ = λ e. omega (arith, e) in
    item_ready m a.x a.contents.now a.bodies.now l.q c.pass-i.ensures c.expr_at-a.ensures z l.invariant.1.reads

pub table_items-loop-preserved : goal.table_items-loop-preserved
table_items-loop-preserved t c =
    let a = c.args in
    let l = c.loop in
    let m = c.args.n - l.counter in
    let h = c.pass-i.ensures in
    let g = c.expr_at-a.ensures in
    let f = rw c.prevreg.ensures at c.fields_of-f.ensures in
    let u = c.push_at-q in
    let z : m ≡ suc (c.args.n - (l.counter + 1)) = omega (arith, c.loop-test.true) in
    let n = item_next m a.x a.contents.now a.bodies.now l.q h g f u.ensures z l.invariant.1.reads in (
      omega (arith, u.auto, c.expr_at-a.auto, l.invariant.0),
      left_turn l.invariant.1 (omega (arith, n.0)) n.1 (λ r d x. item_goes m a.x a.contents.now a.bodies.now l.q h g f u.ensures z x),
    )

pub table_items-shape_of-out : goal.table_items-shape_of-out
table_items-shape_of-out t c = c.loop.invariant.0

pub table_items-returns : goal.table_items-returns
table_items-returns t c = left_end c.loop.invariant.1 (items_none (omega arith))

pub unop-bounds-bodies-0 : goal.unop-bounds-bodies-0
unop-bounds-bodies-0 t c =
    omega (arith, (un_asks (c.requires.reads, c.requires.contents_value)).body)

pub unop-binarg_at-a-requires : goal.unop-binarg_at-a-requires
unop-binarg_at-a-requires t c =
    one_asks (un_asks (c.requires.reads, c.requires.contents_value)) c.requires.reads.ready c.start-p.ensures 4 (omega arith) (omega arith)

pub unop-load_at-requires : goal.unop-load_at-requires
unop-load_at-requires t c =
    one_ready (un_asks (c.requires.reads, c.requires.contents_value)) c.requires.reads.ready c.start-p.ensures c.binarg_at-a.ensures

pub unop-returns : goal.unop-returns
unop-returns t c =
    let f = rw c.prevreg.ensures at c.fields_of-f.ensures in
    un_front c.requires.contents_value (λ k x h. un_made h c.requires.reads.ready c.start-p.ensures c.binarg_at-a.ensures f
    c.load_at.ensures)

pub varassign-bounds-bodies-0 : goal.varassign-bounds-bodies-0
varassign-bounds-bodies-0 t c =
    omega (arith, (asg_asks 0 (c.requires.reads, c.requires.contents_value)).body)

pub varassign-assign_at-requires : goal.varassign-assign_at-requires
varassign-assign_at-requires t c =
    one_asks (asg_asks _ (c.requires.reads, c.requires.contents_value)) c.requires.reads.ready c.start-p.ensures 4 (omega arith) (omega arith)

pub varassign-returns : goal.varassign-returns
varassign-returns t c =
    asg_front c.requires.contents_value (λ x k h. asg_made h c.requires.reads.ready c.start-p.ensures c.assign_at.ensures)
