use native.Mathlib.Omega.{arith}
use Rattle.expr.specs.laws.ArrayLaws.{arr_room, arr_roomb, arr_lits, arr_made}
use Rattle.expr.proofs.Rights.{arr_asks, arr_front}
use Rattle.expr.proofs.array.arraydecl.Goals as goal

pub bounds-contents-1 : goal.bounds-contents-1
bounds-contents-1 c =
    let h = arr_asks c.requires.reads c.requires.contents_value in
    omega (arith, arr_room h.2)

pub overflow_cast-m : goal.overflow_cast-m
overflow_cast-m c = omega (arith, c.type_inv.contents 1)

pub bounds-bodies-0 : goal.bounds-bodies-0
bounds-bodies-0 c =
    let h = arr_asks c.requires.reads c.requires.contents_value in
    omega (arith, arr_roomb h.2)

pub push_items-q-requires : goal.push_items-q-requires
push_items-q-requires c =
    (c.requires.reads.ready, omega (arith, c.type_inv.contents 1))

pub arrayitems-end-requires : goal.arrayitems-end-requires
arrayitems-end-requires c =
    let h = arr_asks c.requires.reads c.requires.contents_value in
    let r = c.requires.reads.ready in
    record {
      n_bound = (omega (arith, c.type_inv.contents 1), r.pool, λ e. omega (arith, c.push_items-q.ensures.room e, c.push_items-q.auto, r.room));
      lits = (h.1, arr_lits h.2);
    }

pub overflow_mul-m : goal.overflow_mul-m
overflow_mul-m c =
    omega (arith, c.type_inv.contents 1)

pub overflow_add-m : goal.overflow_add-m
overflow_add-m c =
    omega (arith, c.type_inv.contents 1)

pub returns : goal.returns
returns c =
    arr_front c.requires.contents_value (λ a ls h. arr_made h c.array_fields-f.ensures c.push_items-q.ensures (c.arrayitems-end.ensures ls (arr_lits h)) c.start.ensures)
